-- Which lines of a text are joined, and what comes of them.
-- Source: this project's profile over mtree(5), whose lines may be continued by a backslash at
-- their end.
use Rattle.std.specs.Prelude.{◌≡◌, ◌≢◌, ℕ, true, false, List, [], ◌∷◌, ◌++◌, All}
use Rattle.idtext.specs.Pieces.{lines}
use Rattle.mtree_inv.specs.Logical.{LogicalLine, joined_from, next_number}

-- bytes of one line
abbrev pub HasNoNewline : List ℕ → Type 0
HasNoNewline line = All (λ b. b ≢ 10) line

-- a line that does not end in a backslash is a logical line
abbrev pub OtherLinesStandAlone : Type 0
OtherLinesStandAlone =
    (n : ℕ) (line rest : List ℕ) → HasNoNewline line → ((front : List ℕ) → line ≢ front ++ 92 ∷ [])
    → joined_from n (lines (line ++ 10 ∷ rest))
    ≡ record { number = n; text = line; is_cut = false } ∷ joined_from (next_number n) (lines rest)

-- what stands before a final backslash is the front of the logical line that comes next, which has
-- the number of the first of its lines then
abbrev pub BackslashJoinsTheNext : Type 0
BackslashJoinsTheNext =
    (n : ℕ) (front rest : List ℕ) (next : LogicalLine) (more : List LogicalLine)
    → HasNoNewline front → joined_from (next_number n) (lines rest) ≡ next ∷ more
    → joined_from n (lines (front ++ 92 ∷ 10 ∷ rest))
    ≡ record { number = n; text = front ++ next.text; is_cut = next.is_cut } ∷ more

-- so two lines are one, and the next has the number after both
abbrev pub TwoLinesAreOne : Type 0
TwoLinesAreOne =
    (n : ℕ) (front line rest : List ℕ) → HasNoNewline front → HasNoNewline line
    → ((f : List ℕ) → line ≢ f ++ 92 ∷ [])
    → joined_from n (lines (front ++ 92 ∷ 10 ∷ (line ++ 10 ∷ rest)))
    ≡ record { number = n; text = front ++ line; is_cut = false }
    ∷ joined_from (next_number (next_number n)) (lines rest)

-- where no line comes next, with a newline after the backslash or without, the logical line is cut
abbrev pub LastBackslashCuts : Type 0
LastBackslashCuts = (n : ℕ) (front : List ℕ) → HasNoNewline front
    → (joined_from n (lines (front ++ 92 ∷ 10 ∷ []))
    ≡ record { number = n; text = front; is_cut = true } ∷ [])
    × (joined_from n (lines (front ++ 92 ∷ []))
    ≡ record { number = n; text = front; is_cut = true } ∷ [])
