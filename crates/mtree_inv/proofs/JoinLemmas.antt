-- Lines that end in a backslash, and others.
use Rattle.std.proofs.Common.{◌≡◌, ◌≢◌, ℕ, Bool, true, false, cond, List, [], ◌∷◌, ◌++◌, All, refl, sym, ap, ◌∙◌, append_assoc, arith, ◌==◌}
use Rattle.std.proofs.lemmas.Bool.{false≢true, eqb-true, ne_eqb, false_from_ne_true}
use Rattle.std.proofs.lemmas.List.Elements.{All-push, All-weaker}
use Rattle.std.proofs.lemmas.List.Splits.{slice_split_at, slice_split_none}
use Rattle.idtext.specs.Pieces.{pieces, lines, without_empty_last}
use Rattle.idtext.proofs.PieceLemmas.{lines-cut, lines-empty}
use Rattle.mtree_inv.specs.Joining.{HasNoNewline, OtherLinesStandAlone, BackslashJoinsTheNext, TwoLinesAreOne, LastBackslashCuts}
use Rattle.mtree_inv.specs.Looking.{all_but_last}
use Rattle.mtree_inv.specs.Logical.{next_number, ends_in_backslash, continued, joined_from}
use Rattle.mtree_inv.proofs.LookingLemmas.{all_but_last-snoc}

pub backslash-snoc : (piece : List ℕ) (b : ℕ) → ends_in_backslash (piece ++ b ∷ []) ≡ (b == 92)
backslash-snoc [] b = refl
backslash-snoc (x ∷ []) b = refl
backslash-snoc (x ∷ y ∷ piece) b = backslash-snoc (y ∷ piece) b

-- a piece that ends in a backslash is its body and that backslash
pub whole_of_body : (piece : List ℕ) → ends_in_backslash piece ≡ true → all_but_last piece ++ 92 ∷ [] ≡ piece
whole_of_body [] e = absurd (false≢true e)
whole_of_body (x ∷ []) e = ap (λ (b : ℕ). b ∷ []) (sym (eqb-true x 92 e))
whole_of_body (x ∷ y ∷ piece) e = ap (λ (l : List ℕ). x ∷ l) (whole_of_body (y ∷ piece) e)

no_byte : (line : List ℕ) → HasNoNewline line → All (λ b. (b == 10) ≡ false) line
no_byte line h = All-weaker (λ b. b ≢ 10) (λ b. (b == 10) ≡ false) (λ b other. ne_eqb b 10 other) line h

-- the first line of a text
first_line : (line rest : List ℕ) → HasNoNewline line → lines (line ++ 10 ∷ rest) ≡ line ∷ lines rest
unfolding pieces
first_line line rest h = lines-cut (line ++ 10 ∷ rest) line rest (slice_split_at (λ b. b == 10) line 10 rest (no_byte line h) refl)

-- a line that ends in a backslash is joined with those that follow
joined_first : (n : ℕ) (front : List ℕ) (more : List (List ℕ)) → joined_from n ((front ++ 92 ∷ []) ∷ more) ≡ continued n front (joined_from (next_number n) more)
joined_first n front more =
    ap (λ (b : Bool). cond b (continued n (all_but_last (front ++ 92 ∷ [])) (joined_from (next_number n) more)) (record { number = n; text = front ++ 92 ∷ []; is_cut = false } ∷ joined_from (next_number n) more)) (backslash-snoc front 92)
    ∙ ap (λ (l : List ℕ). continued n l (joined_from (next_number n) more)) (all_but_last-snoc front 92)

with_backslash : (front : List ℕ) → HasNoNewline front → HasNoNewline (front ++ 92 ∷ [])
with_backslash front h = All-push (λ b. b ≢ 10) front 92 h (λ e. omega (arith, e))

joined_line : (n : ℕ) (front rest : List ℕ) → HasNoNewline front → joined_from n (lines (front ++ 92 ∷ 10 ∷ rest)) ≡ continued n front (joined_from (next_number n) (lines rest))
joined_line n front rest h =
    ap (λ (text : List ℕ). joined_from n (lines text)) (sym (append_assoc front (92 ∷ []) (10 ∷ rest)))
    ∙ ap (joined_from n) (first_line (front ++ 92 ∷ []) rest (with_backslash front h))
    ∙ joined_first n front (lines rest)

pub other_alone : OtherLinesStandAlone
other_alone n line rest h other =
    let plain : ends_in_backslash line ≡ false = false_from_ne_true (ends_in_backslash line) (λ e. other (all_but_last line) (sym (whole_of_body line e))) in
    ap (joined_from n) (first_line line rest h)
    ∙ ap (λ (b : Bool). cond b (continued n (all_but_last line) (joined_from (next_number n) (lines rest))) (record { number = n; text = line; is_cut = false } ∷ joined_from (next_number n) (lines rest))) plain

pub joins_next : BackslashJoinsTheNext
joins_next n front rest next more h e = joined_line n front rest h ∙ ap (continued n front) e

pub two_are_one : TwoLinesAreOne
two_are_one n front line rest h k other =
    joins_next n front (line ++ 10 ∷ rest) (record { number = next_number n; text = line; is_cut = false }) (joined_from (next_number (next_number n)) (lines rest)) h
    (other_alone (next_number n) line rest k other)

-- the last line, without a newline
last_line : (front : List ℕ) → HasNoNewline front → lines (front ++ 92 ∷ []) ≡ (front ++ 92 ∷ []) ∷ []
unfolding lines pieces
last_line front h =
    ap without_empty_last (slice_split_none (λ b. b == 10) (front ++ 92 ∷ []) (no_byte (front ++ 92 ∷ []) (with_backslash front h))) ∙ filled front
  where
    filled : (f : List ℕ) → without_empty_last ((f ++ 92 ∷ []) ∷ []) ≡ (f ++ 92 ∷ []) ∷ []
    filled [] = refl
    filled (b ∷ f) = refl

pub last_cuts : LastBackslashCuts
last_cuts n front h = (
  joined_line n front [] h ∙ ap (λ (ls : List (List ℕ)). continued n front (joined_from (next_number n) ls)) lines-empty,
  ap (joined_from n) (last_line front h) ∙ joined_first n front [],
)
