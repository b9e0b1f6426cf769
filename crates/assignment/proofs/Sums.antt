-- Sums over names, and over the numbers of a mapping.
use Rattle.std.proofs.Common.{◌≡◌, ℕ, zero, suc, ◌+◌, List, [], ◌∷◌, length, get_or, refl, arith}
use Rattle.candidates.specs.declared.Candidate.{Candidate}
use Rattle.candidates.specs.Rows.{weight_in, row_at}
use Rattle.ownership.specs.Sums.{sum_below}

-- the sum of f over a list
abbrev pub over : (ℕ → ℕ) → List ℕ → ℕ
over f [] = 0
over f (v ∷ vs) = f v + over f vs

-- the weights of both lists' items, one by one
abbrev pub listed_weight : List (List Candidate) → List ℕ → ℕ
listed_weight [] vs = 0
listed_weight (row ∷ rows) [] = 0
listed_weight (row ∷ rows) (v ∷ vs) = weight_in row v + listed_weight rows vs

-- the first term, and the later ones
first_term : (f : ℕ → ℕ) (n : ℕ) → sum_below f (suc n) ≡ f 0 + sum_below (λ k. f (suc k)) n
unfolding sum_below
first_term f zero = omega arith
first_term f (suc n) =
    let rest = first_term f n in
    omega (arith, rest)

-- row by row, or by index
pub by_index : (rows : List (List Candidate)) (m : List ℕ) → length m ≡ length rows → listed_weight rows m ≡ sum_below (λ n. weight_in (row_at rows n) (get_or m n 0)) (length rows)
unfolding sum_below
by_index [] m same = refl
by_index (row ∷ rows) [] same = absurd (omega (arith, same))
by_index (row ∷ rows) (v ∷ vs) same =
    let rest = by_index rows vs (omega (arith, same)) in
    let split = first_term (λ n. weight_in (row_at (row ∷ rows) n) (get_or (v ∷ vs) n 0)) (length rows) in
    omega (arith, rest, split)
