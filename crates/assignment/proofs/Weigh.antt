-- What a row weighs.
use Rattle.std.proofs.Common.{◌≡◌, ℕ, zero, suc, ◌<◌, ◌≤◌, ◌^◌, true, false, eqb, List, [], ◌∷◌, length, get_or, refl, ap, ◌∙◌, ⊎_elim, arith}
use Rattle.std.specs.List.{All}
use Rattle.std.proofs.lemmas.Bool.{eqb-true, eq-eqb, ne_eqb, cases_Bool, cases_lt, cond-true, cond-false}
use Rattle.std.proofs.lemmas.List.{get_or_past}
use Rattle.std.proofs.lemmas.List.Elements.{All-tail}
use Rattle.candidates.specs.declared.Candidate.{Candidate}
use Rattle.candidates.specs.Rows.{Choices, weight_in, IsAscending, IsWeighed, AreRows, row_at}
use Rattle.assignment.specs.Solutions.{row_weight}

-- what bounds each candidate's weight bounds the row's
pub weight_le_each : (row : List Candidate) (f : ℕ → ℕ) → ((j : ℕ) (d : Candidate) → j < length row → (get_or row j d).weight ≤ f (get_or row j d).number) → (v : ℕ) → weight_in row v ≤ f v
weight_le_each [] f h v = omega arith
weight_le_each (c ∷ cs) f h v =
    ⊎_elim
    (λ (e : eqb c.number v ≡ true).
    let first : c.weight ≤ f c.number = h 0 c (omega arith) in
    let same : c.number ≡ v = eqb-true c.number v e in
    let there : c.weight ≤ f v = rw (← same) first in
    rw e there)
    (λ (e : eqb c.number v ≡ false).
    let rest : weight_in cs v ≤ f v = weight_le_each cs f (λ j d l. h (suc j) d (omega arith)) v in
    rw e rest)
    (cases_Bool (eqb c.number v))

-- the weight at a candidate's number is that candidate's
pub weight_at : (row : List Candidate) → IsAscending row → (j : ℕ) (d : Candidate) → j < length row → weight_in row (get_or row j d).number ≡ (get_or row j d).weight
weight_at [] h j d l = absurd (omega arith)
weight_at (c ∷ cs) h zero d l = cond-true _ _ _ (eq-eqb c.number c.number refl)
weight_at (c ∷ cs) h (suc j) d l =
    let x = get_or cs j d in
    let in' : j < length cs = omega arith in
    let above : c.number < x.number = h.0 j d in' in
    cond-false _ _ _ (ne_eqb c.number x.number (λ e. absurd (omega (arith, above, e)))) ∙ weight_at cs h.1 j d in'

-- a number that the row weighs is one of its candidates', and its weight is small
pub weight_small : (row : List Candidate) → All IsWeighed row → (v : ℕ) → weight_in row v < 2 ^ 63
weight_small [] h v = omega arith
weight_small (c ∷ cs) h v =
    ⊎_elim
    (λ (e : eqb c.number v ≡ true). let k : c.weight < 2 ^ 63 = (h 0 c (omega arith)).1 in rw e k)
    (λ (e : eqb c.number v ≡ false). let k : weight_in cs v < 2 ^ 63 = weight_small cs (All-tail IsWeighed c cs h) v in rw e k)
    (cases_Bool (eqb c.number v))

-- the row of each name is a row
pub row_lawful : (c : Choices) → AreRows c → (n : ℕ) → n < length c.rows → IsAscending (row_at c.rows n) × All IsWeighed (row_at c.rows n)
row_lawful c h n l = let k = h.each n l in (k.ascending, k.weighed)

-- no name past the end weighs anything
pub weight_past : (c : Choices) (n v : ℕ) → length c.rows ≤ n → row_weight c n v ≡ 0
weight_past c n v h = ap (λ row. weight_in row v) (get_or_past c.rows n [] h)

-- every weight is small
pub row_weight_small : (c : Choices) → AreRows c → (n v : ℕ) → row_weight c n v < 2 ^ 63
row_weight_small c h n v =
    ⊎_elim
    (λ (l : n < length c.rows). weight_small (row_at c.rows n) (h.each n l).weighed v)
    (λ (g : length c.rows ≤ n). let e = weight_past c n v g in omega (arith, e))
    (cases_lt n (length c.rows))
