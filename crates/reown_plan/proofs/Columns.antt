-- The columns of a plan's line.
use Rattle.std.proofs.Common.{◌≡◌, ◌≤◌, ◌==◌, ℕ, suc, false, List, [], ◌∷◌, ◌++◌, length, map, take, Some, Option, refl, ◌∙◌, ap, arith, append_assoc}
use Rattle.std.specs.Prelude.{decimal}
use Rattle.std.specs.List.{list_any, onto_first}
use Rattle.std.proofs.lemmas.Bool.{or_parts}
use Rattle.std.proofs.lemmas.List.Splits.{slice_split-cons_yes, slice_split-cons_no}
use Rattle.idtext.specs.Numbers.{id_of, greatest_id}
use Rattle.idtext.specs.Pieces.{pieces}
use Rattle.idtext.proofs.NumberLemmas.{decimal-back}
use Rattle.reown_plan.specs.Examples.{NumbersStandInOrder}
use Rattle.reown_plan.specs.Spelling.{number, line}
use Rattle.reown_plan.proofs.Cuts.{no_space}

first_piece : (front rest : List ℕ) → list_any (λ b. b == 32) front ≡ false → pieces 32 (front ++ 32 ∷ rest) ≡ front ∷ pieces 32 rest
unfolding pieces
first_piece [] rest none = slice_split-cons_yes (λ b. b == 32) 32 rest refl
first_piece (b ∷ front) rest none =
    let parts = or_parts (b == 32) (list_any (λ c. c == 32) front) none in
    slice_split-cons_no (λ c. c == 32) b (front ++ 32 ∷ rest) parts.0 ∙ ap (onto_first b) (first_piece front rest parts.1)

-- what a number and the space after it tell, before the first pieces of a rest
one_told : (k n : ℕ) (rest : List ℕ) (told : List (Option ℕ)) → n ≤ greatest_id → map id_of (take k (pieces 32 rest)) ≡ told
    → map id_of (take (suc k) (pieces 32 (number n ++ rest))) ≡ Some n ∷ told
one_told k n rest told small is =
    ap (λ (t : List ℕ). map id_of (take (suc k) (pieces 32 t))) (append_assoc (decimal n) (32 ∷ []) rest)
    ∙ ap (λ (ps : List (List ℕ)). map id_of (take (suc k) ps)) (first_piece (decimal n) rest (no_space n (omega (arith, small))))
    ∙ (λ i. decimal-back n small i ∷ is i)

pub numbers_stand : NumbersStandInOrder
numbers_stand c l =
    let short : length c.path ≤ greatest_id = (let s = l.path.short in omega arith) in
    let whole : line c ≡ number c.before.uid ++ (number c.before.gid ++ (number c.after.uid ++ (number c.after.gid ++ (number (length c.path) ++ (c.path ++ 10 ∷ []))))) = simp append_assoc in
    ap (λ (t : List ℕ). map id_of (take 5 (pieces 32 t))) whole
    ∙ one_told 4 c.before.uid _ _ l.before.0 (one_told 3 c.before.gid _ _ l.before.1 (one_told 2 c.after.uid _ _ l.after.0 (one_told 1 c.after.gid _ _ l.after.1 (one_told 0 (length c.path) (c.path ++ 10 ∷ []) [] short refl))))
