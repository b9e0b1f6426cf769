-- The files of a merge, parted.
use Rattle.std.proofs.Common.{◌≡◌, List, [], ◌∷◌, ◌++◌, Option, Some, None, length, drop, refl}
use Rattle.std.specs.Option.{option_to_list}

-- without the last
pub last_gone : {A : Type 0} (xs : List A) (x : A) (ys : List A) (o : Option A) → xs ++ x ∷ [] ≡ ys ++ option_to_list o → (o ≡ None → ⊥) → ys ≡ xs
last_gone xs x ys None same some = absurd (some refl)
last_gone [] x [] (Some z) same some = refl
last_gone [] x (y ∷ []) (Some z) same some = absurd (cc)
last_gone [] x (y ∷ w ∷ ys) (Some z) same some = absurd (cc)
last_gone (a ∷ []) x [] (Some z) same some = absurd (cc)
last_gone (a ∷ b ∷ xs) x [] (Some z) same some = absurd (cc)
last_gone (a ∷ xs) x (y ∷ ys) (Some z) same some =
    let first : y ≡ a = (cc) in
    let rest : xs ++ x ∷ [] ≡ ys ++ z ∷ [] = (cc) in
    λ j. first j ∷ last_gone xs x ys (Some z) rest some j

pub drop_seam : {A : Type 0} (xs ys : List A) → drop (length xs) (xs ++ ys) ≡ ys
drop_seam [] ys = refl
drop_seam (x ∷ xs) ys = drop_seam xs ys
