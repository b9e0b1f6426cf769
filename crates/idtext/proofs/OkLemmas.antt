-- What an Ok says of the steps that it came from.
use Rattle.std.proofs.Common.{◌≡◌, ℕ, zero, suc, List, [], ◌∷◌, length, Option, Some, None, Result, Ok, Err, refl, sym, ap, ◌∙◌}
use Rattle.std.specs.List.{slice_get}
use Rattle.std.proofs.lemmas.Option.{same_Some}
use Rattle.idtext.specs.First.{◌>>=◌, each, unless}

pub ok_same : {A F : Type 0} (a b : A) → ◌≡◌ {A = Result A F} (Ok a) (Ok b) → a ≡ b
ok_same a b e = cc

-- a first step was Ok, and the step after it
pub bind_ok : {A B F : Type 0} (r : Result A F) (f : A → Result B F) (y : B) → (r >>= f) ≡ Ok y → (x : A) × (r ≡ Ok x) × (f x ≡ Ok y)
bind_ok (Ok x) f y h = (x, refl, h)
bind_ok (Err e) f y h = absurd (cc)

-- there was no fault, and the value is that of the definition
pub unless_ok : {A F : Type 0} (o : Option F) (v x : A) → unless o v ≡ Ok x → (o ≡ None) × (v ≡ x)
unless_ok None v x h = (refl, ok_same v x h)
unless_ok (Some f) v x h = absurd (cc)

-- each item gave what stands at its index
pub length-each : {A B F : Type 0} (f : A → Result B F) (xs : List A) (ys : List B) → each f xs ≡ Ok ys → length ys ≡ length xs
unfolding each
length-each f [] ys h = ap length (sym (ok_same [] ys h))
length-each f (x ∷ xs) ys h =
    let first = bind_ok (f x) (λ z. each f xs >>= λ zs. Ok (z ∷ zs)) ys h in
    let rest = bind_ok (each f xs) (λ zs. Ok (first.0 ∷ zs)) ys first.2 in
    ap length (sym (ok_same (first.0 ∷ rest.0) ys rest.2)) ∙ ap suc (length-each f xs rest.0 rest.1)

each-from : {A B F : Type 0} (f : A → Result B F) (x : A) (xs : List A) (z : B) (zs : List B) (k : ℕ) (y : B) → f x ≡ Ok z → slice_get (z ∷ zs) k ≡ Some y
    → ((j : ℕ) → slice_get zs j ≡ Some y → (w : A) × (slice_get xs j ≡ Some w) × (f w ≡ Ok y)) → (w : A) × (slice_get (x ∷ xs) k ≡ Some w) × (f w ≡ Ok y)
each-from f x xs z zs zero y first here later = (x, refl, first ∙ ap (λ b. Ok b) (same_Some z y here))
each-from f x xs z zs (suc j) y first here later = later j here

pub each-ok : {A B F : Type 0} (f : A → Result B F) (xs : List A) (ys : List B) → each f xs ≡ Ok ys → (k : ℕ) (y : B) → slice_get ys k ≡ Some y → (x : A) × (slice_get xs k ≡ Some x) × (f x ≡ Ok y)
unfolding each
each-ok f [] ys h k y here =
    let none : slice_get [] k ≡ Some y = ap (λ zs. slice_get zs k) (ok_same [] ys h) ∙ here in
    absurd (cc)
each-ok f (x ∷ xs) ys h k y here =
    let first = bind_ok (f x) (λ z. each f xs >>= λ zs. Ok (z ∷ zs)) ys h in
    let rest = bind_ok (each f xs) (λ zs. Ok (first.0 ∷ zs)) ys first.2 in
    each-from f x xs first.0 rest.0 k y first.1 (ap (λ zs. slice_get zs k) (ok_same (first.0 ∷ rest.0) ys rest.2) ∙ here) (λ j. each-ok f xs rest.0 rest.1 j y)
