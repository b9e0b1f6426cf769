-- Tests that pass at two places of a list.
use Rattle.std.proofs.Common.{◌≡◌, ℕ, zero, suc, ◌<◌, Bool, true, false, cond, List, [], ◌∷◌, length, get_or, ⊎_elim, arith}
use Rattle.std.specs.List.{count_by}
use Rattle.std.proofs.lemmas.List.Sums.{sum_by-cons}
use Rattle.std.proofs.lemmas.Bool.{cases_Bool, cond-true, cond-false}
use Rattle.certcheck.proofs.Spots.{Passing, passing_counted, counted_from}

-- two that pass
pub count_two : {X : Type 0} (p : X → Bool) (xs : List X) (i j : ℕ) (d : X) → i < j → j < length xs → p (get_or xs i d) ≡ true → p (get_or xs j d) ≡ true → 1 < count_by p xs
count_two p [] i j d l m h k = absurd (omega arith)
count_two p (x ∷ xs) i zero d l m h k = absurd (omega arith)
count_two p (x ∷ xs) zero (suc j) d l m h k =
    let cons = sum_by-cons (λ y. cond (p y) 1 0) x xs in
    let one : ◌≡◌ {A = ℕ} (cond (p x) 1 0) 1 = cond-true _ _ _ h in
    let rest = counted_from p xs j d (omega arith) k in
    omega (arith, cons, one, rest)
count_two p (x ∷ xs) (suc i) (suc j) d l m h k =
    let cons = sum_by-cons (λ y. cond (p y) 1 0) x xs in
    let rest = count_two p xs i j d (omega arith) (omega arith) h k in
    omega (arith, cons, rest)

abbrev pub Two : {X : Type 0} → (X → Bool) → List X → Type 0
Two {X} p xs = (i : ℕ) × (j : ℕ) × (i < j) × (j < length xs) × ((d : X) → p (get_or xs i d) ≡ true) × ((d : X) → p (get_or xs j d) ≡ true)

two_more : {X : Type 0} (p : X → Bool) (x : X) (xs : List X) → Two p xs → Two p (x ∷ xs)
two_more p x xs h = (suc h.0, suc h.1, omega (arith, h.2), omega (arith, h.3), λ d. h.4 d, λ d. h.5 d)

two_first : {X : Type 0} (p : X → Bool) (x : X) (xs : List X) → p x ≡ true → Passing p xs → Two p (x ∷ xs)
two_first p x xs e h = (0, suc h.0, omega arith, omega (arith, h.1), λ d. e, λ d. h.2 d)

pub two_counted : {X : Type 0} (p : X → Bool) (xs : List X) → 1 < count_by p xs → Two p xs
two_counted p [] h = absurd (omega arith)
two_counted p (x ∷ xs) h =
    let cons = sum_by-cons (λ y. cond (p y) 1 0) x xs in
    ⊎_elim
    (λ (e : p x ≡ true).
    let one : ◌≡◌ {A = ℕ} (cond (p x) 1 0) 1 = cond-true _ _ _ e in
    two_first p x xs e (passing_counted p xs (omega (arith, h, cons, one))))
    (λ (e : p x ≡ false).
    let none : ◌≡◌ {A = ℕ} (cond (p x) 1 0) 0 = cond-false _ _ _ e in
    two_more p x xs (two_counted p xs (omega (arith, h, cons, none))))
    (cases_Bool (p x))
