-- A number with weight is one that the name has on some host.
use Rattle.std.proofs.Common.{◌≡◌, ℕ, zero, suc, ◌*◌, ◌<◌, ◌≤◌, Bool, true, false, ◌||◌, cond, eqb, List, [], ◌∷◌, length, get_or, Option, Some, None, refl, sym, ap, ◌∙◌, ⊎_elim, arith}
use Rattle.std.specs.Option.{option_map, IfSome}
use Rattle.std.specs.List.{count_by, find, list_any}
use Rattle.std.proofs.lemmas.List.Sums.{sum_by-cons, get_or-le-sum_by}
use Rattle.std.proofs.lemmas.Bool.{cases_Bool, cases_lt, cond-true, cond-false, eqb-true, eq-eqb, false≢true}
use Rattle.hosts_join.specs.declared.Spot.{Spot}
use Rattle.hosts_join.specs.declared.Standing.TheVariants.{Regular}
use Rattle.hosts_join.specs.Accounts.{Accounts, place}
use Rattle.hosts_join.specs.Rules.{account}
use Rattle.ownership.specs.Counts.{Tally, AreMadeFor, count_in, has_cell, tally_at, told_kept}
use Rattle.ownership.specs.Weights.{file_weight, told_weight}

-- a place where the test passes
abbrev pub Passing : {X : Type 0} → (X → Bool) → List X → Type 0
Passing {X} p xs = (i : ℕ) × (i < length xs) × ((d : X) → p (get_or xs i d) ≡ true)

pub passing_more : {X : Type 0} (p : X → Bool) (x : X) (xs : List X) → Passing p xs → Passing p (x ∷ xs)
passing_more p x xs h = (suc h.0, omega (arith, h.1), λ d. h.2 d)

pub passing_counted : {X : Type 0} (p : X → Bool) (xs : List X) → 0 < count_by p xs → Passing p xs
passing_counted p [] h = absurd (omega arith)
passing_counted p (x ∷ xs) h =
    ⊎_elim
    (λ (e : p x ≡ true). (0, omega arith, λ d. e))
    (λ (e : p x ≡ false).
    let cons = sum_by-cons (λ y. cond (p y) 1 0) x xs in
    let none : ◌≡◌ {A = ℕ} (cond (p x) 1 0) 0 = cond-false _ _ _ e in
    passing_more p x xs (passing_counted p xs (omega (arith, h, cons, none))))
    (cases_Bool (p x))

pub counted_from : {X : Type 0} (p : X → Bool) (xs : List X) (i : ℕ) (d : X) → i < length xs → p (get_or xs i d) ≡ true → 0 < count_by p xs
counted_from p xs i d l h =
    let one = get_or-le-sum_by (λ y. cond (p y) 1 0) xs i d l in
    let here : ◌≡◌ {A = ℕ} (cond (p (get_or xs i d)) 1 0) 1 = cond-true _ _ _ h in
    omega (arith, one, here)

pub passing_any : {X : Type 0} (p : X → Bool) (xs : List X) → list_any p xs ≡ true → Passing p xs
passing_any p [] h = absurd (false≢true h)
passing_any p (x ∷ xs) h =
    ⊎_elim
    (λ (e : p x ≡ true). (0, omega arith, λ d. e))
    (λ (e : p x ≡ false).
    let rest : list_any p xs ≡ true = sym (ap (λ b. b || list_any p xs) e) ∙ h in
    passing_more p x xs (passing_any p xs rest))
    (cases_Bool (p x))

-- an index that is found is within the list
place_later : {X : Type 0} (p : X → Bool) (xs : List X) (i : ℕ) → ((j : ℕ) → place p xs ≡ Some j → j < length xs) → (o : Option ℕ) → place p xs ≡ o → option_map suc o ≡ Some i → i < suc (length xs)
place_later p xs i below None e h = absurd (cc)
place_later p xs i below (Some j) e h =
    let same : suc j ≡ i = cc in
    let lt : j < length xs = below j e in
    omega (arith, same, lt)

pub place-lt : {X : Type 0} (p : X → Bool) (xs : List X) (i : ℕ) → place p xs ≡ Some i → i < length xs
place-lt p [] i h = absurd (cc)
place-lt p (x ∷ xs) i h =
    ⊎_elim
    (λ (e : p x ≡ true).
    let at : Some 0 ≡ Some i = sym (cond-true (p x) (Some 0) (option_map suc (place p xs)) e) ∙ h in
    let same : 0 ≡ i = cc in
    omega (arith, same))
    (λ (e : p x ≡ false).
    let at : option_map suc (place p xs) ≡ Some i = sym (cond-false (p x) (Some 0) (option_map suc (place p xs)) e) ∙ h in
    place_later p xs i (λ j. place-lt p xs j) (place p xs) refl at)
    (cases_Bool (p x))

pub place_within : {X : Type 0} (p : X → Bool) (xs : List X) (o : Option ℕ) → o ≡ place p xs → IfSome o (λ i. i < length xs)
place_within p xs None e = tt
place_within p xs (Some i) e = place-lt p xs i (sym e)

pub find_here : {X : Type 0} (p : X → Bool) (xs : List X) (i : ℕ) (d : X) → i < length xs → ((k : ℕ) → k < i → p (get_or xs k d) ≡ false) → p (get_or xs i d) ≡ true → find p xs ≡ Some (get_or xs i d)
find_here p [] i d l before here = absurd (omega arith)
find_here p (x ∷ xs) zero d l before here = cond-true _ _ _ here
find_here p (x ∷ xs) (suc i) d l before here = cond-false _ _ _ (before 0 (omega arith)) ∙ find_here p xs i d (omega arith) (λ k h. before (suc k) (omega arith)) here

-- a number that counts some files has a counter
counted_has : (cells : List (ℕ × ℕ)) (v : ℕ) → 0 < count_in cells v → has_cell cells v ≡ true
counted_has [] v some = absurd (omega arith)
counted_has (c ∷ cells) v some =
    ⊎_elim
    (λ (e : eqb v c.0 ≡ true). rw e refl)
    (λ (e : eqb v c.0 ≡ false). let some' = rw e at some in rw e (counted_has cells v some'))
    (cases_Bool (eqb v c.0))

-- a name that keeps a file under a number, or a row, has that number on some host
pub weight_somewhere : (a : Accounts) (tallies : List Tally) (i v : ℕ) → AreMadeFor a.names tallies → i < length a.names → 0 < told_weight a tallies i v → Passing (λ (s : Spot). eqb s.number v) (account a i).spots
weight_somewhere a tallies i v made l some =
    ⊎_elim
    (λ (none : told_kept tallies i v < 1).
    let zero' : told_kept tallies i v ≡ 0 = omega arith in
    let product : file_weight a * told_kept tallies i v ≡ file_weight a * 0 = ap (λ k. file_weight a * k) zero' in
    passing_counted (λ (s : Spot). eqb s.number v) (account a i).spots (omega (arith, some, product)))
    (λ (keeps : 1 ≤ told_kept tallies i v).
    let e : Spot = record { host = 0; number = 0; standing = Regular } in
    let there = passing_any (λ (s : Spot). eqb v s.number) (account a i).spots (sym (made.cells i v l) ∙ counted_has (tally_at tallies i).cells v keeps) in
    (there.0, there.1, λ d. eq-eqb _ _ (sym (eqb-true v _ (there.2 d)))))
    (cases_lt (told_kept tallies i v) 1)
