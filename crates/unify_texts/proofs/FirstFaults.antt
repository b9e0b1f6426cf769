-- The first fault of a judge that asks nothing of the items before.
use Rattle.std.proofs.Common.{◌≡◌, List, [], ◌∷◌, ◌++◌, Option, None, Some, Result, Err, All, refl, ap, ◌∙◌}
use Rattle.std.proofs.lemmas.List.Elements.{All-nil, All-cons, All-head, All-tail}
use Rattle.idtext.specs.First.{first_fault, or_else, unless}
use Rattle.idtext.proofs.FirstLemmas.{none_of_both}

-- the item whose fault is told, and those before it, which have none
pub record FirstFault {A F : Type 0} (judge : A → Option F) (xs : List A) (f : F) : Type 0 where
  pub earlier : List A
  pub item : A
  pub later : List A
  pub split : xs ≡ earlier ++ item ∷ later
  pub passed : All (λ x. judge x ≡ None) earlier
  pub told : judge item ≡ Some f

module _ {A F : Type 0} (judge : A → Option F) where
  next_fault : (x : A) (xs : List A) (f : F) (o later : Option F) → judge x ≡ o → or_else o later ≡ Some f → (later ≡ Some f → FirstFault judge xs f) → FirstFault judge (x ∷ xs) f
  next_fault x xs f None later none h more =
      let rest = more h in
      record {
        earlier = x ∷ rest.earlier;
        item = rest.item;
        later = rest.later;
        split = ap (λ ys. x ∷ ys) rest.split;
        passed = All-cons (λ y. judge y ≡ None) x rest.earlier none rest.passed;
        told = rest.told;
      }
  next_fault x xs f (Some g) later some h more =
      record { earlier = []; item = x; later = xs; split = refl; passed = All-nil (λ y. judge y ≡ None); told = some ∙ h }

  pub first_fails : (before xs : List A) (f : F) → first_fault (λ seen x. judge x) before xs ≡ Some f → FirstFault judge xs f
  unfolding first_fault
  first_fails before [] f h = absurd (cc)
  first_fails before (x ∷ xs) f h =
      next_fault x xs f (judge x) (first_fault (λ seen y. judge y) (before ++ x ∷ []) xs) refl h (first_fails (before ++ x ∷ []) xs f)

  none_before : (o later : Option F) → o ≡ None → later ≡ None → or_else o later ≡ None
  none_before None later none h = h
  none_before (Some f) later none h = none

  pub all_pass : (before xs : List A) → All (λ x. judge x ≡ None) xs → first_fault (λ seen x. judge x) before xs ≡ None
  unfolding first_fault
  all_pass before [] h = refl
  all_pass before (x ∷ xs) h =
      none_before (judge x) (first_fault (λ seen y. judge y) (before ++ x ∷ []) xs) (All-head (λ y. judge y ≡ None) x xs h)
      (all_pass (before ++ x ∷ []) xs (All-tail (λ y. judge y ≡ None) x xs h))

module _ {A F : Type 0} (judge : A → Option F) where
  passed_over : (o later : Option F) (f : F) → o ≡ None → later ≡ Some f → or_else o later ≡ Some f
  passed_over None later f none h = h
  passed_over (Some g) later f none h = absurd (cc)

  told_here : (o later : Option F) (f : F) → o ≡ Some f → or_else o later ≡ Some f
  told_here None later f h = absurd (cc)
  told_here (Some g) later f h = h

  -- the fault of the first item that has one
  pub first_told : (before earlier : List A) (x : A) (later : List A) (f : F) → All (λ y. judge y ≡ None) earlier → judge x ≡ Some f → first_fault (λ seen y. judge y) before (earlier ++ x ∷ later) ≡ Some f
  unfolding first_fault
  first_told before [] x later f passed told = told_here (judge x) (first_fault (λ seen y. judge y) (before ++ x ∷ []) later) f told
  first_told before (y ∷ earlier) x later f passed told =
      passed_over (judge y) (first_fault (λ seen z. judge z) (before ++ y ∷ []) (earlier ++ x ∷ later)) f (All-head (λ z. judge z ≡ None) y earlier passed)
      (first_told (before ++ y ∷ []) earlier x later f (All-tail (λ z. judge z ≡ None) y earlier passed) told)

-- where no fault is found, no item has one
pub none_fails : {A F : Type 0} (judge : A → Option F) (before xs : List A) → first_fault (λ seen x. judge x) before xs ≡ None → All (λ x. judge x ≡ None) xs
unfolding first_fault
none_fails judge before [] h = All-nil (λ x. judge x ≡ None)
none_fails judge before (x ∷ xs) h =
    let both = none_of_both (judge x) (first_fault (λ seen y. judge y) (before ++ x ∷ []) xs) h in
    All-cons (λ y. judge y ≡ None) x xs both.0 (none_fails judge (before ++ x ∷ []) xs both.1)

err_same : {B F : Type 0} (a b : F) → ◌≡◌ {A = Result B F} (Err a) (Err b) → a ≡ b
err_same a b e = cc

-- a value that is refused for a fault
pub unless_err : {B F : Type 0} (o : Option F) (v : B) (f : F) → unless o v ≡ Err f → o ≡ Some f
unless_err None v f h = absurd (cc)
unless_err {B = B} (Some g) v f h = ap (λ e. Some e) (err_same {B = B} g f h)
