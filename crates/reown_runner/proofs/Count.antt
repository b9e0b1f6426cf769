-- Each advance is one nearer to the end.
use Rattle.std.proofs.Common.{◌≡◌, inl, inr, ◌<◌, ◌≤◌, ◌+◌, ◌-◌, ℕ, zero, suc, max, Bool, true, false, cond, nat_lt, List, [], ◌∷◌, Option, None, Some, Result, Ok, Err, IsSome, length, slice_get, refl, sym, ◌∙◌, ap, subst, arith}
use Rattle.std.proofs.lemmas.Bool.Decides.{nat_tests}
use Rattle.reown_plan.specs.declared.plan.Owner.{Owner}
use Rattle.reown_plan.specs.PlanData.{PlanRecord}
use Rattle.reown_runner.specs.declared.runner.Place.{Place}
use Rattle.reown_runner.specs.declared.runner.Place.TheVariants.{Start, Record, SyncOwners, Mark, SyncMark, Done}
use Rattle.reown_runner.specs.declared.runner.Progress.{Progress}
use Rattle.reown_runner.specs.declared.runner.Progress.TheVariants.{Working, Done as Finished}
use Rattle.reown_runner.specs.declared.runner.RunFault.{RunFault}
use Rattle.reown_runner.specs.declared.runner.RunFault.TheVariants.{Device, Missing, Unfinished, Foreign}
use Rattle.reown_plan.specs.Owners.{owner_eq}
use Rattle.reown_runner.specs.Step.{Turn, is_new, not_new, marked_turn, turn, turn_at, record_turn, record_place, IsAsked, IsTold, IsPlaceOf, progress_at, advances_left, operations_left}
use Rattle.reown_runner.proofs.Cellwise.{either}
use Rattle.reown_runner.proofs.Turns.{marked-passed, marked-refused}

-- where a turn leads
record_next : (i : ℕ) (planned : PlanRecord) (next : Place) (owner : Option Owner) (t : Turn) → record_turn i planned next owner ≡ Ok t → t.next ≡ next
record_next i planned next None t h = absurd cc
record_next i planned next (Some owner) t h =
    elim (either (owner_eq owner planned.before)) [
      | inl old ↦ cc
      | inr other ↦ elim (either (owner_eq owner planned.after)) [ inl new ↦ cc | inr none ↦ absurd cc ]
    ]

pub left_at : (records : List PlanRecord) (i : ℕ) → i ≤ length records → advances_left records (record_place records i) ≡ length records - i + 3
left_at records i within =
    elim (either (nat_lt i (length records))) [
      | inl more ↦ ap (λ b. advances_left records (cond b (Record i) SyncOwners)) more
      | inr all ↦
          let past : length records ≤ i = grind (arith, nat_tests) in
          ap (λ b. advances_left records (cond b (Record i) SyncOwners)) all ∙ omega arith
    ]

some_at : (records : List PlanRecord) (i : ℕ) (owner : List ℕ → Option Owner) (o : Option PlanRecord) (t : Turn) → IsSome o → turn_at records i o owner ≡ Ok t → t.next ≡ record_place records (i + 1)
some_at records i owner None t h e = absurd cc
some_at records i owner (Some planned) t h e = record_next i planned (record_place records (i + 1)) (owner planned.path) t e

is_there : {X : Type 0} (xs : List X) (i : ℕ) → i < length xs → IsSome (slice_get xs i)
is_there [] i h = absurd (omega arith)
is_there (y ∷ ys) zero h = refl
is_there (y ∷ ys) (suc i) h = is_there ys i (omega arith)

-- where the mark is set nothing is left to do
marked_is : (i : ℕ) (records : List PlanRecord) (owner : List ℕ → Option Owner) (t : Turn) → marked_turn i records owner ≡ Ok t → (t.operation ≡ None) × (t.next ≡ Done)
marked_is i [] owner t e = (cc, cc)
marked_is i (r ∷ rs) owner t e =
    elim (either (is_new r (owner r.path))) [
      | inl new ↦ marked_is (i + 1) rs owner t (sym (marked-passed i r rs owner new) ∙ e)
      | inr old ↦
          let refused : ◌≡◌ {A = Result Turn RunFault} (Err (not_new i r (owner r.path))) (Ok t) = sym (marked-refused i r rs owner old) ∙ e in
          absurd cc
    ]

module _ (records : List PlanRecord) (owner : List ℕ → Option Owner) where
  -- the place after a turn
  pub one_nearer : (place : Place) (mark : Bool) (t : Turn) → IsPlaceOf records place → (place ≡ Start → mark ≡ false) → turn records place owner mark ≡ Ok t → advances_left records t.next ≡ advances_left records place - 1
  one_nearer Start true t fits unset e = absurd (let h : true ≡ false = unset refl in cc)
  one_nearer Start false t fits unset e =
      let is : t.next ≡ record_place records 0 = cc in
      ap (advances_left records) is ∙ left_at records 0 (omega arith) ∙ omega arith
  one_nearer (Record i) mark t fits unset e =
      let is : t.next ≡ record_place records (i + 1) = some_at records i owner (slice_get records i) t (is_there records i fits) e in
      ap (advances_left records) is ∙ left_at records (i + 1) (omega arith) ∙ omega arith
  one_nearer SyncOwners mark t fits unset e = (let is : t.next ≡ Mark = cc in ap (advances_left records) is)
  one_nearer Mark mark t fits unset e = (let is : t.next ≡ SyncMark = cc in ap (advances_left records) is)
  one_nearer SyncMark mark t fits unset e = (let is : t.next ≡ Done = cc in ap (advances_left records) is)
  one_nearer Done mark t fits unset e = (let is : t.next ≡ Done = cc in ap (advances_left records) is)

  pub nearer : (place : Place) (mark : Bool) (t : Turn) → IsPlaceOf records place → turn records place owner mark ≡ Ok t → advances_left records t.next ≤ advances_left records place - 1
  nearer Start true t fits e =
      let is = (marked_is 0 records owner t e).1 in
      let left : advances_left records t.next ≡ 0 = ap (advances_left records) is in
      omega arith
  nearer Start false t fits e = (let h = one_nearer Start false t fits (λ _. refl) e in omega arith)
  nearer (Record i) mark t fits e = (let no : Record i ≡ Start → mark ≡ false = λ h. absurd cc in let h = one_nearer (Record i) mark t fits no e in omega arith)
  nearer SyncOwners mark t fits e = (let no : SyncOwners ≡ Start → mark ≡ false = λ h. absurd cc in let h = one_nearer SyncOwners mark t fits no e in omega arith)
  nearer Mark mark t fits e = (let no : Mark ≡ Start → mark ≡ false = λ h. absurd cc in let h = one_nearer Mark mark t fits no e in omega arith)
  nearer SyncMark mark t fits e = (let no : SyncMark ≡ Start → mark ≡ false = λ h. absurd cc in let h = one_nearer SyncMark mark t fits no e in omega arith)
  nearer Done mark t fits e = (let no : Done ≡ Start → mark ≡ false = λ h. absurd cc in let h = one_nearer Done mark t fits no e in omega arith)

record_operation : (records : List PlanRecord) (i : ℕ) → i < length records → (1 ≤ advances_left records (Record i)) × (advances_left records (Record i) ≤ length records + 3)
record_operation records i fits = (omega arith, omega arith)

-- what writes or syncs is neither the start nor the end
operating : (records : List PlanRecord) (owner : List ℕ → Option Owner) (place : Place) (mark : Bool) (t : Turn) → IsPlaceOf records place → turn records place owner mark ≡ Ok t → IsSome t.operation → (1 ≤ advances_left records place) × (advances_left records place ≤ length records + 3)
operating records owner Start true t fits e some = absurd (let none = (marked_is 0 records owner t e).0 in cc)
operating records owner Start false t fits e some = absurd (let none : t.operation ≡ None = cc in cc)
operating records owner (Record i) mark t fits e some = record_operation records i fits
operating records owner SyncOwners mark t fits e some = (omega arith, omega arith)
operating records owner Mark mark t fits e some = (omega arith, omega arith)
operating records owner SyncMark mark t fits e some = (omega arith, omega arith)
operating records owner Done mark t fits e some = absurd (let none : t.operation ≡ None = cc in cc)

pub spends : (records : List PlanRecord) (owner : List ℕ → Option Owner) (place : Place) (mark : Bool) (next : Place) (before after : ℕ) → IsPlaceOf records place → IsAsked (turn records place owner mark) before after
    → advances_left records next ≤ advances_left records place - 1 → after + operations_left records next ≤ before + operations_left records place
spends records owner place mark next before after fits (inl same) near = omega arith
spends records owner place mark next before after fits (inr a) near = (let b = operating records owner place mark a.0 fits a.1 a.2 in omega (arith, a.3))

pub spends_err : (records : List PlanRecord) (owner : List ℕ → Option Owner) (place : Place) (mark : Bool) (before after : ℕ) → IsPlaceOf records place → IsAsked (turn records place owner mark) before after
    → after ≤ before + operations_left records place
spends_err records owner place mark before after fits (inl same) = omega arith
spends_err records owner place mark before after fits (inr a) = (let b = operating records owner place mark a.0 fits a.1 a.2 in omega (arith, a.3))

-- a turn leads to a place of the plan, and not to the start
abbrev GoesOn : List PlanRecord → Place → Type 0
GoesOn records place = IsPlaceOf records place × (place ≡ Start → ⊥)

record_on : (records : List PlanRecord) (i : ℕ) → GoesOn records (record_place records i)
record_on records i =
    elim (either (nat_lt i (length records))) [
      | inl more ↦
          let below : i < length records = grind (arith, nat_tests) in
          let is : record_place records i ≡ Record i = ap (λ b. cond b (Record i) SyncOwners) more in
          (subst (IsPlaceOf records) (sym is) below, λ e. (let h : Record i ≡ Start = sym is ∙ e in cc))
      | inr all ↦
          let is : record_place records i ≡ SyncOwners = ap (λ b. cond b (Record i) SyncOwners) all in
          (subst (IsPlaceOf records) (sym is) tt, λ e. (let h : SyncOwners ≡ Start = sym is ∙ e in cc))
    ]

to_place : (records : List PlanRecord) (next place : Place) → next ≡ place → GoesOn records place → GoesOn records next
to_place records next place is h = subst (GoesOn records) (sym is) h

goes_on : (records : List PlanRecord) (owner : List ℕ → Option Owner) (place : Place) (mark : Bool) (t : Turn) → IsPlaceOf records place → turn records place owner mark ≡ Ok t → GoesOn records t.next
goes_on records owner Start true t fits e = (let is = (marked_is 0 records owner t e).1 in to_place records t.next Done is (tt, λ h. cc))
goes_on records owner Start false t fits e = (let is : t.next ≡ record_place records 0 = cc in to_place records t.next (record_place records 0) is (record_on records 0))
goes_on records owner (Record i) mark t fits e =
    (let is : t.next ≡ record_place records (i + 1) = some_at records i owner (slice_get records i) t (is_there records i fits) e in to_place records t.next (record_place records (i + 1)) is (record_on records (i + 1)))
goes_on records owner SyncOwners mark t fits e = (let is : t.next ≡ Mark = cc in to_place records t.next Mark is (tt, λ h. cc))
goes_on records owner Mark mark t fits e = (let is : t.next ≡ SyncMark = cc in to_place records t.next SyncMark is (tt, λ h. cc))
goes_on records owner SyncMark mark t fits e = (let is : t.next ≡ Done = cc in to_place records t.next Done is (tt, λ h. cc))
goes_on records owner Done mark t fits e = (let is : t.next ≡ Done = cc in to_place records t.next Done is (tt, λ h. cc))

pub next_fits : (records : List PlanRecord) (owner : List ℕ → Option Owner) (place : Place) (mark : Bool) (t : Turn) → IsPlaceOf records place → turn records place owner mark ≡ Ok t → IsPlaceOf records t.next
next_fits records owner place mark t fits e = (goes_on records owner place mark t fits e).0

pub next_goes : (records : List PlanRecord) (owner : List ℕ → Option Owner) (place : Place) (mark : Bool) (t : Turn) → IsPlaceOf records place → turn records place owner mark ≡ Ok t → t.next ≡ Start → ⊥
next_goes records owner place mark t fits e = (goes_on records owner place mark t fits e).1

-- an advance of those that are left
pub one_end : (n most left : ℕ) → n + max 1 left ≤ most → n + 1 ≤ most
one_end n most left h = omega arith

pub one_more_is_left : (n most old new : ℕ) → n + max 1 old ≤ most → 1 ≤ new → new ≤ old - 1 → n + 1 + max 1 new ≤ most
one_more_is_left n most old new h some less = omega arith

pub works_on : (records : List PlanRecord) (place : Place) → Working ≡ progress_at place → 1 ≤ advances_left records place
works_on records Start e = omega arith
works_on records (Record i) e = omega arith
works_on records SyncOwners e = omega arith
works_on records Mark e = omega arith
works_on records SyncMark e = omega arith
works_on records Done e = absurd cc

pub done_at : (place : Place) → Finished ≡ progress_at place → place ≡ Done
done_at Start e = absurd cc
done_at (Record i) e = absurd cc
done_at SyncOwners e = absurd cc
done_at Mark e = absurd cc
done_at SyncMark e = absurd cc
done_at Done e = refl

pub most_left : (records : List PlanRecord) (place : Place) → 0 + max 1 (advances_left records place) ≤ length records + 4
most_left records Start = omega arith
most_left records (Record i) = omega arith
most_left records SyncOwners = omega arith
most_left records Mark = omega arith
most_left records SyncMark = omega arith
most_left records Done = omega arith

-- a failed call of the device is counted
pub not_counted : (before mid after : ℕ) (fault : RunFault) → fault ≡ Device → mid ≡ before → IsTold {X = Progress} mid after (Err fault) → after ≡ before → ⊥
not_counted before mid after Device is same told none = omega (arith, told.0)
not_counted before mid after (Missing i) is same told none = absurd cc
not_counted before mid after (Unfinished i) is same told none = absurd cc
not_counted before mid after (Foreign i) is same told none = absurd cc
