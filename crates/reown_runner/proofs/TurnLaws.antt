-- What the turns of a plan do, whatever the tree is that they go over.
use Rattle.std.proofs.Common.{◌≡◌, ◌≢◌, ◌+◌, ◌==◌, ℕ, zero, suc, Bool, true, false, cond, List, [], ◌∷◌, inl, inr, refl, sym, ap, subst, ◌∙◌, arith}
use Rattle.std.specs.Prelude.{◌<◌, Option, None, Some, Ok, Err, Result, slice_get, All, IfOk, IfErr, ⊤}
use Rattle.std.proofs.lemmas.Bool.{and_parts, eqb-true, eq-eqb, false_from_ne_true, true≢false}
use Rattle.std.proofs.lemmas.Option.{same_Some}
use Rattle.std.proofs.lemmas.Result.{IfOk-at_ok, IfErr-at_err}
use Rattle.std.proofs.lemmas.List.Elements.{All-nil, All-cons}
use Rattle.reown_plan.specs.declared.plan.Owner.{Owner}
use Rattle.reown_plan.specs.Owners.{owner_eq}
use Rattle.reown_plan.specs.PlanData.{PlanRecord}
use Rattle.reown_runner.specs.declared.runner.Place.{Place}
use Rattle.reown_runner.specs.declared.runner.Place.TheVariants.{Start, Record, SyncOwners, Mark, SyncMark, Done}
use Rattle.reown_runner.specs.declared.runner.RunFault.{RunFault}
use Rattle.reown_runner.specs.declared.runner.RunFault.TheVariants.{Device, Missing, Unfinished, Foreign}
use Rattle.reown_runner.specs.Step.{Turn, turn, record_turn, turn_at, marked_turn, record_place, is_new, not_new}
use Rattle.reown_runner.specs.Tree.{Write}
use Rattle.reown_runner.specs.TurnLaws.{OldFilesAreWritten, MarksAreLookedInto, IsToldTruly, IsLookedAt, HasToBeTold}
use Rattle.reown_runner.proofs.Turns.{turn-at_old, turn-at_new, marked-passed, marked-refused}

-- ---- owners

abbrev owner-with : ℕ → ℕ → Owner
owner-with uid gid = record { uid = uid; gid = gid }

same-owner : (a b : Owner) → owner_eq a b ≡ true → a ≡ b
same-owner a b e =
    let p = and_parts (a.uid == b.uid) (a.gid == b.gid) e in
    ap (λ (x : ℕ). owner-with x a.gid) (eqb-true a.uid b.uid p.0) ∙ ap (owner-with b.uid) (eqb-true a.gid b.gid p.1)

owner_eq-refl : (a : Owner) → owner_eq a a ≡ true
owner_eq-refl a = rw (eq-eqb a.uid a.uid refl, eq-eqb a.gid a.gid refl) refl

differ : (a b : Owner) → owner_eq a b ≡ false → a ≢ b
differ a b other e = true≢false (sym (owner_eq-refl a) ∙ ap (owner_eq a) e ∙ other)

-- ---- the turn at a record

turn-at_third : (i : ℕ) (planned : PlanRecord) (next : Place) (owner : Owner) → owner_eq owner planned.before ≡ false → owner_eq owner planned.after ≡ false
    → record_turn i planned next (Some owner) ≡ Err (Foreign i)
turn-at_third i planned next owner old new =
    ap (λ b. cond b (Ok (record { operation = Some (Write planned.path planned.after); next = next })) (cond (owner_eq owner planned.after) (Ok (record { operation = None; next = next })) (Err (Foreign i)))) old
    ∙ ap (λ b. cond b (Ok (record { operation = None; next = next })) (Err (Foreign i))) new

-- what it writes
abbrev Writes : PlanRecord → Option Owner → Turn → Type 0
Writes planned found t = (path : List ℕ) (new : Owner) → t.operation ≡ Some (Write path new) → (planned.path ≡ path) × (planned.after ≡ new) × (found ≡ Some planned.before)

writes_at : (i : ℕ) (planned : PlanRecord) (next : Place) (found : Option Owner) → IfOk (record_turn i planned next found) (Writes planned found)
writes_at i planned next None = tt
writes_at i planned next (Some owner) = by (owner_eq owner planned.before) refl (owner_eq owner planned.after) refl
  where
    Goal : Result Turn RunFault → Type 0
    Goal r = IfOk r (Writes planned (Some owner))

    by : (b : Bool) → owner_eq owner planned.before ≡ b → (c : Bool) → owner_eq owner planned.after ≡ c → Goal (record_turn i planned next (Some owner))
    by true old c e = subst Goal (sym (turn-at_old i planned next owner old)) (λ path new is. (cc, cc, ap (λ (o : Owner). Some o) (same-owner owner planned.before old)))
    by false old true new = subst Goal (sym (turn-at_new i planned next owner old new)) (λ path new is. absurd (cc))
    by false old false new = subst Goal (sym (turn-at_third i planned next owner old new)) tt

-- ---- what turns write

abbrev WritesOld : List PlanRecord → (List ℕ → Option Owner) → Turn → Type 0
WritesOld records owner t =
    (path : List ℕ) (new : Owner) → t.operation ≡ Some (Write path new) → (i : ℕ) × (planned : PlanRecord) × (slice_get records i ≡ Some planned)
    × (planned.path ≡ path) × (planned.after ≡ new) × (owner path ≡ Some planned.before)

writes_at_index : (records : List PlanRecord) (i : ℕ) (owner : List ℕ → Option Owner) (found : Option PlanRecord) → slice_get records i ≡ found
    → IfOk (turn_at records i found owner) (WritesOld records owner)
writes_at_index records i owner None at = λ path new is. absurd (cc)
writes_at_index records i owner (Some planned) at =
    by (record_turn i planned (record_place records (i + 1)) (owner planned.path)) (writes_at i planned (record_place records (i + 1)) (owner planned.path))
  where
    by : (r : Result Turn RunFault) → IfOk r (Writes planned (owner planned.path)) → IfOk r (WritesOld records owner)
    by (Err fault) w = tt
    by (Ok t) w = λ path new is. let h = w path new is in (i, planned, at, h.0, h.1, subst (λ (p : List ℕ). owner p ≡ Some planned.before) h.0 h.2)

writes_if_marked : (all records : List PlanRecord) (i : ℕ) (owner : List ℕ → Option Owner) → IfOk (marked_turn i records owner) (WritesOld all owner)
writes_if_marked all [] i owner = λ path new is. absurd (cc)
writes_if_marked all (planned ∷ records) i owner = by (writes_if_marked all records (i + 1) owner) (is_new planned (owner planned.path)) refl
  where
    Goal : Result Turn RunFault → Type 0
    Goal r = IfOk r (WritesOld all owner)

    by : Goal (marked_turn (i + 1) records owner) → (b : Bool) → is_new planned (owner planned.path) ≡ b → Goal (marked_turn i (planned ∷ records) owner)
    by rest true new = subst Goal (sym (marked-passed i planned records owner new)) rest
    by rest false old = subst Goal (sym (marked-refused i planned records owner old)) tt

writes : (records : List PlanRecord) (place : Place) (owner : List ℕ → Option Owner) (mark : Bool) → IfOk (turn records place owner mark) (WritesOld records owner)
writes records Start owner true = writes_if_marked records records 0 owner
writes records Start owner false = λ path new is. absurd (cc)
writes records (Record i) owner mark = writes_at_index records i owner (slice_get records i) refl
writes records SyncOwners owner mark = λ path new is. absurd (cc)
writes records Mark owner mark = λ path new is. absurd (cc)
writes records SyncMark owner mark = λ path new is. absurd (cc)
writes records Done owner mark = λ path new is. absurd (cc)

pub old_files_are_written : OldFilesAreWritten
old_files_are_written records place owner mark t path new is written = IfOk-at_ok (WritesOld records owner) is (writes records place owner mark) path new written

-- ---- marks

abbrev AreNew : List PlanRecord → (List ℕ → Option Owner) → Type 0
AreNew records owner = All (λ planned. owner planned.path ≡ Some planned.after) records

new_owner : (planned : PlanRecord) (found : Option Owner) → is_new planned found ≡ true → found ≡ Some planned.after
new_owner planned None e = absurd (true≢false (sym e))
new_owner planned (Some owner) e = ap (λ (o : Owner). Some o) (same-owner owner planned.after e)

new_if_marked : (records : List PlanRecord) (i : ℕ) (owner : List ℕ → Option Owner) → IfOk (marked_turn i records owner) (λ t. AreNew records owner)
new_if_marked [] i owner = All-nil (λ planned. owner planned.path ≡ Some planned.after)
new_if_marked (planned ∷ records) i owner = by (new_if_marked records (i + 1) owner) (is_new planned (owner planned.path)) refl
  where
    Goal : Result Turn RunFault → Type 0
    Goal r = IfOk r (λ t. AreNew (planned ∷ records) owner)

    more : (r : Result Turn RunFault) → owner planned.path ≡ Some planned.after → IfOk r (λ t. AreNew records owner) → Goal r
    more (Err fault) new rest = tt
    more (Ok t) new rest = All-cons (λ (p : PlanRecord). owner p.path ≡ Some p.after) planned records new rest

    by : IfOk (marked_turn (i + 1) records owner) (λ t. AreNew records owner) → (b : Bool) → is_new planned (owner planned.path) ≡ b → Goal (marked_turn i (planned ∷ records) owner)
    by rest true new = subst Goal (sym (marked-passed i planned records owner new)) (more (marked_turn (i + 1) records owner) (new_owner planned (owner planned.path) new) rest)
    by rest false old = subst Goal (sym (marked-refused i planned records owner old)) tt

pub marks_are_looked_into : MarksAreLookedInto
marks_are_looked_into records owner t is = IfOk-at_ok (λ t. AreNew records owner) is (new_if_marked records 0 owner)

-- ---- what is told

abbrev Told : List PlanRecord → (List ℕ → Option Owner) → Bool → RunFault → Type 0
Told records owner mark Device = ⊤
Told records owner mark (Missing i) = (planned : PlanRecord) → slice_get records i ≡ Some planned → owner planned.path ≡ None
Told records owner mark (Foreign i) =
    (planned : PlanRecord) → slice_get records i ≡ Some planned → (found : Owner) × (owner planned.path ≡ Some found) × (found ≢ planned.before) × (found ≢ planned.after)
Told records owner mark (Unfinished i) = (planned : PlanRecord) → slice_get records i ≡ Some planned → (mark ≡ true) × (owner planned.path ≡ Some planned.before)

-- it is told of the record that stands at the index
module _ (records : List PlanRecord) (owner : List ℕ → Option Owner) (mark : Bool) (i : ℕ) (planned : PlanRecord) (at : slice_get records i ≡ Some planned) where
  is_planned : (other : PlanRecord) → slice_get records i ≡ Some other → planned ≡ other
  is_planned other there = same_Some planned other (sym at ∙ there)

  told_missing : owner planned.path ≡ None → Told records owner mark (Missing i)
  told_missing none other there = subst (λ (p : PlanRecord). owner p.path ≡ None) (is_planned other there) none

  told_foreign : (found : Owner) → owner planned.path ≡ Some found → owner_eq found planned.before ≡ false → owner_eq found planned.after ≡ false → Told records owner mark (Foreign i)
  told_foreign found is old new other there =
      subst (λ (p : PlanRecord). (o : Owner) × (owner p.path ≡ Some o) × (o ≢ p.before) × (o ≢ p.after)) (is_planned other there)
      (found, is, differ found planned.before old, differ found planned.after new)

  told_unfinished : (found : Owner) → mark ≡ true → owner planned.path ≡ Some found → owner_eq found planned.before ≡ true → Told records owner mark (Unfinished i)
  told_unfinished found marked is old other there =
      (marked, subst (λ (p : PlanRecord). owner p.path ≡ Some p.before) (is_planned other there) (is ∙ ap (λ (o : Owner). Some o) (same-owner found planned.before old)))

  told_at : (next : Place) (found : Option Owner) → owner planned.path ≡ found → IfErr (record_turn i planned next found) (Told records owner mark)
  told_at next None is = told_missing is
  told_at next (Some found) is = by (owner_eq found planned.before) refl (owner_eq found planned.after) refl
    where
      Goal : Result Turn RunFault → Type 0
      Goal r = IfErr r (Told records owner mark)

      by : (b : Bool) → owner_eq found planned.before ≡ b → (c : Bool) → owner_eq found planned.after ≡ c → Goal (record_turn i planned next (Some found))
      by true old c e = subst Goal (sym (turn-at_old i planned next found old)) tt
      by false old true new = subst Goal (sym (turn-at_new i planned next found old new)) tt
      by false old false new = subst Goal (sym (turn-at_third i planned next found old new)) (told_foreign found is old new)

  told_not_new : mark ≡ true → (found : Option Owner) → owner planned.path ≡ found → is_new planned found ≡ false → Told records owner mark (not_new i planned found)
  told_not_new marked None is new = told_missing is
  told_not_new marked (Some found) is new = by (owner_eq found planned.before) refl
    where
      by : (b : Bool) → owner_eq found planned.before ≡ b → Told records owner mark (cond (owner_eq found planned.before) (Unfinished i) (Foreign i))
      by true old = subst (λ (b : Bool). Told records owner mark (cond b (Unfinished i) (Foreign i))) (sym old) (told_unfinished found marked is old)
      by false old = subst (λ (b : Bool). Told records owner mark (cond b (Unfinished i) (Foreign i))) (sym old) (told_foreign found is old new)

-- the records that are left stand in all from an index on
abbrev StandFrom : List PlanRecord → ℕ → List PlanRecord → Type 0
StandFrom all i records = (k : ℕ) (planned : PlanRecord) → slice_get records k ≡ Some planned → slice_get all (i + k) ≡ Some planned

stand-more : (all : List PlanRecord) (i : ℕ) (planned : PlanRecord) (records : List PlanRecord) → StandFrom all i (planned ∷ records) → StandFrom all (i + 1) records
stand-more all i planned records stand k p at = let next : i + suc k ≡ (i + 1) + k = omega (arith) in subst (λ (n : ℕ). slice_get all n ≡ Some p) next (stand (suc k) p at)

told_if_marked : (all records : List PlanRecord) (i : ℕ) (owner : List ℕ → Option Owner) → StandFrom all i records → IfErr (marked_turn i records owner) (Told all owner true)
told_if_marked all [] i owner stand = tt
told_if_marked all (planned ∷ records) i owner stand = by (told_if_marked all records (i + 1) owner (stand-more all i planned records stand)) (is_new planned (owner planned.path)) refl
  where
    Goal : Result Turn RunFault → Type 0
    Goal r = IfErr r (Told all owner true)

    here : slice_get all i ≡ Some planned
    here = let at : i + 0 ≡ i = omega (arith) in subst (λ (n : ℕ). slice_get all n ≡ Some planned) at (stand 0 planned refl)

    by : Goal (marked_turn (i + 1) records owner) → (b : Bool) → is_new planned (owner planned.path) ≡ b → Goal (marked_turn i (planned ∷ records) owner)
    by rest true new = subst Goal (sym (marked-passed i planned records owner new)) rest
    by rest false old = subst Goal (sym (marked-refused i planned records owner old)) (told_not_new all owner true i planned here refl (owner planned.path) refl old)

told_at_index : (records : List PlanRecord) (i : ℕ) (owner : List ℕ → Option Owner) (mark : Bool) (found : Option PlanRecord) → slice_get records i ≡ found
    → IfErr (turn_at records i found owner) (Told records owner mark)
told_at_index records i owner mark None at = tt
told_at_index records i owner mark (Some planned) at = told_at records owner mark i planned at (record_place records (i + 1)) (owner planned.path) refl

told : (records : List PlanRecord) (place : Place) (owner : List ℕ → Option Owner) (mark : Bool) → IfErr (turn records place owner mark) (Told records owner mark)
told records Start owner true = told_if_marked records records 0 owner (λ k planned at. let same : k ≡ 0 + k = omega (arith) in subst (λ (n : ℕ). slice_get records n ≡ Some planned) same at)
told records Start owner false = tt
told records (Record i) owner mark = told_at_index records i owner mark (slice_get records i) refl
told records SyncOwners owner mark = tt
told records Mark owner mark = tt
told records SyncMark owner mark = tt
told records Done owner mark = tt

pub is_told_truly : (records : List PlanRecord) (place : Place) (owner : List ℕ → Option Owner) (mark : Bool) (i : ℕ) (planned : PlanRecord) → slice_get records i ≡ Some planned
    → IsToldTruly records place owner mark i planned
is_told_truly records place owner mark i planned at = record {
  missing = λ is. IfErr-at_err (Told records owner mark) is (told records place owner mark) planned at;
  foreign = λ is. IfErr-at_err (Told records owner mark) is (told records place owner mark) planned at;
  unfinished = λ is. IfErr-at_err (Told records owner mark) is (told records place owner mark) planned at;
}

-- ---- what has to be told

unequal : (a b : Owner) → a ≢ b → owner_eq a b ≡ false
unequal a b apart = false_from_ne_true (owner_eq a b) (λ e. apart (same-owner a b e))

-- the files of the records in front of one read as at their new owners
abbrev NewBefore : List PlanRecord → (List ℕ → Option Owner) → ℕ → Type 0
NewBefore records owner i = (k : ℕ) (planned : PlanRecord) → k < i → slice_get records k ≡ Some planned → owner planned.path ≡ Some planned.after

is_new-after : (planned : PlanRecord) (found : Option Owner) → found ≡ Some planned.after → is_new planned found ≡ true
is_new-after planned found e = ap (is_new planned) e ∙ owner_eq-refl planned.after

-- the first file that is not new is the one that is told
first_told : (records : List PlanRecord) (owner : List ℕ → Option Owner) (from i : ℕ) (planned : PlanRecord) → slice_get records i ≡ Some planned → NewBefore records owner i
    → is_new planned (owner planned.path) ≡ false → marked_turn from records owner ≡ Err (not_new (from + i) planned (owner planned.path))
first_told [] owner from i planned at before old = absurd (cc)
first_told (p ∷ records) owner from zero planned at before old =
    let same : p ≡ planned = same_Some p planned at in
    let here : from ≡ from + 0 = omega arith in
    marked-refused from p records owner (ap (λ (q : PlanRecord). is_new q (owner q.path)) same ∙ old)
    ∙ ap (λ (q : PlanRecord). Err (not_new from q (owner q.path))) same
    ∙ ap (λ (n : ℕ). Err (not_new n planned (owner planned.path))) here
first_told (p ∷ records) owner from (suc i) planned at before old =
    let next : (from + 1) + i ≡ from + suc i = omega arith in
    marked-passed from p records owner (is_new-after p (owner p.path) (before 0 p (omega arith) refl))
    ∙ first_told records owner (from + 1) i planned at (λ k q below there. before (suc k) q (omega arith) there) old
    ∙ ap (λ (n : ℕ). Err (not_new n planned (owner planned.path))) next

module _ (records : List PlanRecord) (owner : List ℕ → Option Owner) (mark : Bool) (i : ℕ) (planned : PlanRecord) (at : slice_get records i ≡ Some planned) where
  tells-missing : owner planned.path ≡ None → turn records (Record i) owner mark ≡ Err (Missing i)
  tells-missing none =
      ap (λ (found : Option PlanRecord). turn_at records i found owner) at
      ∙ ap (record_turn i planned (record_place records (i + 1))) none

  tells-foreign : (found : Owner) → owner planned.path ≡ Some found → found ≢ planned.before → found ≢ planned.after → turn records (Record i) owner mark ≡ Err (Foreign i)
  tells-foreign found is old new =
      ap (λ (found : Option PlanRecord). turn_at records i found owner) at
      ∙ ap (record_turn i planned (record_place records (i + 1))) is
      ∙ turn-at_third i planned (record_place records (i + 1)) found (unequal found planned.before old) (unequal found planned.after new)

  -- where the mark is set
  tells_if_marked : NewBefore records owner i → (found : Option Owner) → owner planned.path ≡ found → is_new planned found ≡ false → turn records Start owner true ≡ Err (not_new i planned found)
  tells_if_marked before found is old =
      let whole : 0 + i ≡ i = omega arith in
      first_told records owner 0 i planned at before (ap (is_new planned) is ∙ old)
      ∙ ap (λ (n : ℕ). Err (not_new n planned (owner planned.path))) whole
      ∙ ap (λ (f : Option Owner). Err (not_new i planned f)) is

  tells_at : HasToBeTold records (Record i) owner mark i planned
  tells_at = record {
    missing = tells-missing;
    foreign = tells-foreign;
    unfinished = λ start. absurd (cc);
  }

  tells_at_start : NewBefore records owner i → HasToBeTold records Start owner true i planned
  tells_at_start before = record {
    missing = λ none. tells_if_marked before None none refl;
    foreign = λ found is old new.
        tells_if_marked before (Some found) is (unequal found planned.after new)
        ∙ ap (λ (b : Bool). Err (cond b (Unfinished i) (Foreign i))) (unequal found planned.before old);
    unfinished = λ start is apart.
        tells_if_marked before (Some planned.before) is (unequal planned.before planned.after apart)
        ∙ ap (λ (b : Bool). Err (cond b (Unfinished i) (Foreign i))) (owner_eq-refl planned.before);
  }

pub has_to_be_told : (records : List PlanRecord) (place : Place) (owner : List ℕ → Option Owner) (mark : Bool) (i : ℕ) (planned : PlanRecord) → slice_get records i ≡ Some planned
    → IsLookedAt records place owner mark i → HasToBeTold records place owner mark i planned
has_to_be_told records place owner mark i planned at (inl here) =
    subst (λ (p : Place). HasToBeTold records p owner mark i planned) (sym here) (tells_at records owner mark i planned at)
has_to_be_told records place owner mark i planned at (inr start) =
    subst (λ (p : Place). HasToBeTold records p owner mark i planned) (sym start.0)
    (subst (λ (m : Bool). HasToBeTold records Start owner m i planned) (sym start.1) (tells_at_start records owner mark i planned at start.2))
