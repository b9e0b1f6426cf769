-- Turns, and what calls do in a row.
use Rattle.std.proofs.Common.{◌≡◌, ◌⊎◌, ◌<◌, inl, inr, ℕ, zero, suc, length, map, get_or, [], ◌∷◌, arith, Bool, true, false, cond, not, List, Option, None, Some, Result, Ok, Err, IsErrAnd, slice_get, ◌+◌, refl, sym, ◌∙◌, ap, subst}
use Rattle.std.specs.Prelude.{⊤, drop}
use Rattle.std.proofs.lemmas.List.{at_drop_more}
use Rattle.reown_plan.specs.declared.plan.Record.{Record as Planned}
use Rattle.reown_plan.specs.Records.{record_of}
use Rattle.reown_plan.specs.declared.mark.PlanMark.{PlanMark}
use Rattle.reown_plan.specs.declared.plan.Owner.{Owner}
use Rattle.reown_plan.specs.PlanData.{PlanRecord}
use Rattle.reown_runner.specs.declared.runner.Place.{Place}
use Rattle.reown_runner.specs.declared.runner.Place.TheVariants.{Start, Record, SyncOwners, Mark, SyncMark, Done}
use Rattle.reown_runner.specs.declared.runner.RunFault.{RunFault}
use Rattle.reown_runner.specs.declared.runner.RunFault.TheVariants.{Device, Missing, Unfinished, Foreign}
use Rattle.reown_runner.specs.Tree.{Cells, Operation, Write, SetMark, Sync, IsReadable, Same, SameOwners, SameMark, Syncs, Does, MayDo, counted}
use Rattle.reown_runner.specs.State.{Keeps, KeepsOwners, KeepsMark}
use Rattle.reown_plan.specs.Owners.{owner_eq}
use Rattle.reown_runner.specs.Step.{Turn, is_new, not_new, marked_turn, record_turn, record_place, turn_at, turn, IsAdvance, IsAsked, IsTold}

module _ (i : ℕ) (planned : PlanRecord) (next : Place) (owner : Owner) where
  pub turn-at_old : owner_eq owner planned.before ≡ true → record_turn i planned next (Some owner) ≡ Ok (record { operation = Some (Write planned.path planned.after); next = next })
  turn-at_old old = ap (λ b. cond b (Ok (record { operation = Some (Write planned.path planned.after); next = next })) (cond (owner_eq owner planned.after) (Ok (record { operation = None; next = next })) (Err (Foreign i)))) old

  pub turn-at_new : owner_eq owner planned.before ≡ false → owner_eq owner planned.after ≡ true → record_turn i planned next (Some owner) ≡ Ok (record { operation = None; next = next })
  turn-at_new old new =
      ap (λ b. cond b (Ok (record { operation = Some (Write planned.path planned.after); next = next })) (cond (owner_eq owner planned.after) (Ok (record { operation = None; next = next })) (Err (Foreign i)))) old
      ∙ ap (λ b. cond b (Ok (record { operation = None; next = next })) (Err (Foreign i))) new

-- where the mark is set, a file at its new owner is passed, and the first other one is refused
module _ (i : ℕ) (planned : PlanRecord) (records : List PlanRecord) (owner : List ℕ → Option Owner) where
  pub marked-passed : is_new planned (owner planned.path) ≡ true → marked_turn i (planned ∷ records) owner ≡ marked_turn (i + 1) records owner
  marked-passed new = ap (λ b. cond b (marked_turn (i + 1) records owner) (Err (not_new i planned (owner planned.path)))) new

  pub marked-refused : is_new planned (owner planned.path) ≡ false → marked_turn i (planned ∷ records) owner ≡ Err (not_new i planned (owner planned.path))
  marked-refused old = ap (λ b. cond b (marked_turn (i + 1) records owner) (Err (not_new i planned (owner planned.path)))) old

-- what is refused without a fault of the device
abbrev IsNoDevice : RunFault → Type 0
IsNoDevice Device = ⊥
IsNoDevice (Missing i) = ⊤
IsNoDevice (Unfinished i) = ⊤
IsNoDevice (Foreign i) = ⊤

not_new-apart : (i : ℕ) (planned : PlanRecord) (owner : Option Owner) → IsNoDevice (not_new i planned owner)
not_new-apart i planned None = tt
not_new-apart i planned (Some owner) = by (owner_eq owner planned.before)
  where
    by : (b : Bool) → IsNoDevice (cond b (Unfinished i) (Foreign i))
    by true = tt
    by false = tt

refused : (plan : Result Turn RunFault) (Did : Option Operation → Type 0) (fault : RunFault) → IsNoDevice fault → plan ≡ Err fault → Did None → IsAdvance plan Did (Err fault)
refused plan Did Device apart is did = absurd apart
refused plan Did (Missing i) apart is did = (is, did)
refused plan Did (Unfinished i) apart is did = (is, did)
refused plan Did (Foreign i) apart is did = (is, did)

untold : (before after : ℕ) (fault : RunFault) → IsNoDevice fault → after ≡ before → IsTold {X = Place} before after (Err fault)
untold before after Device apart same = absurd apart
untold before after (Missing i) apart same = same
untold before after (Unfinished i) apart same = same
untold before after (Foreign i) apart same = same

module _ (i : ℕ) (planned : PlanRecord) (owner : Option Owner) where
  pub not_new-refused : (plan : Result Turn RunFault) (Did : Option Operation → Type 0) → plan ≡ Err (not_new i planned owner) → Did None → IsAdvance plan Did (Err (not_new i planned owner))
  not_new-refused plan Did is did = refused plan Did (not_new i planned owner) (not_new-apart i planned owner) is did

  pub not_new-told : (before after : ℕ) → after ≡ before → IsTold {X = Place} before after (Err (not_new i planned owner))
  not_new-told before after same = untold before after (not_new i planned owner) (not_new-apart i planned owner) same

-- what a read answers is no plan's: the mark of none
pub no_plan : PlanMark
no_plan = record { host = []; length = 0; digest = [] }

-- what is read after the records
abbrev pub nothing_planned : Planned
nothing_planned = record { before = record { uid = 0; gid = 0 }; after = record { uid = 0; gid = 0 }; path = record { ref_ptr = (0, 0); now = [] } }

-- one record on, over the records as the code has them
module _ (records : List Planned) (i : ℕ) (d : Planned) (below : i < length records) (owner : List ℕ → Option Owner) where
  pub marked-more : is_new (record_of (get_or records i d)) (owner (get_or records i d).path.now) ≡ true → marked_turn i (map record_of (drop i records)) owner ≡ marked_turn (i + 1) (map record_of (drop (i + 1) records)) owner
  marked-more new = at_drop_more (λ rs. marked_turn i (map record_of rs) owner) records i d below ∙ marked-passed i (record_of (get_or records i d)) (map record_of (drop (i + 1) records)) owner new

  pub marked-ends : is_new (record_of (get_or records i d)) (owner (get_or records i d).path.now) ≡ false → marked_turn i (map record_of (drop i records)) owner ≡ Err (not_new i (record_of (get_or records i d)) (owner (get_or records i d).path.now))
  marked-ends old = at_drop_more (λ rs. marked_turn i (map record_of rs) owner) records i d below ∙ marked-refused i (record_of (get_or records i d)) (map record_of (drop (i + 1) records)) owner old

keeps_owners : {a b c : Cells} → KeepsOwners a b → KeepsOwners b c → KeepsOwners a c
keeps_owners p q = record { owner = λ path. q.owner path ∙ p.owner path; owner_left = λ path x h. p.owner_left path x (q.owner_left path x h) }

keeps_mark : {a b c : Cells} → KeepsMark a b → KeepsMark b c → KeepsMark a c
keeps_mark p q = record { mark = q.mark ∙ p.mark; mark_left = λ m h. p.mark_left m (q.mark_left m h) }

pub keeps : {a b c : Cells} → Keeps a b → Keeps b c → Keeps a c
keeps p q = record { owners = keeps_owners p.owners q.owners; mark = keeps_mark p.mark q.mark }

same_owners : {a b c : Cells} → SameOwners a b → SameOwners b c → SameOwners a c
same_owners p q = record { owner = λ path. q.owner path ∙ p.owner path; owner_left = λ path x. (λ h. (p.owner_left path x).0 ((q.owner_left path x).0 h), λ h. (q.owner_left path x).1 ((p.owner_left path x).1 h)) }

same_mark : {a b c : Cells} → SameMark a b → SameMark b c → SameMark a c
same_mark p q = record { mark = q.mark ∙ p.mark; mark_left = λ m. (λ h. (p.mark_left m).0 ((q.mark_left m).0 h), λ h. (q.mark_left m).1 ((p.mark_left m).1 h)) }

pub same : {a b c : Cells} → Same a b → Same b c → Same a c
same p q = record { owners = same_owners p.owners q.owners; mark = same_mark p.mark q.mark }

-- what does not change is kept
pub same_keeps : {a b : Cells} → Same a b → Keeps a b
same_keeps p =
    record {
      owners = record { owner = p.owners.owner; owner_left = λ path x h. (p.owners.owner_left path x).0 h };
      mark = record { mark = p.mark.mark; mark_left = λ m h. (p.mark.mark_left m).0 h };
    }

-- so is what is synced
pub synced_keeps : {a b : Cells} → IsReadable a → Syncs a b → Keeps a b
synced_keeps {a} readable s =
    record {
      owners = record { owner = s.owner; owner_left = λ path x h. subst (a.owner_left path) (sym (s.settled.owner path x h ∙ s.owner path)) (readable.owner path) };
      mark = record { mark = s.mark; mark_left = λ m h. subst a.mark_left (sym (s.settled.mark m h ∙ s.mark)) readable.mark };
    }

pub after_keeping : (a b c : Cells) (operation : Option Operation) → Same a b → Does operation b c → Does operation a c
after_keeping a b c None p q = same p q
after_keeping a b c (Some (Write path to)) p q =
    record {
      owner = q.owner;
      owner_left = λ x h. elim (q.owner_left x h) [ inl was ↦ inl ((p.owners.owner_left path x).0 was) | inr is ↦ inr is ];
      other = λ r ne. q.other r ne ∙ p.owners.owner r;
      other_left = λ r ne x. (λ h. (p.owners.owner_left r x).0 ((q.other_left r ne x).0 h), λ h. (q.other_left r ne x).1 ((p.owners.owner_left r x).1 h));
      mark = same_mark p.mark q.mark;
    }
after_keeping a b c (Some SetMark) p q =
    record {
      mark = q.mark;
      mark_left = λ m h. elim (q.mark_left m h) [ inl was ↦ inl ((p.mark.mark_left m).0 was) | inr is ↦ inr is ];
      owners = same_owners p.owners q.owners;
    }
after_keeping a b c (Some Sync) p q = record { owner = λ path. q.owner path ∙ p.owners.owner path; mark = q.mark ∙ p.mark.mark; settled = q.settled }

-- what is answered after a reading is answered as well before it
pub advance-behind : (first then : Result Turn RunFault) (old mid new : Cells) (answer : Result Place RunFault) → first ≡ then → Same old mid → IsAdvance then (λ operation. Does operation mid new) answer → IsAdvance first (λ operation. Does operation old new) answer
advance-behind first then old mid new (Ok next) is kept a = (a.0, is ∙ a.1, a.2, after_keeping old mid new a.0.operation kept a.3)
advance-behind first then old mid new (Err Device) is kept (inl a) = inl (same kept a)
advance-behind first then old mid new (Err Device) is kept (inr a) = inr (a.0, is ∙ a.1, after_keeping old mid new a.0.operation kept a.2)
advance-behind first then old mid new (Err (Missing i)) is kept a = (is ∙ a.0, same kept a.1)
advance-behind first then old mid new (Err (Unfinished i)) is kept a = (is ∙ a.0, same kept a.1)
advance-behind first then old mid new (Err (Foreign i)) is kept a = (is ∙ a.0, same kept a.1)

module _ (old mid new : Cells) (plan : Result Turn RunFault) (operation : Operation) (next : Place) (is : plan ≡ Ok (record { operation = Some operation; next = next })) where
  pub advance-done : Same old mid → Does (Some operation) mid new → (t : Turn) × (plan ≡ Ok t) × (next ≡ t.next) × Does t.operation old new
  advance-done kept did = (record { operation = Some operation; next = next }, is, refl, after_keeping old mid new (Some operation) kept did)

  pub advance-failed : Same old mid → MayDo operation mid new → Does None old new ⊎ ((t : Turn) × (plan ≡ Ok t) × Does t.operation old new)
  advance-failed kept (inl not_done) = inl (same kept not_done)
  advance-failed kept (inr done) = inr (record { operation = Some operation; next = next }, is, after_keeping old mid new (Some operation) kept done)

pub asked-one : (plan : Result Turn RunFault) (operation : Operation) (next : Place) (before mid after : ℕ) → plan ≡ Ok (record { operation = Some operation; next = next }) → mid ≡ before → after ≡ counted mid → IsAsked plan before after
asked-one plan operation next before mid after is same one = inr (record { operation = Some operation; next = next }, is, refl, one ∙ ap counted same)

-- the answer of a `?` on a call of the device
pub at_device : (plan : Result Turn RunFault) (old new : Cells) (r : Result Place RunFault) → IsErrAnd r (λ e. e ≡ Device) → Does None old new ⊎ ((t : Turn) × (plan ≡ Ok t) × Does t.operation old new) → IsAdvance plan (λ operation. Does operation old new) r
at_device plan old new (Ok p) h d = absurd h
at_device plan old new (Err Device) h d = d
at_device plan old new (Err (Missing i)) h d = cc
at_device plan old new (Err (Unfinished i)) h d = cc
at_device plan old new (Err (Foreign i)) h d = cc

pub not-not : (b : Bool) → not b ≡ false → b ≡ true
not-not true h = refl
not-not false h = sym h

module _ (records : List PlanRecord) (place : Place) (owner : List ℕ → Option Owner) (mark : Bool) where
  pub turn-start_marked : place ≡ Start → mark ≡ true → turn records place owner mark ≡ marked_turn 0 records owner
  turn-start_marked is set = ap (λ p. turn records p owner mark) is ∙ ap (λ m. cond m (marked_turn 0 records owner) (Ok (record { operation = None; next = record_place records 0 }))) set

  pub turn-start : place ≡ Start → mark ≡ false → turn records place owner mark ≡ Ok (record { operation = None; next = record_place records 0 })
  turn-start is set = ap (λ p. turn records p owner mark) is ∙ ap (λ m. cond m (marked_turn 0 records owner) (Ok (record { operation = None; next = record_place records 0 }))) set

  pub turn-record : (i : ℕ) (planned : PlanRecord) → place ≡ Record i → slice_get records i ≡ Some planned → turn records place owner mark ≡ record_turn i planned (record_place records (i + 1)) (owner planned.path)
  turn-record i planned is there = ap (λ p. turn records p owner mark) is ∙ ap (λ o. turn_at records i o owner) there

  pub turn-sync_owners : place ≡ SyncOwners → turn records place owner mark ≡ Ok (record { operation = Some Sync; next = Mark })
  turn-sync_owners is = ap (λ p. turn records p owner mark) is

  pub turn-mark : place ≡ Mark → turn records place owner mark ≡ Ok (record { operation = Some SetMark; next = SyncMark })
  turn-mark is = ap (λ p. turn records p owner mark) is

  pub turn-sync_mark : place ≡ SyncMark → turn records place owner mark ≡ Ok (record { operation = Some Sync; next = Done })
  turn-sync_mark is = ap (λ p. turn records p owner mark) is

  pub turn-done : place ≡ Done → turn records place owner mark ≡ Ok (record { operation = None; next = Done })
  turn-done is = ap (λ p. turn records p owner mark) is

-- a cell keeps what it has where nothing is done
pub kept : (a : Cells) → Same a a
kept a = record { owners = record { owner = λ path. refl; owner_left = λ path x. (λ h. h, λ h. h) }; mark = record { mark = refl; mark_left = λ m. (λ h. h, λ h. h) } }

pub record_at : {X Y : Type 0} (f : X → Y) (xs : List X) (i : ℕ) (d : X) → i < length (map f xs) → slice_get (map f xs) i ≡ Some (f (get_or xs i d))
record_at f [] i d h = absurd (omega arith)
record_at f (x ∷ xs) zero d h = refl
record_at f (x ∷ xs) (suc i) d h = record_at f xs i d (omega arith)

-- at a record
module _ (records : List PlanRecord) (place : Place) (owner : List ℕ → Option Owner) (mark : Bool) (i : ℕ) (planned : PlanRecord) (next : Place) (is : place ≡ Record i) (there : slice_get records i ≡ Some planned) (after : next ≡ record_place records (i + 1)) where
  pub record-same : record_turn i planned next (owner planned.path) ≡ turn records place owner mark
  record-same = ap (λ n. record_turn i planned n (owner planned.path)) after ∙ sym (turn-record records place owner mark i planned is there)
