-- What a turn leaves of the mark of a tree, of whichever plan it is.
use Rattle.std.proofs.Common.{◌≡◌, ◌≢◌, ◌⊎◌, inl, inr, ℕ, zero, suc, ◌+◌, true, cond, List, [], ◌∷◌, refl, sym, ap, subst, ◌∙◌, arith}
use Rattle.std.specs.Prelude.{Option, None, Some, Result, Ok, Err, IfOk, slice_get, Contains, map}
use Rattle.std.proofs.lemmas.Bool.{cond_both, true≢false}
use Rattle.std.proofs.lemmas.Option.{same_Some}
use Rattle.std.proofs.lemmas.Result.{IfOk-at_ok}
use Rattle.reown_plan.specs.declared.mark.PlanMark.{PlanMark}
use Rattle.reown_plan.specs.declared.plan.Owner.{Owner}
use Rattle.reown_plan.specs.Mark.{is_marked_for}
use Rattle.reown_plan.proofs.Marks.{marks_compare}
use Rattle.reown_plan.specs.Owners.{owner_eq}
use Rattle.reown_plan.specs.PlanData.{PlanRecord}
use Rattle.reown_runner.specs.declared.runner.Place.{Place}
use Rattle.reown_runner.specs.declared.runner.Place.TheVariants.{Record}
use Rattle.reown_runner.specs.declared.runner.RunFault.{RunFault}
use Rattle.reown_runner.specs.declared.runner.RunFault.TheVariants.{Device, Missing, Unfinished, Foreign}
use Rattle.reown_runner.specs.Step.{Turn, record_turn, turn_at, marked_turn, turn, record_place, is_new, not_new, IsAdvance}
use Rattle.reown_runner.specs.Tree.{TreeData, Cells, Operation, Write, SetMark, Sync, Does, MayDo, ForEachPlan, IsMarkedOnlyFor, IsReadable, MarksNoOther, Same, SameMark, Syncs, cells_of}

-- ---- the mark that is read is known by what each plan sees of it

seen : (old new : Option PlanMark) → ((plan : PlanMark) → is_marked_for plan new ≡ is_marked_for plan old) → new ≡ old
seen None None same = refl
seen None (Some m) same = absurd (true≢false (sym ((marks_compare m m).1 refl) ∙ same m))
seen (Some m) None same = absurd (true≢false (sym ((marks_compare m m).1 refl) ∙ sym (same m)))
seen (Some m) (Some n) same = ap (λ (x : PlanMark). Some x) ((marks_compare n m).0 (same m ∙ (marks_compare m m).1 refl))

in_map : {X Y : Type 0} (f : X → Y) (xs : List X) (x : X) (y : Y) → Contains xs x → f x ≡ y → Contains (map f xs) y
in_map f [] x y there e = absurd (omega (arith, there.1))
in_map f (z ∷ xs) x y (zero, l, same) e = (0, omega arith, ap f same ∙ e)
in_map f (z ∷ xs) x y (suc k, l, same) e = let more = in_map f xs x y (k, omega (arith, l), same) e in (suc more.0, omega (arith, more.1), more.2)

later : {X : Type 0} (y : X) (ys : List X) (x : X) → Contains ys x → Contains (y ∷ ys) x
later y ys x there = (suc there.0, omega (arith, there.1), there.2)

from_map : {X Y : Type 0} (f : X → Y) (xs : List X) (y : Y) → Contains (map f xs) y → (x : X) × Contains xs x × (f x ≡ y)
from_map f [] y there = absurd (omega (arith, there.1))
from_map f (x ∷ xs) y (zero, lt, e) = (x, (zero, omega arith, refl), e)
from_map f (x ∷ xs) y (suc k, lt, e) = let more = from_map f xs y (k, omega (arith, lt), e) in (more.0, later x xs more.0 more.1, more.2)

marked : (mark : PlanMark) (m : Option PlanMark) → is_marked_for mark m ≡ true → m ≡ Some mark
marked mark None e = absurd (true≢false (sym e))
marked mark (Some m) e = ap (λ (x : PlanMark). Some x) ((marks_compare m mark).0 e)

left : (mark : PlanMark) (marks : List (Option PlanMark)) → Contains (map (is_marked_for mark) marks) true → Contains marks (Some mark)
left mark marks h =
    let from = from_map (is_marked_for mark) marks true h in
    subst (λ m. Contains marks m) (marked mark from.0 from.2) from.1

has : (mark : PlanMark) (marks : List (Option PlanMark)) → Contains marks (Some mark) → Contains (map (is_marked_for mark) marks) true
has mark marks h = in_map (is_marked_for mark) marks (Some mark) true h ((marks_compare mark mark).1 refl)

-- as a plan sees it, its mark does not come in
abbrev Stays : Cells → Cells → Type 0
Stays old new = (new.mark ≡ old.mark) × (new.mark_left true → old.mark_left true)

-- no mark comes in
abbrev pub NoneComes : TreeData → TreeData → Type 0
NoneComes old new = (new.mark ≡ old.mark) × ((mark : PlanMark) → Contains new.marks_left (Some mark) → Contains old.marks_left (Some mark))

by_each_plan : (old new : TreeData) → ForEachPlan Stays old new → NoneComes old new
by_each_plan old new stays =
    (seen old.mark new.mark (λ plan. (stays plan).0), λ mark there. left mark old.marks_left ((stays mark).1 (has mark new.marks_left there)))

pub in_turn : (old mid new : TreeData) → NoneComes old mid → NoneComes mid new → NoneComes old new
in_turn old mid new first second = (second.0 ∙ first.0, λ mark there. first.1 mark (second.1 mark there))

pub none_comes : (plan : PlanMark) (old new : TreeData) → NoneComes old new → IsMarkedOnlyFor plan old new
none_comes plan old new none = (inl none.0, λ other there. inl (none.1 other there))

pub own_comes : (plan : PlanMark) (old new : TreeData) → MarksNoOther plan old new → IsMarkedOnlyFor plan old new
own_comes plan old new h = (h.0, λ other there. by other (h.1 (Some other) there))
  where
    by : (other : PlanMark) → Contains old.marks_left (Some other) ⊎ (Some other ≡ Some plan) → Contains old.marks_left (Some other) ⊎ (other ≡ plan)
    by other (inl there) = inl there
    by other (inr is) = inr (same_Some other plan is)

pub nothing : (old : TreeData) → NoneComes old old
nothing old = (refl, λ mark there. there)

same_stays : (old new : Cells) → SameMark old new → Stays old new
same_stays old new same = (same.mark, (same.mark_left true).0)

sync_stays : (old new : Cells) → IsReadable old → Syncs old new → Stays old new
sync_stays old new readable did =
    (did.mark, λ there. subst old.mark_left (sym (did.settled.mark true there ∙ did.mark)) readable.mark)

pub read_only : (old new : TreeData) → ForEachPlan Same old new → NoneComes old new
read_only old new same = by_each_plan old new (λ plan. same_stays (cells_of plan old) (cells_of plan new) (same plan).mark)

abbrev Readable : TreeData → Type 0
Readable tree = (plan : PlanMark) → IsReadable (cells_of plan tree)

pub synced : (old new : TreeData) → Readable old → ForEachPlan Syncs old new → NoneComes old new
synced old new readable did = by_each_plan old new (λ plan. sync_stays (cells_of plan old) (cells_of plan new) (readable plan) (did plan))

-- ---- turns that set no mark

abbrev Leaves : Turn → Type 0
Leaves t = t.operation ≢ Some SetMark

does_stays : (operation : Option Operation) (old new : Cells) → IsReadable old → operation ≢ Some SetMark → Does operation old new → Stays old new
does_stays None old new readable other did = same_stays old new did.mark
does_stays (Some (Write path owner)) old new readable other did = same_stays old new did.mark
does_stays (Some SetMark) old new readable other did = absurd (other refl)
does_stays (Some Sync) old new readable other did = sync_stays old new readable did

pub may_sync : (old new : TreeData) → Readable old → ForEachPlan (MayDo Sync) old new → NoneComes old new
may_sync old new readable may = by_each_plan old new (λ plan. by (cells_of plan old) (cells_of plan new) (readable plan) (may plan))
  where
    by : (a b : Cells) → IsReadable a → MayDo Sync a b → Stays a b
    by a b r (inl none) = same_stays a b none.mark
    by a b r (inr did) = sync_stays a b r did

keeps : (plan : Result Turn RunFault) (old new : Cells) (r : Result Place RunFault) → IsReadable old → IfOk plan Leaves → IsAdvance plan (λ operation. Does operation old new) r → Stays old new
keeps plan old new (Ok next) readable leaves h = does_stays h.0.operation old new readable (IfOk-at_ok Leaves h.1 leaves) h.3
keeps plan old new (Err Device) readable leaves (inl none) = same_stays old new none.mark
keeps plan old new (Err Device) readable leaves (inr h) = does_stays h.0.operation old new readable (IfOk-at_ok Leaves h.1 leaves) h.2
keeps plan old new (Err (Missing i)) readable leaves h = same_stays old new h.1.mark
keeps plan old new (Err (Unfinished i)) readable leaves h = same_stays old new h.1.mark
keeps plan old new (Err (Foreign i)) readable leaves h = same_stays old new h.1.mark

record_leaves : (i : ℕ) (planned : PlanRecord) (next : Place) (found : Option Owner) → IfOk (record_turn i planned next found) Leaves
record_leaves i planned next None = tt
record_leaves i planned next (Some owner) =
    let written : Result Turn RunFault = Ok (record { operation = Some (Write planned.path planned.after); next = next }) in
    let passed : Result Turn RunFault = Ok (record { operation = None; next = next }) in
    let third : Result Turn RunFault = Err (Foreign i) in
    cond_both (owner_eq owner planned.before) written (cond (owner_eq owner planned.after) passed third) (λ r. IfOk r Leaves) (λ e. λ is. absurd (cc))
    (λ e. cond_both (owner_eq owner planned.after) passed third (λ r. IfOk r Leaves) (λ f. λ is. absurd (cc)) (λ f. tt))

marked_leaves : (i : ℕ) (records : List PlanRecord) (owner : List ℕ → Option Owner) → IfOk (marked_turn i records owner) Leaves
marked_leaves i [] owner = λ is. absurd (cc)
marked_leaves i (planned ∷ records) owner =
    cond_both (is_new planned (owner planned.path)) (marked_turn (i + 1) records owner) (Err (not_new i planned (owner planned.path))) (λ r. IfOk r Leaves)
    (λ e. marked_leaves (i + 1) records owner) (λ e. tt)

at_record : (records : List PlanRecord) (i : ℕ) (found : Option PlanRecord) (owner : List ℕ → Option Owner) → IfOk (turn_at records i found owner) Leaves
at_record records i None owner = λ is. absurd (cc)
at_record records i (Some planned) owner = record_leaves i planned (record_place records (i + 1)) (owner planned.path)

pub record_keeps : (old new : TreeData) (records : List PlanRecord) (place : Place) (i : ℕ) (r : Result Place RunFault) → Readable old → place ≡ Record i
    → ((plan : PlanMark) → IsAdvance (turn records place old.owner (cells_of plan old).mark) (λ operation. Does operation (cells_of plan old) (cells_of plan new)) r) → NoneComes old new
record_keeps old new records place i r readable is step =
    by_each_plan old new (λ plan. keeps (turn records place old.owner (cells_of plan old).mark) (cells_of plan old) (cells_of plan new) r (readable plan)
    (subst (λ (p : Place). IfOk (turn records p old.owner (cells_of plan old).mark) Leaves) (sym is) (at_record records i (slice_get records i) old.owner)) (step plan))

pub marked_keeps : (old new : TreeData) (records : List PlanRecord) (owner : List ℕ → Option Owner) (r : Result Place RunFault) → Readable old
    → ((plan : PlanMark) → IsAdvance (marked_turn 0 records owner) (λ operation. Does operation (cells_of plan old) (cells_of plan new)) r) → NoneComes old new
marked_keeps old new records owner r readable step =
    by_each_plan old new (λ plan. keeps (marked_turn 0 records owner) (cells_of plan old) (cells_of plan new) r (readable plan) (marked_leaves 0 records owner) (step plan))
