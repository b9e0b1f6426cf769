-- With which trees a rehearsal of a whole site begins, and which hosts it tells as done, by the events alone.
use Rattle.std.proofs.Common.{◌≡◌, ◌↔◌, ◌≤◌, ◌+◌, ◌-◌, ℕ, zero, suc, true, false, List, [], ◌∷◌, ◌++◌, Option, None, Some, Result, Ok, Err, MatchResult, length, replicate, refl, sym, ap, subst, ◌∙◌, arith}
use Rattle.std.specs.List.{All, Contains, slice_get}
use Rattle.std.specs.Option.{option_map}
use Rattle.std.proofs.lemmas.List.Elements.{All-contains_itself, All-weaker}
use Rattle.std.proofs.lemmas.Option.{same_Some, slice_get-map}
use Rattle.mtree_inv.specs.declared.entry.Entry.{Entry}
use Rattle.hosts_join.specs.declared.host.Host.{Host}
use Rattle.reown_plan.specs.declared.mark.PlanMark.{PlanMark}
use Rattle.reown_plan.specs.declared.plan.Owner.{Owner}
use Rattle.reown_plan.specs.PlanData.{PlanData, PlanRecord}
use Rattle.reown_plan.specs.Target.{host_plan}
use Rattle.reown_runner.specs.declared.campaign.Event.{Event}
use Rattle.reown_runner.specs.declared.memory.Keep.{Keep}
use Rattle.reown_runner.specs.declared.runner.Place.{Place}
use Rattle.reown_runner.specs.declared.runner.Place.TheVariants.{Start, Record, SyncOwners, Mark, SyncMark, Done}
use Rattle.reown_runner.specs.declared.runner.RunFault.{RunFault}
use Rattle.reown_runner.specs.Campaign.{is_done, own}
use Rattle.reown_runner.specs.Memory.{Mem, known_mem, owner_in}
use Rattle.reown_runner.specs.Run.{Host as Running, HostEvent, Advanced, Advances, Stops, IsRun, host_at}
use Rattle.reown_runner.specs.RunnerData.{RunnerData}
use Rattle.reown_runner.specs.State.{State, StandsFor, fresh, cells_at, owner_after}
use Rattle.reown_runner.specs.Step.{IsPlaceOf, advances_left}
use Rattle.reown_runner.specs.Tree.{Image, Operation, TreeData, cells_of}
use Rattle.reown_runner.specs.World.{Hosted}
use Rattle.reown_runner.proofs.Count.{most_left, nearer, next_fits}
use Rattle.reown_runner.proofs.Finishing.{done_after, fresh_stands}
use Rattle.reown_runner.proofs.Memories.{new_fresh}
use Rattle.unify.specs.Outcomes.{hosts_in}
use Rattle.unify.specs.Reading.{WholeSite}
use Rattle.unify_laws.proofs.SiteRuns.{first_of, first_there, is_at_done}
use Rattle.unify_bundle.specs.declared.rehearsing_site.SiteRun.{SiteRun}
use Rattle.unify_bundle.specs.SiteRuns.{IsSiteRun}
use Rattle.unify_bundle.specs.SiteRunLaws.{BeginAsInventories, SiteRunsFinish, LastAdvancesFinish, LastStopsUndo}

-- ---- runs in which no event is refused

module _ (records : List PlanRecord) where
  -- an advance, and the run after it
  advanced : (host next end : Running) (events : List HostEvent) (answer : Result Place RunFault) → IsPlaceOf records host.place → Advanced records host answer next
      → MatchResult answer (λ _. IsRun records next events None end) (λ fault. (events ≡ []) × (None ≡ Some fault) × (end ≡ next))
      → IsPlaceOf records next.place × (advances_left records next.place ≤ advances_left records host.place - 1) × IsRun records next events None end
  advanced host next end events (Ok place) fits a rest =
      let owner = (cells_at host.state).owner in
      let mark = (cells_at host.state).mark in
      let is : next.place ≡ a.step.0.next = a.place ∙ a.step.2 in (
        subst (IsPlaceOf records) (sym is) (next_fits records owner host.place mark a.step.0 fits a.step.1),
        subst (λ p. advances_left records p ≤ advances_left records host.place - 1) (sym is) (nearer records owner host.place mark a.step.0 fits a.step.1),
        rest,
      )
  advanced host next end events (Err fault) fits a rest = absurd (let none : None ≡ Some fault = rest.1 in cc)

  -- its last events are a run from a place of the plan
  last_events : (first last : List HostEvent) (host end : Running) → IsPlaceOf records host.place → IsRun records host (first ++ last) None end → (mid : Running) × IsPlaceOf records mid.place × IsRun records mid last None end
  last_events [] last host end fits run = (host, fits, run)
  last_events (Stops ∷ first) last host end fits run = last_events first last (record { place = Start; state = fresh run.0; asked = host.asked }) end tt run.2
  last_events (Advances ∷ first) last host end fits run =
      let on = advanced host run.1 end (first ++ last) run.0 fits run.2 run.3 in
      last_events first last run.1 end on.0 on.2

  left_after : (n : ℕ) (host end : Running) → IsPlaceOf records host.place → IsRun records host (replicate n Advances) None end → advances_left records end.place ≤ advances_left records host.place - n
  left_after zero host end fits run =
      let same : advances_left records end.place ≡ advances_left records host.place = ap (λ (h : Running). advances_left records h.place) run.1 in
      omega arith
  left_after (suc m) host end fits run =
      let on = advanced host run.1 end (replicate m Advances) run.0 fits run.2 run.3 in
      let rest = left_after m run.1 end on.0 on.2 in
      omega (arith, on.1)

  none_left : (place : Place) → advances_left records place ≡ 0 → is_done place ≡ true
  none_left Start e = absurd (omega arith)
  none_left (Record i) e = absurd (omega arith)
  none_left SyncOwners e = absurd (omega arith)
  none_left Mark e = absurd (omega arith)
  none_left SyncMark e = absurd (omega arith)
  none_left Done e = refl

  done_at_last : (first : List HostEvent) (n : ℕ) (host end : Running) → IsPlaceOf records host.place → IsRun records host (first ++ replicate n Advances) None end → length records + 4 ≤ n → is_done end.place ≡ true
  done_at_last first n host end fits run enough =
      let last = last_events first (replicate n Advances) host end fits run in
      let left = left_after n last.0 end last.1 last.2 in
      let most = most_left records last.0.place in
      none_left end.place (omega arith)

  stopped_at_last : (first : List HostEvent) (host end : Running) → IsPlaceOf records host.place → IsRun records host (first ++ Stops ∷ []) None end → is_done end.place ≡ false
  stopped_at_last first host end fits run =
      let last = last_events first (Stops ∷ []) host end fits run in
      ap (λ (h : Running). is_done h.place) last.2.2.1

-- ---- a tree to which nothing has happened

-- a front of no operations is none
no_front : (front lost : List Operation) → front ++ lost ≡ [] → front ≡ []
no_front [] lost e = refl
no_front (operation ∷ front) lost e = absurd (cc)

-- a tree that stands for an image has just the image's owners
stands_still : (mark : PlanMark) (tree : TreeData) (image : Image) → StandsFor mark tree (fresh image) → (path : List ℕ) → (tree.owner path ≡ image.owner path) × All (λ left. left ≡ image.owner path) (tree.owners_left path)
stands_still mark tree image stands path =
    let read : List Operation → Option Owner = owner_after (fresh image) path in
    let left_there : (x : Option Owner) → Contains (tree.owners_left path) x → x ≡ image.owner path = λ x there. (
    let left = stands.owners.owner_left path x there in
    left.2 ∙ ap read (no_front left.0 left.1.lost left.1.whole)
    ) in (
      stands.owners.owner path,
      All-weaker (Contains (tree.owners_left path)) (λ x. x ≡ image.owner path) left_there (tree.owners_left path) (All-contains_itself (tree.owners_left path)),
    )

-- ---- a host of a rehearsal

module _ (keep : Keep) (events : List Event) (site : WholeSite) (run : SiteRun) (is : IsSiteRun keep events site run) (h : ℕ) (host : Host) (files : List Entry) (here : slice_get site.hosts h ≡ Some (host, files)) where
  abbrev plan : PlanData
  plan = host_plan (hosts_in site) site.joined is.merged.mappings h files

  abbrev first : Hosted Mem
  first = first_of keep site is.merged.mappings h files

  -- nothing has happened since its tree was as the inventory
  abbrev begins : Running
  begins = host_at Start (known_mem first.tree) (fresh (record { owner = owner_in files; mark = false }))

  -- its runner comes where its own events lead, and is told as done as it is there
  ran : (own_are : List HostEvent) → own h events ≡ own_are → (end : Running) × IsRun plan.records begins own_are None end × (slice_get run.done.items h ≡ Some (is_done end.place))
  ran own_are same =
      let went = is.went h first (first_there keep site is.merged.mappings h host files here) in
      let last = went.0 in
      let mark = first.runner.mark in
      let start = fresh_stands (owner_in files) (cells_of mark (known_mem first.tree)) (new_fresh files mark) in
      let goes = went.2.stands (fresh (record { owner = owner_in files; mark = false })) start in
      let end : Running = host_at last.runner.place (known_mem last.tree) goes.0 in (
        end,
        subst (λ (es : List HostEvent). IsRun plan.records begins es None end) same goes.2,
        ap (λ bs. slice_get bs h) is.done ∙ slice_get-map (λ (r : RunnerData). is_done r.place) is.runners h ∙ ap (option_map (λ (r : RunnerData). is_done r.place)) went.1.runner,
      )

  begins_there : own h events ≡ [] → (tree : Mem) → slice_get run.trees.items h ≡ Some tree → (path : List ℕ) → ((known_mem tree).owner path ≡ owner_in files path) × All (λ left. left ≡ owner_in files path) ((known_mem tree).owners_left path)
  begins_there none tree at path =
      let went = is.went h first (first_there keep site is.merged.mappings h host files here) in
      let last = went.0 in
      let mark = first.runner.mark in
      let image : Image = record { owner = owner_in files; mark = false } in
      let start = fresh_stands (owner_in files) (cells_of mark (known_mem first.tree)) (new_fresh files mark) in
      let goes = went.2.stands (fresh image) start in
      let ended : IsRun plan.records begins [] None (host_at last.runner.place (known_mem last.tree) goes.0) = subst (λ (es : List HostEvent). IsRun plan.records begins es None (host_at last.runner.place (known_mem last.tree) goes.0)) none goes.2 in
      let same_state : goes.0 ≡ fresh image = ap (λ (r : Running). r.state) ended.1 in
      let same_tree : last.tree ≡ tree = same_Some last.tree tree (sym went.1.tree ∙ at) in
      let stands : StandsFor mark (known_mem tree) (fresh image) = subst (λ (t : Mem). StandsFor mark (known_mem t) (fresh image)) same_tree (subst (λ (s : State). StandsFor mark (known_mem last.tree) s) same_state goes.1) in
      stands_still mark (known_mem tree) image stands path

  finishes : (n : ℕ) → own h events ≡ replicate n Advances → (slice_get run.done.items h ≡ Some true) ↔ (length plan.records + 4 ≤ n)
  finishes n same =
      let went = ran (replicate n Advances) same in
      let end = went.0 in
      let exact = done_after plan.records n begins end refl refl went.1 in (
        λ told. exact.0 (is_at_done end.place (same_Some (is_done end.place) true (sym went.2 ∙ told))),
        λ enough. went.2 ∙ ap (λ p. Some (is_done p)) (exact.1 enough),
      )

  finishes_at_last : (before : List HostEvent) (n : ℕ) → own h events ≡ before ++ replicate n Advances → length plan.records + 4 ≤ n → slice_get run.done.items h ≡ Some true
  finishes_at_last before n same enough =
      let went = ran (before ++ replicate n Advances) same in
      went.2 ∙ ap (λ b. Some b) (done_at_last plan.records before n begins went.0 tt went.1 enough)

  undone_at_last : (before : List HostEvent) → own h events ≡ before ++ Stops ∷ [] → slice_get run.done.items h ≡ Some false
  undone_at_last before same =
      let went = ran (before ++ Stops ∷ []) same in
      went.2 ∙ ap (λ b. Some b) (stopped_at_last plan.records before begins went.0 tt went.1)

pub begin_as_inventories : BeginAsInventories
begin_as_inventories keep events site run is h host files here none tree at path = begins_there keep events site run is h host files here none tree at path

pub site_runs_finish : SiteRunsFinish
site_runs_finish keep events site run is h n host files here same = finishes keep events site run is h host files here n same

pub last_advances_finish : LastAdvancesFinish
last_advances_finish keep events site run is h n host files here before same enough = finishes_at_last keep events site run is h host files here before n same enough

pub last_stops_undo : LastStopsUndo
last_stops_undo keep events site run is h host files here before same = undone_at_last keep events site run is h host files here before same
