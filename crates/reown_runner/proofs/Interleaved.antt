-- Events of many hosts in one list, host by host.
use Rattle.std.proofs.Common.{◌≡◌, ◌==◌, inl, inr, ℕ, Bool, true, cond, List, [], ◌∷◌, Option, None, Some, Result, Ok, Err, MatchResult, refl, sym, ap, subst}
use Rattle.std.specs.List.{cons_option}
use Rattle.std.proofs.lemmas.Bool.{eq-eqb}
use Rattle.std.proofs.lemmas.Bool.Decides.{eqb_tells}
use Rattle.reown_plan.specs.declared.plan.Owner.{Owner}
use Rattle.reown_plan.specs.PlanData.{PlanRecord, HaveDistinctPaths}
use Rattle.reown_runner.specs.declared.campaign.Event.{Event}
use Rattle.reown_runner.specs.declared.runner.Place.{Place}
use Rattle.reown_runner.specs.declared.runner.Place.TheVariants.{Start}
use Rattle.reown_runner.specs.declared.runner.RunFault.{RunFault}
use Rattle.reown_runner.specs.Campaign.{host_of, host_event, own}
use Rattle.reown_runner.specs.Finished.{AreOld, IsOldOrNew}
use Rattle.reown_runner.specs.Interleaved.{AllHappen, HappensHostByHost, one_by_one}
use Rattle.reown_runner.specs.Run.{Host, HostEvent, Advanced, Advances, Stops, IsRun, AreRuns}
use Rattle.reown_runner.specs.Safe.{IsSafeInStep}
use Rattle.reown_runner.specs.State.{fresh, cells_at}
use Rattle.reown_runner.specs.Tree.{Image, IsImage}
use Rattle.reown_runner.proofs.Moments.{old_or_new}
use Rattle.reown_runner.proofs.Runs.{runs_sound}

-- ---- a run, event by event

module _ (records : List PlanRecord) where
  step_by_itself : (host next : Host) (events : List HostEvent) (refused : Option RunFault) (end : Host) (answer : Result Place RunFault)
      → (IsRun records next events refused end → AreRuns records next (one_by_one events) end) → Advanced records host answer next
      → MatchResult answer (λ _. IsRun records next events refused end) (λ fault. (events ≡ []) × (refused ≡ Some fault) × (end ≡ next))
      → AreRuns records host (one_by_one (Advances ∷ events)) end
  step_by_itself host next events refused end (Ok place) go a c = (None, next, (Ok place, next, a, (refl, refl)), go c)
  step_by_itself host next events refused end (Err fault) go a c =
      (Some fault, next, (Err fault, next, a, (refl, refl, refl)), subst (λ es. AreRuns records next (one_by_one es) end) (sym c.0) c.2)

  pub run_by_events : (host : Host) (events : List HostEvent) (refused : Option RunFault) (end : Host) → IsRun records host events refused end → AreRuns records host (one_by_one events) end
  run_by_events host [] refused end run = run.1
  run_by_events host (Stops ∷ events) refused end run =
      let stopped : Host = record { place = Start; state = fresh run.0; asked = host.asked } in
      (None, stopped, (run.0, run.1, (refl, refl)), run_by_events stopped events refused end run.2)
  run_by_events host (Advances ∷ events) refused end run = step_by_itself host run.1 events refused end run.0 (λ rest. run_by_events run.1 events refused end rest) run.2 run.3

-- ---- events of many hosts

module _ (plans : ℕ → List PlanRecord) where
  -- the runs of a host, whether the first event is its own or not
  abbrev RunsOf : Event → List Event → ℕ → Host → Host → Bool → Type 0
  RunsOf event events host from to is_own = AreRuns (plans host) from (one_by_one (cons_option (cond is_own (Some (host_event event)) None) (own host events))) to

  pub each_runs : (events : List Event) (old new : ℕ → Host) → AllHappen plans old events new → (host : ℕ) → AreRuns (plans host) (old host) (one_by_one (own host events)) (new host)
  each_runs [] old new all host = all host
  each_runs (event ∷ events) old new all host =
      let next = all.0 in
      let rest = each_runs events next new all.2 host in
      elim (eqb_tells (host_of event) host) [
        | inl same ↦
            subst (RunsOf event events host (old host) (new host)) (sym same.0)
            (all.1.refused, next host, subst (λ k. IsRun (plans k) (old k) (host_event event ∷ []) all.1.refused (next k)) same.1 all.1.goes, rest)
        | inr other ↦
            subst (RunsOf event events host (old host) (new host)) (sym other.0)
            (subst (λ from. AreRuns (plans host) from (one_by_one (own host events)) (new host)) (all.1.others host (λ e. other.1 (sym e))) rest)
      ]

  -- the host where its event leaves it, and the others as they were
  abbrev with_host : (ℕ → Host) → ℕ → Host → ℕ → Host
  with_host old k there host = cond (k == host) there (old host)

  pub all_happen : (events : List Event) (old new : ℕ → Host) → ((host : ℕ) → AreRuns (plans host) (old host) (one_by_one (own host events)) (new host)) → AllHappen plans old events new
  all_happen [] old new each = each
  all_happen (event ∷ events) old new each =
      let k = host_of event in
      let at_k : (k == k) ≡ true = eq-eqb k k refl in
      let runs : RunsOf event events k (old k) (new k) true = subst (RunsOf event events k (old k) (new k)) at_k (each k) in
      let there : Host = runs.1 in
      let next = with_host old k there in
      let next_k : next k ≡ there = ap (λ b. cond b there (old k)) at_k in (
        next,
        record {
          refused = runs.0;
          goes = subst (IsRun (plans k) (old k) (host_event event ∷ []) runs.0) (sym next_k) runs.2;
          others = λ host differs. elim (eqb_tells k host) [ inl same ↦ absurd (differs (sym same.1)) | inr other ↦ ap (λ b. cond b there (old host)) other.0 ];
        },
        all_happen events next new (λ host.
            elim (eqb_tells k host) [
              | inl same ↦
                  subst (λ j. AreRuns (plans j) (next j) (one_by_one (own j events)) (new j)) same.1
                  (subst (λ from. AreRuns (plans k) from (one_by_one (own k events)) (new k)) (sym next_k) runs.3)
              | inr other ↦
                  subst (λ from. AreRuns (plans host) from (one_by_one (own host events)) (new host)) (sym (ap (λ b. cond b there (old host)) other.0))
                  (subst (RunsOf event events host (old host) (new host)) other.0 (each host))
            ]),
      )

pub host_by_host : HappensHostByHost
host_by_host plans old events new = (each_runs plans events old new, all_happen plans events old new)

-- ---- safe worlds

pub world_safe : (inventory : ℕ → List ℕ → Option Owner) (plans : ℕ → List PlanRecord) → ((host : ℕ) → HaveDistinctPaths (plans host))
    → (old : ℕ → Host) (events : List Event) (new : ℕ → Host) → AllHappen plans old events new
    → ((host : ℕ) → IsSafeInStep (inventory host) (plans host) (old host).place (cells_at (old host).state))
    → (host : ℕ) → IsSafeInStep (inventory host) (plans host) (new host).place (cells_at (new host).state)
world_safe inventory plans distinct old events new all safe host =
    runs_sound (inventory host) (plans host) (distinct host) (old host) (one_by_one (own host events)) (new host) (safe host) (each_runs plans events old new all host)

pub world_files : (inventory : ℕ → List ℕ → Option Owner) (plans : ℕ → List PlanRecord) → ((host : ℕ) → HaveDistinctPaths (plans host))
    → (old : ℕ → Host) (events : List Event) (new : ℕ → Host) → AllHappen plans old events new
    → ((host : ℕ) → IsSafeInStep (inventory host) (plans host) (old host).place (cells_at (old host).state))
    → (host : ℕ) → AreOld (inventory host) (plans host)
    → (image : Image) → IsImage (cells_at (new host).state) image → (path : List ℕ) → IsOldOrNew (inventory host) (plans host) image path
world_files inventory plans distinct old events new all safe host are_old image is_image =
    old_or_new (inventory host) (plans host) image are_old ((world_safe inventory plans distinct old events new all safe host).safe image is_image)
