-- Runs of one host.
use Rattle.std.proofs.Common.{◌≡◌, ℕ, ◌+◌, List, [], ◌∷◌, ◌++◌, Option, None, Some, Result, Ok, Err, MatchResult, replicate, refl, sym, subst}
use Rattle.std.proofs.lemmas.List.{replicate-append-replicate}
use Rattle.reown_plan.specs.declared.plan.Owner.{Owner}
use Rattle.reown_plan.specs.PlanData.{PlanRecord, HaveDistinctPaths}
use Rattle.reown_runner.specs.declared.runner.Place.{Place}
use Rattle.reown_runner.specs.declared.runner.Place.TheVariants.{Start}
use Rattle.reown_runner.specs.declared.runner.RunFault.{RunFault}
use Rattle.reown_runner.specs.declared.runner.Progress.{Progress}
use Rattle.reown_runner.specs.State.{fresh, cells_at}
use Rattle.reown_runner.specs.Safe.{IsSafeInStep}
use Rattle.reown_runner.specs.Step.{moved}
use Rattle.reown_runner.specs.Run.{Host, HostEvent, Advanced, Advances, Stops, IsRun, AreRuns, refusal, turn_of}
use Rattle.reown_runner.proofs.Sound.{sound_after}
use Rattle.reown_runner.proofs.Histories.{state_readable, as_done, stop_sound, fresh_stops}

module _ (records : List PlanRecord) where
  run_on : (first : List HostEvent) (mid : Host) (rest : List HostEvent) (refused : Option RunFault) (end next : Host) (answer : Result Place RunFault)
      → (IsRun records next first None mid → IsRun records next (first ++ rest) refused end)
      → MatchResult answer (λ _. IsRun records next first None mid) (λ fault. (first ≡ []) × (None ≡ Some fault) × (mid ≡ next))
      → MatchResult answer (λ _. IsRun records next (first ++ rest) refused end) (λ fault. (first ++ rest ≡ []) × (refused ≡ Some fault) × (end ≡ next))
  run_on first mid rest refused end next (Ok place) go a = go a
  run_on first mid rest refused end next (Err fault) go a = absurd cc

  pub run_then : (host : Host) (first : List HostEvent) (mid : Host) (rest : List HostEvent) (refused : Option RunFault) (end : Host) → IsRun records host first None mid → IsRun records mid rest refused end → IsRun records host (first ++ rest) refused end
  run_then host [] mid rest refused end a b = subst (λ h. IsRun records h rest refused end) a.1 b
  run_then host (Stops ∷ first) mid rest refused end a b = (a.0, a.1, run_then (record { place = Start; state = fresh a.0; asked = host.asked }) first mid rest refused end a.2 b)
  run_then host (Advances ∷ first) mid rest refused end a b = (a.0, a.1, a.2, run_on first mid rest refused end a.1 a.0 (λ h. run_then a.1 first mid rest refused end h b) a.3)

  pub run_one : (host end : Host) (result : Result Progress RunFault) → Advanced records host (moved end.place result) end → IsRun records host (Advances ∷ []) (refusal result) end
  run_one host end (Ok progress) a = (Ok end.place, end, a, (refl, refl))
  run_one host end (Err fault) a = (Err fault, end, a, (refl, refl, refl))

  -- one more advance
  pub run_more : (host : Host) (n : ℕ) (mid : Host) (refused : Option RunFault) (end : Host) → IsRun records host (replicate n Advances) None mid → IsRun records mid (Advances ∷ []) refused end → IsRun records host (replicate (n + 1) Advances) refused end
  run_more host n mid refused end a b = subst (λ es. IsRun records host es refused end) (replicate-append-replicate n 1 Advances) (run_then host (replicate n Advances) mid (Advances ∷ []) refused end a b)

module _ (inventory : List ℕ → Option Owner) (records : List PlanRecord) (distinct : HaveDistinctPaths records) where
  abbrev SoundHost : Host → Type 0
  SoundHost host = IsSafeInStep inventory records host.place (cells_at host.state)

  -- a sound host stays so over an advance
  step_sound : (host next : Host) (answer : Result Place RunFault) → SoundHost host → Advanced records host answer next → SoundHost next
  step_sound host next answer s a =
      subst (λ p. IsSafeInStep inventory records p (cells_at next.state)) (sym a.place)
      (sound_after inventory records distinct (cells_at host.state) (cells_at next.state) (state_readable host.state) host.place answer s (as_done (turn_of records host) host.state next.state answer a.step))

  run_step : (host next : Host) (events : List HostEvent) (refused : Option RunFault) (end : Host) (answer : Result Place RunFault) → (SoundHost next → IsRun records next events refused end → SoundHost end) → SoundHost host → Advanced records host answer next
      → MatchResult answer (λ _. IsRun records next events refused end) (λ fault. (events ≡ []) × (refused ≡ Some fault) × (end ≡ next)) → SoundHost end
  run_step host next events refused end (Ok place) go s a c = go (step_sound host next (Ok place) s a) c
  run_step host next events refused end (Err fault) go s a c = subst SoundHost (sym c.2) (step_sound host next (Err fault) s a)

  -- so whatever happens
  pub run_sound : (host : Host) (events : List HostEvent) (refused : Option RunFault) (end : Host) → SoundHost host → IsRun records host events refused end → SoundHost end
  run_sound host [] refused end s c = subst SoundHost (sym c.1) s
  run_sound host (Stops ∷ events) refused end s c =
      run_sound (record { place = Start; state = fresh c.0; asked = host.asked }) events refused end (stop_sound inventory records host.place (cells_at host.state) (cells_at (fresh c.0)) (state_readable host.state) (fresh_stops host.state c.0 c.1) s) c.2
  run_sound host (Advances ∷ events) refused end s c = run_step host c.1 events refused end c.0 (λ safe rest. run_sound c.1 events refused end safe rest) s c.2 c.3

  -- and over run after run
  pub runs_sound : (host : Host) (runs : List (List HostEvent)) (end : Host) → SoundHost host → AreRuns records host runs end → SoundHost end
  runs_sound host [] end s c = subst SoundHost (sym c) s
  runs_sound host (events ∷ more) end s c = runs_sound c.1 more end (run_sound host events c.0 c.1 s c.2) c.3

-- a run goes on by an advance
pub goes_on : (records now_changes : List PlanRecord) → now_changes ≡ records → (host : Host) (n : ℕ) (mid end : Host) (result : Result Progress RunFault)
    → IsRun records host (replicate n Advances) None mid → Advanced now_changes mid (moved end.place result) end → IsRun records host (replicate (n + 1) Advances) (refusal result) end
goes_on records now_changes same host n mid end result run advance =
    run_more records host n mid (refusal result) end run (run_one records mid end result (subst (λ cs. Advanced cs mid (moved end.place result) end) same advance))
