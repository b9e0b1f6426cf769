-- What a stop leaves at any moment of a run, and who refuses it.
use Rattle.std.proofs.Common.{◌≡◌, ◌≢◌, ◌⊎◌, inl, inr, ℕ, Bool, true, cond, List, [], ◌∷◌, ◌++◌, Option, None, Some, IfSome, Result, Ok, Err, MatchResult, All, find, refl, sym, ◌∙◌, ap, subst, arith}
use Rattle.std.specs.Str.{bytes_eq}
use Rattle.std.specs.Cmp.Lexicographic.{bytes_decides}
use Rattle.std.proofs.lemmas.List.Elements.{All-head, All-tail, All-cons}
use Rattle.reown_plan.specs.declared.plan.Owner.{Owner}
use Rattle.reown_plan.specs.PlanData.{PlanRecord, HaveDistinctPaths}
use Rattle.reown_runner.specs.declared.runner.Place.{Place}
use Rattle.reown_runner.specs.declared.runner.Place.TheVariants.{Start}
use Rattle.reown_runner.specs.declared.runner.RunFault.{RunFault}
use Rattle.reown_runner.specs.declared.runner.RunFault.TheVariants.{Device}
use Rattle.reown_runner.specs.Tree.{Image}
use Rattle.reown_runner.specs.State.{fresh, cells_at}
use Rattle.reown_runner.specs.Safe.{IsSafeImage, IsSafeInStep}
use Rattle.reown_runner.specs.Finished.{AreOld, IsOldOrNew, after_record}
use Rattle.reown_runner.specs.Run.{Host, HostEvent, Advanced, Advances, Stops, IsRun, turn_of}
use Rattle.reown_runner.proofs.Cellwise.{either}
use Rattle.reown_runner.proofs.Histories.{state_readable, as_done, stop_sound, fresh_stops}
use Rattle.reown_runner.proofs.Runs.{run_sound}
use Rattle.reown_runner.proofs.Sound.{only_device}

-- ---- files

module _ (inventory : List ℕ → Option Owner) (i : Image) (path : List ℕ) where
  abbrev HasOldOrNew : PlanRecord → Type 0
  HasOldOrNew r = (i.owner r.path ≡ Some r.before) ⊎ (i.owner r.path ≡ Some r.after)

  first_has : (records : List PlanRecord) → All HasOldOrNew records → AreOld inventory records → (All (λ r. r.path ≢ path) records → i.owner path ≡ inventory path) → IsOldOrNew inventory records i path
  first_has [] planned old others = inl (others (λ k d h. absurd (omega arith)))
  first_has (r ∷ rs) planned old others =
      let at : Bool → Option Owner = λ b. after_record (cond b (Some r) (find (λ x. bytes_eq path x.path) rs)) (inventory path) in
      elim (either (bytes_eq path r.path)) [
        | inl same ↦
            let here : path ≡ r.path = (bytes_decides path r.path).0 same in
            elim (All-head HasOldOrNew r rs planned) [
              | inl before ↦ inl (ap i.owner here ∙ before ∙ sym (All-head (λ (x : PlanRecord). inventory x.path ≡ Some x.before) r rs old) ∙ sym (ap inventory here))
              | inr after ↦ inr (ap i.owner here ∙ after ∙ sym (ap at same))
            ]
        | inr other ↦
            let differ : r.path ≢ path = λ e. (let t : bytes_eq path r.path ≡ true = (bytes_decides path r.path).1 (sym e) in cc) in
            elim (first_has rs (All-tail HasOldOrNew r rs planned) (All-tail (λ (x : PlanRecord). inventory x.path ≡ Some x.before) r rs old) (λ all. others (All-cons (λ (x : PlanRecord). x.path ≢ path) r rs differ all))) [
              | inl before ↦ inl before
              | inr after ↦ inr (after ∙ sym (ap at other))
            ]
      ]

pub old_or_new : (inventory : List ℕ → Option Owner) (records : List PlanRecord) (image : Image) → AreOld inventory records → IsSafeImage inventory records image → (path : List ℕ) → IsOldOrNew inventory records image path
old_or_new inventory records image old safe path = first_has inventory image path records safe.planned old (safe.others path)

-- ---- fronts of runs

none_in_front : {X : Type 0} (front rest : List X) → front ++ rest ≡ [] → front ≡ []
none_in_front [] rest e = refl
none_in_front (x ∷ xs) rest e = absurd (cc)

module _ (records : List PlanRecord) where
  abbrev Front : Host → List HostEvent → Type 0
  Front host front = (cut : Option RunFault) × (there : Host) × IsRun records host front cut there

  front_step : (host next : Host) (front rest : List HostEvent) (refused : Option RunFault) (end : Host) (answer : Result Place RunFault)
      → (IsRun records next (front ++ rest) refused end → Front next front) → Advanced records host answer next
      → MatchResult answer (λ _. IsRun records next (front ++ rest) refused end) (λ fault. (front ++ rest ≡ []) × (refused ≡ Some fault) × (end ≡ next))
      → Front host (Advances ∷ front)
  front_step host next front rest refused end (Ok place) go a c = let more = go c in (more.0, more.1, (Ok place, next, a, more.2))
  front_step host next front rest refused end (Err fault) go a c = (Some fault, next, (Err fault, next, a, (none_in_front front rest c.0, refl, refl)))

  pub front_of : (host : Host) (front rest : List HostEvent) (refused : Option RunFault) (end : Host) → IsRun records host (front ++ rest) refused end → Front host front
  front_of host [] rest refused end run = (None, host, (refl, refl))
  front_of host (Stops ∷ front) rest refused end run =
      let more = front_of (record { place = Start; state = fresh run.0; asked = host.asked }) front rest refused end run.2 in
      (more.0, more.1, (run.0, run.1, more.2))
  front_of host (Advances ∷ front) rest refused end run = front_step host run.1 front rest refused end run.0 (λ h. front_of run.1 front rest refused end h) run.2 run.3

-- ---- refusals

module _ (inventory : List ℕ → Option Owner) (records : List PlanRecord) (distinct : HaveDistinctPaths records) where
  abbrev SafeHost : Host → Type 0
  SafeHost host = IsSafeInStep inventory records host.place (cells_at host.state)

  abbrev ByDevice : Option RunFault → Type 0
  ByDevice refused = IfSome refused (λ fault. fault ≡ Device)

  pub safe_front : (host : Host) (front rest : List HostEvent) (refused : Option RunFault) (end : Host) → IsRun records host (front ++ rest) refused end → SafeHost host
      → (cut : Option RunFault) × (there : Host) × IsRun records host front cut there × SafeHost there
  safe_front host front rest refused end run safe =
      let f = front_of records host front rest refused end run in
      (f.0, f.1, f.2, run_sound inventory records distinct host front f.0 f.1 safe f.2)

  device_step : (host next : Host) (events : List HostEvent) (refused : Option RunFault) (end : Host) (answer : Result Place RunFault)
      → (SafeHost next → IsRun records next events refused end → ByDevice refused) → SafeHost host → Advanced records host answer next
      → MatchResult answer (λ _. IsRun records next events refused end) (λ fault. (events ≡ []) × (refused ≡ Some fault) × (end ≡ next)) → ByDevice refused
  device_step host next events refused end (Ok place) go safe a c =
      go (run_sound inventory records distinct host (Advances ∷ []) None next safe (Ok place, next, a, (refl, refl))) c
  device_step host next events refused end (Err fault) go safe a c =
      let is = only_device inventory records distinct (cells_at host.state) (cells_at next.state) (state_readable host.state) host.place fault safe (as_done (turn_of records host) host.state next.state (Err fault) a.step) in
      subst ByDevice (sym c.1) is

  pub device_alone : (host : Host) (events : List HostEvent) (refused : Option RunFault) (end : Host) → IsRun records host events refused end → SafeHost host → ByDevice refused
  device_alone host [] refused end run safe = subst ByDevice (sym run.0) tt
  device_alone host (Stops ∷ events) refused end run safe =
      device_alone (record { place = Start; state = fresh run.0; asked = host.asked }) events refused end run.2
      (stop_sound inventory records host.place (cells_at host.state) (cells_at (fresh run.0)) (state_readable host.state) (fresh_stops host.state run.0 run.1) safe)
  device_alone host (Advances ∷ events) refused end run safe = device_step host run.1 events refused end run.0 (λ s rest. device_alone run.1 events refused end rest s) safe run.2 run.3
