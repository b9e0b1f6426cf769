-- A world of hosts whose events come in one list.
-- Source: this project's own rule.
use Rattle.std.specs.Prelude.{◌≡◌, ◌≢◌, ◌↔◌, ℕ, List, [], ◌∷◌, map, Option}
use Rattle.reown_plan.specs.PlanData.{PlanRecord}
use Rattle.reown_runner.specs.declared.campaign.Event.{Event}
use Rattle.reown_runner.specs.declared.runner.RunFault.{RunFault}
use Rattle.reown_runner.specs.Campaign.{host_of, host_event, own}
use Rattle.reown_runner.specs.Run.{Host, HostEvent, IsRun, AreRuns}

-- One event happens, refused or not: to its own host, and no other host changes.
-- plans: the records of each host's plan, by its number, as its old and its new state
pub record Happens (plans : ℕ → List PlanRecord) (old : ℕ → Host) (event : Event) (new : ℕ → Host) :
    Type 0 where
  pub refused : Option RunFault
  pub goes : IsRun (plans (host_of event)) (old (host_of event)) (host_event event ∷ []) refused
      (new (host_of event))
  pub others : (host : ℕ) → host ≢ host_of event → new host ≡ old host

-- Events of many hosts happen one after the other, in the order of the list.
abbrev pub AllHappen : (ℕ → List PlanRecord) → (ℕ → Host) → List Event → (ℕ → Host) → Type 0
AllHappen plans old [] new = (host : ℕ) → new host ≡ old host
AllHappen plans old (event ∷ events) new =
    (next : ℕ → Host) × Happens plans old event next × AllHappen plans next events new

-- each event as a run by itself
abbrev pub one_by_one : List HostEvent → List (List HostEvent)
one_by_one events = map (λ event. event ∷ []) events

-- They happen so exactly where each host goes by its own events, one by one, whatever happens to
-- the others in between.
abbrev pub HappensHostByHost : Type 0
HappensHostByHost =
    (plans : ℕ → List PlanRecord) (old : ℕ → Host) (events : List Event) (new : ℕ → Host)
    → AllHappen plans old events new
    ↔ ((host : ℕ) → AreRuns (plans host) (old host) (one_by_one (own host events)) (new host))
