-- Several hosts, whose events come interleaved.
-- Source: this project's own rule.
use Rattle.std.specs.Prelude.{◌≡◌, ◌<◌, ◌≤◌, ◌+◌, ℕ, ◌==◌, Bool, List, Option, None, Some, Result}
use Rattle.std.specs.Prelude.{Ok, Err, IfSome, All, slice_get, take, length, filter_map, true}
use Rattle.std.specs.Prelude.{false, if◌then◌else◌}
use Rattle.reown_plan.specs.declared.plan.Owner.{Owner}
use Rattle.reown_runner.specs.declared.campaign.Event.{Event}
use Rattle.reown_runner.specs.declared.campaign.Event.TheVariants.{Advance, Stop}
use Rattle.reown_runner.specs.declared.campaign.EventFault.{EventFault}
use Rattle.reown_runner.specs.declared.campaign.EventFault.TheVariants.{Run, NoSuchHost}
use Rattle.reown_runner.specs.declared.campaign.DriveFault.{DriveFault}
use Rattle.reown_runner.specs.declared.runner.RunFault.{RunFault}
use Rattle.reown_runner.specs.declared.runner.RunFault.TheVariants.{Device}
use Rattle.reown_runner.specs.declared.runner.Place.{Place}
use Rattle.reown_runner.specs.declared.runner.Place.TheVariants.{Done}
use Rattle.reown_runner.specs.Tree.{TreeData, cells_of}
use Rattle.reown_runner.specs.State.{State, StandsFor}
use Rattle.reown_runner.specs.Safe.{IsSafeInStep}
use Rattle.reown_runner.specs.World.{World, Hosted, IsHostOf}
use Rattle.reown_runner.specs.Run.{HostEvent, Advances, Stops, IsRun, host_at}

-- the host that an event is for
abbrev pub host_of : Event → ℕ
host_of (Advance host) = host
host_of (Stop host) = host

abbrev pub host_event : Event → HostEvent
host_event (Advance host) = Advances
host_event (Stop host) = Stops

-- the events of one host, in their order
abbrev pub own : ℕ → List Event → List HostEvent
own host events =
    filter_map (λ event. if host_of event == host then Some (host_event event) else None) events

-- the refusal of an event, for the host that it is for
abbrev pub refused_for : ℕ → Option Event → EventFault → Option RunFault
refused_for host None fault = None
refused_for host (Some event) NoSuchHost = None
refused_for host (Some event) (Run fault) = if host_of event == host then Some fault else None

-- the events that happened: all of them, or those up to the refused one
abbrev pub happened : List Event → Result Bool DriveFault → List Event
happened events (Ok all) = events
happened events (Err refused) = take (refused.event + 1) events

abbrev pub refused_of : ℕ → List Event → Result Bool DriveFault → Option RunFault
refused_of host events (Ok all) = None
refused_of host events (Err refused) =
    refused_for host (slice_get events refused.event) refused.fault

-- the count of faults rises exactly where the device was the cause
abbrev pub IsToldBy : Option RunFault → ℕ → ℕ → Type 0
IsToldBy None before after = after ≡ before
IsToldBy (Some Device) before after = after ≡ before + 1
IsToldBy (Some fault) before after = after ≡ before

-- one host goes from there to there by its events: its tree by a run of them, with just the writes
-- and syncs of that run
pub record Goes {T : Type 0} (known : T → TreeData) (before : Hosted T) (events : List HostEvent)
    (refused : Option RunFault) (after : Hosted T) : Type 0 where
  pub mark : after.runner.mark ≡ before.runner.mark
  pub records : after.runner.records ≡ before.runner.records
  pub stands : (s : State) → StandsFor before.runner.mark (known before.tree) s
      → (t : State) × StandsFor before.runner.mark (known after.tree) t
      × IsRun before.runner.records (host_at before.runner.place (known before.tree) s) events
      refused (host_at after.runner.place (known after.tree) t)
  pub safe : (inventory : List ℕ → Option Owner)
      → IsSafeInStep inventory before.runner.records before.runner.place
      (cells_of before.runner.mark (known before.tree))
      → IsSafeInStep inventory before.runner.records after.runner.place
      (cells_of before.runner.mark (known after.tree))
  pub device : (inventory : List ℕ → Option Owner)
      → IsSafeInStep inventory before.runner.records before.runner.place
      (cells_of before.runner.mark (known before.tree)) → IfSome refused (λ fault. fault ≡ Device)
  pub told : IsToldBy refused (known before.tree).faults (known after.tree).faults
  pub asked : (known after.tree).asked ≤ (known before.tree).asked + length events

-- each host goes by its own events
abbrev pub EachGoes : {T : Type 0} → (T → TreeData) → World T → List Event → (ℕ → Option RunFault)
    → World T → Type 0
EachGoes {T} known old events refused new =
    (host : ℕ) (before : Hosted T) → IsHostOf old host before → (after : Hosted T)
    × IsHostOf new host after × Goes known before (own host events) (refused host) after

abbrev pub is_done : Place → Bool
is_done Done = true
is_done place = false

-- why an event was refused, for one host
abbrev pub event_refusal : Event → Result (Unit {0}) EventFault → ℕ → Option RunFault
event_refusal event (Ok done) host = None
event_refusal event (Err fault) host = refused_for host (Some event) fault

-- an event is refused for want of its host exactly where there is none
abbrev pub IsForHost : Event → ℕ → Result (Unit {0}) EventFault → Type 0
IsForHost event hosts (Ok done) = host_of event < hosts
IsForHost event hosts (Err NoSuchHost) = hosts ≤ host_of event
IsForHost event hosts (Err (Run fault)) = host_of event < hosts

-- the events before the refused one have their hosts; that one is refused for want of its host
-- exactly where there is none
abbrev pub AreForHosts : List Event → ℕ → Result Bool DriveFault → Type 0
AreForHosts events hosts (Ok all) = All (λ event. host_of event < hosts) events
AreForHosts events hosts (Err refused) =
    (refused.event < length events)
    × All (λ event. host_of event < hosts) (take refused.event events)
    × ((event : Event) → slice_get events refused.event ≡ Some event
    → IsForHost event hosts (Err refused.fault))
