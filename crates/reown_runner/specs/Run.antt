-- The run of one host: its own events in order.
-- Source: this project's own rule.
use Rattle.std.specs.Prelude.{◌≡◌, ℕ, List, [], ◌∷◌, Option, None, Some, Result, Ok, Err, IsOk}
use Rattle.std.specs.Prelude.{MatchResult}
use Rattle.reown_plan.specs.PlanData.{PlanRecord}
use Rattle.reown_runner.specs.declared.runner.Place.{Place}
use Rattle.reown_runner.specs.declared.runner.Place.TheVariants.{Start, Done}
use Rattle.reown_runner.specs.declared.runner.RunFault.{RunFault}
use Rattle.reown_runner.specs.Tree.{Image, IsImage, TreeData}
use Rattle.reown_runner.specs.State.{State, fresh, did, cells_at}
use Rattle.reown_runner.specs.Step.{Turn, turn, place_after, IsAdvance, IsAsked}

-- a host: the place of its runner, its tree, and how many writes and syncs were asked for so far
pub record Host : Type 0 where
  pub place : Place
  pub state : State
  pub asked : ℕ

-- a host at a place, where its tree is known as this and stands for the state
abbrev pub host_at : Place → TreeData → State → Host
host_at place tree s = record { place = place; state = s; asked = tree.asked }

-- an event of one host
pub data HostEvent : Type 0 where
  Advances : HostEvent
  Stops : HostEvent

-- what the next advance of a host is to do
abbrev pub turn_of : List PlanRecord → Host → Result Turn RunFault
turn_of records host =
    turn records host.place (cells_at host.state).owner (cells_at host.state).mark

-- One advance of a host, with its answer: it does its turn on the tree, with no write or sync but
-- that of the turn, and a refusal leaves the place. At the end it does nothing, and is not refused.
pub record Advanced (records : List PlanRecord) (host : Host) (answer : Result Place RunFault)
    (end : Host) : Type 0 where
  pub step : IsAdvance (turn_of records host) (λ operation. end.state ≡ did operation host.state)
      answer
  pub place : end.place ≡ place_after host.place answer
  pub asked : IsAsked (turn_of records host) host.asked end.asked
  pub rests : host.place ≡ Done → IsOk answer × (end.asked ≡ host.asked)

-- From a host, these events in order lead there. A refused advance ends the run.
abbrev pub IsRun : List PlanRecord → Host → List HostEvent → Option RunFault → Host → Type 0
IsRun records host [] refused end = (refused ≡ None) × (end ≡ host)
-- a stop leaves any image, nothing pending, and starts the runner again; it asks for no write and
-- no sync
IsRun records host (Stops ∷ events) refused end =
    (image : Image) × IsImage (cells_at host.state) image
    × IsRun records (record { place = Start; state = fresh image; asked = host.asked }) events
    refused end
IsRun records host (Advances ∷ events) refused end =
    (answer : Result Place RunFault) × (next : Host) × Advanced records host answer next
    × MatchResult answer
    (λ _. IsRun records next events refused end)
    (λ fault. (events ≡ []) × (refused ≡ Some fault) × (end ≡ next))

-- Runs one after the other: each goes on where the one before it ended, refused or not.
abbrev pub AreRuns : List PlanRecord → Host → List (List HostEvent) → Host → Type 0
AreRuns records host [] end = end ≡ host
AreRuns records host (events ∷ more) end =
    (refused : Option RunFault) × (next : Host) × IsRun records host events refused next
    × AreRuns records next more end

-- why a call was refused
abbrev pub refusal : {X : Type 0} → Result X RunFault → Option RunFault
refusal (Ok x) = None
refusal (Err fault) = Some fault
