-- What private contracts of the second pass go by: the turn of a host, and what a pass keeps.
-- Source: this project's own rule.
use Rattle.std.specs.Prelude.{◌≡◌, ◌≤◌, ℕ, Bool, true, false, List, [], length, Option, Some}
use Rattle.std.specs.Prelude.{None, Result, Ok, Err, MatchResult, slice_get}
use Rattle.idtext.specs.First.{first_fault}
use Rattle.idtext.specs.declared.faults.ReadError.{ReadError}
use Rattle.idtext.specs.declared.faults.ReadError.TheVariants as read
use Rattle.mtree_inv.specs.declared.entry.Entry.{Entry}
use Rattle.mtree_inv.specs.Standing as reader
use Rattle.hosts_join.specs.Site.{Joined}
use Rattle.hosts_join.specs.declared.host.Host.{Host}
use Rattle.ownership.specs.Mappings.{AreForSite}
use Rattle.unify_texts.specs.declared.fault.Fault.{Fault}
use Rattle.unify_texts.specs.declared.fault.Fault.TheVariants.{InventoryChanged, Memory}
use Rattle.unify.specs.declared.merging.Merged.{Merged}
use Rattle.unify.specs.declared.plan_turn.PlanTurn.{PlanTurn}
use Rattle.unify.specs.declared.plan_turn.Stop.{Stop}
use Rattle.unify.specs.declared.plan_turn.Stop.TheVariants as stop
use Rattle.unify.specs.declared.solved_pass.Solved.TheInside.{Inside}
use Rattle.unify_texts.specs.Limits.{most_files}
use Rattle.site_tables.specs.Hosts.{owner_fault}
use Rattle.unify.specs.KnownOwners.{AreKnown, NoneIsKnown}
use Rattle.site_tables.specs.Begun.{AreTogether}
use Rattle.unify.specs.RowFiles.{RowFiles, row_files}
use Rattle.unify.specs.SecondPass.{HaveSameCounts, IsUnfinished, SolvedValue, owned_lines}
use Rattle.unify.specs.SecondPass.{plan_before_end, second_files}
use Rattle.unify.specs.Taken.{Taken}
use Rattle.unify.specs.Turns.{AreCounting}

-- ---- the turn of a host

-- nothing as yet, or the plan for the files so far, which has no `end` line
abbrev pub planned_so_far : Host → Joined → Merged → ℕ → Bool → List Entry → List ℕ
planned_so_far host joined merged index false files = []
planned_so_far host joined merged index true files = plan_before_end host joined merged index files

-- why a reader's fault ends the reading
abbrev pub stop_of : ReadError → Stop
stop_of (read.Fault f) = stop.Changed
stop_of read.Memory = stop.Memory

-- the turn of a host of whose second inventory nothing has come
pub record IsFreshTurn (turn : PlanTurn) : Type 0 where
  pub goes : turn.stop ≡ None
  pub reading : reader.StandsFor turn.reader []
  pub most : turn.reader.most ≡ most_files
  pub going : turn.reader.is_finished ≡ false
  pub sound : turn.reader.fault ≡ None
  pub waiting : turn.reader.waiting ≡ []
  pub none : turn.reader.files ≡ []
  pub unknown : NoneIsKnown turn.known.items
  pub unbegun : turn.is_begun ≡ false

-- of the second inventory of the host with the index this text has come, in which there is no fault
-- so far and each file is allowed; and for it this much of a plan was appended
pub record TurnsFor (host : Host) (joined : Joined) (merged : Merged) (index : ℕ) (turn : PlanTurn)
    (text planned : List ℕ) : Type 0 where
  pub goes : turn.stop ≡ None
  pub reading : reader.StandsFor turn.reader text
  pub most : turn.reader.most ≡ most_files
  pub going : turn.reader.is_finished ≡ false
  pub sound : turn.reader.fault ≡ None
  pub waiting : turn.reader.waiting ≡ []
  pub owned : first_fault (owner_fault host) [] turn.reader.files ≡ None
  pub rows : turn.rows ≡ row_files host turn.reader.files
  pub known : AreKnown host joined merged index turn.known.items
  pub none_unbegun : turn.is_begun ≡ false → turn.reader.files ≡ []
  pub planned_is : planned ≡ planned_so_far host joined merged index turn.is_begun turn.reader.files

-- the second inventory was ended with this text, and the plan for it but the `end` line was
-- appended
pub record IsAccepted (host : Host) (joined : Joined) (merged : Merged) (index : ℕ)
    (text planned : List ℕ) : Type 0 where
  pub files : List Entry
  pub are : second_files host text ≡ Ok files
  pub planned_is : planned ≡ plan_before_end host joined merged index files

-- ---- what a call answers

-- the next piece: the turn goes on, or the plan stays without its end
abbrev pub GoesOn : Host → Joined → Merged → ℕ → PlanTurn → List ℕ → Result (Unit {0}) Stop
    → List ℕ → Type 0
GoesOn host joined merged index turn text result planned =
    MatchResult result (λ _. TurnsFor host joined merged index turn text planned)
    (λ _. IsUnfinished host joined merged index text planned)

-- the end: the inventory is accepted, or the plan stays without its end
abbrev pub Ends : Host → Joined → Merged → ℕ → List ℕ → Result (Unit {0}) Stop → List ℕ → Type 0
Ends host joined merged index text result planned =
    MatchResult result (λ _. IsAccepted host joined merged index text planned)
    (λ _. IsUnfinished host joined merged index text planned)

-- what is told of the whole lines of a text
abbrev pub TellsLines : Host → List ℕ → Result (Unit {0}) Stop → Type 0
TellsLines host text result =
    MatchResult result (λ _. (files : List Entry) × (owned_lines host text ≡ Ok files))
    (λ s. s ≡ stop.Changed → (f : Fault) × (owned_lines host text ≡ Err f))

-- what is told of a whole text, where the first pass had files
abbrev pub TellsFiles : Host → List Entry → List ℕ → Result (Unit {0}) Stop → Type 0
TellsFiles host were text result =
    MatchResult result
    (λ _. (files : List Entry) × (second_files host text ≡ Ok files)
    × HaveSameCounts host were files)
    (λ s. s ≡ stop.Changed → (files : List Entry) → second_files host text ≡ Ok files
    → HaveSameCounts host were files → ⊥)

-- ---- why it stopped

-- how the end of a reading is told
abbrev pub stop_told : Host → Stop → Fault
stop_told host stop.Changed = InventoryChanged host.name
stop_told host stop.Memory = Memory

-- the fault that was met
abbrev pub met_on : Option Host → Option Stop → Option Fault
met_on None stopped = None
met_on (Some host) None = None
met_on (Some host) (Some stop) = Some (stop_told host stop)

-- ---- the pass

-- what it keeps: how many files each row of each host owned in the first pass, how many inventories
-- were ended a second time, the turn of the next host, and the texts, for contracts alone
pub record Pass : Type 0 where
  pub hosts : List Host
  pub joined : Joined
  pub passed : List RowFiles
  pub merged : Merged
  pub ended : ℕ
  pub turn : PlanTurn
  pub first : List (List ℕ)
  pub taken : Taken

abbrev pub pass_of : Inside → Pass
pass_of s = record {
  hosts = s.hosts.items;
  joined = s.site;
  passed = s.passed.items;
  merged = s.merged;
  ended = s.ended;
  turn = s.turn;
  first = s.first.taken.ended;
  taken = s.log.taken;
}

-- how contracts see it
abbrev pub seen : Pass → SolvedValue
seen p = record {
  hosts = p.hosts;
  joined = p.joined;
  merged = p.merged;
  first = p.first;
  ended = p.taken.ended;
  text = p.taken.text;
  planned = p.taken.planned;
  met = met_on (slice_get p.hosts p.ended) p.turn.stop;
}

-- the files of the first pass are counted, and what was merged is for the accounts of its hosts
pub record IsBehindFirst (hosts : List Host) (joined : Joined) (merged : Merged)
    (first : List (List ℕ)) (passed : List RowFiles) : Type 0 where
  pub whole : AreTogether hosts joined
  pub for_site : AreForSite joined merged.mappings
  pub one_each : length passed ≡ length hosts
  pub counting : AreCounting hosts first passed

-- and unless a fault was met the turn is that of the text that has come
pub record IsSolving (p : Pass) : Type 0 where
  pub behind : IsBehindFirst p.hosts p.joined p.merged p.first p.passed
  pub ended_are : length p.taken.ended ≡ p.ended
  pub within : p.ended ≤ length p.hosts
  pub turns : (host : Host) → slice_get p.hosts p.ended ≡ Some host → p.turn.stop ≡ None
      → TurnsFor host p.joined p.merged p.ended p.turn p.taken.text p.taken.planned
