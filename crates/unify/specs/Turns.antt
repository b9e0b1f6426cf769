-- What private contracts of the first pass go by: the turn of a host, and what a pass keeps.
-- Source: this project's own rule.
use Rattle.std.specs.Prelude.{◌≡◌, ◌≤◌, ℕ, Bool, true, false, List, [], map, length, All, Option}
use Rattle.std.specs.Prelude.{Some, None, Ok, slice_get}
use Rattle.idtext.specs.First.{each, first_fault}
use Rattle.idtext.specs.declared.faults.ReadError.{ReadError}
use Rattle.mtree_inv.specs.declared.entry.Entry.{Entry}
use Rattle.mtree_inv.specs.Standing as reader
use Rattle.hosts_join.specs.Hosts.{IsLawfulHost}
use Rattle.hosts_join.specs.declared.host.Host.{Host}
use Rattle.unify_texts.specs.declared.fault.Fault.{Fault}
use Rattle.unify_texts.specs.declared.fault.Fault.TheVariants.{Memory}
use Rattle.unify.specs.declared.inventories.Inventories.TheInside.{Inside}
use Rattle.unify.specs.declared.turn.Turn.{Turn}
use Rattle.unify.specs.Count.{site_of}
use Rattle.unify_texts.specs.Limits.{most_files}
use Rattle.site_tables.specs.Hosts.{owner_fault, files_of, read_told}
use Rattle.site_tables.specs.Loading.{loaded_from}
use Rattle.unify.specs.Passes.{InventoriesValue}
use Rattle.unify.specs.RowFiles.{RowFiles, row_files}
use Rattle.unify.specs.Taken.{Taken}

-- ---- the turn of a host

-- the host allows each of the files, and so many of them each row owns; or this is the first that
-- it does not allow
abbrev pub AreCounted : Host → RowFiles → Option Entry → List Entry → Type 0
AreCounted host rows None files =
    (first_fault (owner_fault host) [] files ≡ None) × (rows ≡ row_files host files)
AreCounted host rows (Some e) files =
    (f : Fault) × (owner_fault host [] e ≡ Some f)
    × (first_fault (owner_fault host) [] files ≡ Some f)

-- of the inventory of the host this text has come, in which there is no reader fault so far
pub record TurnsFor (host : Host) (turn : Turn) (text : List ℕ) : Type 0 where
  pub reading : reader.StandsFor turn.reader text
  pub most : turn.reader.most ≡ most_files
  pub going : turn.reader.is_finished ≡ false
  pub sound : turn.reader.fault ≡ None
  pub waiting : turn.reader.waiting ≡ []
  pub counted : AreCounted host turn.rows turn.unowned turn.reader.files

-- the inventory was ended with this text, which was accepted: so many of its files each row owns
pub record IsAccepted (host : Host) (turn : Turn) (text : List ℕ) : Type 0 where
  pub files : List Entry
  pub are : files_of (record { host = host; mtree = text }) ≡ Ok files
  pub few : length files ≤ most_files
  pub rows : turn.rows ≡ row_files host files

-- ---- the fault that a turn came to

abbrev pub or_memory : Option Fault → Fault
or_memory None = Memory
or_memory (Some f) = f

abbrev pub owner_told : Host → Option Entry → Fault
owner_told host None = Memory
owner_told host (Some e) = or_memory (owner_fault host [] e)

abbrev pub met_at : Host → Bool → Option ReadError → Option Entry → Option Fault
met_at host true fault unowned = Some (owner_told host unowned)
met_at host false (Some f) unowned = Some (read_told host f)
met_at host false None unowned = None

-- a reader fault, or at its end a file that the host does not allow
abbrev pub met_by : Host → Turn → Option Fault
met_by host turn = met_at host turn.reader.is_finished turn.reader.fault turn.unowned

abbrev pub met_on : Option Host → Turn → Option Fault
met_on None turn = None
met_on (Some host) turn = met_by host turn

-- ---- the pass

-- what it keeps: how many files each row owns of each host whose inventory was ended, the turn of
-- the next host, and the texts, for contracts alone
pub record Pass : Type 0 where
  pub hosts : List Host
  pub passed : List RowFiles
  pub turn : Turn
  pub taken : Taken

abbrev pub pass_of : Inside → Pass
pass_of c = record {
  hosts = c.hosts.items;
  passed = c.passed.items;
  turn = c.turn;
  taken = c.log.taken;
}

abbrev pub met_in : Pass → Option Fault
met_in p = met_on (slice_get p.hosts (length p.passed)) p.turn

-- how contracts see it
abbrev pub seen : Pass → InventoriesValue
seen p = record {
  hosts = p.hosts;
  ended = p.taken.ended;
  text = p.taken.text;
  met = met_in p;
}

-- the hosts are lawful; the texts that were ended are accepted, and their files counted
pub record AreCounting (hosts : List Host) (ended : List (List ℕ)) (passed : List RowFiles) : Type 0
  where
    pub few : length hosts ≤ 64
    pub lawful : All IsLawfulHost hosts
    pub within : length passed ≤ length hosts
    pub ended_are : length ended ≡ length passed
    pub read : List (Host × List Entry)
    pub accepted : each site_of (loaded_from hosts ended) ≡ Ok read
    pub passed_are : passed ≡ map (λ here. row_files here.0 here.1) read

-- and unless a fault was met the turn is that of the text that has come
pub record AreComing (p : Pass) : Type 0 where
  pub counting : AreCounting p.hosts p.taken.ended p.passed
  pub turns : met_in p ≡ None → (host : Host) → slice_get p.hosts (length p.passed) ≡ Some host
      → TurnsFor host p.turn p.taken.text
