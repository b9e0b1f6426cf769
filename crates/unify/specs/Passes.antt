-- Inventories that come in pieces, host by host.
-- Source: this project's own rule.
use Rattle.std.specs.Prelude.{◌≡◌, ◌⊎◌, ℕ, List, [], length}
use Rattle.std.specs.Prelude.{Option, Some, None, Result, Ok, Err, slice_get}
use Rattle.idtext.specs.First.{each}
use Rattle.mtree_inv.specs.declared.entry.Entry.{Entry}
use Rattle.hosts_join.specs.declared.host.Host.{Host}
use Rattle.unify_texts.specs.declared.fault.Fault.{Fault}
use Rattle.unify_texts.specs.declared.fault.Fault.TheVariants.{Memory}
use Rattle.site_tables.specs.Hosts.{files_of}
use Rattle.unify.specs.Count.{site_of}
use Rattle.site_tables.specs.Loading.{loaded_from}

-- ---- one host's inventory

-- only whether there is a fault, and which
abbrev pub is_read : {A : Type 0} → Result A Fault → Result (Unit {0}) Fault
is_read (Ok x) = Ok tt
is_read (Err f) = Err f

-- ---- the fault that ended a reading

-- the fault itself is told, or want of memory to tell it
abbrev pub IsToldAs : Fault → Fault → Type 0
IsToldAs f told = (told ≡ f) ⊎ (told ≡ Memory)

-- an answer that is such a fault
abbrev pub TellsFault : {A : Type 0} → Fault → Result A Fault → Type 0
TellsFault f (Ok x) = ⊥
TellsFault f (Err e) = IsToldAs f e

-- the first fault of a whole inventory, or want of memory
abbrev pub IsFaultOf : Host → List ℕ → Fault → Type 0
IsFaultOf host text f =
    (f ≡ Memory) ⊎ (is_read (files_of (record { host = host; mtree = text })) ≡ Err f)

-- ---- the inventories of all hosts

-- what contracts see of inventories that come in pieces: the hosts; the texts of the inventories
-- that were ended, in their order; the text that has come of the next; and the fault that was met
pub record InventoriesValue : Type 0 where
  pub hosts : List Host
  pub ended : List (List ℕ)
  pub text : List ℕ
  pub met : Option Fault

-- those of these hosts, of which the first were ended with these texts, and no more has come
abbrev pub behind : List Host → List (List ℕ) → InventoriesValue
behind hosts texts = record { hosts = hosts; ended = texts; text = []; met = None }

-- of none of these hosts an inventory has come
abbrev pub at_start : List Host → InventoriesValue
at_start hosts = behind hosts []

-- how many inventories were ended; it is as well the index of the next host
abbrev pub ended_in : InventoriesValue → ℕ
ended_in c = length c.ended

-- the inventory of this host comes next, and no fault was met
abbrev pub IsNext : InventoriesValue → Host → Type 0
IsNext c host = (slice_get c.hosts (ended_in c) ≡ Some host) × (c.met ≡ None)

-- the hosts whose inventories were ended, with their files
abbrev pub read_in : InventoriesValue → Result (List (Host × List Entry)) Fault
read_in c = each site_of (loaded_from c.hosts c.ended)
