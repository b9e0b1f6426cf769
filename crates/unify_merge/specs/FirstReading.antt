-- The inventories as they are read the first time, and counted.
-- Source: this project's own rule.
use Rattle.std.specs.Prelude.{◌≡◌, ℕ, ◌+◌, ◌<◌, ◌≤◌, ◌⊎◌, ⊤, List}
use Rattle.std.specs.Prelude.{[], ◌∷◌, ◌++◌, length, Some, Ok, Err, IfSome, slice_get}
use Rattle.std.specs.List.{All}
use Rattle.idtext.specs.First.{each}
use Rattle.mtree_inv.specs.declared.entry.Entry.{Entry}
use Rattle.hosts_join.specs.declared.host.Host.{Host}
use Rattle.hosts_join.specs.declared.texts.HostText.{HostText}
use Rattle.unify_texts.specs.Told.{told}
use Rattle.unify_texts.specs.declared.fault.Fault.{Fault}
use Rattle.unify.specs.Count.{site_of}
use Rattle.site_tables.specs.Hosts.{files_of, lines_of}
use Rattle.site_tables.specs.Loading.{loaded_from}
use Rattle.unify.specs.Passes.{is_read}
use Rattle.unify_merge.specs.Ledger.{Ledger, Reading}
use Rattle.unify_merge.specs.declared.fault.MergeFault.{MergeFault}
use Rattle.unify_merge.specs.declared.fault.MergeFault.TheVariants.{Failed, TooLarge, Refused}

-- ---- readings

-- those of the inventories of hosts, where the first host has the index
abbrev pub readings_from : ℕ → List (List ℕ) → List Reading
readings_from host [] = []
readings_from host (text ∷ texts) =
    record { host = host; text = text } ∷ readings_from (host + 1) texts

-- after some readings that of a host has come to this text, and goes on
abbrev pub IsReading : List Reading → ℕ → List ℕ → Ledger → Type 0
IsReading before host text l =
    (l.read ≡ before) × (l.reading ≡ Some (record { host = host; text = text }))

-- it has come to its end
abbrev pub HasRead : List Reading → ℕ → List ℕ → Ledger → Type 0
HasRead before host text l = l.read ≡ before ++ record { host = host; text = text } ∷ []

-- the most bytes that an inventory may have
abbrev pub most_inventory_bytes : ℕ
most_inventory_bytes = 4294967295

-- an inventory has no more than these
abbrev pub IsWithinLimit : List ℕ → Type 0
IsWithinLimit text = length text ≤ most_inventory_bytes

-- each of these inventories has no more
abbrev pub AreWithinLimit : List (List ℕ) → Type 0
AreWithinLimit texts = All IsWithinLimit texts

-- the inventory that is read has more
abbrev pub IsTooLarge : Ledger → Type 0
IsTooLarge l =
    (host : ℕ) × (text : List ℕ) × (l.reading ≡ Some (record { host = host; text = text }))
    × (most_inventory_bytes < length text)

-- Why a command ended early: a call failed, of which Failures.antt tells; the inventory that is
-- read is too large; or what was read has one of these faults, or memory was wanting.
abbrev pub StopsFor : (Fault → Type 0) → Ledger → MergeFault → Type 0
StopsFor IsFault l (Failed e) = ⊤
StopsFor IsFault l TooLarge = IsTooLarge l
StopsFor IsFault l (Refused e) = IfSome (told e) IsFault

-- nothing was written in between
abbrev pub ReadsOnly : Ledger → Ledger → Type 0
ReadsOnly old new = new ≡ record old { read = new.read; reading = new.reading }

-- ---- the first reading of an inventory

-- The first fault of the inventory of a host: of its whole lines so far, where its reading ends
-- early; or of the whole of it.
-- index: that of the host
abbrev pub IsFirstFault : Host → ℕ → List Reading → Ledger → Fault → Type 0
IsFirstFault host index before l f = (text : List ℕ)
    × ((IsReading before index text l × (is_read (lines_of host text) ≡ Err f))
    ⊎ (HasRead before index text l
    × (is_read (files_of (record { host = host; mtree = text })) ≡ Err f)))

-- why it ended early
abbrev pub StopsFirst : Host → ℕ → List Reading → Ledger → MergeFault → Type 0
StopsFirst host index before l = StopsFor (IsFirstFault host index before l) l

-- ---- those of all inventories

-- the inventories of the first hosts were read as these texts, each of which is accepted, and that
-- of the next has this fault
pub record IsInventoryFault (hosts : List Host) (old new : Ledger) (f : Fault) : Type 0 where
  pub texts : List (List ℕ)
  pub read : List (Host × List Entry)
  pub accepted : each site_of (loaded_from hosts texts) ≡ Ok read
  pub host : Host
  pub here : slice_get hosts (length texts) ≡ Some host
  pub fault : IsFirstFault host (length texts) (old.read ++ readings_from 0 texts) new f

-- why they ended early
abbrev pub StopsCounting : List Host → Ledger → Ledger → MergeFault → Type 0
StopsCounting hosts old new = StopsFor (IsInventoryFault hosts old new) new

-- ---- inventories that were read

-- the texts of hosts, with these inventories
abbrev pub with_inventories : List HostText → List (List ℕ) → List HostText
with_inventories [] texts = []
with_inventories (host ∷ hosts) [] = []
with_inventories (host ∷ hosts) (text ∷ texts) =
    record host { mtree = text } ∷ with_inventories hosts texts

-- the inventory of each host was read once, in order, as these texts
pub record WereEachRead (hosts : List HostText) (texts : List (List ℕ)) (old new : Ledger) : Type 0
  where
    pub one_each : length texts ≡ length hosts
    pub within : AreWithinLimit texts
    pub readings : new.read ≡ old.read ++ readings_from 0 texts
