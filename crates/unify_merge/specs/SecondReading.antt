-- The inventories as they are read the second time, while plans are written.
-- Source: this project's own rule.
use Rattle.std.specs.Prelude.{◌≡◌, ◌≤◌, ◌<◌, ◌+◌, ℕ, ◌⊎◌, ⊤, List, [], ◌∷◌, ◌++◌, length}
use Rattle.std.specs.Prelude.{map, codes, Some, Ok, Err, IfSome, slice_get}
use Rattle.idtext.specs.First.{each}
use Rattle.mtree_inv.specs.declared.entry.Entry.{Entry}
use Rattle.hosts_join.specs.declared.host.Host.{Host}
use Rattle.hosts_join.specs.declared.texts.HostText.{HostText}
use Rattle.unify_texts.specs.Told.{told}
use Rattle.unify_texts.specs.declared.fault.Fault.{Fault}
use Rattle.unify_texts.specs.declared.fault.Fault.TheVariants.{InventoryChanged}
use Rattle.unify.specs.Count.{site_of}
use Rattle.site_tables.specs.Loading.{loaded_from}
use Rattle.unify.specs.Passes.{is_read}
use Rattle.unify.specs.SecondPass.{HaveSameCounts, IsFresh, SolvedValue, WereFirst, ended_in}
use Rattle.unify.specs.SecondPass.{first_in, second_files, second_lines, whole_plan}
use Rattle.unify.specs.declared.site_files.NamedText.{NamedText}
use Rattle.unify_laws.specs.TwoPasses.{AreReadAgain, AreWholePlans}
use Rattle.unify_merge.specs.Ledger.{HasBegun, Ledger, Reading, after_files}
use Rattle.unify_merge.specs.FirstReading.{AreWithinLimit, HasRead, IsReading, IsWithinLimit}
use Rattle.unify_merge.specs.FirstReading.{StopsFor, readings_from}
use Rattle.unify_merge.specs.declared.fault.MergeFault.{MergeFault}
use Rattle.unify_merge.specs.declared.fault.MergeFault.TheVariants.{Failed, TooLarge, Refused}

-- ---- the second reading of an inventory

-- the turn of the host has come, whose inventory had these files
pub record IsTurnOf (s : SolvedValue) (host : Host) (were : List Entry) : Type 0 where
  pub here : slice_get s.hosts (ended_in s) ≡ Some host
  pub first : WereFirst s host were
  pub fresh : IsFresh s

-- The inventory of a host is not what it was: its whole lines so far have a fault, or a file
-- without an account; or the whole of it has, or a user or a group of the host owns not as many of
-- its files as before.
-- index: that of the host
abbrev pub IsChange : Host → List Entry → ℕ → List Reading → Ledger → Type 0
IsChange host were index before l = (text : List ℕ)
    × ((IsReading before index text l × (f : Fault) × (is_read (second_lines host text) ≡ Err f))
    ⊎ (HasRead before index text l
    × ((files : List Entry) → second_files host text ≡ Ok files → HaveSameCounts host were files
    → ⊥)))

-- the change as it is told
abbrev pub IsChangeFault : Host → List Entry → ℕ → List Reading → Ledger → Fault → Type 0
IsChangeFault host were index before l f =
    (f ≡ InventoryChanged host.name) × IsChange host were index before l

-- why a piece of it, after which this much had come, or its end was refused
abbrev pub StopsPiece : Host → List ℕ → MergeFault → Type 0
StopsPiece host text (Failed e) = ⊤
StopsPiece host text TooLarge = ⊥
StopsPiece host text (Refused e) =
    IfSome (told e) (λ f. (f ≡ InventoryChanged host.name) × (g : Fault)
    × (is_read (second_lines host text) ≡ Err g))

abbrev pub StopsEnd : Host → List Entry → List ℕ → MergeFault → Type 0
StopsEnd host were text (Failed e) = ⊤
StopsEnd host were text TooLarge = ⊥
StopsEnd host were text (Refused e) =
    IfSome (told e) (λ f. (f ≡ InventoryChanged host.name)
    × ((files : List Entry) → second_files host text ≡ Ok files → HaveSameCounts host were files
    → ⊥))

-- why it ended early
abbrev pub StopsSecond : Host → List Entry → ℕ → List Reading → Ledger → MergeFault → Type 0
StopsSecond host were index before l = StopsFor (IsChangeFault host were index before l) l

-- only the file that is written has changed
abbrev pub WritesOnly : Ledger → Ledger → Type 0
WritesOnly old new = new ≡ record old { writing = new.writing }

-- and the readings
abbrev pub IsWithinFile : Ledger → Ledger → Type 0
IsWithinFile old new =
    new ≡ record old { read = new.read; reading = new.reading; writing = new.writing }

-- the text was read, whose files each user and each group of the host owns as many of as before
pub record IsReadAgain (host : Host) (were : List Entry) (text : List ℕ) (files : List Entry) : Type
    0 where
  pub accepted : second_files host text ≡ Ok files
  pub same : HaveSameCounts host were files

-- it was, and the plan for its files is what is written so far
pub record IsPlanned (s : SolvedValue) (host : Host) (were : List Entry) (name : List ℕ)
    (old new : Ledger) : Type 0 where
  pub text : List ℕ
  pub within : IsWithinLimit text
  pub files : List Entry
  pub again : IsReadAgain host were text files
  pub readings : HasRead old.read (ended_in s) text new
  pub written : new.writing
      ≡ Some (record { name = name; text = whole_plan host s.joined s.merged (ended_in s) files })

-- it was, and the plan for its files is a file now
pub record HasPlan (s : SolvedValue) (host : Host) (were : List Entry) (name : List ℕ)
    (old new : Ledger) : Type 0 where
  pub text : List ℕ
  pub within : IsWithinLimit text
  pub files : List Entry
  pub again : IsReadAgain host were text files
  pub readings : HasRead old.read (ended_in s) text new
  pub written : new
      ≡ record (after_files
      (record { name = name; text = whole_plan host s.joined s.merged (ended_in s) files } ∷ [])
      old) { read = new.read; reading = new.reading }

-- after some readings at most one more came to its end
pub record HasReadOneAtMost (before : List Reading) (l : Ledger) : Type 0 where
  pub more : List Reading
  pub one_at_most : length more ≤ 1
  pub readings : l.read ≡ before ++ more

-- no file became whole, and nothing was cleared away
abbrev pub FinishesNone : Ledger → Ledger → Type 0
FinishesNone old new =
    new
    ≡ record old {
      read = new.read;
      reading = new.reading;
      begun = new.begun;
      writing = new.writing;
    }

-- a plan broke off, and is no file
pub record PlanBrokeOff (old new : Ledger) : Type 0 where
  pub reads : HasReadOneAtMost old.read new
  pub no_file : FinishesNone old new

-- ---- those of all inventories

-- the file of a host's plan
abbrev pub plan_name : HostText → List ℕ
plan_name host = codes "plan." ++ host.name

-- the plans of hosts as files, one after the other
abbrev pub plan_files : List HostText → List (List ℕ) → List NamedText
plan_files [] plans = []
plan_files (host ∷ hosts) [] = []
plan_files (host ∷ hosts) (plan ∷ plans) =
    record { name = plan_name host; text = plan } ∷ plan_files hosts plans

-- the inventories of the hosts were read before with these files
pub record WereRead (s : SolvedValue) (read : List (Host × List Entry)) : Type 0 where
  pub hosts : map (λ h. h.0) read ≡ s.hosts
  pub files : first_in s ≡ Ok read

-- The inventories of the hosts were read again as these texts, of which each user and each group of
-- each host owns as many files as before, and the plan of each host is for the files that it has
-- now.
pub record IsPlannedAgain (s : SolvedValue) (read : List (Host × List Entry)) : Type 0 where
  pub texts : List (List ℕ)
  pub one_each : length texts ≡ length s.hosts
  pub within : AreWithinLimit texts
  pub again : List (Host × List Entry)
  pub accepted : each site_of (loaded_from s.hosts texts) ≡ Ok again
  pub same : AreReadAgain (record { hosts = read; joined = s.joined }) again
  pub plans : List (List ℕ)
  pub whole : AreWholePlans (record { hosts = again; joined = s.joined }) s.merged plans

-- they were read so, and these plans are files now
pub record ArePlanned (names : List HostText) (s : SolvedValue) (read : List (Host × List Entry))
    (old new : Ledger) : Type 0 where
  pub site : IsPlannedAgain s read
  pub readings : new.read ≡ old.read ++ readings_from 0 site.texts
  pub files : new
      ≡ record (after_files (plan_files names site.plans) old) {
        read = new.read;
        reading = new.reading;
        writing = new.writing;
      }

-- The inventories of the first hosts were read again as these texts, of which each user and each
-- group of each of these hosts owns as many files as before; and these are the plans for the files
-- that they have now.
-- index: how many hosts
pub record ArePlannedFirst (s : SolvedValue) (read : List (Host × List Entry)) (index : ℕ) : Type 0
  where
    pub texts : List (List ℕ)
    pub again : List (Host × List Entry)
    pub plans : List (List ℕ)
    pub texts_are : length texts ≡ index
    pub within : AreWithinLimit texts
    pub again_are : length again ≡ index
    pub plans_are : length plans ≡ index
    pub accepted : each site_of (loaded_from s.hosts texts) ≡ Ok again
    pub each_host : (k : ℕ) (host : Host) (were : List Entry) → k < index
        → slice_get read k ≡ Some (host, were)
        → (text : List ℕ) × (files : List Entry) × IsReadAgain host were text files
        × (slice_get again k ≡ Some (host, files))
        × (slice_get plans k ≡ Some (whole_plan host s.joined s.merged k files))

-- they were read so, and these plans are files now
pub record PlannedSoFar (names : List HostText) (s : SolvedValue) (read : List (Host × List Entry))
    (index : ℕ) (old new : Ledger) : Type 0 where
  pub site : ArePlannedFirst s read index
  pub readings : new.read ≡ old.read ++ readings_from 0 site.texts
  pub files : new
      ≡ record (after_files (plan_files names site.plans) old) {
        read = new.read;
        reading = new.reading;
        writing = new.writing;
      }

-- the plans of the first hosts are files now, and that of the next, which at most was begun, broke
-- off
pub record PlansBrokeOff (names : List HostText) (s : SolvedValue) (read : List (Host × List Entry))
    (old new : Ledger) : Type 0 where
  pub index : ℕ
  pub name : HostText
  pub here : slice_get names index ≡ Some name
  pub middle : Ledger
  pub so_far : PlannedSoFar names s read index old middle
  pub begun : HasBegun (plan_name name ∷ []) middle new
  pub next : PlanBrokeOff middle new

-- the plans of the hosts from an index on, for these files of theirs
abbrev pub plans_from : SolvedValue → ℕ → List (Host × List Entry) → List (List ℕ)
plans_from s index [] = []
plans_from s index (host ∷ hosts) =
    whole_plan host.0 s.joined s.merged index host.1 ∷ plans_from s (index + 1) hosts

-- the inventories of the first hosts were read again, each user and each group of which owns as
-- many files as before, and that of the next is not what it was
pub record IsSiteChange (read : List (Host × List Entry)) (old new : Ledger) (f : Fault) : Type 0
  where
    pub texts : List (List ℕ)
    pub again : List (Host × List Entry)
    pub accepted : each site_of (loaded_from (map (λ h. h.0) read) texts) ≡ Ok again
    pub same : (k : ℕ) (host : Host) (were files : List Entry)
        → slice_get read k ≡ Some (host, were) → slice_get again k ≡ Some (host, files)
        → HaveSameCounts host were files
    pub host : Host
    pub were : List Entry
    pub here : slice_get read (length texts) ≡ Some (host, were)
    pub change : IsChangeFault host were (length texts) (old.read ++ readings_from 0 texts) new f

-- why they ended early
abbrev pub StopsPlanning : List (Host × List Entry) → Ledger → Ledger → MergeFault → Type 0
StopsPlanning read old new = StopsFor (IsSiteChange read old new) new
