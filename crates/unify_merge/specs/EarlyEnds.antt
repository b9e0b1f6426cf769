-- What a merge leaves that ended early, and when an inventory is told to be too large.
-- Source: this project's own rule.
use Rattle.std.specs.Prelude.{◌≡◌, ◌≢◌, ◌≤◌, ◌<◌, ◌+◌, ◌⊎◌, ◌++◌, ⊤}
use Rattle.std.specs.Prelude.{ℕ, List, [], Ok, Some, length}
use Rattle.mtree_inv.specs.declared.entry.Entry.{Entry}
use Rattle.hosts_join.specs.declared.host.Host.{Host}
use Rattle.hosts_join.specs.declared.texts.HostText.{HostText}
use Rattle.kept_accounts.specs.Reserving.{UnownedNumbers}
use Rattle.unify_texts.specs.declared.fault.Fault.{Fault}
use Rattle.unify_texts.specs.declared.fault.Fault.TheVariants.{InventoryChanged, Memory}
use Rattle.site_tables.specs.declared.rules.SiteRules.{SiteRules}
use Rattle.site_tables.specs.Begun.{BegunSite, site_begun}
use Rattle.site_tables.specs.Rules.{rules_by}
use Rattle.unify_merge.specs.FirstReading.{StopsFor, readings_from}
use Rattle.unify_merge.specs.Ledger.{Ledger, Reading}
use Rattle.unify_merge.specs.Merge.{AreInventories, Leaves, MergeBrokeOff, StopsMerge}
use Rattle.unify_merge.specs.Merge.{merged_files}
use Rattle.unify_merge.specs.NamedFiles.{Have}
use Rattle.unify_merge.specs.Surveyed.{LeavesFiles, StopsMergeFiles, WereFound}
use Rattle.unify_merge.specs.declared.fault.MergeFault.TheVariants.{Refused, TooLarge}

-- ---- the files of an earlier merge

-- nothing was cleared away or written in between
pub record AreAsBefore (old new : Ledger) : Type 0 where
  pub clear : new.is_clear ≡ old.is_clear
  pub begun : new.begun ≡ old.begun
  pub finished : new.finished ≡ old.finished
  pub settled : new.settled ≡ old.settled
  pub writing : new.writing ≡ old.writing

-- The tables and the rules were accepted. After some readings the inventory of each host was read
-- to its end, in order, and each of these is accepted; only then any other came to its end.
abbrev pub WereAccepted : List HostText → SiteRules → List Reading → Ledger → Type 0
WereAccepted texts rules before l =
    (begun : BegunSite) × (site_begun texts rules ≡ Ok begun) × (first : List (List ℕ))
    × (were : List (Host × List Entry)) × AreInventories begun.hosts first were
    × (more : List Reading) × (l.read ≡ (before ++ readings_from 0 first) ++ more)

abbrev pub EarlyEndsLeaveAll : Type 0
EarlyEndsLeaveAll = (texts : List HostText) (rules : SiteRules) (old new : Ledger)
    → Leaves texts rules old new → AreAsBefore old new ⊎ WereAccepted texts rules old.read new

-- so it is after a survey, by the numbers without an account that it found
abbrev pub EarlyEndsLeaveFiles : Type 0
EarlyEndsLeaveFiles = (texts : List HostText) (pins keep : List ℕ) (old new : Ledger)
    → LeavesFiles texts pins keep old new → AreAsBefore old new
    ⊎ ((unowned : UnownedNumbers) × (middle : Ledger) × WereFound texts keep old middle unowned
    × WereAccepted texts (rules_by pins keep unowned) middle.read new)

-- where a fault is told that is neither want of memory nor a change of an inventory, nothing was
-- cleared away or written
abbrev pub RefusalsWriteNothing : Type 0
RefusalsWriteNothing = (texts : List HostText) (rules : SiteRules) (old new : Ledger) (f : Fault)
    → f ≢ Memory → ((host : List ℕ) → f ≢ InventoryChanged host)
    → StopsMerge texts rules old new (Refused f) → AreAsBefore old new

-- so it is where a fault is told after a survey or of it
abbrev pub RefusedFilesWriteNothing : Type 0
RefusedFilesWriteNothing =
    (texts : List HostText) (pins keep : List ℕ) (old new : Ledger) (f : Fault)
    → f ≢ Memory → ((host : List ℕ) → f ≢ InventoryChanged host)
    → StopsMergeFiles texts pins keep old new (Refused f) → LeavesFiles texts pins keep old new
    → AreAsBefore old new

-- ---- the files of a merge that broke off

-- each of them that is whole has its text; at most one more was begun; none is settled
pub record AreOfMerge (texts : List HostText) (rules : SiteRules) (old new : Ledger)
    (b : MergeBrokeOff texts rules old new) : Type 0 where
  pub whole : (name text : List ℕ) → Have new.finished name text
      → Have (merged_files texts b.begun b.is_correct.mappings b.outcome) name text
  pub begun : length new.begun ≤ length new.finished + 1
  pub settled : new.settled ≡ []

abbrev pub WholeFilesAreMerged : Type 0
WholeFilesAreMerged = (texts : List HostText) (rules : SiteRules) (old new : Ledger)
    (b : MergeBrokeOff texts rules old new) → AreOfMerge texts rules old new b

-- ---- what is told

-- where an inventory is told to be too large, more than 4294967295 bytes of it were read
abbrev pub TooLargeIsTooLarge : Type 0
TooLargeIsTooLarge = (l : Ledger) → StopsFor (λ fault. ⊤) l TooLarge
    → (r : Reading) × (l.reading ≡ Some r) × (4294967295 < length r.text)
