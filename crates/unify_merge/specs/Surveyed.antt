-- What a command does that first finds the numbers without an account, where its keep text keeps
-- them: the inventories are read once for that.
-- Source: this project's own rule.
use Rattle.std.specs.Prelude.{◌≡◌, ℕ, ◌⊎◌, List, ◌++◌, length, Ok, Err}
use Rattle.hosts_join.specs.declared.host.Host.{Host}
use Rattle.hosts_join.specs.declared.texts.HostText.{HostText}
use Rattle.kept_accounts.specs.Reserving.{UnownedNumbers}
use Rattle.unify_texts.specs.declared.fault.Fault.{Fault}
use Rattle.unify.specs.declared.counting.Cost.{Cost}
use Rattle.site_tables.specs.Others.{keep_read}
use Rattle.site_tables.specs.Rules.{rules_by}
use Rattle.site_tables.specs.Survey.{found_on, surveyed_hosts}
use Rattle.unify_merge.specs.Check.{HasChecked, StopsCheck}
use Rattle.unify_merge.specs.Count.{HasCounted, StopsCount}
use Rattle.unify_merge.specs.FirstReading.{AreWithinLimit, ReadsOnly, StopsFor, readings_from}
use Rattle.unify_merge.specs.Ledger.{Ledger}
use Rattle.unify_merge.specs.Merge.{HasMerged, MergeBrokeOff, StopsMerge}
use Rattle.unify_merge.specs.Survey.{IsSurveyFault}
use Rattle.unify_merge.specs.declared.fault.MergeFault.{MergeFault}

-- ---- the survey

-- The inventories were read once of those hosts whose files are looked through, which are none or
-- all, and their files have these numbers without an account.
pub record WereFound (hosts : List HostText) (keep : List ℕ) (old new : Ledger)
    (unowned : UnownedNumbers) : Type 0 where
  pub surveying : List Host
  pub surveying_are : surveyed_hosts hosts (keep_read keep) ≡ Ok surveying
  pub texts : List (List ℕ)
  pub one_each : length texts ≡ length surveying
  pub within : AreWithinLimit texts
  pub found : found_on surveying texts ≡ Ok unowned
  pub readings : new.read ≡ old.read ++ readings_from 0 texts
  pub reads : ReadsOnly old new

-- the first fault of what was read: of the tables, or of an inventory
abbrev pub IsFindingFault : List HostText → List ℕ → Ledger → Ledger → Fault → Type 0
IsFindingFault hosts keep old new f =
    ((surveyed_hosts hosts (keep_read keep) ≡ Err f) × (new ≡ old))
    ⊎ ((surveying : List Host) × (surveyed_hosts hosts (keep_read keep) ≡ Ok surveying)
    × IsSurveyFault surveying old new f)

-- why it ended early
abbrev pub StopsFinding : List HostText → List ℕ → Ledger → Ledger → MergeFault → Type 0
StopsFinding hosts keep old new = StopsFor (IsFindingFault hosts keep old new) new

-- ---- after it

-- after a survey this holds of the numbers that it found, and of what was read and written then
pub record AfterSurvey (hosts : List HostText) (keep : List ℕ) (old : Ledger)
    (Holds : UnownedNumbers → Ledger → Type 0) : Type 0 where
  pub unowned : UnownedNumbers
  pub middle : Ledger
  pub surveyed : WereFound hosts keep old middle unowned
  pub holds : Holds unowned middle

abbrev pub HasMergedFiles : List HostText → List ℕ → List ℕ → Ledger → Ledger → Cost → Type 0
HasMergedFiles hosts pins keep old new cost = AfterSurvey hosts keep old
    (λ unowned middle. HasMerged hosts (rules_by pins keep unowned) middle new cost)

abbrev pub StopsMergeFiles : List HostText → List ℕ → List ℕ → Ledger → Ledger → MergeFault → Type 0
StopsMergeFiles hosts pins keep old new fault =
    StopsFinding hosts keep old new fault
    ⊎ AfterSurvey hosts keep old
    (λ unowned middle. StopsMerge hosts (rules_by pins keep unowned) middle new fault)

-- nothing was written or cleared away; or after the survey the writing broke off
abbrev pub LeavesFiles : List HostText → List ℕ → List ℕ → Ledger → Ledger → Type 0
LeavesFiles hosts pins keep old new =
    ReadsOnly old new
    ⊎ AfterSurvey hosts keep old
    (λ unowned middle. MergeBrokeOff hosts (rules_by pins keep unowned) middle new)

abbrev pub HasCheckedFiles : List HostText → List ℕ → List ℕ → List ℕ → Ledger → Ledger → ℕ
    → Type 0
HasCheckedFiles hosts pins keep certificate old new cost = AfterSurvey hosts keep old
    (λ unowned middle. HasChecked hosts (rules_by pins keep unowned) certificate middle new cost)

abbrev pub StopsCheckFiles : List HostText → List ℕ → List ℕ → List ℕ → Ledger → Ledger
    → MergeFault → Type 0
StopsCheckFiles hosts pins keep certificate old new fault =
    StopsFinding hosts keep old new fault
    ⊎ AfterSurvey hosts keep old
    (λ unowned middle.
    StopsCheck hosts (rules_by pins keep unowned) certificate middle new fault)

abbrev pub HasCountedFiles : List HostText → List ℕ → List ℕ → Ledger → Ledger → Cost → Type 0
HasCountedFiles hosts keep map old new cost = AfterSurvey hosts keep old
    (λ unowned middle.
    HasCounted hosts (record { text = keep; unowned = unowned }) map middle new cost)

abbrev pub StopsCountFiles : List HostText → List ℕ → List ℕ → Ledger → Ledger → MergeFault → Type 0
StopsCountFiles hosts keep map old new fault =
    StopsFinding hosts keep old new fault
    ⊎ AfterSurvey hosts keep old
    (λ unowned middle.
    StopsCount hosts (record { text = keep; unowned = unowned }) map middle new fault)
