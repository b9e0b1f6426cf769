-- A command goes by the texts that it is given.
-- Source: this project's own rule.
use Rattle.std.specs.Prelude.{◌≡◌, ◌⊎◌, ℕ, List, []}
use Rattle.hosts_join.specs.declared.texts.HostText.{HostText}
use Rattle.unify.specs.declared.counting.Cost.{Cost}
use Rattle.site_tables.specs.declared.rules.SiteRules.{SiteRules}
use Rattle.unify_merge.specs.Check.{HasChecked, StopsCheck}
use Rattle.unify_merge.specs.Count.{HasCounted, StopsCount}
use Rattle.unify_merge.specs.FirstReading.{ReadsOnly}
use Rattle.unify_merge.specs.Ledger.{Ledger}
use Rattle.unify_merge.specs.Merge.{HasMerged, MergeBrokeOff, StopsMerge}
use Rattle.unify_merge.specs.Surveyed.{HasCheckedFiles, HasCountedFiles, HasMergedFiles}
use Rattle.unify_merge.specs.Surveyed.{LeavesFiles, StopsCheckFiles, StopsCountFiles}
use Rattle.unify_merge.specs.Surveyed.{StopsFinding, StopsMergeFiles, WereFound}
use Rattle.unify_merge.specs.declared.fault.MergeFault.{MergeFault}

-- This holds of rules that have the pins text and the keep text that were given, and the numbers
-- without an account that a survey found by that keep text; and of what was read and written then.
pub record GoesBy (hosts : List HostText) (pins keep : List ℕ) (old : Ledger)
    (Holds : SiteRules → Ledger → Type 0) : Type 0 where
  pub rules : SiteRules
  pub middle : Ledger
  pub pins_are : rules.pins ≡ pins
  pub keep_is : rules.keep.text ≡ keep
  pub surveyed : WereFound hosts keep old middle rules.keep.unowned
  pub holds : Holds rules middle

abbrev pub MergesGoByGiven : Type 0
MergesGoByGiven = (hosts : List HostText) (pins keep : List ℕ) (old new : Ledger) (cost : Cost)
    → HasMergedFiles hosts pins keep old new cost
    → GoesBy hosts pins keep old (λ rules middle. HasMerged hosts rules middle new cost)

abbrev pub RefusedMergesGoByGiven : Type 0
RefusedMergesGoByGiven = (hosts : List HostText) (pins keep : List ℕ) (old new : Ledger)
    (fault : MergeFault) → StopsMergeFiles hosts pins keep old new fault
    → StopsFinding hosts keep old new fault
    ⊎ GoesBy hosts pins keep old (λ rules middle. StopsMerge hosts rules middle new fault)

abbrev pub BrokenMergesGoByGiven : Type 0
BrokenMergesGoByGiven = (hosts : List HostText) (pins keep : List ℕ) (old new : Ledger)
    → LeavesFiles hosts pins keep old new → ReadsOnly old new
    ⊎ GoesBy hosts pins keep old (λ rules middle. MergeBrokeOff hosts rules middle new)

abbrev pub ChecksGoByGiven : Type 0
ChecksGoByGiven = (hosts : List HostText) (pins keep certificate : List ℕ) (old new : Ledger)
    (cost : ℕ) → HasCheckedFiles hosts pins keep certificate old new cost
    → GoesBy hosts pins keep old
    (λ rules middle. HasChecked hosts rules certificate middle new cost)

abbrev pub RefusedChecksGoByGiven : Type 0
RefusedChecksGoByGiven = (hosts : List HostText) (pins keep certificate : List ℕ)
    (old new : Ledger) (fault : MergeFault)
    → StopsCheckFiles hosts pins keep certificate old new fault
    → StopsFinding hosts keep old new fault
    ⊎ GoesBy hosts pins keep old
    (λ rules middle. StopsCheck hosts rules certificate middle new fault)

-- a count has no pins
abbrev pub CountsGoByGiven : Type 0
CountsGoByGiven = (hosts : List HostText) (keep map : List ℕ) (old new : Ledger) (cost : Cost)
    → HasCountedFiles hosts keep map old new cost
    → GoesBy hosts [] keep old (λ rules middle. HasCounted hosts rules.keep map middle new cost)

abbrev pub RefusedCountsGoByGiven : Type 0
RefusedCountsGoByGiven = (hosts : List HostText) (keep map : List ℕ) (old new : Ledger)
    (fault : MergeFault) → StopsCountFiles hosts keep map old new fault
    → StopsFinding hosts keep old new fault
    ⊎ GoesBy hosts [] keep old (λ rules middle. StopsCount hosts rules.keep map middle new fault)
