-- A command goes by the texts that it is given.
use Rattle.std.proofs.Common.{ℕ, List, [], refl, inl, inr}
use Rattle.hosts_join.specs.declared.texts.HostText.{HostText}
use Rattle.site_tables.specs.declared.rules.SiteRules.{SiteRules}
use Rattle.site_tables.specs.Rules.{rules_by}
use Rattle.unify_merge.specs.Check.{HasChecked, StopsCheck}
use Rattle.unify_merge.specs.Count.{HasCounted, StopsCount}
use Rattle.unify_merge.specs.GivenTexts.{BrokenMergesGoByGiven, ChecksGoByGiven, CountsGoByGiven, GoesBy, MergesGoByGiven}
use Rattle.unify_merge.specs.GivenTexts.{RefusedChecksGoByGiven, RefusedCountsGoByGiven, RefusedMergesGoByGiven}
use Rattle.unify_merge.specs.Ledger.{Ledger}
use Rattle.unify_merge.specs.Merge.{HasMerged, MergeBrokeOff, StopsMerge}
use Rattle.unify_merge.specs.Surveyed.{AfterSurvey}

module _ (hosts : List HostText) (pins keep : List ℕ) (old : Ledger) (Holds : SiteRules → Ledger → Type 0) where
  goes : AfterSurvey hosts keep old (λ unowned middle. Holds (rules_by pins keep unowned) middle) → GoesBy hosts pins keep old Holds
  goes b = record {
    rules = rules_by pins keep b.unowned;
    middle = b.middle;
    pins_are = refl;
    keep_is = refl;
    surveyed = b.surveyed;
    holds = b.holds;
  }

pub merges : MergesGoByGiven
merges hosts pins keep old new cost b = goes hosts pins keep old (λ rules middle. HasMerged hosts rules middle new cost) b

pub refused_merges : RefusedMergesGoByGiven
refused_merges hosts pins keep old new fault (inl f) = inl f
refused_merges hosts pins keep old new fault (inr b) = inr (goes hosts pins keep old (λ rules middle. StopsMerge hosts rules middle new fault) b)

pub broken_merges : BrokenMergesGoByGiven
broken_merges hosts pins keep old new (inl r) = inl r
broken_merges hosts pins keep old new (inr b) = inr (goes hosts pins keep old (λ rules middle. MergeBrokeOff hosts rules middle new) b)

pub checks : ChecksGoByGiven
checks hosts pins keep certificate old new cost b = goes hosts pins keep old (λ rules middle. HasChecked hosts rules certificate middle new cost) b

pub refused_checks : RefusedChecksGoByGiven
refused_checks hosts pins keep certificate old new fault (inl f) = inl f
refused_checks hosts pins keep certificate old new fault (inr b) = inr (goes hosts pins keep old (λ rules middle. StopsCheck hosts rules certificate middle new fault) b)

pub counts : CountsGoByGiven
counts hosts keep map old new cost b = goes hosts [] keep old (λ rules middle. HasCounted hosts rules.keep map middle new cost) b

pub refused_counts : RefusedCountsGoByGiven
refused_counts hosts keep map old new fault (inl f) = inl f
refused_counts hosts keep map old new fault (inr b) = inr (goes hosts [] keep old (λ rules middle. StopsCount hosts rules.keep map middle new fault) b)
