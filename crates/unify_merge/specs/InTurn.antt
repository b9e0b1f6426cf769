-- The files of a merge come in turn: no plan before the inventory of its host was read again, each
-- host's own files after all plans, and the report last of all.
-- Source: this project's own rule.
use Rattle.std.specs.Prelude.{◌≡◌, ◌≤◌, ◌<◌, ◌++◌, ℕ, List, [], Some, codes, length, slice_get}
use Rattle.hosts_join.specs.declared.texts.HostText.{HostText}
use Rattle.ownership.specs.declared.mapping.Mappings.{Mappings}
use Rattle.unify.specs.declared.counting.Cost.{Cost}
use Rattle.unify.specs.declared.outcome.Outcome.{Outcome}
use Rattle.site_tables.specs.declared.rules.SiteRules.{SiteRules}
use Rattle.unify.specs.declared.site_files.NamedText.{NamedText}
use Rattle.site_tables.specs.Begun.{BegunSite}
use Rattle.unify_merge.specs.Ledger.{Ledger}
use Rattle.unify_merge.specs.Merge.{HasMerged, MergeBrokeOff, merged_files}
use Rattle.unify_merge.specs.NamedFiles.{Have}
use Rattle.unify_merge.specs.SecondReading.{plan_name}

-- ---- the report

-- it comes last of all files: where it is among the first of them, none is left
abbrev pub ReportIsLast : Type 0
ReportIsLast = (texts : List HostText) (begun : BegunSite) (m : Mappings) (outcome : Outcome)
    (first left : List NamedText) (text : List ℕ)
    → merged_files texts begun m outcome ≡ first ++ left → Have first (codes "report") text
    → left ≡ []

-- a merge that succeeded leaves its report
abbrev pub MergesLeaveReports : Type 0
MergesLeaveReports = (texts : List HostText) (rules : SiteRules) (old new : Ledger) (cost : Cost)
    (merged : HasMerged texts rules old new cost)
    → Have new.finished (codes "report") merged.outcome.report

-- the inventory of each host was read again before a merge broke off, and all of its files stand
pub record LeavesAll (texts : List HostText) (rules : SiteRules) (old new : Ledger)
    (b : MergeBrokeOff texts rules old new) : Type 0 where
  pub again : length b.again ≡ length texts
  pub files : new.finished ≡ merged_files texts b.begun b.is_correct.mappings b.outcome

-- one that broke off leaves a report only then
abbrev pub ReportsStandWithAll : Type 0
ReportsStandWithAll = (texts : List HostText) (rules : SiteRules) (old new : Ledger)
    (b : MergeBrokeOff texts rules old new) (text : List ℕ)
    → Have new.finished (codes "report") text → LeavesAll texts rules old new b

-- ---- plans, and each host's own files

-- Where a merge broke off, no plan stands of a host whose inventory was not read again; and while
-- there is such a host, none of any host's own files.
-- h: the index of the host; name: that of any host
pub record StandInTurn (texts : List HostText) (rules : SiteRules) (old new : Ledger)
    (b : MergeBrokeOff texts rules old new) : Type 0 where
  pub plan : (h : ℕ) (host : HostText) (plan : List ℕ) → slice_get texts h ≡ Some host
      → length b.again ≤ h → Have new.finished (plan_name host) plan → ⊥
  pub passwd : (name text : List ℕ) → length b.again < length texts
      → Have new.finished (codes "passwd." ++ name) text → ⊥
  pub group : (name text : List ℕ) → length b.again < length texts
      → Have new.finished (codes "group." ++ name) text → ⊥

abbrev pub PlansComeInTurn : Type 0
PlansComeInTurn = (texts : List HostText) (rules : SiteRules) (old new : Ledger)
    (b : MergeBrokeOff texts rules old new) → StandInTurn texts rules old new b
