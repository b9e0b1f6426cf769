-- The cost that a merge tells, by the files that it leaves.
-- Source: this project's own rule.
use Rattle.std.specs.Prelude.{◌≡◌, ℕ, List, Ok, codes}
use Rattle.hosts_join.specs.declared.texts.HostText.{HostText}
use Rattle.unify.specs.declared.counting.Cost.{Cost}
use Rattle.site_tables.specs.declared.rules.SiteRules.{SiteRules}
use Rattle.unify.specs.Checking.{check_of}
use Rattle.unify.specs.Count.{count_of}
use Rattle.unify_laws.specs.Headline.{fields}
use Rattle.unify_merge.specs.FirstReading.{with_inventories}
use Rattle.unify_merge.specs.Ledger.{Ledger}
use Rattle.unify_merge.specs.Merge.{HasMerged}
use Rattle.unify_merge.specs.NamedFiles.{Have}

-- With the inventories that were read last a count of the map that stands answers this cost, and a
-- check accepts the certificate that stands with it.
pub record TellsItsCost (texts : List HostText) (rules : SiteRules) (old new : Ledger) (cost : Cost)
    (m : HasMerged texts rules old new cost) : Type 0 where
  pub map : List ℕ
  pub map_stands : Have new.finished (codes "map") map
  pub counted : count_of (with_inventories texts m.second) rules.keep map ≡ Ok cost
  pub certificate : List ℕ
  pub certificate_stands : Have new.finished (codes "certificate") certificate
  pub accepted : check_of (with_inventories texts m.second) rules certificate ≡ Ok (fields cost)

abbrev pub MergesTellTheirCost : Type 0
MergesTellTheirCost = (texts : List HostText) (rules : SiteRules) (old new : Ledger) (cost : Cost)
    (m : HasMerged texts rules old new cost) → TellsItsCost texts rules old new cost m
