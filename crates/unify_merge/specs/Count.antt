-- What a count of a map does, from the bytes that it reads to its answer.
-- Source: this project's own rule.
use Rattle.std.specs.Prelude.{◌≡◌, ℕ, ◌⊎◌, List, Ok, Err}
use Rattle.hosts_join.specs.declared.texts.HostText.{HostText}
use Rattle.unify_texts.specs.declared.fault.Fault.{Fault}
use Rattle.unify.specs.declared.counting.Cost.{Cost}
use Rattle.site_tables.specs.declared.rules.KeepRules.{KeepRules}
use Rattle.site_tables.specs.Mapped.{BegunCost, cost_begun}
use Rattle.unify.specs.Count.{count_of}
use Rattle.unify_merge.specs.Ledger.{Ledger}
use Rattle.unify_merge.specs.FirstReading.{IsInventoryFault, StopsFor, WereEachRead}
use Rattle.unify_merge.specs.FirstReading.{with_inventories}
use Rattle.unify_merge.specs.declared.fault.MergeFault.{MergeFault}

-- The inventory of each host was read once. With these this is the cost that a count answers.
pub record HasCounted (hosts : List HostText) (keep : KeepRules) (map_text : List ℕ)
    (old new : Ledger) (cost : Cost) : Type 0 where
  pub texts : List (List ℕ)
  pub were_read : WereEachRead hosts texts old new
  pub answer : count_of (with_inventories hosts texts) keep map_text ≡ Ok cost

-- the first fault of what was read: of the tables, the keep text or the map; or of an inventory
abbrev pub IsCountFault : List HostText → KeepRules → List ℕ → Ledger → Ledger → Fault → Type 0
IsCountFault hosts keep map_text old new f =
    ((cost_begun hosts keep map_text ≡ Err f) × (new ≡ old))
    ⊎ ((begun : BegunCost) × (cost_begun hosts keep map_text ≡ Ok begun)
    × IsInventoryFault begun.hosts old new f)

-- why a count ended early
abbrev pub StopsCount : List HostText → KeepRules → List ℕ → Ledger → Ledger → MergeFault → Type 0
StopsCount hosts keep map_text old new = StopsFor (IsCountFault hosts keep map_text old new) new
