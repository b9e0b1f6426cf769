-- What a check of a certificate does, from the bytes that it reads to its answer.
-- Source: this project's own rule.
use Rattle.std.specs.Prelude.{◌≡◌, ℕ, ◌⊎◌, List, Ok, Err}
use Rattle.hosts_join.specs.declared.texts.HostText.{HostText}
use Rattle.unify_texts.specs.declared.fault.Fault.{Fault}
use Rattle.site_tables.specs.declared.rules.SiteRules.{SiteRules}
use Rattle.unify.specs.Checking.{IsChecked, check_of}
use Rattle.site_tables.specs.Begun.{BegunSite, site_begun}
use Rattle.unify_merge.specs.Ledger.{Ledger}
use Rattle.unify_merge.specs.FirstReading.{IsInventoryFault, StopsFor, WereEachRead}
use Rattle.unify_merge.specs.FirstReading.{with_inventories}
use Rattle.unify_merge.specs.declared.fault.MergeFault.{MergeFault}

-- The inventory of each host was read once. With these this is the cost that a check answers, and
-- it means what a yes does.
pub record HasChecked (hosts : List HostText) (rules : SiteRules) (certificate : List ℕ)
    (old new : Ledger) (cost : ℕ) : Type 0 where
  pub texts : List (List ℕ)
  pub were_read : WereEachRead hosts texts old new
  pub answer : check_of (with_inventories hosts texts) rules certificate ≡ Ok cost
  pub means : IsChecked (with_inventories hosts texts) rules certificate cost

-- The first fault of what was read: of the tables or the rules; of an inventory; or, where each of
-- these was read, that which a check answers with them.
abbrev pub IsCheckFault : List HostText → SiteRules → List ℕ → Ledger → Ledger → Fault → Type 0
IsCheckFault hosts rules certificate old new f =
    ((site_begun hosts rules ≡ Err f) × (new ≡ old))
    ⊎ (((begun : BegunSite) × (site_begun hosts rules ≡ Ok begun)
    × IsInventoryFault begun.hosts old new f)
    ⊎ ((texts : List (List ℕ)) × WereEachRead hosts texts old new
    × (check_of (with_inventories hosts texts) rules certificate ≡ Err f)))

-- why a check ended early
abbrev pub StopsCheck : List HostText → SiteRules → List ℕ → Ledger → Ledger → MergeFault → Type 0
StopsCheck hosts rules certificate old new =
    StopsFor (IsCheckFault hosts rules certificate old new) new
