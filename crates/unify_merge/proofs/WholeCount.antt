-- What a count of a map answers, and what it stops for.
use Rattle.std.proofs.Common.{◌≡◌, ◌++◌, ℕ, List, length, Ok, sym, ap, subst, ◌∙◌, inr}
use Rattle.idtext.specs.First.{each}
use Rattle.hosts_join.specs.declared.host.Host.{Host}
use Rattle.hosts_join.specs.declared.texts.HostText.{HostText}
use Rattle.unify_texts.specs.declared.map_text.MapText.{MapText}
use Rattle.site_tables.specs.declared.rules.KeepRules.{KeepRules}
use Rattle.unify.specs.declared.counting.Cost.{Cost}
use Rattle.site_tables.specs.Mapped.{BegunCost, cost_begun}
use Rattle.unify.specs.Count.{site_of, total_of}
use Rattle.site_tables.specs.Loading.{loaded_from}
use Rattle.unify.specs.Passes.{InventoriesValue, behind, read_in}
use Rattle.unify_laws.proofs.CountPasses.{count_behind}
use Rattle.unify_merge.specs.Count.{HasCounted, StopsCount}
use Rattle.unify_merge.specs.FirstReading.{AreWithinLimit, IsInventoryFault, StopsCounting, readings_from, with_inventories}
use Rattle.unify_merge.specs.Ledger.{Ledger}
use Rattle.unify_merge.specs.declared.fault.MergeFault.{MergeFault}
use Rattle.unify_merge.proofs.Inventories.{cost_begun-with, mtrees-with}
use Rattle.unify_merge.proofs.Stops.{stops_map}

-- the reading of the inventories ended early, and so did the count
pub count_stopped : (texts : List HostText) (keep : KeepRules) (map_text : List ℕ) (begun : BegunCost) (hosts : List Host) (old new : Ledger) (fault : MergeFault) → cost_begun texts keep map_text ≡ Ok begun → hosts ≡ begun.hosts
    → StopsCounting hosts old new fault → StopsCount texts keep map_text old new fault
count_stopped texts keep map_text begun hosts old new fault is same stops =
    stops_map _ _ new fault (λ f found. inr (begun, is, subst (λ (hs : List Host). IsInventoryFault hs old new f) same found)) stops

-- the inventories were read, and this is the cost
pub has_counted : (hosts : List HostText) (keep : KeepRules) (map_text : List ℕ) (begun : BegunCost) (over : InventoriesValue) (names : MapText) (old new : Ledger) (texts : List (List ℕ)) (cost : Cost) → over ≡ behind begun.hosts texts → cost_begun hosts keep map_text ≡ Ok begun → names ≡ begun.names
    → length texts ≡ length begun.hosts → length begun.hosts ≡ length hosts → new.read ≡ old.read ++ readings_from 0 texts → AreWithinLimit texts → total_of names (read_in over) ≡ Ok cost → HasCounted hosts keep map_text old new cost
has_counted hosts keep map_text begun over names old new texts cost same is named all each_text readings within total =
    let one_each : length texts ≡ length hosts = all ∙ each_text in
    record {
      texts = texts;
      were_read = record { one_each = one_each; within = within; readings = readings };
      answer = count_behind (with_inventories hosts texts) keep map_text begun (cost_begun-with hosts texts keep map_text one_each ∙ is)
          ∙ (λ j. total_of (sym named j) (each site_of (loaded_from begun.hosts (mtrees-with hosts texts one_each j)))) ∙ ap (λ v. total_of names (read_in v)) (sym same) ∙ total;
    }
