-- Plans that are carried out on trees in memory.
-- Words of the code and not of the subject: only private contracts, views and invariants cite them.
use Rattle.std.specs.Prelude.{◌≡◌, ℕ, Bool, List, map, length, Option, None, Some, Ok, slice_get}
use Rattle.std.specs.Prelude.{All}
use Rattle.idtext.specs.First.{each}
use Rattle.mtree_inv.specs.Inventory.{inventory}
use Rattle.mtree_inv.specs.declared.entry.Entry.{Entry}
use Rattle.hosts_join.specs.declared.texts.HostText.{HostText}
use Rattle.reown_plan.specs.declared.mark.PlanMark.{PlanMark}
use Rattle.reown_plan.specs.declared.plan.Owner.{Owner}
use Rattle.reown_plan.specs.PlanData.{PlanData}
use Rattle.reown_plan.specs.Spelling.{spelling, IsLawful}
use Rattle.reown_runner.specs.declared.campaign.Event.{Event}
use Rattle.reown_runner.specs.declared.memory.Keep.{Keep}
use Rattle.reown_runner.specs.Campaign.{EachGoes, is_done}
use Rattle.reown_runner.specs.Finished.{IsFresh, AreOld}
use Rattle.reown_runner.specs.Memory.{Mem, known_mem, new_mem}
use Rattle.reown_runner.specs.RunnerData.{RunnerData, starting}
use Rattle.reown_runner.specs.Tree.{cells_of}
use Rattle.unify_texts.specs.Limits.{most_files}
use Rattle.unify.specs.Reading.{WholeSite}

-- a tree as its inventory, where a stop keeps what is chosen
abbrev pub new_tree_of : Keep → List Entry → Mem
new_tree_of keep files = record (new_mem files) { keep = keep }

-- runners at the start of plans
abbrev pub at_start : List PlanData → List RunnerData
at_start plans = map starting plans

-- the tree is as some inventory, which has the plan's files at their old owners, and marked for no
-- plan
pub record IsReady (plan : PlanData) (tree : Mem) : Type 0 where
  pub inventory : List ℕ → Option Owner
  pub fresh : (mark : PlanMark) → IsFresh inventory (cells_of mark (known_mem tree))
  pub old : AreOld inventory plan.records

-- a tree for each plan, ready for it
pub record AreReady (plans : List PlanData) (trees : List Mem) : Type 0 where
  pub paired : length plans ≡ length trees
  pub ready : (h : ℕ) (plan : PlanData) (tree : Mem) → slice_get plans h ≡ Some plan
      → slice_get trees h ≡ Some tree → IsReady plan tree

-- The inventories read as these files; the texts spell these plans, which are lawful; and trees as
-- the inventories are ready for them.
pub record AreSpelledFor (keep : Keep) (mtrees texts : List (List ℕ)) (files : List (List Entry))
    (plans : List PlanData) : Type 0 where
  pub read : each (inventory most_files) mtrees ≡ Ok files
  pub lawful : All IsLawful plans
  pub spelled : texts ≡ map spelling plans
  pub ready : AreReady plans (map (new_tree_of keep) files)

-- The events led from the start of these plans on these trees to these trees, none of them refused;
-- done is which plans are done.
pub record AreCarriedOut (plans : List PlanData) (trees : List Mem) (events : List Event)
    (done : List Bool) (ends : List Mem) : Type 0 where
  pub runners : List RunnerData
  pub a_runner_each : length runners ≡ length plans
  pub a_tree_each : length ends ≡ length trees
  pub went : EachGoes known_mem (record { runners = at_start plans; trees = trees }) events
      (λ host. None) (record { runners = runners; trees = ends })
  pub done_are : done ≡ map (λ runner. is_done runner.place) runners

-- the texts of the inventories of hosts, which read as the files of the site
abbrev pub AreInventoriesOf : List HostText → WholeSite → Type 0
AreInventoriesOf texts site =
    each (inventory most_files) (map (λ t. t.mtree) texts) ≡ Ok (map (λ h. h.1) site.hosts)
