-- What a rehearsal of a whole site answers.
-- Source: this project's own rule.
use Rattle.std.specs.Prelude.{◌≡◌, ℕ, ◌+◌, Bool, true, List, [], ◌∷◌, map, Some, slice_get, All}
use Rattle.accounts.specs.Rows.{Passwd, Group}
use Rattle.mtree_inv.specs.declared.entry.Entry.{Entry}
use Rattle.hosts_join.specs.declared.host.Host.{Host}
use Rattle.ownership.specs.declared.mapping.Mappings.{Mappings}
use Rattle.reown_plan.specs.declared.mark.PlanMark.{PlanMark}
use Rattle.reown_plan.specs.Target.{host_plan}
use Rattle.reown_runner.specs.declared.memory.Keep.{Keep}
use Rattle.reown_runner.specs.Memory.{Mem, known_mem, new_mem}
use Rattle.reown_runner.specs.RunnerData.{RunnerData, starting}
use Rattle.reown_runner.specs.Tree.{Image, IsImage, cells_of}
use Rattle.reown_runner.specs.World.{World}
use Rattle.unify_texts.specs.declared.map_text.MapText.{MapText}
use Rattle.unify.specs.Outcomes.{hosts_in}
use Rattle.unify.specs.Reading.{WholeSite}
use Rattle.unify_laws.specs.Headline.{IsNamedAsBefore, IsOldOrNamed}

-- a runner at its start for each host's plan, where the first host stands at the index
abbrev pub runners_from : WholeSite → Mappings → ℕ → List (Host × List Entry) → List RunnerData
runners_from site m h [] = []
runners_from site m h (here ∷ more) =
    starting (host_plan (hosts_in site) site.joined m h here.1)
    ∷ runners_from site m (h + 1) more

-- trees in memory as the inventories tell them
abbrev pub new_trees : Keep → WholeSite → List Mem
new_trees keep site = map (λ here. record (new_mem here.1) { keep = keep }) site.hosts

abbrev pub new_world : Keep → WholeSite → Mappings → World Mem
new_world keep site m =
    record { runners = runners_from site m 0 site.hosts; trees = new_trees keep site }

-- On a host that is done every file has the names that it had, whatever a further stop leaves, as
-- any plan sees it.
-- users, groups: the rows of the merged passwd and group
abbrev pub DoneKeepsNames : WholeSite → MapText → List Passwd → List Group → List Bool → List Mem
    → Type 0
DoneKeepsNames site map users groups done trees =
    (h : ℕ) (host : Host) (files : List Entry) (tree : Mem)
    → slice_get site.hosts h ≡ Some (host, files) → slice_get done h ≡ Some true
    → slice_get trees h ≡ Some tree
    → (plan : PlanMark) (image : Image) → IsImage (cells_of plan (known_mem tree)) image
    → All (IsNamedAsBefore map users groups host host image.owner) files

-- on every host, done or not, every file has its old owner or the names that it had, whatever a
-- further stop leaves
abbrev pub EachIsOldOrNamed : WholeSite → MapText → List Passwd → List Group → List Mem → Type 0
EachIsOldOrNamed site map users groups trees =
    (h : ℕ) (host : Host) (files : List Entry) (tree : Mem)
    → slice_get site.hosts h ≡ Some (host, files) → slice_get trees h ≡ Some tree
    → (plan : PlanMark) (image : Image) → IsImage (cells_of plan (known_mem tree)) image
    → All (IsOldOrNamed map users groups host host image.owner) files
