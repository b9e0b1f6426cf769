-- Laws of what a merge answers.
-- Source: this project's own rule.
use Rattle.std.specs.Prelude.{◌≡◌, ◌↔◌, ℕ, List, Option, Some, None, Ok, map, slice_get, All}
use Rattle.mtree_inv.specs.declared.entry.Entry.{Entry}
use Rattle.hosts_join.specs.Accounts.{Accounts}
use Rattle.hosts_join.specs.Kinds.{user_at, group_at}
use Rattle.hosts_join.specs.Pairs.{number_of}
use Rattle.hosts_join.specs.declared.host.Host.{Host}
use Rattle.reown_plan.specs.declared.mark.PlanMark.{PlanMark}
use Rattle.reown_plan.specs.declared.plan.Owner.{Owner}
use Rattle.reown_plan.specs.Target.{plan_of}
use Rattle.reown_runner.specs.declared.campaign.Event.{Event}
use Rattle.reown_runner.specs.declared.memory.Keep.{Keep}
use Rattle.reown_runner.specs.declared.runner.Place.TheVariants.{Done}
use Rattle.reown_runner.specs.declared.runner.RunFault.{RunFault}
use Rattle.reown_runner.specs.Campaign.{EachGoes, is_done}
use Rattle.reown_runner.specs.Memory.{Mem, known_mem, owner_in}
use Rattle.reown_runner.specs.RunnerData.{RunnerData}
use Rattle.reown_runner.specs.Safe.{IsSafeInStep}
use Rattle.reown_runner.specs.Tree.{TreeData, Image, IsImage, cells_of}
use Rattle.unify_texts.specs.declared.map_text.MapText.{MapText}
use Rattle.unify_texts.specs.Maps.{map_of}
use Rattle.unify.specs.declared.outcome.Outcome.{Outcome}
use Rattle.unify.specs.Whole.{IsWhole}
use Rattle.unify.specs.Outcomes.{IsOutcome}
use Rattle.unify.specs.Reading.{WholeSite}
use Rattle.unify_laws.specs.Headline.{Headline, HaveOneNumberEach, IsNamedAsBefore, KeepsItsNames}
use Rattle.unify_laws.specs.Installed.{AreInstalled}
use Rattle.unify_laws.specs.Laws.{HaveAccounts}
use Rattle.unify_laws.specs.SiteRuns.{new_world, DoneKeepsNames, EachIsOldOrNamed}

-- what a merge may answer for a site is correct
abbrev pub OutcomesAreCorrect : Type 0
OutcomesAreCorrect =
    (site : WholeSite) (outcome : Outcome) → IsWhole site → IsOutcome site outcome
    → Headline site outcome

-- Where the plans of a merge were carried out on trees in memory as far as any events lead, refused
-- or not, the files of a host that is done have the names that they had, by the map that the merge
-- printed, and by the passwd and group; those of any other host have these names or their old
-- owners.
abbrev pub RunsKeepNames : Type 0
RunsKeepNames =
    (keep : Keep) (events : List Event) (site : WholeSite) (outcome : Outcome) → IsWhole site
    → (merged : IsOutcome site outcome)
    → (printed : MapText) → map_of outcome.map ≡ Ok printed
    → (refused : ℕ → Option RunFault) (runners : List RunnerData) (trees : List Mem)
    → EachGoes known_mem (new_world keep site merged.mappings) events refused
    (record { runners = runners; trees = trees })
    → (installed : AreInstalled site outcome merged.mappings printed)
    × EachIsOldOrNamed site printed installed.passwd.rows installed.group.rows trees
    × DoneKeepsNames site printed installed.passwd.rows installed.group.rows
    (map (λ runner. is_done runner.place) runners) trees

-- Whatever tree carried out the printed plan of a host, with whatever stops and failed calls: where
-- it is safe and in step at the end, as a runner's calls keep it, every file has the names that it
-- had, whatever a further stop leaves.
abbrev pub DoneKeepsPrintedNames : Type 0
DoneKeepsPrintedNames =
    (site : WholeSite) (outcome : Outcome) → IsWhole site
    → (merged : IsOutcome site outcome) (printed : MapText) → map_of outcome.map ≡ Ok printed
    → (h : ℕ) (host : Host) (files : List Entry) → slice_get site.hosts h ≡ Some (host, files)
    → (plan : PlanMark) (tree : TreeData)
    → IsSafeInStep (owner_in files)
    (plan_of site.joined merged.mappings h files) Done
    (cells_of plan tree)
    → (image : Image) → IsImage (cells_of plan tree) image
    → (installed : AreInstalled site outcome merged.mappings printed)
    × All (IsNamedAsBefore printed installed.passwd.rows installed.group.rows host host image.owner)
    files

-- Two numbers, on any hosts, had one name; or none, and are one.
abbrev pub WereOne : Option (List ℕ) → ℕ → Option (List ℕ) → ℕ → Type 0
WereOne (Some name) number (Some other) another = name ≡ other
WereOne None number None another = number ≡ another
WereOne (Some name) number None another = ⊥
WereOne None number (Some other) another = ⊥

-- Two files, on any hosts, that keep their names under one map have one uid exactly where their
-- users had one name, and one gid exactly where their groups had one; numbers that had no name are
-- one where they were one.
abbrev pub NumbersTellNames : Type 0
NumbersTellNames =
    (users groups : Accounts) (m n : List ℕ) (printed : MapText)
    → HaveOneNumberEach users m printed.users → HaveOneNumberEach groups n printed.groups
    → (host other : Host) (tree other_tree : List ℕ → Option Owner) (file other_file : Entry)
    → (one : KeepsItsNames printed host tree file)
    (two : KeepsItsNames printed other other_tree other_file)
    → ((one.now.uid ≡ two.now.uid) ↔ WereOne (user_at host.users file.uid) file.uid
    (user_at other.users other_file.uid) other_file.uid)
    × ((one.now.gid ≡ two.now.gid) ↔ WereOne (group_at host.groups file.gid) file.gid
    (group_at other.groups other_file.gid) other_file.gid)

-- The file has the numbers that the map gives to its user and to its group.
pub record HasItsNames (map : MapText) (host : Host) (tree : List ℕ → Option Owner)
    (file : Entry) : Type 0 where
  pub now : Owner
  pub here : tree file.path ≡ Some now
  pub user : List ℕ
  pub had_user : user_at host.users file.uid ≡ Some user
  pub has_user : number_of map.users user ≡ Some now.uid
  pub group : List ℕ
  pub had_group : group_at host.groups file.gid ≡ Some group
  pub has_group : number_of map.groups group ≡ Some now.gid

-- So has a file that keeps its names, where it had a user and a group.
abbrev pub NamedFilesHaveTheirNames : Type 0
NamedFilesHaveTheirNames = (printed : MapText) (host : Host) (tree : List ℕ → Option Owner)
    (file : Entry) → KeepsItsNames printed host tree file → HaveAccounts host file.uid file.gid
    → HasItsNames printed host tree file
