-- What a merge guarantees.
-- Source: the assignment problem with its weak duality (Kuhn, Munkres); the sentence is this
-- project's own.
use Rattle.std.specs.Prelude.{◌≡◌, ◌⊎◌, ◌≤◌, ◌+◌, ℕ, false, List, Option, Some, None, Ok, IfSome}
use Rattle.std.specs.Prelude.{slice_get, All}
use Rattle.accounts.specs.Rows.{Passwd, Group}
use Rattle.mtree_inv.specs.declared.entry.Entry.{Entry}
use Rattle.hosts_join.specs.Accounts.{Accounts, Pair}
use Rattle.hosts_join.specs.Kinds.{user_at, group_at}
use Rattle.hosts_join.specs.Pairs.{number_of}
use Rattle.hosts_join.specs.declared.host.Host.{Host}
use Rattle.ownership.specs.Costs.{AreLeast}
use Rattle.ownership.specs.Mappings.{IsAdmissible}
use Rattle.ownership.specs.declared.mapping.Mappings.{Mappings}
use Rattle.certcheck.specs.Certified.{AreCertified}
use Rattle.certcheck.specs.Check.{mappings_of}
use Rattle.certcheck.specs.Reading.{certificate_in}
use Rattle.certcheck.specs.declared.certificate.Certificate.{Certificate}
use Rattle.reown_plan.specs.declared.plan.Owner.{Owner}
use Rattle.reown_plan.specs.Owners.{owner_of}
use Rattle.reown_plan.specs.PlanData.{PlanRecord}
use Rattle.reown_plan.specs.Reading.{ReadsAs}
use Rattle.reown_runner.specs.declared.runner.Place.TheVariants.{Start, Done}
use Rattle.reown_runner.specs.declared.runner.RunFault.{RunFault}
use Rattle.reown_runner.specs.declared.runner.RunFault.TheVariants.{Device}
use Rattle.reown_runner.specs.Finished.{AreOld}
use Rattle.reown_runner.specs.Memory.{owner_in}
use Rattle.reown_runner.specs.Run.{HostEvent, IsRun, AreRuns}
use Rattle.reown_runner.specs.Run as run
use Rattle.reown_runner.specs.State.{fresh, cells_at}
use Rattle.reown_runner.specs.Tree.{Image, IsImage}
use Rattle.unify_texts.specs.declared.map_text.MapText.{MapText}
use Rattle.unify_texts.specs.Maps.{map_of}
use Rattle.unify_texts.specs.WrittenMap.{SayMapping}
use Rattle.unify.specs.declared.counting.Cost.{Cost}
use Rattle.unify.specs.declared.outcome.Outcome.{Outcome}
use Rattle.unify.specs.Cost.{cost_of}
use Rattle.unify.specs.Reading.{WholeSite, files_of_site}
use Rattle.unify_laws.specs.Installed.{AreInstalled}

-- The pairs give every name of the kind one number, its pin or one of its pool, and no two names
-- one number.
pub record HaveOneNumberEach (a : Accounts) (m : List ℕ) (pairs : List Pair) : Type 0 where
  pub admissible : IsAdmissible a m
  pub say : SayMapping a m pairs
  pub distinct : (name other : List ℕ) (v : ℕ) → number_of pairs name ≡ Some v
      → number_of pairs other ≡ Some v → name ≡ other

-- By the map the new number is that of the name that the old one had; one that had none stays, and
-- is no name's.
abbrev pub IsNewNumber : Option (List ℕ) → List Pair → ℕ → ℕ → Type 0
IsNewNumber (Some name) pairs old new = number_of pairs name ≡ Some new
IsNewNumber None pairs old new =
    (new ≡ old) × ((name : List ℕ) → number_of pairs name ≡ Some new → ⊥)

-- The file is there, and its uid and gid are the numbers that the map gives to the user and the
-- group that it had: those that its host's own tables name for its numbers in the inventory. A
-- number that they do not name is as it was, and no name's.
pub record KeepsItsNames (map : MapText) (host : Host) (tree : List ℕ → Option Owner) (file : Entry)
    : Type 0 where
  pub now : Owner
  pub here : tree file.path ≡ Some now
  pub user : IsNewNumber (user_at host.users file.uid) map.users file.uid now.uid
  pub group : IsNewNumber (group_at host.groups file.gid) map.groups file.gid now.gid

-- It keeps them by a passwd and a group as well, which name its uid and gid as the tables of the
-- host named those that it had, and name none that these did not.
-- users, groups: the rows of the two files
-- was: the host by whose tables the names are told
-- host: what was joined of it, which is what the map goes by
pub record IsNamedAsBefore (map : MapText) (users : List Passwd) (groups : List Group)
    (was host : Host) (tree : List ℕ → Option Owner) (file : Entry) : Type 0 where
  pub by_map : KeepsItsNames map host tree file
  pub user_is : user_at users by_map.now.uid ≡ user_at was.users file.uid
  pub group_is : group_at groups by_map.now.gid ≡ group_at was.groups file.gid

-- It has the owner that the inventory tells, or is named as before.
abbrev pub IsOldOrNamed : MapText → List Passwd → List Group → Host → Host
    → (List ℕ → Option Owner) → Entry → Type 0
IsOldOrNamed map users groups was host tree file =
    (tree file.path ≡ Some (owner_of file)) ⊎ IsNamedAsBefore map users groups was host tree file

-- how many fields of files change: user fields and group fields
abbrev pub fields : Cost → ℕ
fields cost = cost.users + cost.groups

-- a host as its inventory tells it: each file at its owner, the mark not set, nothing pending, its
-- plan not begun
-- asked: how many writes and syncs its tree was asked for before
abbrev pub untouched : ℕ → List Entry → run.Host
untouched asked files =
    record {
      place = Start;
      state = fresh (record { owner = owner_in files; mark = false });
      asked = asked;
    }

-- The host's plan is read as some records, whose files are there at their old owners. However they
-- are carried out, in runs one after the other with any stops and failed calls: only the device
-- refuses a further run; at every moment, whatever a stop leaves, every file has its old owner or
-- the names that it had; and once the plan is done, every file has these names.
-- users, groups: the rows of a passwd and a group
-- h: the index of the host
-- was: the host by whose tables the names are told
-- host: what was joined of it
pub record PlanKeepsNames (map : MapText) (users : List Passwd) (groups : List Group)
    (plans : List (List ℕ)) (h : ℕ) (was host : Host) (files : List Entry) : Type 0 where
  pub plan : List ℕ
  pub printed : slice_get plans h ≡ Some plan
  pub records : List PlanRecord
  pub read : ReadsAs plan (Ok (record { host = host.name; records = records }))
  pub begins : AreOld (owner_in files) records
  pub only_the_device_refuses : (asked : ℕ) (runs : List (List HostEvent)) (there : run.Host)
      → AreRuns records (untouched asked files) runs there
      → (events : List HostEvent) (refused : Option RunFault) (end : run.Host)
      → IsRun records there events refused end → IfSome refused (λ fault. fault ≡ Device)
  pub at_every_moment : (asked : ℕ) (runs : List (List HostEvent)) (end : run.Host)
      → AreRuns records (untouched asked files) runs end
      → (image : Image) → IsImage (cells_at end.state) image
      → All (IsOldOrNamed map users groups was host image.owner) files
  pub kept : (asked : ℕ) (runs : List (List HostEvent)) (end : run.Host)
      → AreRuns records (untouched asked files) runs end → end.place ≡ Done
      → (image : Image) → IsImage (cells_at end.state) image
      → All (IsNamedAsBefore map users groups was host image.owner) files

-- The map gives every user and group name one distinct number, in its pool or at its pin, and the
-- merged passwd and group have exactly one row for each name, with its number; no other such
-- mapping rewrites fewer user and group fields over all inventories, as the printed potentials
-- prove; and while a host's plan is carried out, however often stopped, every file of it has its
-- old owner, or the user and group names that it had, by the map and by the merged passwd and
-- group; once the plan has finished, every file has these names. A uid or gid that had no name
-- stays as it is, and is no name's.
pub record Headline (site : WholeSite) (outcome : Outcome) : Type 0 where
  -- what is printed
  pub map : MapText
  pub map_read : map_of outcome.map ≡ Ok map
  pub certificate : Certificate
  pub certificate_read : certificate_in outcome.certificate ≡ Ok certificate
  -- one distinct number each
  pub mappings : Mappings
  pub users_have_one_number_each : HaveOneNumberEach site.joined.users mappings.users map.users
  pub groups_have_one_number_each : HaveOneNumberEach site.joined.groups mappings.groups map.groups
  -- one row for each name, with its number
  pub installed : AreInstalled site outcome mappings map
  -- none rewrites fewer, as the potentials prove
  pub no_other_rewrites_fewer : AreLeast site.joined (files_of_site site) mappings
  pub potentials_are_of_these : mappings_of site.joined certificate ≡ mappings
  pub potentials_prove_it : AreCertified site.joined (files_of_site site) certificate
  -- the same by the printed map and each host's own tables, as the cost is told
  pub cost_is_told : outcome.cost ≡ cost_of map site.hosts
  pub no_other_map_rewrites_fewer : (other : MapText) (m : Mappings)
      → HaveOneNumberEach site.joined.users m.users other.users
      → HaveOneNumberEach site.joined.groups m.groups other.groups
      → fields (cost_of map site.hosts) ≤ fields (cost_of other site.hosts)
  -- names are kept
  pub a_plan_keeps_names : (h : ℕ) (host : Host) (files : List Entry)
      → slice_get site.hosts h ≡ Some (host, files)
      → PlanKeepsNames map installed.passwd.rows installed.group.rows outcome.plans h host host
      files
