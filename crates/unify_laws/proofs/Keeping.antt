-- Files that keep their names.
use Rattle.std.proofs.Common.{◌≡◌, ◌⊎◌, inl, inr, ℕ, ◌<◌, ◌≤◌, Bool, true, List, length, get_or, Option, Some, None, refl, sym, ap, subst, ◌∙◌, arith}
use Rattle.std.specs.List.{All, filter, find}
use Rattle.std.specs.Option.{is_some, option_map}
use Rattle.std.specs.Prelude.{not, ◌||◌}
use Rattle.std.specs.Str.{bytes_eq}
use Rattle.std.proofs.lemmas.Bool.{false_from_ne_true}
use Rattle.std.proofs.lemmas.List.Elements.{All-map, All-filter, All-from_get_or}
use Rattle.hosts_join.specs.Accounts.{Account, Accounts, Pair, no_account}
use Rattle.hosts_join.specs.Hosts.{spares_group, spares_user}
use Rattle.hosts_join.specs.Kinds.{user_at, group_at}
use Rattle.hosts_join.specs.Laws.{IsOwnedAsTold, LeavesOut}
use Rattle.hosts_join.specs.Lawful.{AreLawfulAccounts}
use Rattle.hosts_join.specs.Pairs.{number_of}
use Rattle.hosts_join.specs.Rules.{account, is_reserved}
use Rattle.hosts_join.specs.Site.{Joined}
use Rattle.hosts_join.specs.declared.host.Host.{Host}
use Rattle.hosts_join.proofs.Grouping.{bytes_same, bytes_refl}
use Rattle.hosts_join.proofs.Pairing.{place-holds}
use Rattle.mtree_inv.specs.Files.{HaveDistinctFiles}
use Rattle.mtree_inv.specs.declared.entry.Entry.{Entry}
use Rattle.ownership.specs.Mappings.{AreAdmissible, IsAdmissible, number_under}
use Rattle.ownership.specs.declared.mapping.Mappings.{Mappings}
use Rattle.assignment.proofs.Filled.{number_is_id}
use Rattle.certcheck.proofs.Spots.{find_here}
use Rattle.reown_plan.specs.declared.plan.Owner.{Owner}
use Rattle.reown_plan.specs.Owners.{owner_of, owner_eq}
use Rattle.reown_plan.specs.PlanData.{PlanRecord}
use Rattle.reown_plan.specs.Target as target
use Rattle.reown_plan.specs.Target.{renumbered, record_to, records_to, plan_of}
use Rattle.reown_plan.proofs.Keeping.{owner_after-target}
use Rattle.reown_runner.specs.Finished.{after_record, owner_after_plan, AreOld, IsOldOrNew}
use Rattle.reown_runner.specs.Memory.{owner_in}
use Rattle.reown_runner.specs.Tree.{Image}
use Rattle.unify_texts.specs.declared.map_text.MapText.{MapText}
use Rattle.unify_texts.specs.WrittenMap.{SayMapping, IsMappingOf, ReadsBack}
use Rattle.unify_texts.proofs.MapNames.{written_map_reads_back}
use Rattle.unify.specs.declared.outcome.Outcome.{Outcome}
use Rattle.unify.specs.Whole.{IsReadHost, IsWhole}
use Rattle.unify.specs.Outcomes.{IsOutcome}
use Rattle.unify.specs.Reading.{WholeSite}
use Rattle.site_tables.specs.Sparing.{LeavesItsReserved}
use Rattle.unify_laws.specs.Headline.{IsNewNumber, KeepsItsNames}
use Rattle.unify_laws.proofs.Sparing.{unreserved}

-- ---- the map

pub is_mapping : (a : Accounts) (m : List ℕ) → AreLawfulAccounts a → IsAdmissible a m → IsMappingOf a m
is_mapping a m lawful ok = record {
  lawful = lawful;
  numbers = record {
    distinct = ok.distinct;
    ids = All-from_get_or (λ v. v ≤ 4294967294) m 0 (λ i l. number_is_id a m i lawful ok (omega (arith, l, ok.len)));
  };
  len = ok.len;
}

-- the map that is printed says the mappings
pub map_says_mappings : (site : WholeSite) (outcome : Outcome) → IsWhole site → (o : IsOutcome site outcome) → ReadsBack site.joined o.mappings outcome.map
map_says_mappings site outcome whole o =
    subst (ReadsBack site.joined o.mappings) (sym o.printed.map_is)
    (written_map_reads_back site.joined o.mappings (is_mapping site.joined.users o.mappings.users whole.lawful.users o.answered.least.admissible.users) (is_mapping site.joined.groups o.mappings.groups whole.lawful.groups o.answered.least.admissible.groups))

-- ---- a file

-- the pairs say mappings that leave what is reserved to no name
pub record ArePairsOf (site : Joined) (m : Mappings) (printed : MapText) : Type 0 where
  pub users : SayMapping site.users m.users printed.users
  pub groups : SayMapping site.groups m.groups printed.groups
  pub admissible : AreAdmissible site m
  pub leaves : LeavesItsReserved site

-- by the pairs a number that the host allows is renumbered to its new one
new_number : (a : Accounts) (m : List ℕ) (pairs : List Pair) → SayMapping a m pairs → IsAdmissible a m → LeavesOut a (is_reserved a.reserved)
    → (h v : ℕ) (told : Option (List ℕ)) (spared : Bool) → IsOwnedAsTold a.names h v told → (spared ≡ true → is_reserved a.reserved v ≡ true) → (is_some told || spared) ≡ true
    → IsNewNumber told pairs v (renumbered a m h v)
new_number a m pairs say ok leaves h v (Some name) spared is reserved allowed =
    let at = place-holds (λ (x : Account). bytes_eq name x.name) a.names is.0 no_account is.2 in
    ap (number_of pairs) (bytes_same name (account a is.0).name at.1) ∙ say.numbers is.0 at.0 ∙ ap (λ o. Some (number_under m o v)) (sym is.1)
new_number a m pairs say ok leaves h v None spared is reserved allowed =
    let stays : renumbered a m h v ≡ v = ap (λ o. number_under m o v) is in
    (stays, (λ name has. unreserved a leaves m pairs ok say name v (has ∙ ap (λ (n : ℕ). Some n) stays) (reserved allowed)))

-- an inventory has each of its files at its owner
inventory_has : (files : List Entry) → HaveDistinctFiles files → All (λ f. owner_in files f.path ≡ Some (owner_of f)) files
inventory_has files distinct = λ k d l.
    let path = (get_or files k d).path in
    let found = find_here (λ (e : Entry). bytes_eq path e.path) files k d l (λ j before. false_from_ne_true (bytes_eq path (get_or files j d).path) (λ t. distinct j k d before l (sym (bytes_same path (get_or files j d).path t)))) (bytes_refl path) in
    ap (option_map owner_of) found

-- the files of a plan's records are there at their old owners
pub plan_is_old : (site : Joined) (m : Mappings) (h : ℕ) (files : List Entry) → HaveDistinctFiles files → AreOld (owner_in files) (plan_of site m h files)
plan_is_old site m h files distinct =
    let to = target.target site m h in
    let changed = λ (f : Entry). not (owner_eq (owner_of f) (to f)) in
    All-map (λ (r : PlanRecord). owner_in files r.path ≡ Some r.before) (record_to to) (filter changed files) (All-filter changed (λ (f : Entry). owner_in files f.path ≡ Some (owner_of f)) files (inventory_has files distinct))

after_same : (o : Option PlanRecord) (has : Owner) → after_record o (Some has) ≡ Some (target.after_record o has)
after_same None has = refl
after_same (Some r) has = refl

-- after its plan each file is at its target
at_target : (to : Entry → Owner) (files : List Entry) → HaveDistinctFiles files → All (λ f. owner_after_plan (owner_in files) (records_to to files) f.path ≡ Some (to f)) files
at_target to files distinct = λ k d l.
    let f = get_or files k d in
    let found = find (λ (r : PlanRecord). bytes_eq f.path r.path) (records_to to files) in
    ap (after_record found) (inventory_has files distinct k d l) ∙ after_same found (owner_of f) ∙ ap (λ (o : Owner). Some o) (owner_after-target to files distinct k d l)

-- a file that has its owner after the plan keeps its names
keeps_name : (site : Joined) (m : Mappings) (printed : MapText) → ArePairsOf site m printed
    → (h : ℕ) (host : Host) (files : List Entry) → IsReadHost site h host files
    → (owner : List ℕ → Option Owner) (k : ℕ) (d : Entry) → k < length files → owner (get_or files k d).path ≡ owner_after_plan (owner_in files) (plan_of site m h files) (get_or files k d).path
    → KeepsItsNames printed host owner (get_or files k d)
keeps_name site m printed are h host files is owner k d l after =
    let f = get_or files k d in
    let allowed = is.allowed k d l in
    record {
      now = target.target site m h f;
      here = after ∙ at_target (target.target site m h) files is.files_are.distinct k d l;
      user = new_number site.users m.users printed.users are.users are.admissible.users are.leaves.users h f.uid (user_at host.users f.uid) (spares_user host f.uid) (is.known.users f.uid) (is.spares.users f.uid) allowed.user;
      group = new_number site.groups m.groups printed.groups are.groups are.admissible.groups are.leaves.groups h f.gid (group_at host.groups f.gid) (spares_group host f.gid) (is.known.groups f.gid) (is.spares.groups f.gid) allowed.group;
    }

-- a host whose files have their owners after the plan keeps the names of its files
pub keeps_names : (site : Joined) (m : Mappings) (printed : MapText) → ArePairsOf site m printed
    → (h : ℕ) (host : Host) (files : List Entry) → IsReadHost site h host files
    → (owner : List ℕ → Option Owner) → ((path : List ℕ) → owner path ≡ owner_after_plan (owner_in files) (plan_of site m h files) path) → All (KeepsItsNames printed host owner) files
keeps_names site m printed are h host files is owner after = λ k d l. keeps_name site m printed are h host files is owner k d l (after (get_or files k d).path)

-- where each path has its old or its new owner, each file is at its old one or keeps its names
pub old_or_kept : (site : Joined) (m : Mappings) (printed : MapText) → ArePairsOf site m printed
    → (h : ℕ) (host : Host) (files : List Entry) → IsReadHost site h host files
    → (image : Image) → ((path : List ℕ) → IsOldOrNew (owner_in files) (plan_of site m h files) image path) → All (λ f. (image.owner f.path ≡ Some (owner_of f)) ⊎ KeepsItsNames printed host image.owner f) files
old_or_kept site m printed are h host files is image each = λ k d l.
    elim (each (get_or files k d).path) [
      | inl old ↦ inl (old ∙ inventory_has files is.files_are.distinct k d l)
      | inr new ↦ inr (keeps_name site m printed are h host files is image.owner k d l new)
    ]
