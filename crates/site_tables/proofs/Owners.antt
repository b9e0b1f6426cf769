-- Files with owners by their host's own tables have them among the site's accounts, and those with spared numbers have reserved
-- ones.
use Rattle.std.proofs.Common.{◌≡◌, ℕ, Bool, true, false, cond, List, [], Some, None, Result, Ok, Err, refl, sym, ap, subst, ◌∙◌}
use Rattle.std.specs.List.{All}
use Rattle.std.specs.Option.{is_some}
use Rattle.std.specs.Prelude.{◌||◌}
use Rattle.idtext.specs.First.{first_fault, unless}
use Rattle.idtext.specs.declared.faults.TextFault.{TextFault}
use Rattle.idtext.proofs.OkLemmas.{bind_ok, ok_same, unless_ok}
use Rattle.mtree_inv.specs.declared.entry.Entry.{Entry}
use Rattle.mtree_inv.specs.Inventory.{inventory}
use Rattle.hosts_join.specs.Hosts.{allows_gid, allows_uid, SparesReserved, spares_group, spares_user}
use Rattle.hosts_join.specs.Kinds.{user_at, group_at}
use Rattle.hosts_join.specs.Laws.{KnowsHost}
use Rattle.hosts_join.specs.Site.{Joined}
use Rattle.hosts_join.specs.declared.host.Host.{Host}
pub use Rattle.ownership.proofs.HostFiles.{owner-told}
use Rattle.unify_texts.specs.declared.bundle_line.FileName.{FileName}
use Rattle.unify_texts.specs.declared.bundle_line.FileName.TheVariants as file
use Rattle.site_tables.specs.declared.host.Loaded.{Loaded}
use Rattle.site_tables.specs.Hosts.{owner_fault, files_of}
use Rattle.site_tables.specs.Sparing.{AreAllowed, AreOwnedOrReserved}
use Rattle.unify_texts.specs.Told.{in_file}
use Rattle.unify_texts.proofs.FirstFaults.{none_fails}

pub file_ok : {A : Type 0} (host : List ℕ) (name : FileName) (r : Result A TextFault) (x : A) → in_file host name r ≡ Ok x → r ≡ Ok x
file_ok host name (Ok y) x h = ap (λ z. Ok z) (ok_same y x h)
file_ok host name (Err e) x h = absurd (cc)

-- the files that were read are those of the inventory, each with its owners
pub files_read : (loaded : Loaded) (files : List Entry) → files_of loaded ≡ Ok files → (inventory 16777216 loaded.mtree ≡ Ok files) × All (λ f. owner_fault loaded.host [] f ≡ None) files
unfolding files_of
files_read loaded files h =
    let first = bind_ok (in_file loaded.host.name file.Mtree (inventory 16777216 loaded.mtree)) _ files h in
    let second = bind_ok (unless (first_fault (owner_fault loaded.host) [] first.0) (tt {0})) _ files first.2 in
    let same : first.0 ≡ files = ok_same first.0 files second.2 in
    let checked = unless_ok (first_fault (owner_fault loaded.host) [] first.0) (tt {0}) second.0 second.1 in (
      file_ok loaded.host.name file.Mtree (inventory 16777216 loaded.mtree) files (first.1 ∙ ap (λ fs. Ok fs) same),
      subst (λ fs. All (λ f. owner_fault loaded.host [] f ≡ None) fs) same (none_fails (owner_fault loaded.host []) [] first.0 checked.0),
    )

pub owners-told : {F : Type 0} (user group : Bool) (e f : F) → cond user (cond group None (Some e)) (Some f) ≡ None → (user ≡ true) × (group ≡ true)
owners-told true true e f h = (refl, refl)
owners-told true false e f h = absurd (cc)
owners-told false group e f h = absurd (cc)

-- the numbers of a file without an owner fault are allowed
pub allowed : (host : Host) (file : Entry) → owner_fault host [] file ≡ None → AreAllowed host file.uid file.gid
allowed host file none = let told = owners-told (allows_uid host file.uid) (allows_gid host file.gid) _ _ none in record { user = told.0; group = told.1 }

or-weaker : (a b c d : Bool) → a ≡ c → (b ≡ true → d ≡ true) → (a || b) ≡ true → (c || d) ≡ true
or-weaker true b c d same more h = ap (λ x. x || d) (sym same)
or-weaker false b c d same more h = ap (λ x. x || d) (sym same) ∙ more h

-- and by the accounts over all hosts they are owned or reserved
pub owned-or-reserved : (site : Joined) (h : ℕ) (host : Host) (uid gid : ℕ) → KnowsHost site h host → SparesReserved site host → AreAllowed host uid gid → AreOwnedOrReserved site h uid gid
owned-or-reserved site h host uid gid knows spares are = record {
  user = or-weaker (is_some (user_at host.users uid)) (spares_user host uid) _ _ (sym (owner-told site.users.names h uid (user_at host.users uid) (knows.users uid))) (spares.users uid) are.user;
  group = or-weaker (is_some (group_at host.groups gid)) (spares_group host gid) _ _ (sym (owner-told site.groups.names h gid (group_at host.groups gid) (knows.groups gid))) (spares.groups gid) are.group;
}
