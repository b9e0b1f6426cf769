-- A file has its owners among the accounts over all hosts exactly where it has them by its host's own tables.
use Rattle.std.specs.List.{All, slice_get}
use Rattle.std.specs.Option.{option_map, is_some}
use Rattle.std.specs.Prelude.{◌||◌}
use Rattle.std.proofs.Common.{◌≡◌, ℕ, suc, ◌+◌, Bool, true, false, List, [], ◌∷◌, map, get_or, Some, refl, ap, subst, ◌∙◌, arith, sym}
use Rattle.std.proofs.lemmas.List.Elements.{All-nil, All-append, All-map}
use Rattle.std.proofs.lemmas.Option.{slice_get-map}
use Rattle.logindefs.specs.declared.ranges.IdRange.{IdRange}
use Rattle.mtree_inv.specs.declared.entry.Entry.{Entry}
use Rattle.hosts_join.specs.Hosts.{spares_group, spares_user}
use Rattle.hosts_join.specs.Laws.{KnowsHost}
use Rattle.hosts_join.specs.Site.{Joined}
use Rattle.hosts_join.specs.declared.host.Host.{Host}
use Rattle.hosts_join.specs.Kinds.{user_at, group_at}
use Rattle.hosts_join.specs.RangeLists.{lies_in_some}
use Rattle.ownership.specs.Owned.{HaveOwners}
use Rattle.ownership.specs.Files.{Added}
use Rattle.unify.specs.Outcomes.{hosts_in}
use Rattle.unify.specs.Reading.{added_on, added_from}
use Rattle.site_tables.specs.Sparing.{SparesNothing, AreAllowed}
use Rattle.site_tables.proofs.Owners.{owner-told}
use Rattle.site_tables.proofs.LoadedHosts.{all-at}
use Rattle.unify_laws.specs.Laws.{HaveAccounts, NothingSparedAllOwned, OwnersAgree}

pub owned-there : (site : Joined) (h : ℕ) (host : Host) (uid gid : ℕ) → KnowsHost site h host → HaveAccounts host uid gid → HaveOwners site h uid gid
owned-there site h host uid gid knows has = record {
  user = owner-told site.users.names h uid (user_at host.users uid) (knows.users uid) ∙ has.user;
  group = owner-told site.groups.names h gid (group_at host.groups gid) (knows.groups gid) ∙ has.group;
}

pub owned-here : (site : Joined) (h : ℕ) (host : Host) (uid gid : ℕ) → KnowsHost site h host → HaveOwners site h uid gid → HaveAccounts host uid gid
owned-here site h host uid gid knows has = record {
  user = sym (owner-told site.users.names h uid (user_at host.users uid) (knows.users uid)) ∙ has.user;
  group = sym (owner-told site.groups.names h gid (group_at host.groups gid) (knows.groups gid)) ∙ has.group;
}

pub owners_agree : OwnersAgree
owners_agree joined h host uid gid knows = (owned-here joined h host uid gid knows, owned-there joined h host uid gid knows)

-- ---- hosts that spare nothing

no_run : (runs : List IdRange) (v : ℕ) → runs ≡ [] → lies_in_some runs v ≡ false
no_run runs v none = ap (λ rs. lies_in_some rs v) none

allowed_there : (there spared : Bool) → spared ≡ false → (there || spared) ≡ true → there ≡ true
allowed_there true spared none h = refl
allowed_there false spared none h = absurd (cc)

-- the numbers that they allow are accounts'
pub accounts_there : (host : Host) (uid gid : ℕ) → SparesNothing host → AreAllowed host uid gid → HaveAccounts host uid gid
accounts_there host uid gid none are = record {
  user = allowed_there (is_some (user_at host.users uid)) (spares_user host uid) (no_run host.spared_users uid none.users) are.user;
  group = allowed_there (is_some (group_at host.groups gid)) (spares_group host gid) (no_run host.spared_groups gid none.groups) are.group;
}

owned-from : (joined : Joined) (start : ℕ) (hosts : List (Host × List Entry)) → ((h : ℕ) (host : Host) (files : List Entry) → slice_get hosts h ≡ Some (host, files) → All (λ f. HaveOwners joined (start + h) f.uid f.gid) files) → All (λ f. HaveOwners joined f.host f.uid f.gid) (added_from start hosts)
owned-from joined start [] each_host = All-nil (λ (f : Added). HaveOwners joined f.host f.uid f.gid)
owned-from joined start (here ∷ more) each_host =
    let first : All (λ f. HaveOwners joined start f.uid f.gid) here.1 = subst (λ n. All (λ f. HaveOwners joined n f.uid f.gid) here.1) (omega arith) (each_host 0 here.0 here.1 refl) in
    All-append (λ (f : Added). HaveOwners joined f.host f.uid f.gid) (map (added_on start) here.1) (added_from (start + 1) more)
    (All-map (λ (f : Added). HaveOwners joined f.host f.uid f.gid) (added_on start) here.1 first)
    (owned-from joined (start + 1) more (λ h host files at. subst (λ n. All (λ f. HaveOwners joined n f.uid f.gid) files) (omega arith) (each_host (suc h) host files at)))

pub nothing_spared_all_owned : NothingSparedAllOwned
nothing_spared_all_owned site whole none = record {
  by_tables = have;
  over_all_hosts = owned-from site.joined 0 site.hosts (λ h host files here k d l.
      let f = get_or files k d in
      let has = have h host files here k d l in
      let from_zero : h ≡ 0 + h = omega arith in
      subst (λ n. HaveOwners site.joined n f.uid f.gid) from_zero (owned-there site.joined h host f.uid f.gid (whole.each_host h host files here).known has));
}
  where
    have : (h : ℕ) (host : Host) (files : List Entry) → slice_get site.hosts h ≡ Some (host, files) → All (λ f. HaveAccounts host f.uid f.gid) files
    have h host files here =
        let there : slice_get (hosts_in site) h ≡ Some host = slice_get-map (λ (x : Host × List Entry). x.0) site.hosts h ∙ ap (option_map (λ (x : Host × List Entry). x.0)) here in
        let unsparing = all-at SparesNothing (hosts_in site) h host none there in
        λ k d l. accounts_there host (get_or files k d).uid (get_or files k d).gid unsparing ((whole.each_host h host files here).allowed k d l)
