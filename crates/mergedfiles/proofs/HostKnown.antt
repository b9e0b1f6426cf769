-- The hosts of a numbered site, their names and the new numbers of these.
use Rattle.std.proofs.Common.{◌≡◌, ℕ, ◌==◌, true, false, List, [], ◌∷◌, refl, sym, ap, ◌∙◌, subst, Option, Some}
use Rattle.std.specs.Prelude.{is_some, slice_get}
use Rattle.std.specs.List.{AllByRecursion, filter, find}
use Rattle.std.specs.Option.{option_and_then, option_map}
use Rattle.std.proofs.lemmas.Bool.{true≢false}
use Rattle.std.proofs.lemmas.List.Elements.{All-contains_itself, All-from_recursion, All-weaker}
use Rattle.accounts.specs.Rows.{Passwd, Group}
use Rattle.accounts.proofs.LawLemmas.{passwd-law, group-law}
use Rattle.hosts_join.specs.declared.host.Host.{Host}
use Rattle.hosts_join.specs.Accounts.{Accounts, place_of}
use Rattle.hosts_join.specs.Kinds.{user_at, user_rows, user_rows-table, group_at, group_rows, group_rows-table}
use Rattle.hosts_join.specs.Laws.{IsOwnedAsTold, KnowsHost}
use Rattle.hosts_join.specs.Rules.{is_name}
use Rattle.hosts_join.specs.Site.{Joined}
use Rattle.hosts_join.proofs.Knowing.{host-known}
use Rattle.ownership.specs.Mappings.{number_under}
use Rattle.ownership.specs.declared.mapping.Mappings.{Mappings}
use Rattle.mergedfiles.specs.FullTables.{HostsJoinInFull, IsNumberedHost}
use Rattle.mergedfiles.specs.HostReadBack.{IsRenumberedUser, IsRenumberedGroup}
use Rattle.mergedfiles.specs.InPart.{AllIsInPart, WasReadInPart}
use Rattle.mergedfiles.specs.ReadBack.{HasNumber, IsGivenToNone, IsNumbered, WasRead}
use Rattle.mergedfiles.proofs.HostNames.{IsFound, each-found, told-by}
use Rattle.mergedfiles.proofs.Places.{is-there, name-place, placed-name}
use Rattle.mergedfiles.proofs.ReadHosts.{all-primary, host-holds}
use Rattle.mergedfiles.proofs.ReadLines.{both-hold}
use Rattle.mergedfiles.proofs.ReadText.{all-says}

abbrev pub user_name : Passwd → List ℕ
user_name row = row.name

abbrev pub user_number : Passwd → ℕ
user_number row = row.uid

abbrev pub group_name : Group → List ℕ
group_name row = row.name

abbrev pub group_number : Group → ℕ
group_number row = row.gid

-- ---- what a row becomes

module _ (site : Joined) (m : Mappings) where
  abbrev pub new_user : Host → Passwd → Passwd
  new_user host row = record {
    line = row.line;
    name = row.name;
    password = row.password;
    uid = number_under m.users (place_of site.users.names row.name) row.uid;
    gid = number_under m.groups (option_and_then (place_of site.groups.names) (group_at host.groups row.gid)) row.gid;
    comment = row.comment;
    home = row.home;
    shell = row.shell;
  }

  abbrev pub new_group : Group → Group
  new_group row = record { line = row.line; name = row.name; password = row.password; gid = number_under m.groups (place_of site.groups.names row.name) row.gid; members = row.members }

-- a name has the number that stands for it
has-number : (a : Accounts) (m name : List ℕ) (old : ℕ) → is_name a.names name ≡ true → HasNumber a m name (number_under m (place_of a.names name) old)
has-number a m name old e = let place = name-place a.names name e in (place.0, place.1, sym (ap (λ o. number_under m o old) place.1))

-- ---- a table whose names the site has

module _ {Row : Type 0} (name : Row → List ℕ) (a : Accounts) where
  abbrev IsOfSite : Row → Type 0
  IsOfSite row = is_name a.names (name row) ≡ true

  all-joined : (rows : List Row) → AllByRecursion IsOfSite rows → filter (λ row. is_name a.names (name row)) rows ≡ rows
  all-joined [] all = refl
  all-joined (row ∷ rows) all = rw all.0 (ap (λ rs. row ∷ rs) (all-joined rows all.1))

  none-kept : (number : Row → ℕ) (m : List ℕ) (row : Row) → IsOfSite row → is_name a.names (name row) ≡ false → IsGivenToNone a m (number row)
  none-kept number m row of_site e = absurd (true≢false (sym of_site ∙ e))

module _ (hosts : List Host) (site : Joined) (m : Mappings) (h : ℕ) (host : Host) (is : IsNumbered hosts site m) (here : slice_get hosts h ≡ Some host) where
  -- the site knows the host
  pub known : KnowsHost site h host
  known =
      let was = host-holds WasRead hosts h host is.read here in
      let users = (user_rows-table host.users (passwd-law was.passwd host.users was.users)).numbers_differ in
      let groups = (group_rows-table host.groups (group-law was.group host.groups was.groups)).numbers_differ in
      record {
        users = λ uid. subst (λ (a : Accounts). IsOwnedAsTold a.names h uid (user_at host.users uid)) (sym is.joined.users)
            (host-known (λ (x : Host). x.ranges.uid) (λ (x : Host). x.ranges.sys_uid) (λ (x : Host). user_rows x.users) h uid hosts host (user_at host.users uid) here users (told-by user_name user_number uid host.users));
        groups = λ gid. subst (λ (a : Accounts). IsOwnedAsTold a.names h gid (group_at host.groups gid)) (sym is.joined.groups)
            (host-known (λ (x : Host). x.ranges.gid) (λ (x : Host). x.ranges.sys_gid) (λ (x : Host). group_rows x.groups) h gid hosts host (group_at host.groups gid) here groups (told-by group_name group_number gid host.groups));
      }

  -- a name of the host is one of the site
  user-there : (uid : ℕ) (name : List ℕ) → user_at host.users uid ≡ Some name → is_name site.users.names name ≡ true
  user-there uid name named =
      let owned = subst (λ (o : Option (List ℕ)). IsOwnedAsTold site.users.names h uid o) named (known.users uid) in
      placed-name site.users.names name owned.0 owned.2

  group-there : (gid : ℕ) (name : List ℕ) → group_at host.groups gid ≡ Some name → is_name site.groups.names name ≡ true
  group-there gid name named =
      let owned = subst (λ (o : Option (List ℕ)). IsOwnedAsTold site.groups.names h gid o) named (known.groups gid) in
      placed-name site.groups.names name owned.0 owned.2

  users-there : AllByRecursion (IsOfSite user_name site.users) host.users
  users-there =
      let was = host-holds WasRead hosts h host is.read here in
      all-says (IsFound user_name user_number host.users) (IsOfSite user_name site.users) (λ row found. user-there row.uid row.name found) host.users
      (each-found user_name user_number host.users (passwd-law was.passwd host.users was.users).numbers_differ)

  groups-there : AllByRecursion (IsOfSite group_name site.groups) host.groups
  groups-there =
      let was = host-holds WasRead hosts h host is.read here in
      all-says (IsFound group_name group_number host.groups) (IsOfSite group_name site.groups) (λ row found. group-there row.gid row.name found) host.groups
      (each-found group_name group_number host.groups (group-law was.group host.groups was.groups).numbers_differ)

  -- all of the host was joined
  pub in-full : IsNumberedHost site m host host
  in-full = record {
    users = record {
      numbers = is.users;
      len = is.for_users;
      joined_are = sym (all-joined user_name site.users host.users users-there);
      kept = All-from_recursion (λ row. is_name site.users.names row.name ≡ false → IsGivenToNone site.users m.users row.uid) host.users
          (all-says (IsOfSite user_name site.users) (λ row. is_name site.users.names row.name ≡ false → IsGivenToNone site.users m.users row.uid) (none-kept user_name site.users user_number m.users) host.users users-there);
    };
    groups = record {
      numbers = is.groups;
      len = is.for_groups;
      joined_are = sym (all-joined group_name site.groups host.groups groups-there);
      kept = All-from_recursion (λ row. is_name site.groups.names row.name ≡ false → IsGivenToNone site.groups m.groups row.gid) host.groups
          (all-says (IsOfSite group_name site.groups) (λ row. is_name site.groups.names row.name ≡ false → IsGivenToNone site.groups m.groups row.gid) (none-kept group_name site.groups group_number m.groups) host.groups groups-there);
    };
  }

  -- ---- so each row gets new numbers

  abbrev HasGroup : Passwd → Type 0
  HasGroup row = is_some (find (λ (group : Group). row.gid == group.gid) host.groups) ≡ true

  new-user : (row : Passwd) → IsOfSite user_name site.users row × HasGroup row → IsRenumberedUser host site m row (new_user site m host row)
  new-user row (of_site, there) =
      let group = is-there (find (λ (group : Group). row.gid == group.gid) host.groups) there in
      let named : group_at host.groups row.gid ≡ Some group.0.name = ap (option_map (λ (g : Group). g.name)) group.1 in
      let number = has-number site.groups m.groups group.0.name row.gid (group-there row.gid group.0.name named) in
      record {
        line = refl;
        name = refl;
        password = refl;
        uid = has-number site.users m.users row.name row.uid of_site;
        group = group.0.name;
        primary = named;
        gid = subst (λ (o : Option (List ℕ)). HasNumber site.groups m.groups group.0.name (number_under m.groups (option_and_then (place_of site.groups.names) o) row.gid)) (sym named) number;
        comment = refl;
        home = refl;
        shell = refl;
      }

  pub all-users : AllByRecursion (λ row. IsRenumberedUser host site m row (new_user site m host row)) host.users
  all-users =
      let was = host-holds WasRead hosts h host is.read here in
      all-says (λ (row : Passwd). IsOfSite user_name site.users row × HasGroup row) (λ row. IsRenumberedUser host site m row (new_user site m host row)) new-user host.users
      (both-hold (IsOfSite user_name site.users) HasGroup host.users users-there (all-primary host was.primary))

  new-group : (row : Group) → IsOfSite group_name site.groups row → IsRenumberedGroup site m row (new_group site m row)
  new-group row of_site = record { line = refl; name = refl; password = refl; gid = has-number site.groups m.groups row.name row.gid of_site; members = refl }

  pub all-groups : AllByRecursion (λ row. IsRenumberedGroup site m row (new_group site m row)) host.groups
  all-groups = all-says (IsOfSite group_name site.groups) (λ row. IsRenumberedGroup site m row (new_group site m row)) new-group host.groups groups-there

pub hosts_join_in_full : HostsJoinInFull
hosts_join_in_full hosts site m h host is here = in-full hosts site m h host is here

pub all_is_in_part : AllIsInPart
all_is_in_part hosts site m is = record {
  read = All-weaker WasRead WasReadInPart (λ host was. record {
    passwd = was.passwd;
    all_users = host.users;
    users = was.users;
    each_user = All-contains_itself host.users;
    group = was.group;
    all_groups = host.groups;
    groups = was.groups;
    each_group = All-contains_itself host.groups;
  }) hosts is.read;
  joined = is.joined;
  knows = λ h host here. known hosts site m h host is here;
  lawful = is.lawful;
  users = is.users;
  for_users = is.for_users;
  groups = is.groups;
  for_groups = is.for_groups;
}
