-- What was joined of a host, and its own files by it.
use Rattle.std.proofs.Common.{◌≡◌, ℕ, ◌==◌, true, false, List, [], ◌∷◌, map, Option, Some, None, Ok, refl, sym, ap, subst, ◌∙◌}
use Rattle.std.specs.Prelude.{MatchOption, is_some}
use Rattle.std.specs.List.{AllByRecursion, AllZip, find}
use Rattle.std.specs.Option.{option_and_then, option_map}
use Rattle.std.proofs.lemmas.List.Elements.{All-weaker}
use Rattle.accounts.specs.Laws.{AreDistinct}
use Rattle.accounts.specs.Rows.{Passwd, Group}
use Rattle.accounts.specs.Tables.{passwd_table, group_table}
use Rattle.hosts_join.specs.Accounts.{Accounts, Pair, place_of}
use Rattle.hosts_join.specs.Hosts.{IsLawfulHost}
use Rattle.hosts_join.specs.Kinds.{group_at}
use Rattle.hosts_join.specs.Laws.{IsOwnedAsTold, KnowsHost, LeavesOut}
use Rattle.hosts_join.specs.Lawful.{AreLawfulAccounts}
use Rattle.hosts_join.specs.Rules.{is_name, is_reserved}
use Rattle.hosts_join.specs.Site.{Joined}
use Rattle.hosts_join.specs.declared.host.Host.{Host}
use Rattle.ownership.specs.Mappings.{IsAdmissible, number_under}
use Rattle.ownership.specs.declared.mapping.Mappings.{Mappings}
use Rattle.mergedfiles.specs.FullTables.{AreNumberedRows, IsFullGroupFile, IsFullPasswd, IsFullUser, IsNumberedHost, IsRenumbered}
use Rattle.mergedfiles.specs.HostFiles.{host_users, host_groups}
use Rattle.mergedfiles.specs.HostReadBack.{IsHostGroup, IsHostPasswd, IsRenumberedGroup, IsRenumberedUser, KeepsPrimary}
use Rattle.mergedfiles.specs.ReadBack.{HasNumber, IsGivenToNone, WasRead}
use Rattle.mergedfiles.proofs.HostGroups.{groups-back}
use Rattle.mergedfiles.proofs.HostKnown.{group_name, group_number, new_group, new_user, user_name, user_number}
use Rattle.mergedfiles.proofs.HostNames.{IsFound, each-found, stays}
use Rattle.mergedfiles.proofs.HostUsers.{users-back}
use Rattle.mergedfiles.proofs.Places.{is-there, name-place, placed-name}
use Rattle.mergedfiles.proofs.ReadHosts.{all-primary}
use Rattle.mergedfiles.proofs.ReadLines.{both-hold}
use Rattle.mergedfiles.proofs.ReadText.{all-says}
use Rattle.unify_texts.specs.WrittenMap.{SayMapping}
use Rattle.unify_laws.specs.HostTexts.{AreJoinedRows}
use Rattle.unify_laws.proofs.Installed.{is-paired}
use Rattle.unify_laws.proofs.Keeping.{is_mapping}
use Rattle.unify_laws.proofs.Sparing.{unreserved}

-- ---- a host of which all rows were joined

-- a name that a number has on a host is one of the accounts
named_there : (a : Accounts) (h v : ℕ) (n : List ℕ) (told : Option (List ℕ)) → IsOwnedAsTold a.names h v told → told ≡ Some n → is_name a.names n ≡ true
named_there a h v n told owned named = let is = subst (IsOwnedAsTold a.names h v) named owned in placed-name a.names n is.0 is.2

module _ {Row : Type 0} (name : Row → List ℕ) (a : Accounts) where
  abbrev IsOfSite : Row → Type 0
  IsOfSite row = is_name a.names (name row) ≡ true

module _ {Row : Type 0} (name : Row → List ℕ) (number : Row → ℕ) (a : Accounts) where
  abbrev IsKept : Row → Type 0
  IsKept row = is_name a.names (name row) ≡ false → is_reserved a.reserved (number row) ≡ true

  -- where the accounts know the numbers of rows, they have the names of these
  all_of_site : (h : ℕ) (rows : List Row) → AreDistinct (map number rows) → ((v : ℕ) → IsOwnedAsTold a.names h v (option_map name (find (λ row. v == number row) rows))) → AllByRecursion (IsOfSite name a) rows
  all_of_site h rows apart known =
      all-says (IsFound name number rows) (IsOfSite name a) (λ row found. named_there a h (number row) (name row) (option_map name (find (λ r. number row == number r) rows)) (known (number row)) found) rows (each-found name number rows apart)

users_of_site : (site : Joined) (h : ℕ) (host : Host) → IsLawfulHost host → KnowsHost site h host → AllByRecursion (IsOfSite user_name site.users) host.users
users_of_site site h host lawful known = all_of_site user_name user_number site.users h host.users lawful.users.numbers_differ known.users

groups_of_site : (site : Joined) (h : ℕ) (host : Host) → IsLawfulHost host → KnowsHost site h host → AllByRecursion (IsOfSite group_name site.groups) host.groups
groups_of_site site h host lawful known = all_of_site group_name group_number site.groups h host.groups lawful.groups.numbers_differ known.groups

-- ---- a host of which some rows are kept

-- what is reserved is given to no name, and so no number of a row that is kept
pub numbered_rows : {Row : Type 0} (name : Row → List ℕ) (number : Row → ℕ) (a : Accounts) (m : List ℕ) (pairs : List Pair) (full joined : List Row) → AreLawfulAccounts a → IsAdmissible a m → SayMapping a m pairs → LeavesOut a (is_reserved a.reserved)
    → AreJoinedRows name number a full joined → AreNumberedRows name number a m full joined
numbered_rows name number a m pairs full joined lawful ok say leaves is =
    let mapping = is_mapping a m lawful ok in
    record {
      numbers = mapping.numbers;
      len = mapping.len;
      joined_are = is.joined_are;
      kept = All-weaker (IsKept name number a) (λ row. is_name a.names (name row) ≡ false → IsGivenToNone a m (number row))
          (λ row kept none n has. unreserved a leaves m pairs ok say n (number row) (is-paired a m pairs say n (number row) has) (kept none)) full is.kept;
    }

-- a number that a row tells of, where one that no name had is given to none
told_of : (a : Accounts) (m : List ℕ) (named : Option (List ℕ)) (old new : ℕ) → (named ≡ None → IsGivenToNone a m old) → MatchOption named (new ≡ old) (λ name. HasNumber a m name new) → IsRenumbered a m named old new
told_of a m (Some name) old new none is = is
told_of a m None old new none is = (is, subst (IsGivenToNone a m) (sym is) (none refl))

zip_weaker : {X Y : Type 0} (R S : X → Y → Type 0) → ((x : X) (y : Y) → R x y → S x y) → (xs : List X) (ys : List Y) → AllZip R xs ys → AllZip S xs ys
zip_weaker R S goes [] [] all = tt
zip_weaker R S goes [] (y ∷ ys) all = absurd all
zip_weaker R S goes (x ∷ xs) [] all = absurd all
zip_weaker R S goes (x ∷ xs) (y ∷ ys) all = (goes x y all.0, zip_weaker R S goes xs ys all.1)

-- each user has the primary group that it had
pub primary_groups : (site : Joined) (m : Mappings) (full host : Host) (old_users new_users old_groups new_groups : List ℕ) → IsNumberedHost site m full host
    → (passwd : IsFullPasswd site m full host old_users new_users) (group : IsFullGroupFile site m full host old_groups new_groups) → AllZip (KeepsPrimary full.groups group.rows) full.users passwd.rows
primary_groups site m full host old_users new_users old_groups new_groups is passwd group =
    let keeps : (was row : Passwd) → IsFullUser host site m was row → KeepsPrimary full.groups group.rows was row = λ was row user name named.
    group.names_are_kept was.gid row.gid (told_of site.groups m.groups (group_at host.groups was.gid) was.gid row.gid (λ none. stays group_name group_number site.groups m.groups full.groups host.groups is.groups was.gid name named none) user.gid)
    ∙ named in
    zip_weaker (IsFullUser host site m) (KeepsPrimary full.groups group.rows) keeps full.users passwd.rows passwd.by_row

-- ---- the own files of a host of which all rows were joined

has_number : (a : Accounts) (m name : List ℕ) (old : ℕ) → is_name a.names name ≡ true → HasNumber a m name (number_under m (place_of a.names name) old)
has_number a m name old e = let place = name-place a.names name e in (place.0, place.1, sym (ap (λ o. number_under m o old) place.1))

module _ (site : Joined) (m : Mappings) (h : ℕ) (host : Host) (lawful : IsLawfulHost host) (known : KnowsHost site h host) where
  abbrev HasGroup : Passwd → Type 0
  HasGroup row = is_some (find (λ (group : Group). row.gid == group.gid) host.groups) ≡ true

  user_is : (row : Passwd) → IsOfSite user_name site.users row × HasGroup row → IsRenumberedUser host site m row (new_user site m host row)
  user_is row (of_site, there) =
      let group = is-there (find (λ (group : Group). row.gid == group.gid) host.groups) there in
      let named : group_at host.groups row.gid ≡ Some group.0.name = ap (option_map (λ (g : Group). g.name)) group.1 in
      let number = has_number site.groups m.groups group.0.name row.gid (named_there site.groups h row.gid group.0.name (group_at host.groups row.gid) (known.groups row.gid) named) in
      record {
        line = refl;
        name = refl;
        password = refl;
        uid = has_number site.users m.users row.name row.uid of_site;
        group = group.0.name;
        primary = named;
        gid = subst (λ (o : Option (List ℕ)). HasNumber site.groups m.groups group.0.name (number_under m.groups (option_and_then (place_of site.groups.names) o) row.gid)) (sym named) number;
        comment = refl;
        home = refl;
        shell = refl;
      }

  pub own_passwd_in_full : IsNumberedHost site m host host → WasRead host → (text : List ℕ) → passwd_table text ≡ Ok host.users → IsHostPasswd host site m text (host_users host site m text)
  own_passwd_in_full is was text read =
      let of_site = users_of_site site h host lawful known in
      let all = all-says (λ (row : Passwd). IsOfSite user_name site.users row × HasGroup row) (λ row. IsRenumberedUser host site m row (new_user site m host row)) user_is host.users
      (both-hold (IsOfSite user_name site.users) HasGroup host.users of_site (all-primary host was.primary)) in
      let file = users-back site m host host is (IsRenumberedUser host site m) all text read in
      record {
        by_line = file.by_line;
        rows = file.rows;
        by_row = file.by_row;
        only = file.only;
        whole = file.whole;
        names_are_kept = λ uid number name had has. file.names_are_kept uid number (subst (λ (o : Option (List ℕ)). IsRenumbered site.users m.users o uid number) (sym had) has) ∙ had;
      }

  group_is : (row : Group) → IsOfSite group_name site.groups row → IsRenumberedGroup site m row (new_group site m row)
  group_is row of_site = record { line = refl; name = refl; password = refl; gid = has_number site.groups m.groups row.name row.gid of_site; members = refl }

  pub own_group_in_full : IsNumberedHost site m host host → (text : List ℕ) → group_table text ≡ Ok host.groups → IsHostGroup host site m text (host_groups site m.groups text)
  own_group_in_full is text read =
      let all = all-says (IsOfSite group_name site.groups) (λ row. IsRenumberedGroup site m row (new_group site m row)) group_is host.groups (groups_of_site site h host lawful known) in
      let file = groups-back site m host host is (IsRenumberedGroup site m) all text read in
      record {
        by_line = file.by_line;
        rows = file.rows;
        by_row = file.by_row;
        only = file.only;
        whole = file.whole;
        names_are_kept = λ gid number name had has. file.names_are_kept gid number (subst (λ (o : Option (List ℕ)). IsRenumbered site.groups m.groups o gid number) (sym had) has) ∙ had;
      }
