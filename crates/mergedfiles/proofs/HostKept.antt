-- By a host's own files with their new numbers each number is the same name's as before.
use Rattle.std.proofs.Common.{◌≡◌, ℕ, List, [], ◌∷◌, Option, Some, None, refl, sym, ap, subst, ◌∙◌}
use Rattle.std.specs.Prelude.{MatchOption}
use Rattle.std.specs.List.{AllZip}
use Rattle.accounts.specs.Rows.{Passwd}
use Rattle.hosts_join.specs.Accounts.{Accounts, owner}
use Rattle.hosts_join.specs.Kinds.{user_at, group_at}
use Rattle.hosts_join.specs.Laws.{IsOwnedAsTold}
use Rattle.ownership.specs.Mappings.{number_under}
use Rattle.mergedfiles.specs.FullTables.{FullNamesAreKept, IsFullUser, IsRenumbered}
use Rattle.mergedfiles.specs.HostReadBack.{HostNamesAreKept, KeepsPrimary}
use Rattle.mergedfiles.specs.ReadBack.{HasNumber, IsGivenToNone}
use Rattle.mergedfiles.proofs.HostGroups.{full_group_back}
use Rattle.mergedfiles.proofs.HostKnown.{group_name, group_number, in-full, known, user_name, user_number}
use Rattle.mergedfiles.proofs.HostNames.{stays, unnamed}
use Rattle.mergedfiles.proofs.HostUsers.{full_passwd_back}

-- the number that a plan gives
-- named: what the table of the rows that were joined gives
planned : (a : Accounts) (m : List ℕ) (h old : ℕ) (named : Option (List ℕ)) → IsOwnedAsTold a.names h old named → (named ≡ None → IsGivenToNone a m old) → IsRenumbered a m named old (number_under m (owner a.names h old) old)
planned a m h old (Some name) owned none = (owned.0, owned.2, sym (ap (λ o. number_under m o old) owned.1))
planned a m h old None owned none =
    let same : number_under m (owner a.names h old) old ≡ old = ap (λ o. number_under m o old) owned in
    (same, subst (IsGivenToNone a m) (sym same) (none refl))

zip-weaker : {X Y : Type 0} (R S : X → Y → Type 0) → ((x : X) (y : Y) → R x y → S x y) → (xs : List X) (ys : List Y) → AllZip R xs ys → AllZip S xs ys
zip-weaker R S goes [] [] all = tt
zip-weaker R S goes [] (y ∷ ys) all = absurd all
zip-weaker R S goes (x ∷ xs) [] all = absurd all
zip-weaker R S goes (x ∷ xs) (y ∷ ys) all = (goes x y all.0, zip-weaker R S goes xs ys all.1)

-- a number that a row tells of, where one that no name had is given to none
renumbered : (a : Accounts) (m : List ℕ) (named : Option (List ℕ)) (old new : ℕ) → (named ≡ None → IsGivenToNone a m old) → MatchOption named (new ≡ old) (λ name. HasNumber a m name new) → IsRenumbered a m named old new
renumbered a m (Some name) old new none is = is
renumbered a m None old new none is = (is, subst (IsGivenToNone a m) (sym is) (none refl))

pub full_names_kept : FullNamesAreKept
full_names_kept site m h full host passwd group users groups is known users_read groups_read new_users new_groups =
    let by_users = full_passwd_back site m full host passwd is users_read in
    let by_groups = full_group_back site m full host group is groups_read in
    let keeps : (was row : Passwd) → IsFullUser host site m was row → KeepsPrimary full.groups groups was row = λ was row user name named.
    ap (λ rows. group_at rows row.gid) (by_groups.only groups new_groups)
    ∙ by_groups.names_are_kept was.gid row.gid (renumbered site.groups m.groups (group_at host.groups was.gid) was.gid row.gid (λ none. stays group_name group_number site.groups m.groups full.groups host.groups is.groups was.gid name named none) user.gid)
    ∙ named in
    record {
      user_kept = λ uid name named.
          let number = number_under m.users (owner site.users.names h uid) uid in
          ap (λ rows. user_at rows number) (by_users.only users new_users)
          ∙ by_users.names_are_kept uid number (planned site.users m.users h uid (user_at host.users uid) (known.users uid) (λ none. stays user_name user_number site.users m.users full.users host.users is.users uid name named none))
          ∙ named;
      group_kept = λ gid name named.
          let number = number_under m.groups (owner site.groups.names h gid) gid in
          ap (λ rows. group_at rows number) (by_groups.only groups new_groups)
          ∙ by_groups.names_are_kept gid number (planned site.groups m.groups h gid (group_at host.groups gid) (known.groups gid) (λ none. stays group_name group_number site.groups m.groups full.groups host.groups is.groups gid name named none))
          ∙ named;
      primary_kept = subst (λ (rows : List Passwd). AllZip (KeepsPrimary full.groups groups) full.users rows) (sym (by_users.only users new_users))
          (zip-weaker (IsFullUser host site m) (KeepsPrimary full.groups groups) keeps full.users by_users.rows by_users.by_row);
      no_user = λ uid none given.
          ap (λ rows. user_at rows uid) (by_users.only users new_users) ∙ by_users.names_are_kept uid uid (unnamed user_name user_number site.users m.users full.users host.users is.users uid none given) ∙ none;
      no_group = λ gid none given.
          ap (λ rows. group_at rows gid) (by_groups.only groups new_groups) ∙ by_groups.names_are_kept gid gid (unnamed group_name group_number site.groups m.groups full.groups host.groups is.groups gid none given) ∙ none;
    }

pub host_names_kept : HostNamesAreKept
host_names_kept hosts site m h host passwd group users groups is here users_read groups_read new_users new_groups =
    full_names_kept site m h host host passwd group users groups (in-full hosts site m h host is here) (known hosts site m h host is here) users_read groups_read new_users new_groups
