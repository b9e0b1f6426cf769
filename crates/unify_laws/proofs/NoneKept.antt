-- Hosts of a site of which no name is kept: all of their rows are left.
use Rattle.std.proofs.Common.{◌≡◌, ℕ, Bool, true, false, not, List, [], ◌∷◌, map, get_or, refl, sym, ap, subst, ◌∙◌}
use Rattle.std.specs.List.{All, Contains, filter, list_any}
use Rattle.std.proofs.lemmas.Bool.{true≢false}
use Rattle.std.proofs.lemmas.List.{get_or_default}
use Rattle.std.proofs.lemmas.List.Elements.{All-head, All-map, All-tail}
use Rattle.std.proofs.lemmas.List.Folds.{list_any_at}
use Rattle.accounts.specs.Rows.{Passwd, Group}
use Rattle.hosts_join.specs.Checks.{primary_checked}
use Rattle.hosts_join.specs.declared.host.Host.{Host}
use Rattle.hosts_join.specs.declared.reserving.Reserved.{Reserved}
use Rattle.keep_text.specs.declared.keep_text.KeepText.{KeepText}
use Rattle.kept_accounts.specs.Keeping.{is_kept_group, is_kept_user}
use Rattle.kept_accounts.specs.Others.{other_rows, without_kept}
use Rattle.kept_accounts.specs.Reserving.{UnownedNumbers, by_name, reserved_groups, reserved_users}
use Rattle.kept_accounts.proofs.ReservedLemmas.{in-map, kept_reserved}
use Rattle.logindefs.specs.declared.ranges.IdRange.{IdRange}
use Rattle.mergedfiles.specs.ReadBack.{WasRead}
use Rattle.unify_texts.specs.ReservedLines.{is_by_name}

-- some name reserves a number
abbrev pub names_reserve : List Reserved → Bool
names_reserve reserved = list_any (λ r. is_by_name r.by) reserved

-- the number of a name that is kept is reserved by it
by-name-there : (reserved : List Reserved) (host : Host) (row : List ℕ × ℕ) → Contains reserved (by_name host row) → names_reserve reserved ≡ true
by-name-there reserved host row there =
    list_any_at (λ (r : Reserved). is_by_name r.by) reserved there.0 (by_name host row) there.1 (ap (λ (r : Reserved). is_by_name r.by) there.2)

filter-whole : {X : Type 0} (test : X → Bool) (xs : List X) → All (λ x. test x ≡ true) xs → filter test xs ≡ xs
filter-whole test [] all = refl
filter-whole test (x ∷ xs) all = rw (All-head (λ y. test y ≡ true) x xs all) (ap (λ ys. x ∷ ys) (filter-whole test xs (All-tail (λ y. test y ≡ true) x xs all)))

-- rows of which no name is kept are all left
whole-left : {Row : Type 0} (name : Row → List ℕ) (kept : List ℕ → Bool) (rows : List Row) → ((row : Row) → Contains rows row → kept (name row) ≡ false) → other_rows name kept rows ≡ rows
whole-left {Row} name kept rows none = filter-whole (λ row. not (kept (name row))) rows (λ k d l. ap not (none (get_or rows k d) (k, l, get_or_default rows k (get_or rows k d) d l)))

not-kept : (b : Bool) (reserved : List Reserved) → names_reserve reserved ≡ false → (b ≡ true → names_reserve reserved ≡ true) → b ≡ false
not-kept false reserved none goes = refl
not-kept true reserved none goes = absurd (true≢false (sym (goes refl) ∙ none))

module _ (keep : KeepText) (hosts : List Host) (unowned : UnownedNumbers) where
  -- what is left of a host
  abbrev left : Host → Host
  left = without_kept keep hosts unowned

  pub users-left : (host : Host) → Contains hosts host → names_reserve (reserved_users keep hosts unowned.users) ≡ false → (left host).users ≡ host.users
  users-left host there none = whole-left (λ (row : Passwd). row.name) (is_kept_user keep hosts) host.users (λ row is_row.
      not-kept (is_kept_user keep hosts row.name) (reserved_users keep hosts unowned.users) none (λ kept.
      by-name-there (reserved_users keep hosts unowned.users) host (row.name, row.uid) ((kept_reserved keep hosts unowned.users host (row.name, row.uid) there).0 (in-map (λ (r : Passwd). (r.name, r.uid)) host.users row is_row) kept)))

  pub groups-left : (host : Host) → Contains hosts host → names_reserve (reserved_groups keep hosts unowned.groups) ≡ false → (left host).groups ≡ host.groups
  groups-left host there none = whole-left (λ (row : Group). row.name) (is_kept_group keep hosts) host.groups (λ row is_row.
      not-kept (is_kept_group keep hosts row.name) (reserved_groups keep hosts unowned.groups) none (λ kept.
      by-name-there (reserved_groups keep hosts unowned.groups) host (row.name, row.gid) ((kept_reserved keep hosts unowned.groups host (row.name, row.gid) there).1 (in-map (λ (r : Group). (r.name, r.gid)) host.groups row is_row) kept)))

  -- what a host spares its texts do not tell
  sparing-read : (host : Host) (users groups : List IdRange) → WasRead host → WasRead (record host { spared_users = users; spared_groups = groups })
  unfolding primary_checked
  sparing-read host users groups was = record {
    passwd = was.passwd;
    users = was.users;
    group = was.group;
    groups = was.groups;
    primary = was.primary;
  }

  module _ (no_user : names_reserve (reserved_users keep hosts unowned.users) ≡ false) (no_group : names_reserve (reserved_groups keep hosts unowned.groups) ≡ false) where
    host-left : (host : Host) → Contains hosts host → left host ≡ record host { spared_users = (left host).spared_users; spared_groups = (left host).spared_groups }
    host-left host there = λ j. record host {
      users = users-left host there no_user j;
      groups = groups-left host there no_group j;
      spared_users = (left host).spared_users;
      spared_groups = (left host).spared_groups;
    }

    pub all-left-read : All WasRead hosts → All WasRead (map left hosts)
    all-left-read all = All-map WasRead left hosts (λ k d l.
        let host = get_or hosts k d in
        let there : Contains hosts host = (k, l, get_or_default hosts k host d l) in
        subst WasRead (sym (host-left host there)) (sparing-read host (left host).spared_users (left host).spared_groups (all k d l)))
