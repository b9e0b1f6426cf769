-- Whether a name is kept, in words of the texts.
use Rattle.std.proofs.Common.{◌≡◌, ◌⊎◌, ℕ, Bool, true, false, cond, ◌||◌, List, [], ◌∷◌, ◌++◌, map, refl, ap, ◌∙◌}
use Rattle.std.specs.Prelude.{Decides, ◌↔◌, filter, flat_map, if◌then◌else◌}
use Rattle.std.specs.List.{Any, list_any}
use Rattle.std.proofs.lemmas.Bool.Decides.{Decides-at, Decides-or}
use Rattle.std.proofs.lemmas.List.Folds.{list_any-append}
use Rattle.logindefs.specs.declared.ranges.IdRange.{IdRange}
use Rattle.accounts.specs.Rows.{Passwd, Group}
use Rattle.hosts_join.specs.declared.host.Host.{Host}
use Rattle.hosts_join.specs.declared.reserving.Reserved.{Reserved}
use Rattle.hosts_join.specs.declared.texts.HostText.{HostText}
use Rattle.keep_text.specs.declared.keep_text.Kept.{Kept}
use Rattle.keep_text.specs.declared.keep_text.KeepText.{KeepText}
use Rattle.kept_accounts.specs.Keeping.{is_kept_group, is_kept_user}
use Rattle.kept_accounts.specs.Reserving.{by_files, by_name, by_range, reserved_by, reserved_groups, reserved_on, reserved_users}
use Rattle.kept_accounts.specs.declared.reserving.UnownedNumber.{UnownedNumber}
use Rattle.kept_accounts.proofs.StayLemmas.{kept_names_stay}
use Rattle.unify_texts.specs.ReservedLines.{is_by_name, keeps_a_name}
use Rattle.site_tables.specs.TextLaws.{SomeGroupStays, SomeUserStays, GroupStays, IsOfTexts, UserStays}
use Rattle.site_tables.specs.Begun.{BegunSite}
use Rattle.site_tables.specs.declared.rules.SiteRules.{SiteRules}
use Rattle.site_tables.proofs.AnyDecides.{any_decides}

abbrev is_named : Reserved → Bool
is_named r = is_by_name r.by

none_by_range : (ranges : List IdRange) → list_any is_named (map by_range ranges) ≡ false
none_by_range [] = refl
none_by_range (range ∷ ranges) = none_by_range ranges

none_by_files : (found : List UnownedNumber) → list_any is_named (map by_files found) ≡ false
none_by_files [] = refl
none_by_files (one ∷ found) = none_by_files found

none_asked : (b : Bool) (found : List UnownedNumber) → list_any is_named (if b then map by_files found else []) ≡ false
none_asked true found = none_by_files found
none_asked false found = refl

or_none : (b : Bool) → (b || false) ≡ b
or_none true = refl
or_none false = refl

-- the rows of one kind
module _ {Row : Type 0} (name : Row → List ℕ) (number : Row → ℕ) (rows_of : Host → List Row) (kept : List ℕ → Bool) where
  abbrev pairs : List Row → List (List ℕ × ℕ)
  pairs rows = map (λ row. (name row, number row)) rows

  abbrev listed : Host → List (List ℕ × ℕ)
  listed host = pairs (rows_of host)

  abbrev some_kept : List Row → Bool
  some_kept rows = list_any (λ row. kept (name row)) rows

  abbrev some_on : List Host → Bool
  some_on hosts = list_any (λ host. some_kept (rows_of host)) hosts

  named_here : (host : Host) (rows : List Row) → list_any is_named (map (by_name host) (filter (λ row. kept row.0) (pairs rows))) ≡ some_kept rows
  named_here host [] = refl
  named_here host (row ∷ rows) = by (kept (name row)) (named_here host rows)
    where
      by : (b : Bool) → list_any is_named (map (by_name host) (filter (λ r. kept r.0) (pairs rows))) ≡ some_kept rows
          → list_any is_named (map (by_name host) (cond b ((name row, number row) ∷ filter (λ r. kept r.0) (pairs rows)) (filter (λ r. kept r.0) (pairs rows)))) ≡ (b || some_kept rows)
      by true later = refl
      by false later = later

  named_on : (hosts : List Host) → list_any is_named (flat_map (reserved_on kept listed) hosts) ≡ some_on hosts
  named_on [] = refl
  named_on (host ∷ hosts) =
      list_any-append is_named (reserved_on kept listed host) (flat_map (reserved_on kept listed) hosts)
      ∙ ap (λ b. b || list_any is_named (flat_map (reserved_on kept listed) hosts)) (named_here host (rows_of host))
      ∙ ap (λ b. some_kept (rows_of host) || b) (named_on hosts)

  module _ (keep : Kept) (hosts : List Host) (unowned : List UnownedNumber) where
    abbrev ranges : List Reserved
    ranges = map by_range keep.ranges

    abbrev names : List Reserved
    names = flat_map (reserved_on kept listed) hosts

    abbrev files : List Reserved
    files = if keep.unowned then map by_files unowned else []

    named_by : list_any is_named (reserved_by kept listed keep hosts unowned) ≡ some_on hosts
    named_by =
        list_any-append is_named (ranges ++ names) files
        ∙ ap (λ b. b || list_any is_named files) (list_any-append is_named ranges names ∙ ap (λ b. b || list_any is_named names) (none_by_range keep.ranges) ∙ named_on hosts)
        ∙ ap (λ b. some_on hosts || b) (none_asked keep.unowned unowned)
        ∙ or_none (some_on hosts)

    -- a name is among those who reserve exactly where one stays
    named_decides : (Stay : List ℕ → Type 0) → ((n : List ℕ) → (kept n ≡ true) ↔ Stay n) → Decides (list_any is_named (reserved_by kept listed keep hosts unowned)) (Any (λ host. Any (λ row. Stay (name row)) (rows_of host)) hosts)
    named_decides Stay told =
        Decides-at (list_any is_named (reserved_by kept listed keep hosts unowned)) (some_on hosts) named_by
        (any_decides (λ host. some_kept (rows_of host)) (λ host. Any (λ row. Stay (name row)) (rows_of host))
        (λ host. any_decides (λ row. kept (name row)) (λ row. Stay (name row)) (λ row. told (name row)) (rows_of host)) hosts)

module _ (texts : List HostText) (rules : SiteRules) (begun : BegunSite) (of : IsOfTexts texts rules begun) where
  abbrev keep : KeepText
  keep = of.hosts.keep

  abbrev full : List Host
  full = of.hosts.full

  users : Decides (list_any is_named begun.joined.users.reserved) (SomeUserStays keep full)
  users =
      Decides-at (list_any is_named begun.joined.users.reserved) (list_any is_named (reserved_users keep full rules.keep.unowned.users))
      (ap (λ (rs : List Reserved). list_any is_named rs) of.users_are)
      (named_decides (λ (row : Passwd). row.name) (λ (row : Passwd). row.uid) (λ (host : Host). host.users) (is_kept_user keep full) keep.users full rules.keep.unowned.users
      (UserStays keep full) (λ n. (kept_names_stay keep full n).0))

  groups : Decides (list_any is_named begun.joined.groups.reserved) (SomeGroupStays keep full)
  groups =
      Decides-at (list_any is_named begun.joined.groups.reserved) (list_any is_named (reserved_groups keep full rules.keep.unowned.groups))
      (ap (λ (rs : List Reserved). list_any is_named rs) of.groups_are)
      (named_decides (λ (row : Group). row.name) (λ (row : Group). row.gid) (λ (host : Host). host.groups) (is_kept_group keep full) keep.groups full rules.keep.unowned.groups
      (GroupStays keep full) (λ n. (kept_names_stay keep full n).1))

  pub some_stays : Decides (keeps_a_name begun.joined) (SomeUserStays keep full ⊎ SomeGroupStays keep full)
  some_stays = Decides-or (list_any is_named begun.joined.users.reserved) (list_any is_named begun.joined.groups.reserved) users groups
