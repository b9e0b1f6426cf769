-- The rows that are kept, the others, over which the hosts are joined, and the numbers that a host
-- then spares.
-- Source: this project's own rule.
use Rattle.std.specs.Prelude.{ℕ, Bool, not, List, [], ◌++◌, map, filter, bytes_eq}
use Rattle.std.specs.Prelude.{if◌then◌else◌}
use Rattle.logindefs.specs.declared.ranges.IdRange.{IdRange}
use Rattle.hosts_join.specs.Kinds.{user_rows, group_rows}
use Rattle.hosts_join.specs.declared.host.Host.{Host}
use Rattle.keep_text.specs.declared.keep_text.Kept.{Kept}
use Rattle.keep_text.specs.declared.keep_text.KeepText.{KeepText}
use Rattle.kept_accounts.specs.Keeping.{is_kept_user, is_kept_group}
use Rattle.kept_accounts.specs.Reserving.{UnownedNumbers, only}
use Rattle.kept_accounts.specs.declared.reserving.UnownedNumber.{UnownedNumber}

-- name: of a row; kept: whether a name is kept
module _ {Row : Type 0} (name : Row → List ℕ) (kept : List ℕ → Bool) where
  abbrev pub kept_rows : List Row → List Row
  kept_rows rows = filter (λ row. kept (name row)) rows

  abbrev pub other_rows : List Row → List Row
  other_rows rows = filter (λ row. not (kept (name row))) rows

-- the numbers of the kept names of a host, in the order of its rows
-- kept: whether a name is kept; rows: the names of the host with their numbers
abbrev pub kept_numbers : (List ℕ → Bool) → List (List ℕ × ℕ) → List IdRange
kept_numbers kept rows = map (λ row. only row.1) (filter (λ row. kept row.0) rows)

-- those of the numbers that files of hosts have without an account that are this host's
abbrev pub unowned_on : Host → List UnownedNumber → List IdRange
unowned_on host unowned =
    map (λ u. only u.number) (filter (λ u. bytes_eq u.host host.name) unowned)

-- The numbers that a file of a host may have without a row in what is left of the table: the listed
-- ranges, the numbers of kept names, and, where numbers without an account stay, those that files
-- have.
-- unowned: those that files of the host have
abbrev pub spared : Kept → (List ℕ → Bool) → List (List ℕ × ℕ) → List IdRange → List IdRange
spared keep kept rows unowned =
    keep.ranges ++ kept_numbers kept rows ++ (if keep.unowned then unowned else [])

-- a host without the users and the groups that are kept, which spares what the text says
abbrev pub without : KeepText → (List ℕ → Bool) → (List ℕ → Bool) → UnownedNumbers → Host → Host
without keep user group unowned host = record host {
  users = other_rows (λ row. row.name) user host.users;
  groups = other_rows (λ row. row.name) group host.groups;
  spared_users = spared keep.users user (user_rows host.users) (unowned_on host unowned.users);
  spared_groups =
      spared keep.groups group (group_rows host.groups) (unowned_on host unowned.groups);
}

abbrev pub without_kept : KeepText → List Host → UnownedNumbers → Host → Host
without_kept keep hosts unowned host =
    without keep (is_kept_user keep hosts) (is_kept_group keep hosts) unowned host
