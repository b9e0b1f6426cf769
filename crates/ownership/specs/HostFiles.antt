-- The files of one host, and how many of them each row of its tables owns.
-- Source: passwd(5) and group(5) (a row gives its name one number, which the name's files have);
-- that files are counted by rows is this project's own rule.
use Rattle.std.specs.Prelude.{◌≡◌, ℕ, ◌+◌, ◌==◌, ◌&&◌, Bool, if◌then◌else◌, List, map, length}
use Rattle.std.specs.Prelude.{count_by, slice_index_or, sum}
use Rattle.std.specs.List.{All}
use Rattle.hosts_join.specs.Accounts.{Account, owner, no_row}
use Rattle.hosts_join.specs.Kinds.{user_rows, group_rows}
use Rattle.hosts_join.specs.Site.{Joined}
use Rattle.hosts_join.specs.declared.host.Host.{Host}
use Rattle.ownership.specs.Counts.{Counted, Tally, has_cell, tally_at, told_kept, told_total}
use Rattle.ownership.specs.Files.{Added, is_place}
use Rattle.ownership.specs.Sums.{sum_below}

-- the files are on the host with the index
abbrev pub AreOfHost : ℕ → List Added → Type 0
AreOfHost index here = All (λ f. f.host ≡ index) here

-- for each row of passwd and of group, in their order, how many of the files have its number
pub record AreRowCounts (host : Host) (here : List Added) (by_users by_groups : List ℕ) :
    Type 0 where
  pub users : by_users ≡ map (λ r. count_by (λ f. f.uid == r.uid) here) host.users
  pub groups : by_groups ≡ map (λ r. count_by (λ f. f.gid == r.gid) here) host.groups

-- the number of a row
-- pairs: the rows of one kind, each a name with its number
abbrev pub row_number : List (List ℕ × ℕ) → ℕ → ℕ
row_number pairs r = (slice_index_or pairs r no_row).1

-- the files of those of the first rows whose numbers pass
-- files: how many each row has
abbrev pub rows_with : (ℕ → Bool) → List (List ℕ × ℕ) → List ℕ → ℕ → ℕ
rows_with passes pairs files rows =
    sum_below (λ r. if passes (row_number pairs r) then slice_index_or files r 0 else 0) rows

-- the files of the first rows of the host with the index more, each of the name that has the row's
-- number there
pub record CountsRows (names : List Account) (index : ℕ) (pairs : List (List ℕ × ℕ))
    (files : List ℕ) (rows : ℕ) (old new : List Tally) : Type 0 where
  pub len : length new ≡ length old
  pub cells : (i v : ℕ) → has_cell (tally_at new i).cells v ≡ has_cell (tally_at old i).cells v
  pub kept : (i v : ℕ) → told_kept new i v
      ≡ told_kept old i v + rows_with (λ n. is_place i (owner names index n) && (n == v)) pairs
      files rows
  pub total : (i : ℕ) → told_total new i
      ≡ told_total old i + rows_with (λ n. is_place i (owner names index n)) pairs files rows

-- of a host's files those of the first rows of its passwd, and of its group, more, while those of
-- all rows are said to have a user, and a group
pub record CountsFirstRows (site : Joined) (index : ℕ) (host : Host) (by_users by_groups : List ℕ)
    (old new : Counted) : Type 0 where
  pub of_passwd : ℕ
  pub of_group : ℕ
  pub users : CountsRows site.users.names index (user_rows host.users) by_users of_passwd
      old.users new.users
  pub groups : CountsRows site.groups.names index (group_rows host.groups) by_groups of_group
      old.groups new.groups
  pub user_files : new.user_files ≡ old.user_files + sum by_users
  pub group_files : new.group_files ≡ old.group_files + sum by_groups
