-- What holds of the accounts that are kept.
-- Source: this project's own rule.
use Rattle.std.specs.Prelude.{◌≡◌, ◌⊎◌, ◌↔◌, ℕ, ◌++◌, Bool, true, false, List, [], Option, Some}
use Rattle.std.specs.Prelude.{Ok, ◌≤◌}
use Rattle.std.specs.List.{Any, Contains}
use Rattle.std.specs.List.Sorted.{IsPermutation}
use Rattle.accounts.specs.Laws.{IsPasswdTable, IsGroupTable}
use Rattle.accounts.specs.Rows.{Passwd, Group}
use Rattle.hosts_join.specs.Hosts.{IsLawfulHost, spares_user, spares_group}
use Rattle.hosts_join.specs.Kinds.{user_rows, group_rows, user_at, group_at}
use Rattle.hosts_join.specs.RangeLists.{lies_in_some}
use Rattle.hosts_join.specs.Rules.{is_reserved}
use Rattle.hosts_join.specs.declared.host.Host.{Host}
use Rattle.hosts_join.specs.declared.reserving.Reserved.{Reserved}
use Rattle.hosts_join.specs.declared.reserving.Reserver.{Reserver}
use Rattle.hosts_join.specs.declared.reserving.Reserver.TheVariants as by
use Rattle.keep_text.specs.KeepTexts.{keep_of}
use Rattle.keep_text.specs.declared.keep_text.Kept.{Kept}
use Rattle.keep_text.specs.declared.keep_text.KeepText.{KeepText}
use Rattle.kept_accounts.specs.Keeping.{is_kept, is_kept_user, is_kept_group, numbers_of}
use Rattle.kept_accounts.specs.Keeping.{Keeping, IsKeeping, keeps, users_on, groups_on}
use Rattle.kept_accounts.specs.Others.{kept_rows, other_rows, without, without_kept}
use Rattle.kept_accounts.specs.Reserving.{UnownedNumbers, reserved_by}
use Rattle.kept_accounts.specs.Reserving.{reserved_users, reserved_groups}
use Rattle.kept_accounts.specs.declared.reserving.UnownedNumber.{UnownedNumber}

-- no name is kept, no number is reserved, and each host is as it was, and spares no number
pub record KeepsNothing (keep : KeepText) (hosts : List Host) : Type 0 where
  pub users : (name : List ℕ) → is_kept_user keep hosts name ≡ false
  pub groups : (name : List ℕ) → is_kept_group keep hosts name ≡ false
  pub uids : (unowned : List UnownedNumber) → reserved_users keep hosts unowned ≡ []
  pub gids : (unowned : List UnownedNumber) → reserved_groups keep hosts unowned ≡ []
  pub others : (unowned : UnownedNumbers) (host : Host)
      → without_kept keep hosts unowned host
      ≡ record host { spared_users = []; spared_groups = [] }

abbrev pub EmptyTextKeepsNothing : Type 0
EmptyTextKeepsNothing = (keep : KeepText) (hosts : List Host)
    → keep_of [] ≡ Ok keep → KeepsNothing keep hosts

-- what keeps the names that are kept leaves the same of each host, and reserves the same numbers
pub record LeavesTheSame (keep : KeepText) (hosts : List Host) (users groups : Keeping)
    : Type 0 where
  pub others : (unowned : UnownedNumbers) (host : Host)
      → without keep (keeps users) (keeps groups) unowned host
      ≡ without_kept keep hosts unowned host
  pub uids : (unowned : List UnownedNumber)
      → reserved_by (keeps users) (λ host. user_rows host.users) keep.users hosts unowned
      ≡ reserved_users keep hosts unowned
  pub gids : (unowned : List UnownedNumber)
      → reserved_by (keeps groups) (λ host. group_rows host.groups) keep.groups hosts unowned
      ≡ reserved_groups keep hosts unowned

abbrev pub KeepingDecides : Type 0
KeepingDecides = (keep : KeepText) (hosts : List Host) (users groups : Keeping)
    → IsKeeping keep.users (users_on hosts) users → IsKeeping keep.groups (groups_on hosts) groups
    → LeavesTheSame keep hosts users groups

-- whether a name is kept depends on its numbers and the text alone
abbrev pub NumbersDecide : Type 0
NumbersDecide = (keep : Kept) (rows others : List (List ℕ × ℕ)) (name : List ℕ)
    → numbers_of rows name ≡ numbers_of others name
    → is_kept keep rows name ≡ is_kept keep others name

-- the name has the number on one of the hosts
-- rows_on: the names of a host with their numbers
pub record HasNumber (rows_on : Host → List (List ℕ × ℕ)) (hosts : List Host) (name : List ℕ)
    (number : ℕ) : Type 0 where
  pub host : Host
  pub is_host : Contains hosts host
  pub is_row : Contains (rows_on host) (name, number)

-- A name that some host has stays where it is listed, and where each number that it has on a host
-- lies in a listed range.
pub record Stays (keep : Kept) (rows_on : Host → List (List ℕ × ℕ)) (hosts : List Host)
    (name : List ℕ) : Type 0 where
  pub number : ℕ
  pub had : HasNumber rows_on hosts name number
  pub as_listed : Contains keep.names name
      ⊎ ((number : ℕ) → HasNumber rows_on hosts name number
      → lies_in_some keep.ranges number ≡ true)

-- a name is kept exactly where it stays, by what is listed of its kind
abbrev pub KeptNamesStay : Type 0
KeptNamesStay = (keep : KeepText) (hosts : List Host) (name : List ℕ)
    → ((is_kept_user keep hosts name ≡ true)
    ↔ Stays keep.users (λ host. user_rows host.users) hosts name)
    × ((is_kept_group keep hosts name ≡ true)
    ↔ Stays keep.groups (λ host. group_rows host.groups) hosts name)

-- that number and no other is reserved, by this one
abbrev pub alone : ℕ → Reserver → Reserved
alone number reserver = record { numbers = record { low = number; high = number }; by = reserver }

-- the number that a kept name has on a host is reserved, by that name there
abbrev pub KeptNumbersAreReserved : Type 0
KeptNumbersAreReserved = (keep : KeepText) (hosts : List Host) (unowned : List UnownedNumber)
    (host : Host) (row : List ℕ × ℕ) → Contains hosts host
    → (Contains (user_rows host.users) row → is_kept_user keep hosts row.0 ≡ true
    → Contains (reserved_users keep hosts unowned) (alone row.1 (by.Name host.name row.0)))
    × (Contains (group_rows host.groups) row → is_kept_group keep hosts row.0 ≡ true
    → Contains (reserved_groups keep hosts unowned) (alone row.1 (by.Name host.name row.0)))

-- the kept rows and the others are the rows of the table, each once
abbrev pub RowsAreParted : {Row : Type 0} → (Row → List ℕ) → Type 0
RowsAreParted {Row} name = (kept : List ℕ → Bool) (rows : List Row)
    → IsPermutation rows (kept_rows name kept rows ++ other_rows name kept rows)

-- What a table without its kept rows says of a number the full table says too; what the full table
-- says of it the other says too, or the name is kept.
-- at: the name that a table gives a number
abbrev pub OthersAgree : {Row : Type 0} → (Row → List ℕ) → (List Row → ℕ → Option (List ℕ))
    → (List Row → Type 0) → Type 0
OthersAgree {Row} name at IsTable =
    (kept : List ℕ → Bool) (rows : List Row) (number : ℕ) (named : List ℕ)
    → (IsTable rows → at (other_rows name kept rows) number ≡ Some named
    → at rows number ≡ Some named)
    × (at rows number ≡ Some named
    → (at (other_rows name kept rows) number ≡ Some named) ⊎ (kept named ≡ true))

-- a host without its kept rows is lawful where the host is
abbrev pub OthersAreLawful : Type 0
OthersAreLawful = (keep : KeepText) (user group : List ℕ → Bool) (unowned : UnownedNumbers)
    (host : Host) → IsLawfulHost host → IsLawfulHost (without keep user group unowned host)

-- each number that a host without its kept rows spares is reserved
abbrev pub SparedAreReserved : Type 0
SparedAreReserved = (keep : KeepText) (hosts : List Host) (unowned : UnownedNumbers)
    (host : Host) (number : ℕ) → Contains hosts host
    → (spares_user (without_kept keep hosts unowned host) number ≡ true
    → is_reserved (reserved_users keep hosts unowned.users) number ≡ true)
    × (spares_group (without_kept keep hosts unowned host) number ≡ true
    → is_reserved (reserved_groups keep hosts unowned.groups) number ≡ true)

-- The number lies in a listed range; or a kept name has it; or, where numbers without an account
-- stay, it is one of those.
-- had: a kept name has it; found: some file has it, and no account
abbrev pub NumberStays : Kept → ℕ → Type 0 → Type 0 → Type 0
NumberStays keep number had found =
    Any (λ range. (range.low ≤ number) × (number ≤ range.high)) keep.ranges
    ⊎ (had ⊎ ((keep.unowned ≡ true) × found))

-- a kept user of the table has the uid, by what is kept on these hosts
abbrev pub KeptUserHas : KeepText → List Host → List Passwd → ℕ → Type 0
KeptUserHas keep hosts users uid =
    Any (λ row. (is_kept_user keep hosts row.name ≡ true) × (row.uid ≡ uid)) users

-- a kept group of the table has the gid, by what is kept on these hosts
abbrev pub KeptGroupHas : KeepText → List Host → List Group → ℕ → Type 0
KeptGroupHas keep hosts groups gid =
    Any (λ row. (is_kept_group keep hosts row.name ≡ true) × (row.gid ≡ gid)) groups

-- A number is reserved exactly where it lies in a listed range, or a kept name has it on some host,
-- or numbers without an account stay and it is one of those of some host.
abbrev pub OnlyWhatStaysIsReserved : Type 0
OnlyWhatStaysIsReserved = (keep : KeepText) (hosts : List Host) (unowned : UnownedNumbers)
    (number : ℕ)
    → ((is_reserved (reserved_users keep hosts unowned.users) number ≡ true)
    ↔ NumberStays keep.users number
    (Any (λ host. KeptUserHas keep hosts host.users number) hosts)
    (Any (λ found. found.number ≡ number) unowned.users))
    × ((is_reserved (reserved_groups keep hosts unowned.groups) number ≡ true)
    ↔ NumberStays keep.groups number
    (Any (λ host. KeptGroupHas keep hosts host.groups number) hosts)
    (Any (λ found. found.number ≡ number) unowned.groups))

-- A host spares a number exactly where it lies in a listed range, or a kept name has it on this
-- host, or numbers without an account stay and it is one of those of this host.
abbrev pub HostSparesItsOwn : Type 0
HostSparesItsOwn = (keep : KeepText) (hosts : List Host) (unowned : UnownedNumbers) (host : Host)
    (number : ℕ)
    → ((spares_user (without_kept keep hosts unowned host) number ≡ true)
    ↔ NumberStays keep.users number (KeptUserHas keep hosts host.users number)
    (Any (λ found. (found.host ≡ host.name) × (found.number ≡ number)) unowned.users))
    × ((spares_group (without_kept keep hosts unowned host) number ≡ true)
    ↔ NumberStays keep.groups number (KeptGroupHas keep hosts host.groups number)
    (Any (λ found. (found.host ≡ host.name) × (found.number ≡ number)) unowned.groups))

-- Where numbers without an account stay, one that files of a host have is spared by the host, and
-- it is reserved, by the files of that host.
abbrev pub UnownedAreSpared : Type 0
UnownedAreSpared = (keep : KeepText) (hosts : List Host) (unowned : UnownedNumbers) (host : Host)
    (found : UnownedNumber) → found.host ≡ host.name
    → (keep.users.unowned ≡ true → Contains unowned.users found
    → (spares_user (without_kept keep hosts unowned host) found.number ≡ true)
    × Contains (reserved_users keep hosts unowned.users)
    (alone found.number (by.Unowned host.name)))
    × (keep.groups.unowned ≡ true → Contains unowned.groups found
    → (spares_group (without_kept keep hosts unowned host) found.number ≡ true)
    × Contains (reserved_groups keep hosts unowned.groups)
    (alone found.number (by.Unowned host.name)))

-- a number that a host's table names is named so by what is left of it, or the host spares it
abbrev pub NamedAreLeftOrSpared : Type 0
NamedAreLeftOrSpared = (keep : KeepText) (hosts : List Host) (unowned : UnownedNumbers)
    (host : Host) (number : ℕ) (named : List ℕ)
    → (user_at host.users number ≡ Some named
    → (user_at (without_kept keep hosts unowned host).users number ≡ Some named)
    ⊎ (spares_user (without_kept keep hosts unowned host) number ≡ true))
    × (group_at host.groups number ≡ Some named
    → (group_at (without_kept keep hosts unowned host).groups number ≡ Some named)
    ⊎ (spares_group (without_kept keep hosts unowned host) number ≡ true))

-- ---- of both kinds

abbrev pub UsersAreParted : Type 0
UsersAreParted = RowsAreParted (λ (row : Passwd). row.name)

abbrev pub GroupsAreParted : Type 0
GroupsAreParted = RowsAreParted (λ (row : Group). row.name)

abbrev pub OtherUsersAgree : Type 0
OtherUsersAgree = OthersAgree (λ (row : Passwd). row.name) user_at IsPasswdTable

abbrev pub OtherGroupsAgree : Type 0
OtherGroupsAgree = OthersAgree (λ (row : Group). row.name) group_at IsGroupTable
