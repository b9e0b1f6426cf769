-- What holds of a host that was read, and the numbers that a host spares.
-- Sources: passwd(5), group(5) and login.defs(5) of the shadow suite; which numbers are spared is
-- this project's own rule.
use Rattle.std.specs.Prelude.{◌≡◌, ◌||◌, ℕ, Bool, true, is_some}
use Rattle.accounts.specs.Laws.{IsPasswdTable, IsGroupTable}
use Rattle.logindefs.specs.Ranges.{IsHostRanges}
use Rattle.hosts_join.specs.Kinds.{group_at, user_at}
use Rattle.hosts_join.specs.RangeLists.{lies_in_some}
use Rattle.hosts_join.specs.Rules.{is_reserved}
use Rattle.hosts_join.specs.Site.{Joined}
use Rattle.hosts_join.specs.declared.host.Host.{Host}

-- no number is both regular and system, and its tables have each name and each number once
pub record IsLawfulHost (host : Host) : Type 0 where
  pub ranges : IsHostRanges host.ranges
  pub users : IsPasswdTable host.users
  pub groups : IsGroupTable host.groups

-- a file of the host may have the uid without a user
abbrev pub spares_user : Host → ℕ → Bool
spares_user host uid = lies_in_some host.spared_users uid

-- a file of the host may have the gid without a group
abbrev pub spares_group : Host → ℕ → Bool
spares_group host gid = lies_in_some host.spared_groups gid

-- a file of the host may have the uid: it is a user's by the host's table, or the host spares it
abbrev pub allows_uid : Host → ℕ → Bool
allows_uid host uid = is_some (user_at host.users uid) || spares_user host uid

-- and the gid
abbrev pub allows_gid : Host → ℕ → Bool
allows_gid host gid = is_some (group_at host.groups gid) || spares_group host gid

-- no name of the site may be given a number that the host spares
pub record SparesReserved (joined : Joined) (host : Host) : Type 0 where
  pub users : (uid : ℕ) → spares_user host uid ≡ true → is_reserved joined.users.reserved uid ≡ true
  pub groups : (gid : ℕ) → spares_group host gid ≡ true
      → is_reserved joined.groups.reserved gid ≡ true
