-- Numbers of files that are no account's: a host spares them, and they are reserved, so that no
-- name may be given one.
-- Source: this project's own rule.
use Rattle.std.specs.Prelude.{◌≡◌, ◌||◌, ℕ, true, [], is_some}
use Rattle.hosts_join.specs.Accounts.{owner}
use Rattle.hosts_join.specs.Hosts.{allows_gid, allows_uid}
use Rattle.hosts_join.specs.Laws.{LeavesOut}
use Rattle.hosts_join.specs.Rules.{is_reserved}
use Rattle.hosts_join.specs.Site.{Joined}
use Rattle.hosts_join.specs.declared.host.Host.{Host}

-- the host allows a uid and a gid
pub record AreAllowed (host : Host) (uid gid : ℕ) : Type 0 where
  pub user : allows_uid host uid ≡ true
  pub group : allows_gid host gid ≡ true

-- Each of a uid and a gid is an account's on the host, by the accounts over all hosts, or it is
-- reserved.
-- h: the index of the host
pub record AreOwnedOrReserved (joined : Joined) (h uid gid : ℕ) : Type 0 where
  pub user : (is_some (owner joined.users.names h uid)
      || is_reserved joined.users.reserved uid) ≡ true
  pub group : (is_some (owner joined.groups.names h gid)
      || is_reserved joined.groups.reserved gid) ≡ true

-- no name may be given a reserved number
pub record LeavesItsReserved (joined : Joined) : Type 0 where
  pub users : LeavesOut joined.users (is_reserved joined.users.reserved)
  pub groups : LeavesOut joined.groups (is_reserved joined.groups.reserved)

-- the host spares no number
pub record SparesNothing (host : Host) : Type 0 where
  pub users : host.spared_users ≡ []
  pub groups : host.spared_groups ≡ []
