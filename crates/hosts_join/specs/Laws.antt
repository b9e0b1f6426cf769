-- What holds of a site that was joined.
-- Source: this project's own rule.
use Rattle.std.specs.Prelude.{◌≡◌, ℕ, ◌<◌, ◌≤◌, Bool, true, false, not, ◌&&◌, List, [], length}
use Rattle.std.specs.Prelude.{Option, Some, None, Ok, slice_get}
use Rattle.std.specs.List.{All, list_all}
use Rattle.idtext.specs.First.{or_else}
use Rattle.logindefs.specs.Ranges.{in_range}
use Rattle.hosts_join.specs.Accounts.{Account, Accounts, owner, place_of}
use Rattle.hosts_join.specs.Hosts.{IsLawfulHost, SparesReserved, spares_user, spares_group}
use Rattle.hosts_join.specs.Kinds.{user_at, group_at}
use Rattle.hosts_join.specs.Lawful.{AreLawfulAccounts}
use Rattle.hosts_join.specs.PinPairs.{PinPairs, ArePinPairs}
use Rattle.hosts_join.specs.PinsText.{pins_of}
use Rattle.hosts_join.specs.Rules.{account, claims, clash, class_of, disagrees, first_some, in_pool}
use Rattle.hosts_join.specs.Rules.{is_id, is_reserved, is_taken, refusal, too_small}
use Rattle.hosts_join.specs.Site.{Joined, joined_site}
use Rattle.hosts_join.specs.declared.Class.{Class}
use Rattle.hosts_join.specs.declared.Class.TheVariants.{Pinned, Regular, System}
use Rattle.hosts_join.specs.declared.Which.{Which}
use Rattle.hosts_join.specs.declared.fault.PoolClass.TheVariants as pool
use Rattle.hosts_join.specs.declared.host.Host.{Host}

-- Who has a number on a host: the account of the name that the host's own table gives the number,
-- or none where it gives none.
-- told: what the table gives
abbrev pub IsOwnedAsTold : List Account → ℕ → ℕ → Option (List ℕ) → Type 0
IsOwnedAsTold names host number (Some name) =
    (i : ℕ) × (owner names host number ≡ Some i) × (place_of names name ≡ Some i)
IsOwnedAsTold names host number None = owner names host number ≡ None

-- each number on a host is had as the host's own tables tell
-- h: the host's index
pub record KnowsHost (site : Joined) (h : ℕ) (host : Host) : Type 0 where
  pub users : (uid : ℕ) → IsOwnedAsTold site.users.names h uid (user_at host.users uid)
  pub groups : (gid : ℕ) → IsOwnedAsTold site.groups.names h gid (group_at host.groups gid)

abbrev pub KnowsItsHosts : List Host → Joined → Type 0
KnowsItsHosts hosts site =
    (h : ℕ) (host : Host) → slice_get hosts h ≡ Some host → KnowsHost site h host

-- a site knows the hosts that it was joined from
abbrev pub JoinedSitesKnowTheirHosts : Type 0
JoinedSitesKnowTheirHosts =
    (hosts : List Host) (pins : PinPairs) (site : Joined) → All IsLawfulHost hosts
    → joined_site hosts pins ≡ Ok site → KnowsItsHosts hosts site

-- the accounts of both kinds are lawful
pub record HasLawfulAccounts (site : Joined) : Type 0 where
  pub users : AreLawfulAccounts site.users
  pub groups : AreLawfulAccounts site.groups

abbrev pub JoinedSitesAreLawful : Type 0
JoinedSitesAreLawful =
    (hosts : List Host) (pins : PinPairs) (site : Joined) → length hosts ≤ 64
    → All IsLawfulHost hosts → ArePinPairs pins → joined_site hosts pins ≡ Ok site
    → HasLawfulAccounts site

-- the pins that a text gives are pins
abbrev pub ReadPinsArePins : Type 0
ReadPinsArePins = (text : List ℕ) (pins : PinPairs) → pins_of text ≡ Ok pins → ArePinPairs pins

-- No name may be given a number that is left out: none is pinned to one, no pool has one, and none
-- is given away to a name that no host has.
-- left_out: whether a number is
pub record LeavesOut (a : Accounts) (left_out : ℕ → Bool) : Type 0 where
  pub pins : (i v : ℕ) → i < length a.names → class_of a.pins (account a i) ≡ Pinned v
      → left_out v ≡ false
  pub pools : (c : Class) (v : ℕ) → in_pool a c v ≡ true → left_out v ≡ false
  pub given_away : All (λ p. left_out p.number ≡ false) (claims a)

-- a joined site leaves out what was reserved of each kind
abbrev pub JoinedSitesLeaveReserved : Type 0
JoinedSitesLeaveReserved =
    (hosts : List Host) (pins : PinPairs) (site : Joined) → joined_site hosts pins ≡ Ok site
    → LeavesOut site.users (is_reserved pins.reserved_users)
    × LeavesOut site.groups (is_reserved pins.reserved_groups)

-- no name may be given a number that the host spares
pub record LeavesSpared (site : Joined) (host : Host) : Type 0 where
  pub users : LeavesOut site.users (spares_user host)
  pub groups : LeavesOut site.groups (spares_group host)

-- where each host spares reserved numbers alone, a joined site leaves out what some host spares
abbrev pub JoinedSitesLeaveSpared : Type 0
JoinedSitesLeaveSpared =
    (hosts : List Host) (pins : PinPairs) (site : Joined) → joined_site hosts pins ≡ Ok site
    → All (SparesReserved site) hosts → All (LeavesSpared site) hosts

-- The pools lack only the numbers that names are given, and no name is refused for a reserved one.
pub record IsWithoutReserving (kind : Which) (a : Accounts) : Type 0 where
  pub regular : (v : ℕ) → in_pool a Regular v
      ≡ ((is_id v && list_all (λ h. in_range h.regular v) a.hosts) && not (is_taken (claims a) v))
  pub system : (v : ℕ) → in_pool a System v
      ≡ ((is_id v && list_all (λ h. in_range h.system v) a.hosts) && not (is_taken (claims a) v))
  pub refused : refusal kind a
      ≡ or_else (first_some (disagrees kind a.hosts a.pins) a.names)
      (or_else (clash kind (claims a))
      (or_else (too_small kind a pool.Regular) (too_small kind a pool.System)))

-- where nothing is reserved, a join is as if nothing could be
abbrev pub NothingReservedChangesNothing : Type 0
NothingReservedChangesNothing =
    (kind : Which) (a : Accounts) → a.reserved ≡ [] → IsWithoutReserving kind a

-- a pins text reserves nothing
abbrev pub ReadPinsReserveNothing : Type 0
ReadPinsReserveNothing =
    (text : List ℕ) (pins : PinPairs) → pins_of text ≡ Ok pins
    → (pins.reserved_users ≡ []) × (pins.reserved_groups ≡ [])
