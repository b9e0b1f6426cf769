-- Which numbers the names of a joined site may have, and how many rows have a number, in words of
-- the hosts' own tables and ranges and of the pins text.
-- Source: this project's own rule.
use Rattle.std.specs.Prelude.{◌≡◌, ◌⊎◌, ℕ, ◌<◌, ◌≤◌, Bool, true, false, List, length, filter}
use Rattle.std.specs.Prelude.{Option, Some, None, Ok, bytes_eq}
use Rattle.std.specs.List.{All, Contains}
use Rattle.idtext.specs.Numbers.{greatest_id}
use Rattle.logindefs.specs.Ranges.{in_range}
use Rattle.logindefs.specs.declared.ranges.IdRange.{IdRange}
use Rattle.hosts_join.specs.Accounts.{Accounts, Pair, lines}
use Rattle.hosts_join.specs.Hosts.{IsLawfulHost}
use Rattle.hosts_join.specs.Kinds.{user_at, group_at}
use Rattle.hosts_join.specs.Pairs.{number_of}
use Rattle.hosts_join.specs.PinPairs.{PinPairs, ArePinPairs}
use Rattle.hosts_join.specs.Rules.{account, class_at, in_pool, is_reserved}
use Rattle.hosts_join.specs.Site.{Joined, joined_site}
use Rattle.hosts_join.specs.declared.Class.TheVariants.{Pinned}
use Rattle.hosts_join.specs.declared.host.Host.{Host}
use Rattle.hosts_join.specs.declared.reserving.Reserved.{Reserved}

-- what a host tells of one kind: the name that its table gives a number, and its two ranges
pub record HostTells : Type 0 where
  pub name_at : ℕ → Option (List ℕ)
  pub regular : IdRange
  pub system : IdRange

abbrev pub of_users : Host → HostTells
of_users host = record {
  name_at = user_at host.users;
  regular = host.ranges.uid;
  system = host.ranges.sys_uid;
}

abbrev pub of_groups : Host → HostTells
of_groups host = record {
  name_at = group_at host.groups;
  regular = host.ranges.gid;
  system = host.ranges.sys_gid;
}

-- some host's table gives the name the number, and it lies in neither range of that host
pub record IsOutside (tells : Host → HostTells) (hosts : List Host) (name : List ℕ) (v : ℕ)
    : Type 0 where
  pub host : Host
  pub there : Contains hosts host
  pub has : (tells host).name_at v ≡ Some name
  pub not_regular : in_range (tells host).regular v ≡ false
  pub not_system : in_range (tells host).system v ≡ false

-- some host's table gives the name a number that lies in that host's regular range
pub record IsSomewhereRegular (tells : Host → HostTells) (hosts : List Host) (name : List ℕ)
    : Type 0 where
  pub host : Host
  pub there : Contains hosts host
  pub number : ℕ
  pub has : (tells host).name_at number ≡ Some name
  pub is_regular : in_range (tells host).regular number ≡ true

-- the pins text gives the name no number, and no host has it outside
pub record IsFree (tells : Host → HostTells) (hosts : List Host) (pins : List Pair)
    (name : List ℕ) : Type 0 where
  pub unpinned : number_of pins name ≡ None
  pub inside : (v : ℕ) → IsOutside tells hosts name v → ⊥

-- the name may stand at the number
pub record StandsWhereItMay (tells : Host → HostTells) (hosts : List Host) (pins : List Pair)
    (name : List ℕ) (v : ℕ) : Type 0 where
  -- a pin binds its name, and is no other name's, whether a host has its name or not
  pub pin_kept : (w : ℕ) → number_of pins name ≡ Some w → v ≡ w
  pub pin_is_no_others : (other : List ℕ) → number_of pins other ≡ Some v → other ≡ name
  -- so does a number outside
  pub outside_stays : (w : ℕ) → IsOutside tells hosts name w → v ≡ w
  pub outside_is_no_others : (other : List ℕ) → IsOutside tells hosts other v → other ≡ name
  -- else the number is regular on every host, where the name is regular on some, or else system
  pub regular : IsFree tells hosts pins name → IsSomewhereRegular tells hosts name
      → All (λ host. in_range (tells host).regular v ≡ true) hosts
  pub system : IsFree tells hosts pins name → (IsSomewhereRegular tells hosts name → ⊥)
      → All (λ host. in_range (tells host).system v ≡ true) hosts

-- the name at an index may have the number: it is pinned to it, or its pool has it
abbrev pub IsOffered : Accounts → ℕ → ℕ → Type 0
IsOffered a i v = (class_at a i ≡ Pinned v) ⊎ (in_pool a (class_at a i) v ≡ true)

abbrev pub StandWhereTheyMay : (Host → HostTells) → List Host → List Pair → Accounts → Type 0
StandWhereTheyMay tells hosts pins a =
    (i v : ℕ) → i < length a.names → IsOffered a i v
    → StandsWhereItMay tells hosts pins (account a i).name v

abbrev pub NumbersStandWhereTheyMay : Type 0
NumbersStandWhereTheyMay =
    (hosts : List Host) (pins : PinPairs) (site : Joined) → All IsLawfulHost hosts
    → joined_site hosts pins ≡ Ok site
    → StandWhereTheyMay of_users hosts pins.users site.users
    × StandWhereTheyMay of_groups hosts pins.groups site.groups

-- and so it may have every number that it may stand at: one that an account may have, and that is
-- not reserved
abbrev pub AreAllOffered : (Host → HostTells) → List Host → List Pair → List Reserved → Accounts
    → Type 0
AreAllOffered tells hosts pins reserved a =
    (i v : ℕ) → i < length a.names → v ≤ greatest_id → is_reserved reserved v ≡ false
    → StandsWhereItMay tells hosts pins (account a i).name v → IsOffered a i v

abbrev pub NumbersThatMayStandAreOffered : Type 0
NumbersThatMayStandAreOffered =
    (hosts : List Host) (pins : PinPairs) (site : Joined) → All IsLawfulHost hosts
    → ArePinPairs pins → joined_site hosts pins ≡ Ok site
    → AreAllOffered of_users hosts pins.users pins.reserved_users site.users
    × AreAllOffered of_groups hosts pins.groups pins.reserved_groups site.groups

-- hosts that have a name outside have it at one number, and so has the pins text, where it has it
abbrev pub PinsAgree : (Host → HostTells) → List Host → List Pair → Type 0
PinsAgree tells hosts pins =
    (name : List ℕ) (v : ℕ) → IsOutside tells hosts name v
    → ((w : ℕ) → IsOutside tells hosts name w → v ≡ w)
    × ((w : ℕ) → number_of pins name ≡ Some w → v ≡ w)

-- else the hosts are not joined
abbrev pub DisagreeingPinsAreRefused : Type 0
DisagreeingPinsAreRefused =
    (hosts : List Host) (pins : PinPairs) (site : Joined) → All IsLawfulHost hosts
    → joined_site hosts pins ≡ Ok site
    → PinsAgree of_users hosts pins.users × PinsAgree of_groups hosts pins.groups

-- the table of the host gives the name the number
-- told: the name that it gives the number
abbrev pub is_told : List ℕ → Option (List ℕ) → Bool
is_told name (Some told) = bytes_eq name told
is_told name None = false

-- a name has as many rows with a number as there are hosts whose table gives it the number
abbrev pub LinesAreOfHosts : (Host → HostTells) → List Host → Accounts → Type 0
LinesAreOfHosts tells hosts a =
    (i v : ℕ) → i < length a.names
    → lines (account a i) v
    ≡ length (filter (λ host. is_told (account a i).name ((tells host).name_at v)) hosts)

abbrev pub LinesCountTheHosts : Type 0
LinesCountTheHosts =
    (hosts : List Host) (pins : PinPairs) (site : Joined) → All IsLawfulHost hosts
    → joined_site hosts pins ≡ Ok site
    → LinesAreOfHosts of_users hosts site.users × LinesAreOfHosts of_groups hosts site.groups
