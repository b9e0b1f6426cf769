-- What is settled of the names of one kind before they are joined.
-- Words of the code and not of the subject: only private contracts cite them.
use Rattle.std.specs.Prelude.{◌≡◌, ℕ, ◌≤◌, nat_lt, if◌then◌else◌, List, map, count_by, Option, Some}
use Rattle.std.specs.Prelude.{None}
use Rattle.idtext.specs.First.{or_else}
use Rattle.hosts_join.specs.declared.Class.{Class}
use Rattle.hosts_join.specs.declared.Class.TheVariants.{Regular, System}
use Rattle.hosts_join.specs.declared.HostEntry.{HostEntry}
use Rattle.hosts_join.specs.declared.Which.{Which}
use Rattle.hosts_join.specs.declared.fault.PoolClass.{PoolClass}
use Rattle.hosts_join.specs.declared.fault.PoolClass.TheVariants as pool
use Rattle.hosts_join.specs.declared.fault.SiteFault.{SiteFault}
use Rattle.hosts_join.specs.declared.fault.SiteFault.TheVariants.{PoolTooSmall}
use Rattle.hosts_join.specs.declared.index.Index.{Index}
use Rattle.hosts_join.specs.declared.names.PoolPair.{PoolPair}
use Rattle.hosts_join.specs.declared.names.Settled.{Settled}
use Rattle.hosts_join.specs.declared.reserving.Reserved.{Reserved}
use Rattle.hosts_join.specs.Accounts.{Accounts, Pair}
use Rattle.hosts_join.specs.Index.{accounts_in}
use Rattle.hosts_join.specs.Order.{AreInByteOrder}
use Rattle.hosts_join.specs.Pool.{run_size}
use Rattle.hosts_join.specs.RangeLists.{lies_in_some}
use Rattle.hosts_join.specs.Rules.{class_of, clash_of, claims, in_pool, names_in, pool_size}
use Rattle.hosts_join.specs.Rules.{same_class}
use Rattle.hosts_join.specs.Views.{entry_of}

-- the accounts that the tables of a join stand for
abbrev pub joined_from : List HostEntry → Index → List Pair → List Reserved → Accounts
joined_from hosts index pins reserved = record {
  hosts = map entry_of hosts;
  names = accounts_in index;
  pins = pins;
  reserved = reserved;
}

pub record ArePools (a : Accounts) (p : PoolPair) : Type 0 where
  pub regular : (v : ℕ) → lies_in_some p.regular v ≡ in_pool a Regular v
  pub system : (v : ℕ) → lies_in_some p.system v ≡ in_pool a System v

pub record IsSettled (a : Accounts) (s : Settled) : Type 0 where
  pub classes : s.classes.items ≡ map (class_of a.pins) a.names
  pub pools : ArePools a s.pools
  pub apart : clash_of (claims a) ≡ None
  pub enough_regular : names_in a Regular ≤ pool_size a Regular
  pub enough_system : names_in a System ≤ pool_size a System
  pub order : AreInByteOrder a.names s.order.items

-- what is wrong with a pool of so many numbers, whose class has so many names
abbrev pub lacking : Which → PoolClass → ℕ → ℕ → Option SiteFault
lacking kind class names numbers =
    if nat_lt numbers names then Some (PoolTooSmall kind class names numbers) else None

-- the first pool that has fewer numbers than its class has names
abbrev pub small_among : Which → List Class → PoolPair → Option SiteFault
small_among kind classes p =
    or_else (lacking kind pool.Regular (count_by (same_class Regular) classes) (run_size p.regular))
    (lacking kind pool.System (count_by (same_class System) classes) (run_size p.system))
