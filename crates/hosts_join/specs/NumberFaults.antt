-- What the two faults of numbers say, in other words: two names with one number, and a pool with
-- too few numbers.
-- Source: this project's own rule.
use Rattle.std.specs.Prelude.{◌≡◌, ◌↔◌, ℕ, ◌<◌, ◌≤◌, true, List, length, Err}
use Rattle.std.specs.List.{Contains}
use Rattle.accounts.specs.Laws.{AreDistinct}
use Rattle.hosts_join.specs.Accounts.{Accounts, Pair}
use Rattle.hosts_join.specs.PinFaults.{NoneApart, NoneReserved, StandsAt}
use Rattle.hosts_join.specs.Rules.{claims, class_at, class_served, in_pool, joined}
use Rattle.hosts_join.specs.declared.Class.{Class}
use Rattle.hosts_join.specs.declared.Class.TheVariants.{Regular}
use Rattle.hosts_join.specs.declared.Which.{Which}
use Rattle.hosts_join.specs.declared.fault.PoolClass.{PoolClass}
use Rattle.hosts_join.specs.declared.fault.PoolClass.TheVariants.{System}
use Rattle.hosts_join.specs.declared.fault.SiteFault.TheVariants.{PinClash, PoolTooSmall}

-- The two names are the first that are given the number, and no lesser number is given to two.
pub record IsLeastClash (given : List Pair) (number : ℕ) (first second : List ℕ) : Type 0 where
  pub one : ℕ
  pub other : ℕ
  pub in_order : one < other
  pub first_has : StandsAt given one first number
  pub second_has : StandsAt given other second number
  pub none_between : (place : ℕ) (name : List ℕ) → place < other
      → StandsAt given place name number → place ≡ one
  pub least : (i j v : ℕ) (name next : List ℕ) → i < j → StandsAt given i name v
      → StandsAt given j next v → number ≤ v

-- no number is given to two names
abbrev pub NoneTwice : List Pair → Type 0
NoneTwice given =
    (i j v : ℕ) (name next : List ℕ) → i < j → StandsAt given i name v → ¬ StandsAt given j next v

-- so many numbers are such
pub record AreSoMany (IsSuch : ℕ → Type 0) (count : ℕ) : Type 0 where
  pub numbers : List ℕ
  pub exactly : (v : ℕ) → Contains numbers v ↔ IsSuch v
  pub once : AreDistinct numbers
  pub counted : length numbers ≡ count

-- so many names have the class, and its pool has so many numbers
pub record HaveSoMany (a : Accounts) (c : Class) (names numbers : ℕ) : Type 0 where
  pub of_class : AreSoMany (λ i. (i < length a.names) × (class_at a i ≡ c)) names
  pub in_its_pool : AreSoMany (λ v. in_pool a c v ≡ true) numbers

-- the pool has a number for each name
abbrev pub IsLargeEnough : Accounts → Class → Type 0
IsLargeEnough a c = (names numbers : ℕ) × HaveSoMany a c names numbers × (names ≤ numbers)

-- where two names with one number are told: only if no name is pinned to two numbers, and none is
-- given a reserved one
abbrev pub ClashesAreThere : Type 0
ClashesAreThere =
    (kind k : Which) (a : Accounts) (number : ℕ) (first second : List ℕ)
    → joined kind a ≡ Err (PinClash k number first second)
    → (k ≡ kind) × IsLeastClash (claims a) number first second × NoneApart a × NoneReserved a

-- where a pool is told: only if nothing is wrong with a pin, and that of system names only if that
-- of regular names is large enough
abbrev pub SmallPoolsAreThere : Type 0
SmallPoolsAreThere =
    (kind k : Which) (a : Accounts) (class : PoolClass) (names numbers : ℕ)
    → joined kind a ≡ Err (PoolTooSmall k class names numbers)
    → (k ≡ kind) × HaveSoMany a (class_served class) names numbers × (numbers < names)
    × (class ≡ System → IsLargeEnough a Regular) × NoneApart a × NoneReserved a
    × NoneTwice (claims a)
