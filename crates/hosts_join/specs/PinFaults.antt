-- What the two faults of pins say, in other words: a name that is pinned to two numbers, and a pin
-- at a reserved number.
-- Source: this project's own rule.
use Rattle.std.specs.Prelude.{◌≡◌, ◌≢◌, ℕ, zero, suc, ◌<◌, ◌≤◌, List, length, slice_get, Option}
use Rattle.std.specs.Prelude.{Some, None, Err}
use Rattle.std.specs.Option.{option_map}
use Rattle.hosts_join.specs.Accounts.{Account, Accounts, Pair}
use Rattle.hosts_join.specs.Pairs.{number_of}
use Rattle.hosts_join.specs.Rules.{claims, joined}
use Rattle.hosts_join.specs.declared.Spot.{Spot}
use Rattle.hosts_join.specs.declared.Standing.TheVariants.{Pinning}
use Rattle.hosts_join.specs.declared.Which.{Which}
use Rattle.hosts_join.specs.declared.fault.SiteFault.TheVariants.{PinDisagrees, PinReserved}
use Rattle.hosts_join.specs.declared.reserving.Reserved.{Reserved}

-- A place that pins the account to the number, with what is told of it: the first place is the
-- pins text, which is told as None, and each place after it a host that has the account, in order,
-- which is told by its name.
abbrev pub PinsAt : Accounts → Account → ℕ → Option (List ℕ) → ℕ → Type 0
PinsAt a account zero told number =
    (told ≡ None) × (number_of a.pins account.name ≡ Some number)
PinsAt a account (suc i) told number =
    (spot : Spot) × (slice_get account.spots i ≡ Some spot) × (spot.standing ≡ Pinning)
    × (spot.number ≡ number) × (told ≡ option_map (λ h. h.name) (slice_get a.hosts spot.host))

-- One place is the first that pins the account, and another the first that pins it otherwise.
pub record ArePinsApart (a : Accounts) (account : Account) (first second : Option (List ℕ))
    : Type 0 where
  pub one : ℕ
  pub other : ℕ
  pub in_order : one < other
  pub number : ℕ
  pub another : ℕ
  pub first_pins : PinsAt a account one first number
  pub second_pins : PinsAt a account other second another
  pub differ : number ≢ another
  pub none_before : (place : ℕ) (told : Option (List ℕ)) (v : ℕ) → PinsAt a account place told v
      → one ≤ place
  pub agree_before : (place : ℕ) (told : Option (List ℕ)) (v : ℕ) → place < other
      → PinsAt a account place told v → v ≡ number

-- no name before this place is pinned to two numbers
abbrev pub NoneApartBefore : Accounts → ℕ → Type 0
NoneApartBefore a place =
    (i : ℕ) (account : Account) (first second : Option (List ℕ)) → i < place
    → slice_get a.names i ≡ Some account → ¬ ArePinsApart a account first second

-- no name is pinned to two numbers
abbrev pub NoneApart : Accounts → Type 0
NoneApart a = NoneApartBefore a (length a.names)

-- where a name with two pins is told, it is the first account of the kind that has two
abbrev pub DisagreeingPinsAreThere : Type 0
DisagreeingPinsAreThere =
    (kind k : Which) (a : Accounts) (name : List ℕ) (first second : Option (List ℕ))
    → joined kind a ≡ Err (PinDisagrees k name first second)
    → (k ≡ kind) × (i : ℕ) × (account : Account) × (slice_get a.names i ≡ Some account)
    × (account.name ≡ name) × ArePinsApart a account first second × NoneApartBefore a i

-- at this place the name stands, with this number
abbrev pub StandsAt : List Pair → ℕ → List ℕ → ℕ → Type 0
StandsAt given place name number =
    slice_get given place ≡ Some (record { name = name; number = number })

-- the number lies in what is reserved
abbrev pub LiesIn : Reserved → ℕ → Type 0
LiesIn reserved v = (reserved.numbers.low ≤ v) × (v ≤ reserved.numbers.high)

-- of the names that are given a number before all others, none before this place is given a
-- reserved one
abbrev pub NoneReservedBefore : Accounts → ℕ → Type 0
NoneReservedBefore a place =
    (i j v : ℕ) (n : List ℕ) (r : Reserved) → i < place → StandsAt (claims a) i n v
    → slice_get a.reserved j ≡ Some r → ¬ LiesIn r v

-- none of them is given a reserved number
abbrev pub NoneReserved : Accounts → Type 0
NoneReserved a = NoneReservedBefore a (length (claims a))

-- The name is given the number before all others, and this is the first that reserves it; what is
-- given before is not reserved.
pub record IsReservedPin (a : Accounts) (number : ℕ) (name : List ℕ) (by : Reserved) : Type 0 where
  pub place : ℕ
  pub given : StandsAt (claims a) place name number
  pub reserver : ℕ
  pub there : slice_get a.reserved reserver ≡ Some by
  pub has : LiesIn by number
  pub first : (j : ℕ) (r : Reserved) → j < reserver → slice_get a.reserved j ≡ Some r
      → ¬ LiesIn r number
  pub free_before : NoneReservedBefore a place

-- where a pin at a reserved number is told: only if no name is pinned to two numbers
abbrev pub ReservedPinsAreThere : Type 0
ReservedPinsAreThere =
    (kind k : Which) (a : Accounts) (number : ℕ) (name : List ℕ) (by : Reserved)
    → joined kind a ≡ Err (PinReserved k number name by)
    → (k ≡ kind) × IsReservedPin a number name by × NoneApart a
