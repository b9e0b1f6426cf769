-- The rules of a site, for the accounts of one kind: which names are pinned, to what, and which
-- numbers a free name may get.
-- Source: this project's own rule.
use Rattle.std.specs.Prelude.{ℕ, ◌^◌, Bool, true, false, not, ◌&&◌, ◌||◌, ◌==◌, nat_le, nat_lt}
use Rattle.std.specs.Prelude.{slice_get, if◌then◌else◌, List, [], ◌∷◌, ◌++◌, map, filter, count_by}
use Rattle.std.specs.Prelude.{find, Option, Some, None, Result, slice_index_or}
use Rattle.std.specs.Option.{option_map, option_to_list, option_and_then}
use Rattle.std.specs.List.{list_any, list_all, flat_map}
use Rattle.std.specs.Str.{bytes_eq}
use Rattle.idtext.specs.Numbers.{greatest_id}
use Rattle.idtext.specs.First.{or_else, unless}
use Rattle.logindefs.specs.Ranges.{in_range}
use Rattle.hosts_join.specs.declared.Spot.{Spot}
use Rattle.hosts_join.specs.Pairs.{number_of}
use Rattle.hosts_join.specs.Accounts.{Account, Accounts, Pair, HostEntry, no_account}
use Rattle.hosts_join.specs.Count.{count_below}
use Rattle.hosts_join.specs.declared.fault.PoolClass.{PoolClass}
use Rattle.hosts_join.specs.declared.fault.PoolClass.TheVariants as pool
use Rattle.hosts_join.specs.declared.fault.SiteFault.{SiteFault}
use Rattle.hosts_join.specs.declared.fault.SiteFault.TheVariants.{PinDisagrees, PinReserved}
use Rattle.hosts_join.specs.declared.fault.SiteFault.TheVariants.{PinClash, PoolTooSmall}
use Rattle.hosts_join.specs.declared.Standing.{Standing}
use Rattle.hosts_join.specs.declared.Standing.TheVariants as on
use Rattle.hosts_join.specs.declared.Class.{Class}
use Rattle.hosts_join.specs.declared.Class.TheVariants.{Pinned, Regular, System}
use Rattle.hosts_join.specs.declared.Which.{Which}
use Rattle.hosts_join.specs.declared.Source.{Source}
use Rattle.hosts_join.specs.declared.reserving.Reserved.{Reserved}

abbrev pub is_pinning : Standing → Bool
is_pinning on.Pinning = true
is_pinning on.Regular = false
is_pinning on.System = false

abbrev pub is_regular : Standing → Bool
is_regular on.Regular = true
is_regular on.Pinning = false
is_regular on.System = false

-- A Source is what pins a name to a number: a host, or the pins text, which comes before all hosts
-- and is written None.

-- the pin of the text, and that of each host where the name is pinning
abbrev pub sources_among : Option ℕ → List Spot → List Source
sources_among pin spots =
    map (λ v. record { host = None; number = v }) (option_to_list pin)
    ++ map (λ s. record { host = Some s.host; number = s.number })
    (filter (λ s. is_pinning s.standing) spots)

-- what pins the account
abbrev pub sources : List Pair → Account → List Source
sources pins a = sources_among (number_of pins a.name) a.spots

-- the first pin
abbrev pub first_source : List Source → Option Source
first_source [] = None
first_source (p ∷ ps) = Some p

abbrev pub first_pin : List Source → Option ℕ
first_pin ps = option_map (λ p. p.number) (first_source ps)

-- A name with a pin is pinned to it. Else it is free: regular if it is regular on some host, else
-- system.
abbrev pub class_by : List Source → List Spot → Class
class_by (p ∷ ps) spots = Pinned p.number
class_by [] spots = if list_any (λ s. is_regular s.standing) spots then Regular else System

abbrev pub class_of : List Pair → Account → Class
class_of pins a = class_by (sources pins a) a.spots

-- what pins a name first, and the first later one that pins it to another number
abbrev pub disagreement : List Source → Option (Source × Source)
disagreement [] = None
disagreement (p ∷ ps) = option_map (λ q. (p, q)) (find (λ q. not (q.number == p.number)) ps)

-- the first value that f gives
abbrev pub first_some : {X Y : Type 0} → (X → Option Y) → List X → Option Y
first_some f [] = None
first_some f (x ∷ xs) = or_else (f x) (first_some f xs)

-- the name with its pin, where the class has one
abbrev pub pinned_to : Class → List ℕ → List Pair
pinned_to (Pinned v) n = record { name = n; number = v } ∷ []
pinned_to Regular n = []
pinned_to System n = []

-- some account has the name
abbrev pub is_name : List Account → List ℕ → Bool
is_name names n = list_any (λ a. bytes_eq n a.name) names

-- the pairs of the pins text whose name is on no host
abbrev pub absent_pins : List Account → List Pair → List Pair
absent_pins names pins = filter (λ p. not (is_name names p.name)) pins

-- the pinned names, each with its pin
abbrev pub pinned_names : List Pair → List Account → List Pair
pinned_names pins names = flat_map (λ n. pinned_to (class_of pins n) n.name) names

-- the names that are given a number before all others: the pinned names, and then those in the
-- pins text that no host has
abbrev pub claims : Accounts → List Pair
claims a = pinned_names a.pins a.names ++ absent_pins a.names a.pins

-- some name is given the number
abbrev pub is_taken : List Pair → ℕ → Bool
is_taken given v = list_any (λ p. p.number == v) given

-- no name is to be given the number
abbrev pub is_reserved : List Reserved → ℕ → Bool
is_reserved reserved v = list_any (λ r. in_range r.numbers v) reserved

-- a name without a pin cannot get the number: it is taken, or reserved
abbrev pub is_given_away : Accounts → ℕ → Bool
is_given_away a v = is_taken (claims a) v || is_reserved a.reserved v

-- the number may have an account
abbrev pub is_id : ℕ → Bool
is_id v = nat_le v greatest_id

-- The pool of a class: the numbers that lie in its range on every host and are not given away. A
-- pinned name has the empty pool. (The test `is_id` is for ranges made by hand: those of a
-- login.defs hold no other number.)
abbrev pub in_pool : Accounts → Class → ℕ → Bool
in_pool a (Pinned v) w = false
in_pool a Regular w =
    (is_id w && list_all (λ h. in_range h.regular w) a.hosts) && not (is_given_away a w)
in_pool a System w =
    (is_id w && list_all (λ h. in_range h.system w) a.hosts) && not (is_given_away a w)

-- a name of the class has no pin
abbrev pub is_free_class : Class → Bool
is_free_class (Pinned v) = false
is_free_class Regular = true
is_free_class System = true

-- how many numbers a pool has
abbrev pub pool_size : Accounts → Class → ℕ
pool_size a c = count_below (in_pool a c) (2 ^ 32)

abbrev pub same_class : Class → Class → Bool
same_class (Pinned v) (Pinned w) = v == w
same_class Regular Regular = true
same_class System System = true
same_class c d = false

-- how many names a class has
abbrev pub names_in : Accounts → Class → ℕ
names_in a c = count_by (λ n. same_class c (class_of a.pins n)) a.names

-- The four refusals.

abbrev pub host_name : List HostEntry → Source → Option (List ℕ)
host_name hosts s = option_and_then (λ h. option_map (λ e. e.name) (slice_get hosts h)) s.host

abbrev pub disagrees : Which → List HostEntry → List Pair → Account → Option SiteFault
disagrees kind hosts pins n =
    option_map (λ d. PinDisagrees kind n.name (host_name hosts d.0) (host_name hosts d.1))
    (disagreement (sources pins n))

-- the first that reserves the number
abbrev pub reserver : List Reserved → ℕ → Option Reserved
reserver reserved v = find (λ r. in_range r.numbers v) reserved

abbrev pub pin_reserved : Which → List Reserved → Pair → Option SiteFault
pin_reserved kind reserved p =
    option_map (λ r. PinReserved kind p.number p.name r) (reserver reserved p.number)

-- a number with two names
pub record Clash : Type 0 where
  pub number : ℕ
  pub first : List ℕ
  pub second : List ℕ

-- each name whose number an earlier one has, with the first that has it
abbrev pub repeat_of : List Pair → Pair → List Clash
repeat_of before p =
    map (λ q. record { number = p.number; first = q.name; second = p.name })
    (option_to_list (find (λ q. q.number == p.number) before))

unfoldable pub repeats : List Pair → List Pair → List Clash
repeats before [] = []
repeats before (p ∷ ps) = repeat_of before p ++ repeats (before ++ p ∷ []) ps

-- the first with the least number
abbrev pub lesser : Clash → Option Clash → Clash
lesser c None = c
lesser c (Some d) = if nat_lt d.number c.number then d else c

unfoldable pub least : List Clash → Option Clash
least [] = None
least (c ∷ cs) = Some (lesser c (least cs))

-- the first two names of the least number that is given to two names
abbrev pub clash_of : List Pair → Option Clash
clash_of given = least (repeats [] given)

abbrev pub clash : Which → List Pair → Option SiteFault
clash kind given = option_map (λ d. PinClash kind d.number d.first d.second) (clash_of given)

-- what is wrong with numbers that are given to names: the first that is reserved, or else the
-- least that two names are given
abbrev pub claim_fault : Which → List Reserved → List Pair → Option SiteFault
claim_fault kind reserved given =
    or_else (first_some (pin_reserved kind reserved) given) (clash kind given)

-- the class of the names that a pool serves
abbrev pub class_served : PoolClass → Class
class_served pool.Regular = Regular
class_served pool.System = System

abbrev pub too_small : Which → Accounts → PoolClass → Option SiteFault
too_small kind a c =
    if nat_lt (pool_size a (class_served c)) (names_in a (class_served c))
    then Some (PoolTooSmall kind c (names_in a (class_served c)) (pool_size a (class_served c)))
    else None

-- the first refusal: a name whose pins disagree, then a pin at a reserved number, then a number
-- with two names, then a pool with fewer numbers than names
abbrev pub refusal : Which → Accounts → Option SiteFault
refusal kind a =
    or_else (first_some (disagrees kind a.hosts a.pins) a.names)
    (or_else (claim_fault kind a.reserved (claims a))
    (or_else (too_small kind a pool.Regular) (too_small kind a pool.System)))

-- the accounts, where nothing is refused
abbrev pub joined : Which → Accounts → Result Accounts SiteFault
joined kind a = unless (refusal kind a) a

-- the account at a place
abbrev pub account : Accounts → ℕ → Account
account a i = slice_index_or a.names i no_account

-- its class
abbrev pub class_at : Accounts → ℕ → Class
class_at a i = class_of a.pins (account a i)
