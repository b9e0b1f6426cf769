-- The accounts of one kind, users or groups, over all hosts of a site.
-- Source: passwd(5) and group(5) (rows with names and numbers); how hosts are joined is this
-- project's own rule.
use Rattle.std.specs.Prelude.{◌≡◌, ℕ, suc, ◌+◌, ◌<◌, ◌≤◌, Bool, false, not, ◌&&◌, ◌==◌}
use Rattle.std.specs.Prelude.{if◌then◌else◌, List, [], ◌∷◌, ◌++◌, map, length, filter, count_by}
use Rattle.std.specs.Prelude.{find, Option, Some, None}
use Rattle.std.specs.Option.{option_map}
use Rattle.std.specs.List.{list_any}
use Rattle.std.specs.Str.{bytes_eq}
use Rattle.idtext.specs.Numbers.{greatest_id}
use Rattle.logindefs.specs.declared.ranges.IdRange.{IdRange}
use Rattle.logindefs.specs.Ranges.{in_range}
use Rattle.hosts_join.specs.declared.Standing.{Standing}
use Rattle.hosts_join.specs.declared.Standing.TheVariants.{Regular, System, Pinning}
use Rattle.hosts_join.specs.declared.Spot.{Spot}
use Rattle.hosts_join.specs.declared.reserving.Reserved.{Reserved}

-- a host: its name, and its regular and its system range for the kind
pub record HostEntry : Type 0 where
  pub name : List ℕ
  pub regular : IdRange
  pub system : IdRange

-- one row of an account file: the place of its host in the list of hosts, a name, the number that
-- the name has there, and what that number is on that host. A Spot is a row without its name.
pub record Row : Type 0 where
  pub host : ℕ
  pub name : List ℕ
  pub number : ℕ
  pub standing : Standing

-- a name, and the hosts that have it, in order, with its number there
pub record Account : Type 0 where
  pub name : List ℕ
  pub spots : List Spot

-- a name with a number: in the pins text, or given away
pub record Pair : Type 0 where
  pub name : List ℕ
  pub number : ℕ

-- The accounts of one kind, the pins of the kind, and which numbers no name is to be given.
-- The names stand in order of first appearance: hosts in order, and on a host its rows in order.
pub record Accounts : Type 0 where
  pub hosts : List HostEntry
  pub names : List Account
  pub pins : List Pair
  pub reserved : List Reserved

-- On its own host a number is regular if it is in the regular range, system if it is in the system
-- range, else pinning.
abbrev pub standing_on : IdRange → IdRange → ℕ → Standing
standing_on regular system v =
    if in_range regular v then Regular else (if in_range system v then System else Pinning)

-- the rows of the host that stands at the place
abbrev pub host_rows : ℕ → IdRange → IdRange → List (List ℕ × ℕ) → List Row
host_rows place regular system pairs =
    map (λ p. record {
      host = place;
      name = p.0;
      number = p.1;
      standing = standing_on regular system p.1;
    }) pairs

-- the rows of all hosts, where the first stands at the place
abbrev pub rows_from : {H : Type 0} → (H → IdRange) → (H → IdRange) → (H → List (List ℕ × ℕ)) → ℕ
    → List H → List Row
rows_from regular system pairs place [] = []
rows_from regular system pairs place (h ∷ hs) =
    host_rows place (regular h) (system h) (pairs h)
    ++ rows_from regular system pairs (place + 1) hs

-- each name where it appears first
unfoldable pub first_appearances : List (List ℕ) → List (List ℕ)
first_appearances [] = []
first_appearances (n ∷ ns) = n ∷ filter (λ m. not (bytes_eq n m)) (first_appearances ns)

abbrev pub spot_of : Row → Spot
spot_of r = record { host = r.host; number = r.number; standing = r.standing }

-- the hosts that have the name
unfoldable pub spots_of : List Row → List ℕ → List Spot
spots_of rows n = map spot_of (filter (λ r. bytes_eq n r.name) rows)

-- the accounts that the rows give
unfoldable pub grouped : List Row → List Account
grouped rows =
    map (λ n. record { name = n; spots = spots_of rows n })
    (first_appearances (map (λ r. r.name) rows))

-- the number that an account has on a host
abbrev pub number_on : Account → ℕ → Option ℕ
number_on a h = option_map (λ s. s.number) (find (λ s. s.host == h) a.spots)

-- the account has the number on the host
abbrev pub has_number : ℕ → ℕ → Account → Bool
has_number h v a = list_any (λ s. (h == s.host) && (v == s.number)) a.spots

-- the place of the first that passes
abbrev pub place : {X : Type 0} → (X → Bool) → List X → Option ℕ
place p [] = None
place p (x ∷ xs) = if p x then Some 0 else option_map suc (place p xs)

-- the account that has the number on the host
abbrev pub owner : List Account → ℕ → ℕ → Option ℕ
owner names h v = place (has_number h v) names

-- the account of the name
abbrev pub place_of : List Account → List ℕ → Option ℕ
place_of names n = place (λ a. bytes_eq n a.name) names

-- on how many hosts the account has the number
abbrev pub lines : Account → ℕ → ℕ
lines a v = count_by (λ s. s.number == v) a.spots

-- how many rows there are on all hosts
abbrev pub all_lines : List Account → ℕ
all_lines [] = 0
all_lines (a ∷ names) = length a.spots + all_lines names

-- an account without a host, which stands for an index that is too high
abbrev pub no_account : Account
no_account = record { name = []; spots = [] }

-- no two rows of one host have one number
unfoldable pub AreNumberedApart : List Row → Type 0
AreNumberedApart [] = Unit {0}
AreNumberedApart (r ∷ rows) =
    (list_any (λ q. (q.host == r.host) && (q.number == r.number)) rows ≡ false)
    × AreNumberedApart rows

-- the host is one of so many, and an account may have the number
abbrev pub IsSpotAmong : ℕ → Spot → Type 0
IsSpotAmong hosts s = (s.host < hosts) × (s.number ≤ greatest_id)

-- a row without a name, which stands for a place that is too high
abbrev pub no_row : List ℕ × ℕ
no_row = ([], 0)

-- no two rows of one host have one name
unfoldable pub AreNamedApart : List Row → Type 0
AreNamedApart [] = Unit {0}
AreNamedApart (r ∷ rows) =
    (list_any (λ q. (q.host == r.host) && bytes_eq r.name q.name) rows ≡ false)
    × AreNamedApart rows

-- each host stands once
unfoldable pub IsOnceEach : List Spot → Type 0
IsOnceEach [] = Unit {0}
IsOnceEach (s ∷ ss) = (list_any (λ t. t.host == s.host) ss ≡ false) × IsOnceEach ss
