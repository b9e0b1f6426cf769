-- Why a certificate is refused: the first fault of a kind by what numbers weigh, and the answer for
-- files.
-- Source: the assignment problem (coverage and equal sums: Kuhn 1955, Munkres 1957); the order of
-- faults is this project's own rule.
use Rattle.std.specs.Prelude.{ℕ, zero, suc, ◌+◌, ◌^◌, Bool, false, not, ◌&&◌, ◌==◌, nat_lt}
use Rattle.std.specs.Prelude.{if◌then◌else◌, List, [], ◌∷◌, ◌++◌, length, map, filter, find}
use Rattle.std.specs.Prelude.{count_by, Option, Some, None, Result}
use Rattle.std.specs.Option.{option_map, option_map_or}
use Rattle.std.specs.Ordering.{nat_cmp, is_lt}
use Rattle.std.specs.Cmp.Lexicographic.{slice_cmp}
use Rattle.std.specs.List.{list_any}
use Rattle.std.specs.Str.{bytes_eq}
use Rattle.idtext.specs.First.{or_else, unless}
use Rattle.hosts_join.specs.declared.Which.{Which}
use Rattle.hosts_join.specs.declared.Which.TheVariants.{User, Group}
use Rattle.hosts_join.specs.declared.Class.{Class}
use Rattle.hosts_join.specs.declared.Class.TheVariants.{Pinned, Regular, System}
use Rattle.hosts_join.specs.Accounts.{Accounts, place_of}
use Rattle.hosts_join.specs.Rules.{class_at, in_pool, is_free_class, is_name, first_some}
use Rattle.hosts_join.specs.Site.{Joined}
use Rattle.ownership.specs.Costs.{site_cost}
use Rattle.ownership.specs.Files.{Added, by_group, by_user}
use Rattle.ownership.specs.Mappings.{number_at}
use Rattle.ownership.specs.declared.mapping.Mappings.{Mappings}
use Rattle.ownership.specs.Potentials.{potential_sum, value_at}
use Rattle.ownership.specs.Sums.{sum_below}
use Rattle.ownership.specs.Weights.{weight}
use Rattle.certcheck.specs.Certificate.{Row, Side}
use Rattle.certcheck.specs.declared.certificate.Certificate.{Certificate}
use Rattle.certcheck.specs.declared.fault.CheckFault.{CheckFault}
use Rattle.certcheck.specs.declared.fault.CheckFault.TheVariants.{NameMissing, NumberTwice}
use Rattle.certcheck.specs.declared.fault.CheckFault.TheVariants.{OutsidePool, PinBroken}
use Rattle.certcheck.specs.declared.fault.CheckFault.TheVariants.{NotCovered, SumsDiffer}

-- the lesser of two names, in byte order
abbrev pub lesser : Option (List ℕ) → Option (List ℕ) → Option (List ℕ)
lesser None o = o
lesser (Some n) None = Some n
lesser (Some n) (Some m) = if is_lt (slice_cmp nat_cmp m n) then Some m else Some n

unfoldable pub least_name : List (List ℕ) → Option (List ℕ)
least_name [] = None
least_name (n ∷ ns) = lesser (Some n) (least_name ns)

-- the least number below n that passes
unfoldable pub least_below : (ℕ → Bool) → ℕ → Option ℕ
least_below test zero = None
least_below test (suc n) = or_else (least_below test n) (if test n then Some n else None)

-- the row of a name
abbrev pub row_named : List Row → List ℕ → Option Row
row_named rows n = find (λ r. bytes_eq n r.name) rows

abbrev pub is_listed : List Row → List ℕ → Bool
is_listed rows n = list_any (λ r. bytes_eq n r.name) rows

-- the mapping and the y that the rows give, by the index of the name
abbrev pub number_named : List Row → List ℕ → ℕ
number_named rows n = option_map_or (λ r. r.number) (row_named rows n) 0

abbrev pub y_named : List Row → List ℕ → ℕ
y_named rows n = option_map_or (λ r. r.y) (row_named rows n) 0

abbrev pub mapping_of : Accounts → List Row → List ℕ
mapping_of a rows = map (λ x. number_named rows x.name) a.names

abbrev pub potentials_of : Accounts → List Row → List ℕ
potentials_of a rows = map (λ x. y_named rows x.name) a.names

-- the mappings that a certificate gives
abbrev pub mappings_of : Joined → Certificate → Mappings
mappings_of site c =
    record {
      users = mapping_of site.users c.users.rows;
      groups = mapping_of site.groups c.groups.rows;
    }

-- the least name that stands in exactly one of site and certificate
abbrev pub missing : Accounts → List Row → Option (List ℕ)
missing a rows =
    least_name (filter (λ n. not (is_name a.names n)) (map (λ r. r.name) rows)
    ++ filter (λ n. not (is_listed rows n)) (map (λ x. x.name) a.names))

-- the least number that two rows have
abbrev pub repeated : List Row → Option ℕ
repeated rows = least_below (λ v. nat_lt 1 (count_by (λ r. r.number == v) rows)) (2 ^ 32)

-- the test at an index, where there is one
abbrev pub passes : (ℕ → Bool) → Option ℕ → Bool
passes test None = false
passes test (Some i) = test i

-- a free name whose number is not in its pool
abbrev pub is_outside : Accounts → Class → ℕ → Bool
is_outside a c v = is_free_class c && not (in_pool a c v)

-- a pinned name whose number is not its pin
abbrev pub breaks_pin : Class → ℕ → Bool
breaks_pin (Pinned p) v = not (v == p)
breaks_pin Regular v = false
breaks_pin System v = false

abbrev pub is_row_outside : Accounts → Row → Bool
is_row_outside a r = passes (λ i. is_outside a (class_at a i) r.number) (place_of a.names r.name)

abbrev pub row_breaks_pin : Accounts → Row → Bool
row_breaks_pin a r = passes (λ i. breaks_pin (class_at a i) r.number) (place_of a.names r.name)

-- rows ascend by name, so the first such row is that of the least such name
abbrev pub outside : Accounts → List Row → Option Row
outside a rows = find (is_row_outside a) rows

abbrev pub broken : Accounts → List Row → Option Row
broken a rows = find (row_breaks_pin a) rows

-- Below, w i v is what the number v weighs for the name at the index i.

-- whether a number of the name's pool weighs more than y and z together
abbrev pub is_uncovered : Accounts → (ℕ → ℕ → ℕ) → List (ℕ × ℕ) → ℕ → ℕ → ℕ → Bool
is_uncovered a w z i y v = in_pool a (class_at a i) v && nat_lt (y + value_at z v) (w i v)

-- the least such number
unfoldable pub uncovered_at : Accounts → (ℕ → ℕ → ℕ) → List (ℕ × ℕ) → ℕ → ℕ → Option ℕ
uncovered_at a w z i y = least_below (is_uncovered a w z i y) (2 ^ 32)

abbrev pub uncovered_in : Accounts → (ℕ → ℕ → ℕ) → List (ℕ × ℕ) → Row → Option ℕ
    → Option (List ℕ × ℕ)
uncovered_in a w z r None = None
uncovered_in a w z r (Some i) = option_map (λ v. (r.name, v)) (uncovered_at a w z i r.y)

-- the first row with such a number
abbrev pub uncovered : Accounts → (ℕ → ℕ → ℕ) → Side → Option (List ℕ × ℕ)
uncovered a w s = first_some (λ r. uncovered_in a w s.z r (place_of a.names r.name)) s.rows

-- what the numbers of the free names weigh together
abbrev pub weight_by : Accounts → (ℕ → ℕ → ℕ) → List ℕ → ℕ
weight_by a w m =
    sum_below (λ i. if is_free_class (class_at a i) then w i (number_at m i) else 0)
    (length a.names)

abbrev pub differ : Which → ℕ → ℕ → Option CheckFault
differ kind total weighs = if total == weighs then None else Some (SumsDiffer kind total weighs)

abbrev pub sums_differ : Which → Accounts → (ℕ → ℕ → ℕ) → Side → Option CheckFault
sums_differ kind a w s =
    differ kind (potential_sum (potentials_of a s.rows) s.z) (weight_by a w (mapping_of a s.rows))

-- the first fault of a kind
unfoldable pub kind_fault : Which → Accounts → (ℕ → ℕ → ℕ) → Side → Option CheckFault
kind_fault kind a w s =
    or_else (option_map (λ n. NameMissing kind n) (missing a s.rows))
    (or_else (option_map (λ v. NumberTwice kind v) (repeated s.rows))
    (or_else (option_map (λ r. OutsidePool kind r.name) (outside a s.rows))
    (or_else (option_map (λ r. PinBroken kind r.name) (broken a s.rows))
    (or_else (option_map (λ p. NotCovered kind p.0 p.1) (uncovered a w s))
    (sums_differ kind a w s)))))

-- What the check answers for these files: the cost, or the first fault, users first.
abbrev pub answer : Joined → List Added → Certificate → Result ℕ CheckFault
answer site files c =
    unless (or_else (kind_fault User site.users (weight site.users (by_user files)) c.users)
    (kind_fault Group site.groups (weight site.groups (by_group files)) c.groups))
    (site_cost site files (mappings_of site c))
