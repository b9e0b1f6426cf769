-- Potentials, and what they certify.
-- Source: weak duality of the assignment problem (Kuhn 1955, Munkres 1957).
use Rattle.std.specs.Prelude.{◌≡◌, ◌≢◌, ℕ, ◌+◌, ◌<◌, ◌≤◌, ◌^◌, true, false, if◌then◌else◌, ◌==◌}
use Rattle.std.specs.Prelude.{List, [], ◌∷◌, length, slice_index_or, sum, sum_by}
use Rattle.idtext.specs.Numbers.{greatest_id}
use Rattle.hosts_join.specs.Accounts.{Accounts}
use Rattle.hosts_join.specs.Lawful.{AreLawfulAccounts}
use Rattle.hosts_join.specs.Rules.{class_at, in_pool, is_free_class}
use Rattle.ownership.specs.Costs.{IsOptimal}
use Rattle.ownership.specs.Files.{File}
use Rattle.ownership.specs.Mappings.{number_at, IsAdmissible}
use Rattle.ownership.specs.Weights.{weight, free_weight}

-- the potential of the name at an index
abbrev pub potential_at : List ℕ → ℕ → ℕ
potential_at y i = slice_index_or y i 0

-- the potential of a number: z has numbers with theirs, and every other number has 0
abbrev pub value_at : List (ℕ × ℕ) → ℕ → ℕ
value_at [] v = 0
value_at (e ∷ z) v = if e.0 == v then e.1 else value_at z v

-- each number of z is larger than those before it
abbrev pub AscendsByNumber : List (ℕ × ℕ) → Type 0
AscendsByNumber z =
    (i j : ℕ) (d : ℕ × ℕ) → i < j → j < length z
    → (slice_index_or z i d).0 < (slice_index_or z j d).0

-- a number that an account may have, with a potential that is not 0
pub record IsZ (e : ℕ × ℕ) : Type 0 where
  pub number : e.0 ≤ greatest_id
  pub positive : 1 ≤ e.1
  pub fits : e.1 < 2 ^ 64

-- y on names and z on numbers together
abbrev pub potential_sum : List ℕ → List (ℕ × ℕ) → ℕ
potential_sum y z = sum y + sum_by (λ e. e.1) z

-- Certifying potentials for a mapping: they cover every name with every number of its pool, and all
-- of them together are what the numbers of the free names weigh.
pub record AreCertifying (a : Accounts) (files : List File) (m y : List ℕ) (z : List (ℕ × ℕ)) :
    Type 0 where
  pub len : length y ≡ length a.names
  pub cover : (i v : ℕ) → i < length a.names → in_pool a (class_at a i) v ≡ true
      → weight a files i v ≤ potential_at y i + value_at z v
  pub equal : potential_sum y z ≡ free_weight a files m

-- What certifying potentials prove: no admissible mapping costs less, and none of the same cost
-- changes fewer account rows.
abbrev pub CertifiedIsOptimal : Type 0
CertifiedIsOptimal =
    (a : Accounts) (files : List File) (m y : List ℕ) (z : List (ℕ × ℕ)) → AreLawfulAccounts a
    → IsAdmissible a m → AreCertifying a files m y z → IsOptimal a files m

-- Complementary slackness: no potential is wasted.
pub record IsTight (a : Accounts) (files : List File) (m y : List ℕ) (z : List (ℕ × ℕ)) :
    Type 0 where
  -- the number of a free name weighs exactly its two potentials
  pub tight : (i : ℕ) → i < length a.names → is_free_class (class_at a i) ≡ true
      → weight a files i (number_at m i) ≡ potential_at y i + value_at z (number_at m i)
  -- a name whose number weighs nothing has no potential, nor has a pinned name
  pub weightless : (i : ℕ) → i < length a.names → is_free_class (class_at a i) ≡ true
      → weight a files i (number_at m i) ≡ 0 → potential_at y i ≡ 0
  pub pinned : (i : ℕ) → i < length a.names → is_free_class (class_at a i) ≡ false
      → potential_at y i ≡ 0
  -- a number that no free name has has no potential
  pub unused : (v : ℕ)
      → ((i : ℕ) → i < length a.names → is_free_class (class_at a i) ≡ true → number_at m i ≢ v)
      → value_at z v ≡ 0

abbrev pub CertifiedIsTight : Type 0
CertifiedIsTight =
    (a : Accounts) (files : List File) (m y : List ℕ) (z : List (ℕ × ℕ)) → IsAdmissible a m
    → AreCertifying a files m y z → IsTight a files m y z
