-- A mapping: a number for each name of a kind, by the index of the name.
-- Source: the assignment problem; which numbers a name may have is this project's own rule.
use Rattle.std.specs.Prelude.{◌≡◌, ℕ, ◌<◌, ◌≤◌, true, List, All, length, slice_index_or, Option}
use Rattle.std.specs.Prelude.{Some, None}
use Rattle.idtext.specs.Numbers.{greatest_id}
use Rattle.hosts_join.specs.Accounts.{Accounts}
use Rattle.hosts_join.specs.Rules.{class_at, in_pool}
use Rattle.hosts_join.specs.declared.Class.{Class}
use Rattle.hosts_join.specs.declared.Class.TheVariants.{Pinned, Regular, System}

-- the number of the name at an index
abbrev pub number_at : List ℕ → ℕ → ℕ
number_at m i = slice_index_or m i 0

-- the number of the name at an index, in place of another; that one stays where there is no name
abbrev pub number_under : List ℕ → Option ℕ → ℕ → ℕ
number_under m None v = v
number_under m (Some i) v = number_at m i

-- A name may have its pin, or else the numbers of its pool.
abbrev pub MayHave : Accounts → Class → ℕ → Type 0
MayHave a (Pinned p) v = v ≡ p
MayHave a Regular v = in_pool a Regular v ≡ true
MayHave a System v = in_pool a System v ≡ true

-- no two names have one number
abbrev pub AreDistinct : List ℕ → Type 0
AreDistinct m = (i j : ℕ) → i < length m → j < length m → number_at m i ≡ number_at m j → i ≡ j

-- What a mapping is: numbers that an account may have, no two of them the same.
pub record IsMapping (m : List ℕ) : Type 0 where
  pub distinct : AreDistinct m
  pub ids : All (λ v. v ≤ greatest_id) m

-- An admissible mapping (of the assignment problem): each name has a number, one that it may have,
-- and no two names share one.
pub record IsAdmissible (a : Accounts) (m : List ℕ) : Type 0 where
  pub len : length m ≡ length a.names
  pub lawful : (i : ℕ) → i < length a.names → MayHave a (class_at a i) (number_at m i)
  pub distinct : AreDistinct m
