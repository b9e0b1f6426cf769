-- The numbers of names while the fill goes on.
-- Words of the code and not of the subject: only private contracts, views and invariants cite them.
use Rattle.std.specs.Prelude.{◌≡◌, ◌≢◌, ℕ, ◌+◌, ◌<◌, ◌≤◌, ◌==◌, ◌&&◌, nat_lt, if◌then◌else◌, Bool}
use Rattle.std.specs.Prelude.{true, false, List, length, slice_index_or, slice_set, Option}
use Rattle.std.specs.Prelude.{Some, None}
use Rattle.std.specs.List.{list_any, count_by}
use Rattle.std.specs.Option.{is_none}
use Rattle.std.specs.Cmp.Lexicographic.{slice_cmp}
use Rattle.std.specs.Ordering.{nat_cmp}
use Rattle.std.specs.declared.cmp.Ordering.TheVariants.{Less}
use Rattle.std.specs.HashSet.{contains}
use Rattle.std.specs.Prelude.{nat_eq}
use Rattle.idtext.specs.Numbers.{greatest_id}
use Rattle.hosts_join.specs.Accounts.{Accounts}
use Rattle.hosts_join.specs.declared.Class.{Class}
use Rattle.hosts_join.specs.declared.Class.TheVariants.{Pinned, Regular, System}
use Rattle.hosts_join.specs.Rules.{account, class_at, in_pool, is_free_class}
use Rattle.logindefs.specs.declared.ranges.IdRange.{IdRange}
use Rattle.hosts_join.specs.RangeLists.{lies_in_some}
use Rattle.ownership.specs.Files.{is_number}
use Rattle.ownership.specs.Weights.{Precedes}
use Rattle.candidates.specs.Fill.{gift}
use Rattle.candidates.specs.declared.filling.Filling.TheInside.{Inside}

-- some name has the number
abbrev pub is_had : List (Option ℕ) → ℕ → Bool
is_had numbers v = list_any (is_number v) numbers

-- what a name has before the fill: its pin, or else what it was given
abbrev pub settled_by : Class → Option ℕ → Option ℕ
settled_by (Pinned v) o = Some v
settled_by Regular o = o
settled_by System o = o

abbrev pub settled : Accounts → List (Option ℕ) → ℕ → Option ℕ
settled a given i = settled_by (class_at a i) (gift given i)

-- the set has the numbers that names have
abbrev pub KnowsNumbers : Inside → Type 0
KnowsNumbers f = (v : ℕ) → contains nat_eq f.had v ≡ is_had f.numbers.items v

-- one more name has the least number of its pool, from the cursor on, that no name has
pub record IsGiven (pool : List IdRange) (old new : List (Option ℕ)) (i from next : ℕ) :
    Type 0 where
  pub number : ℕ
  pub next_is : next ≡ number + 1
  pub member : lies_in_some pool number ≡ true
  pub fresh : is_had old number ≡ false
  pub least : (u : ℕ) → from ≤ u → u < number → lies_in_some pool u ≡ true → is_had old u ≡ true
  pub set : new ≡ slice_set old i (Some number)

-- a number is left from the cursor on
pub record IsLeft (pool : List IdRange) (numbers : List (Option ℕ)) (from : ℕ) : Type 0 where
  pub number : ℕ
  pub above : from ≤ number
  pub member : lies_in_some pool number ≡ true
  pub fresh : is_had numbers number ≡ false

-- every number of the pool is one that an account may have
abbrev pub AreIds : List IdRange → Type 0
AreIds pool = (v : ℕ) → lies_in_some pool v ≡ true → v ≤ greatest_id

-- how often the name at an index stands in the list
abbrev pub times : ℕ → List ℕ → ℕ
times i waiting = count_by (λ w. w == i) waiting

-- The list has the index of each name without a number once, and the names do not descend in byte
-- order.
pub record AreWaiting (a : Accounts) (numbers : List (Option ℕ)) (waiting : List ℕ) : Type 0 where
  pub once : (i : ℕ) → times i waiting
      ≡ (if nat_lt i (length a.names) && is_none (gift numbers i) then 1 else 0)
  pub ordered : (j k : ℕ) → j < k → k < length waiting
      → slice_cmp nat_cmp (account a (slice_index_or waiting k 0)).name
      (account a (slice_index_or waiting j 0)).name ≢ Less

-- Before the fill: a number for each pinned name, numbers of their pools for some free ones, and no
-- number twice.
pub record IsStart (a : Accounts) (numbers : List (Option ℕ)) : Type 0 where
  pub len : length numbers ≡ length a.names
  pub pinned : (i v : ℕ) → i < length numbers → class_at a i ≡ Pinned v → gift numbers i ≡ Some v
  pub pooled : (i v : ℕ) → is_free_class (class_at a i) ≡ true → gift numbers i ≡ Some v
      → in_pool a (class_at a i) v ≡ true
  pub distinct : (i j v : ℕ) → gift numbers i ≡ Some v → gift numbers j ≡ Some v → i ≡ j

-- a name has the number, and one that has waited stands before the name at i
pub record HadBefore (a : Accounts) (start numbers : List (Option ℕ)) (i v : ℕ) : Type 0 where
  pub by : ℕ
  pub has : gift numbers by ≡ Some v
  pub earlier : gift start by ≡ None → Precedes a by i

-- the name has waited, and has the least number of its pool that was left
pub record HasLeast (a : Accounts) (start numbers : List (Option ℕ)) (i : ℕ) : Type 0 where
  pub number : ℕ
  pub has : gift numbers i ≡ Some number
  pub member : in_pool a (class_at a i) number ≡ true
  pub least : (u : ℕ) → in_pool a (class_at a i) u ≡ true → u < number
      → HadBefore a start numbers i u

-- After the fill.
pub record IsDone (a : Accounts) (start numbers : List (Option ℕ)) : Type 0 where
  pub len : length numbers ≡ length start
  pub kept : (i v : ℕ) → gift start i ≡ Some v → gift numbers i ≡ Some v
  pub filled : (i : ℕ) → i < length start → gift start i ≡ None → HasLeast a start numbers i
  pub distinct : (i j v : ℕ) → gift numbers i ≡ Some v → gift numbers j ≡ Some v → i ≡ j
