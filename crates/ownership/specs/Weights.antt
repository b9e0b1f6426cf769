-- Weights: how well a name keeps its ways with a number.
-- Source: the assignment problem (weights); what they weigh, and the filling, is this project's own
-- rule.
use Rattle.std.specs.Prelude.{◌≡◌, ◌≢◌, ℕ, ◌+◌, ◌*◌, ◌<◌, true, if◌then◌else◌, List, length}
use Rattle.std.specs.Cmp.Lexicographic.{slice_cmp}
use Rattle.std.specs.Ordering.{nat_cmp}
use Rattle.std.specs.declared.cmp.Ordering.TheVariants.{Less}
use Rattle.hosts_join.specs.Accounts.{Accounts, lines, all_lines}
use Rattle.hosts_join.specs.Rules.{account, class_at, in_pool, is_free_class}
use Rattle.ownership.specs.Counts.{Tally, told_kept}
use Rattle.ownership.specs.Files.{File, kept}
use Rattle.ownership.specs.Mappings.{number_at}
use Rattle.ownership.specs.Sums.{sum_below}

-- A file counts for more than all account rows together.
abbrev pub file_weight : Accounts → ℕ
file_weight a = all_lines a.names + 1

-- first the files that the name keeps with the number, and then its account rows that stay
abbrev pub weight : Accounts → List File → ℕ → ℕ → ℕ
weight a files i v = file_weight a * kept a.names files i v + lines (account a i) v

-- the same, as the counters tell it
abbrev pub told_weight : Accounts → List Tally → ℕ → ℕ → ℕ
told_weight a tallies i v = file_weight a * told_kept tallies i v + lines (account a i) v

-- what the numbers of the free names weigh together
abbrev pub free_weight : Accounts → List File → List ℕ → ℕ
free_weight a files m =
    sum_below (λ i. if is_free_class (class_at a i) then weight a files i (number_at m i) else 0)
    (length a.names)

-- a free name whose number has no weight for it: no file and no account row of the name has that
-- number
pub record IsFresh (a : Accounts) (files : List File) (m : List ℕ) (i : ℕ) : Type 0 where
  pub free : is_free_class (class_at a i) ≡ true
  pub weightless : weight a files i (number_at m i) ≡ 0

-- one name stands before another in byte order
abbrev pub Precedes : Accounts → ℕ → ℕ → Type 0
Precedes a j i = slice_cmp nat_cmp (account a j).name (account a i).name ≡ Less

-- Some names wait for a number, and are served in byte order. The number is had before the name at
-- i is served: by a name that does not wait, or by one that is served before it.
pub record IsHad (a : Accounts) (Waits : ℕ → Type 0) (m : List ℕ) (i v : ℕ) : Type 0 where
  pub by : ℕ
  pub within : by < length a.names
  pub other : by ≢ i
  pub has : number_at m by ≡ v
  pub earlier : Waits by → Precedes a by i

-- Each name that waits has the smallest number of its pool that is not had before.
abbrev pub IsFilled : Accounts → (ℕ → Type 0) → List ℕ → Type 0
IsFilled a Waits m =
    (i v : ℕ) → i < length a.names → Waits i → in_pool a (class_at a i) v ≡ true → v < number_at m i
    → IsHad a Waits m i v
