-- Names in byte order.
-- Source: this project's own rule.
use Rattle.std.specs.Prelude.{ℕ, List, map, length, slice_index_or}
use Rattle.std.specs.List.{range_with_len}
use Rattle.std.specs.List.Sorted.{IsPermutation, IsSorted}
use Rattle.std.specs.Cmp.Lexicographic.{slice_cmp}
use Rattle.std.specs.Ordering.{nat_cmp}
use Rattle.hosts_join.specs.Accounts.{Account, no_account}

-- the name of the account at a place
abbrev pub name_at : List Account → ℕ → List ℕ
name_at names i = (slice_index_or names i no_account).name

-- the places of all names, each once, by the names in byte order
pub record AreInByteOrder (names : List Account) (order : List ℕ) : Type 0 where
  pub each_once : IsPermutation (range_with_len 0 (length names)) order
  pub ascending : IsSorted (slice_cmp nat_cmp) (map (name_at names) order)
