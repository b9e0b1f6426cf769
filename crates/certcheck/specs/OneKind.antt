-- What the check of one kind answers, as the counters tell it.
-- Words of the code and not of the subject: only private contracts, views and invariants cite them.
use Rattle.std.specs.Prelude.{ℕ, ◌-◌, ◌<◌, ◌≤◌, List, length, Result}
use Rattle.idtext.specs.First.{unless}
use Rattle.hosts_join.specs.declared.Which.{Which}
use Rattle.hosts_join.specs.Accounts.{Accounts}
use Rattle.ownership.specs.Counts.{Tally, told_kept, told_total}
use Rattle.ownership.specs.Mappings.{number_at}
use Rattle.ownership.specs.Sums.{sum_below}
use Rattle.ownership.specs.Weights.{told_weight}
use Rattle.certcheck.specs.Certificate.{Side}
use Rattle.certcheck.specs.Check.{kind_fault, mapping_of}
use Rattle.certcheck.specs.declared.fault.CheckFault.{CheckFault}

-- the files that do not keep their number
abbrev pub told_cost : Accounts → List Tally → List ℕ → ℕ
told_cost a tallies m =
    sum_below (λ i. told_total tallies i - told_kept tallies i (number_at m i)) (length a.names)

-- the cost of the mapping, or the first fault
abbrev pub kind_answer : Which → Accounts → List Tally → Side → Result ℕ CheckFault
kind_answer kind a tallies s =
    unless (kind_fault kind a (told_weight a tallies) s) (told_cost a tallies (mapping_of a s.rows))

-- no counter of a name is above its files, and those are few
pub record AreBounded (a : Accounts) (tallies : List Tally) : Type 0 where
  pub kept_le : (i v : ℕ) → i < length a.names → told_kept tallies i v ≤ told_total tallies i
  pub total_le : (i : ℕ) → told_total tallies i ≤ 2147483648
