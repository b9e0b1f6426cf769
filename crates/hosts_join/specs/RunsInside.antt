-- Ranges one after the other.
-- Words of the code and not of the subject: only private contracts, views and invariants cite them.
use Rattle.std.specs.Prelude.{◌≡◌, ℕ, ◌<◌, ◌≤◌, List}
use Rattle.std.specs.List.{AllPairs}
use Rattle.logindefs.specs.declared.ranges.IdRange.{IdRange}
use Rattle.hosts_join.specs.RangeLists.{lies_in_some}
use Rattle.hosts_join.specs.declared.runs.Runs.TheInside.{Inside}

-- one range ends before the other begins
abbrev pub IsBefore : IdRange → IdRange → Type 0
IsBefore range other = (range.low ≤ other.low) × (range.high < other.low)

-- each ends before the next ones begin
abbrev pub AreInOrder : List IdRange → Type 0
AreInOrder runs = AllPairs IsBefore runs

-- the runs have the numbers of the ranges
pub record AreRunsInside (it : Inside) : Type 0 where
  pub in_order : AreInOrder it.runs.items
  pub same : (number : ℕ) → lies_in_some it.runs.items number ≡ lies_in_some it.ranges.items number
