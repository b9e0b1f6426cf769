use Rattle.std.proofs.Common.{map}
use Rattle.reown_plan.specs.Records.{record_of}
use Rattle.reown_plan.specs.Places.{paths_in}
use Rattle.reown_plan.proofs.Sorting.{IsLeast}
use Rattle.reown_plan.proofs.places.count_distinct.Given as goal

abbrev pub invariant-loop-k : goal.invariant-loop-k
invariant-loop-k l = IsLeast (paths_in (map record_of l.records)) l.places l.k l.count
