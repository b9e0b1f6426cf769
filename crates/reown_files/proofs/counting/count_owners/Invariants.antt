use Rattle.std.proofs.Common.{map, take}
use Rattle.reown_plan.specs.Records.{record_of}
use Rattle.reown_files.specs.Counting.{IsCount}
use Rattle.reown_files.proofs.counting.count_owners.Given as goal

abbrev pub invariant-loop-i : goal.invariant-loop-i
invariant-loop-i g l = IsCount (take l.i (map record_of l.records)) (g.D.Disk.calls l.fn.disk) (g.D.Disk.calls l.disk) l.owners
