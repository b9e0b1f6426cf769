use Rattle.std.proofs.Common.{◌≡◌, ◌++◌, map, length, All}
use Rattle.reown_plan.specs.Records.{record_of}
use Rattle.reown_plan.specs.Spelling.{lines, IsLawfulRecord}
use Rattle.reown_plan.proofs.records.read_records.Given as goal

abbrev pub invariant-records : goal.invariant-records
invariant-records l =
    record {
      read : l.text ≡ lines (map record_of l.records.items) ++ l.rest;
      lawful : All IsLawfulRecord (map record_of l.records.items);
    }

abbrev pub decreases-records : goal.decreases-records
decreases-records l = length l.rest
