use Rattle.std.proofs.Common.{◌≡◌, ◌++◌, ℕ, List, length, drop, All}
use Rattle.reown_plan.specs.PlanData.{PlanRecord}
use Rattle.reown_plan.specs.Spelling.{lines, IsLawfulRecord}
use Rattle.reown_plan.proofs.records.behind_records.Given as goal

abbrev pub invariant-loop : goal.invariant-loop
invariant-loop l =
    (records : List PlanRecord) (rest : List ℕ) → All IsLawfulRecord records → length records ≡ l.count → l.text ≡ lines records ++ rest
    → l.rest ≡ lines (drop l.counter records) ++ rest
