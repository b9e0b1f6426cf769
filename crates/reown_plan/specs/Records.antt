-- The record of a plan as its values, with the path as bytes.
-- Values that borrow from the input, without the borrow: words of the code and not of the subject.
use Rattle.reown_plan.specs.declared.plan.Record.{Record}
use Rattle.reown_plan.specs.PlanData.{PlanRecord}

-- what a record says
abbrev pub record_of : Record → PlanRecord
record_of r = record { before = r.before; after = r.after; path = r.path.now }
