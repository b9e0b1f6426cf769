use Rattle.reown_plan.proofs.Readings.{one_reading}
use Rattle.reown_plan.proofs.Total.{each_read}
use Rattle.reown_plan.proofs.laws.one_reading.Goals as goal

pub returns-clause-some : goal.returns-clause-some
returns-clause-some c = each_read

pub returns-clause-only : goal.returns-clause-only
returns-clause-only c = one_reading
