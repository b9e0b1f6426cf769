use Rattle.reown_plan.proofs.Marks.{short_name}
use Rattle.reown_plan.proofs.plan.Plan.mark.Goals as goal

pub new-requires : goal.new-requires
new-requires c = short_name c.self.inside.host.now c.self.invariant.1
