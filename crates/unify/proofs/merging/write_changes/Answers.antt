use Rattle.std.proofs.Common.{◌∙◌}
use Rattle.unify.proofs.merging.write_changes.Goals as goal

pub returns : goal.returns
returns c = λ files stands.
    let report = c.from_vec.ensures ∙ c.in_ok-report.ensures files stands in
    let cost = c.cost_under-outcome.ensures files stands in
    λ i. record c.args.outcome.now { report = report i; cost = cost i }
