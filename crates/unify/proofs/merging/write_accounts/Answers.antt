use Rattle.std.proofs.Common.{◌∙◌}
use Rattle.unify.proofs.merging.write_accounts.Goals as goal

pub returns : goal.returns
returns c =
    let passwd = c.from_vec.ensures ∙ c.in_ok-passwd.ensures in
    let group = c.from_vec-2.ensures ∙ c.in_ok-group.ensures in
    let keeps = c.keeps_a_name-outcome.ensures in
    λ i. record c.args.outcome.now { passwd = passwd i; group = group i; keeps_names = keeps i }
