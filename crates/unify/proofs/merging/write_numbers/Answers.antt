use Rattle.std.proofs.Common.{◌∙◌}
use Rattle.unify.proofs.merging.write_numbers.Goals as goal

pub returns : goal.returns
returns c =
    let map = c.in_ok-outcome.ensures in
    let certificate = c.from_vec.ensures ∙ c.in_ok-certificate.ensures in
    λ i. record c.args.outcome.now { map = map i; certificate = certificate i }
