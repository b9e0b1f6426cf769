use Rattle.std.proofs.Common.{sym, subst}
use Rattle.mtree_inv.specs.Fronts.{AreFrontCuts}
use Rattle.mtree_inv.proofs.FrontLemmas.{no_cuts_are, are_fronts}
use Rattle.mtree_inv.proofs.fronts.empty_front.Goals as goal

pub invariant_of-result : goal.invariant_of-result
invariant_of-result c = subst AreFrontCuts (sym c.no_cuts.ensures) no_cuts_are

pub returns : goal.returns
returns c = are_fronts c.no_cuts.result (subst AreFrontCuts (sym c.no_cuts.ensures) no_cuts_are)
