use Rattle.std.proofs.Common.{◌+◌, unwrap_or, arith}
use Rattle.std.specs.BTreeMap as btree
use Rattle.std.specs.Ordering.{nat_cmp}
use Rattle.assignment.proofs.Weigh.{weight_le_each}
use Rattle.assignment.proofs.duals.least_y.Goals as goal

pub returns-clause-covers : goal.returns-clause-covers
returns-clause-covers c = λ v. weight_le_each c.args.row.now (λ u. c.loop-candidate.least + unwrap_or (btree.get nat_cmp c.args.z.now u) 0) (λ j d l. c.loop-candidate.invariant.each j d (omega arith)) v
