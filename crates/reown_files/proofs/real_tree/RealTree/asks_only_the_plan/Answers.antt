use Rattle.std.proofs.Common.{◌≡◌, subst, true}
use Rattle.reown_files.specs.Real.{RealData, HoldsReplay}
use Rattle.reown_files.specs.Lawful.{is_lawful}
use Rattle.reown_files.proofs.real_tree.RealTree.asks_only_the_plan.Goals as goal

pub returns-clause-lawful : goal.returns-clause-lawful
returns-clause-lawful g c = subst (λ (r : RealData). is_lawful r.mark r.records r.calls ≡ true) c.self.view_is c.self.invariant.1

pub returns-clause-replayed : goal.returns-clause-replayed
returns-clause-replayed g c = subst (λ (r : RealData). HoldsReplay r.faults r.calls r.tree) c.self.view_is c.self.invariant.4
