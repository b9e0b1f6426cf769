use Rattle.std.proofs.Common.{sym, ap, subst}
use Rattle.std.specs.Result.{is_ok}
use Rattle.reown_files.specs.Failed.{Last, FailsToSettle}
use Rattle.reown_files.proofs.Laws.{one_more_call}
use Rattle.reown_files.proofs.giving.sync_all.Goals as goal

pub returns-in-Ok-clause-grows : goal.returns-in-Ok-clause-grows
returns-in-Ok-clause-grows g c =
    one_more_call (g.D.Disk.calls c.args.disk.now) (g.D.Disk.calls c.keep_all.new.disk) (g.D.Disk.calls c.settle.new.self) _ c.keep_all.ensures.grows c.settle.ensures

pub returns-in-Err-clause-grows : goal.returns-in-Err-clause-grows
returns-in-Err-clause-grows g c =
    one_more_call (g.D.Disk.calls c.args.disk.now) (g.D.Disk.calls c.keep_all.new.disk) (g.D.Disk.calls c.settle.new.self) _ c.keep_all.ensures.grows c.settle.ensures

pub returns-in-Err-clause-failure : goal.returns-in-Err-clause-failure
returns-in-Err-clause-failure g c = subst (Last FailsToSettle) (sym c.settle.ensures) (ap is_ok c.in-Err.is)
