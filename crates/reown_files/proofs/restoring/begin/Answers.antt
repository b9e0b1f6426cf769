use Rattle.std.proofs.Common.{map, ap}
use Rattle.std.specs.Result.{is_ok}
use Rattle.reown_plan.specs.Records.{record_of}
use Rattle.reown_files.proofs.Laws.{lawful_begun}
use Rattle.reown_files.proofs.restoring.begin.Goals as goal

pub returns-in-Ok-clause-lawful : goal.returns-in-Ok-clause-lawful
returns-in-Ok-clause-lawful g c =
    let before = c.in_ok-set_all_back.ensures in
    lawful_begun c.args.plan.now (map record_of c.args.records.now) (g.D.Disk.calls c.set_all_back.new.disk) (g.D.Disk.calls c.settle.new.self) (g.D.Disk.calls c.put_modes.new.self) (is_ok c.settle.result) (is_ok c.put_modes.result)
    c.settle.ensures (ap is_ok c.in_default.is) c.put_modes.ensures before.checked before.read before.unchanged before.kept before.lawful

pub returns-in-Err-put_modes-clause-lawful : goal.returns-in-Err-put_modes-clause-lawful
returns-in-Err-put_modes-clause-lawful g c =
    let before = c.in_ok-set_all_back.ensures in
    lawful_begun c.args.plan.now (map record_of c.args.records.now) (g.D.Disk.calls c.set_all_back.new.disk) (g.D.Disk.calls c.settle.new.self) (g.D.Disk.calls c.put_modes.new.self) (is_ok c.settle.result) (is_ok c.put_modes.result)
    c.settle.ensures (ap is_ok c.in_default.is) c.put_modes.ensures before.checked before.read before.unchanged before.kept before.lawful
