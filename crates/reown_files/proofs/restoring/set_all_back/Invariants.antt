use Rattle.std.proofs.Common.{◌≡◌, true, map, take}
use Rattle.reown_plan.specs.PlanData.{PlanRecord}
use Rattle.reown_plan.specs.Records.{record_of}
use Rattle.reown_files.specs.Lawful.{is_mode_kept, is_unchanged, all_checked, were_read, all_asked, is_lawful, no_mode_failed}
use Rattle.reown_files.specs.Replay.{replay}
use Rattle.reown_files.proofs.restoring.set_all_back.Given as goal

abbrev pub invariant-loop-i : goal.invariant-loop-i
invariant-loop-i g l =
    record {
      asked : all_asked (take l.i (map record_of l.records)) (g.D.Disk.calls l.disk) ≡ true;
      modes : no_mode_failed (g.D.Disk.calls l.disk) ≡ no_mode_failed (g.D.Disk.calls l.fn.disk);
      checked : all_checked (map record_of l.records) (g.D.Disk.calls l.disk) ≡ true;
      kept : (r : PlanRecord) → is_mode_kept (g.D.Disk.calls l.disk) r ≡ true;
      read : were_read l.plan (g.D.Disk.calls l.disk) ≡ true;
      unchanged : is_unchanged (g.D.Disk.calls l.disk) ≡ true;
      lawful : is_lawful l.plan (map record_of l.records) (g.D.Disk.calls l.disk) ≡ true;
      replayed : replay (g.D.Disk.calls l.disk) ≡ replay (g.D.Disk.calls l.fn.disk);
    }
