use Rattle.std.proofs.Common.{◌≡◌, true, List, map, take}
use Rattle.reown_plan.specs.declared.mark.PlanMark.{PlanMark}
use Rattle.reown_plan.specs.PlanData.{PlanRecord}
use Rattle.reown_plan.specs.Records.{record_of}
use Rattle.reown_files.specs.Lawful.{all_kept, is_begun, is_lawful, no_mode_failed}
use Rattle.reown_files.specs.Replay.{replay}
use Rattle.reown_files.specs.Real.{Grows}
use Rattle.reown_files.proofs.giving.keep_all.Given as goal

abbrev pub invariant-loop-i : goal.invariant-loop-i
invariant-loop-i g l =
    record {
      kept : all_kept (take l.i (map record_of l.records)) (g.D.Disk.calls l.disk) ≡ true;
      modes : no_mode_failed (g.D.Disk.calls l.disk) ≡ no_mode_failed (g.D.Disk.calls l.fn.disk);
      lawful : (mark : PlanMark) (plan : List PlanRecord) → is_lawful mark plan (g.D.Disk.calls l.fn.disk) ≡ true → is_lawful mark plan (g.D.Disk.calls l.disk) ≡ true;
      begun : (plan : List PlanRecord) → is_begun plan (g.D.Disk.calls l.fn.disk) ≡ true → is_begun plan (g.D.Disk.calls l.disk) ≡ true;
      replayed : replay (g.D.Disk.calls l.disk) ≡ replay (g.D.Disk.calls l.fn.disk);
      grows : Grows (g.D.Disk.calls l.fn.disk) (g.D.Disk.calls l.disk);
    }
