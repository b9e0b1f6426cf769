use Rattle.std.proofs.Common.{◌≡◌, true, List, map, take}
use Rattle.reown_plan.specs.declared.mark.PlanMark.{PlanMark}
use Rattle.reown_plan.specs.PlanData.{PlanRecord}
use Rattle.reown_plan.specs.Records.{record_of}
use Rattle.reown_files.specs.Lawful.{all_checked, all_met, is_mode_kept, is_unchanged, is_lawful, no_mode_failed, were_read}
use Rattle.reown_files.specs.Replay.{replay}
use Rattle.reown_files.proofs.looking.check_all_links.Given as goal

abbrev pub invariant-loop-i : goal.invariant-loop-i
invariant-loop-i g l =
    record {
      checked : all_checked (take l.i (map record_of l.records)) (g.D.Disk.calls l.disk) ≡ true;
      modes : no_mode_failed (g.D.Disk.calls l.disk) ≡ no_mode_failed (g.D.Disk.calls l.fn.disk);
      unchanged : is_unchanged (g.D.Disk.calls l.disk) ≡ is_unchanged (g.D.Disk.calls l.fn.disk);
      met : (plan : List PlanRecord) → all_met plan (g.D.Disk.calls l.fn.disk) ≡ true → all_met plan (g.D.Disk.calls l.disk) ≡ true;
      kept : (r : PlanRecord) → is_mode_kept (g.D.Disk.calls l.disk) r ≡ is_mode_kept (g.D.Disk.calls l.fn.disk) r;
      lawful : (mark : PlanMark) (plan : List PlanRecord) → all_met plan (g.D.Disk.calls l.fn.disk) ≡ true → is_lawful mark plan (g.D.Disk.calls l.fn.disk) ≡ true → is_lawful mark plan (g.D.Disk.calls l.disk) ≡ true;
      read : (mark : PlanMark) → were_read mark (g.D.Disk.calls l.disk) ≡ were_read mark (g.D.Disk.calls l.fn.disk);
      replayed : replay (g.D.Disk.calls l.disk) ≡ replay (g.D.Disk.calls l.fn.disk);
    }
