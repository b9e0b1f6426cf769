use Rattle.std.proofs.Common.{◌≡◌, true, ℕ, List, length, map, take}
use Rattle.reown_plan.specs.declared.mark.PlanMark.{PlanMark}
use Rattle.reown_plan.specs.PlanData.{PlanRecord}
use Rattle.reown_plan.specs.Records.{record_of}
use Rattle.reown_files.specs.Lawful.{all_met, is_mode_kept, is_unchanged, is_lawful, no_mode_failed, were_read}
use Rattle.reown_files.specs.Replay.{replay, found_of}
use Rattle.reown_files.proofs.Halves.{AreAllowedTo}
use Rattle.reown_files.proofs.Meetings.{AreUnmet}
use Rattle.reown_files.proofs.looking.look_at_all.Given as goal

abbrev pub invariant-loop-i : goal.invariant-loop-i
invariant-loop-i g l =
    record {
      as_many : length l.owners.items ≡ l.i;
      allowed : AreAllowedTo l.stage (map record_of l.records) l.owners.items l.i;
      met : (path : List ℕ) → (replay (g.D.Disk.calls l.disk)).owner path ≡ found_of (take l.i (map record_of l.records)) l.owners.items path;
      all_met : all_met (take l.i (map record_of l.records)) (g.D.Disk.calls l.disk) ≡ true;
      kept : (r : PlanRecord) → is_mode_kept (g.D.Disk.calls l.disk) r ≡ is_mode_kept (g.D.Disk.calls l.fn.disk) r;
      mark : (replay (g.D.Disk.calls l.disk)).mark ≡ (replay (g.D.Disk.calls l.fn.disk)).mark;
      begun : (replay (g.D.Disk.calls l.disk)).begun ≡ (replay (g.D.Disk.calls l.fn.disk)).begun;
      modes : no_mode_failed (g.D.Disk.calls l.disk) ≡ no_mode_failed (g.D.Disk.calls l.fn.disk);
      unchanged : is_unchanged (g.D.Disk.calls l.fn.disk) ≡ true → is_unchanged (g.D.Disk.calls l.disk) ≡ true;
      first : AreUnmet (map record_of l.records) (g.D.Disk.calls l.disk) l.i;
      lawful : (mark : PlanMark) → is_lawful mark (map record_of l.records) (g.D.Disk.calls l.fn.disk) ≡ true → is_lawful mark (map record_of l.records) (g.D.Disk.calls l.disk) ≡ true;
      read : (mark : PlanMark) → were_read mark (g.D.Disk.calls l.fn.disk) ≡ true → were_read mark (g.D.Disk.calls l.disk) ≡ true;
    }
