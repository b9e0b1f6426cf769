use Rattle.std.proofs.Common.{◌≡◌, ◌+◌, ℕ, List, [], length, Some}
use Rattle.reown_plan.specs.PlanData.{PlanData}
use Rattle.rehearsal.specs.PlanRehearsal.{StandsFor}
use Rattle.unify_merge.specs.FirstReading.{ReadsOnly, most_inventory_bytes}
use Rattle.unify_merge.proofs.rehearse.read_and_end.Given as goal

-- text: what was read so far
abbrev pub invariant-loop-rehearsal : goal.invariant-loop-rehearsal
invariant-loop-rehearsal g l = record {
  text : List ℕ;
  reading : (g.F.ReadFiles.ledger l.files).reading ≡ Some (record { host = 0; text = text });
  read : (g.F.ReadFiles.ledger l.files).read ≡ (g.F.ReadFiles.ledger l.fn.files).read;
  only : ReadsOnly (g.F.ReadFiles.ledger l.fn.files) (g.F.ReadFiles.ledger l.files);
  may : l.left + length text ≡ most_inventory_bytes;
  stands : (plan : PlanData) → StandsFor l.fn.rehearsal plan [] → StandsFor l.rehearsal plan text;
  calls : g.F.ReadFiles.failure l.files ≡ g.F.ReadFiles.failure l.fn.files;
}

abbrev pub decreases-loop-rehearsal : goal.decreases-loop-rehearsal
decreases-loop-rehearsal g l = l.left
