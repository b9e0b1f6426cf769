use Rattle.std.proofs.Common.{◌≡◌, ◌+◌, ℕ, List, [], length, Some}
use Rattle.unify.specs.SecondPass.{ended_in}
use Rattle.unify_merge.specs.FirstReading.{most_inventory_bytes}
use Rattle.unify_merge.specs.SecondReading.{IsWithinFile}
use Rattle.unify_merge.proofs.second_reading.plan_reading.Given as goal

-- text: what was read so far; planned: what was written for it; name: that of the plan's file
abbrev pub invariant-loop-files : goal.invariant-loop-files
invariant-loop-files g l = record {
  text : List ℕ;
  planned : List ℕ;
  reading : (g.F.ReadFiles.ledger l.files).reading ≡ Some (record { host = ended_in l.initial.solved; text = text });
  read : (g.F.ReadFiles.ledger l.files).read ≡ (g.F.ReadFiles.ledger l.initial.files).read;
  only : IsWithinFile (g.F.ReadFiles.ledger l.initial.files) (g.F.ReadFiles.ledger l.files);
  may : l.left + length text ≡ most_inventory_bytes;
  name : List ℕ;
  was : (g.F.ReadFiles.ledger l.initial.files).writing ≡ Some (record { name = name; text = [] });
  writing : (g.F.ReadFiles.ledger l.files).writing ≡ Some (record { name = name; text = planned });
  come : l.solved ≡ record l.initial.solved { text = text; planned = planned };
  calls : g.F.ReadFiles.failure l.files ≡ g.F.ReadFiles.failure l.initial.files;
}

abbrev pub decreases-loop-files : goal.decreases-loop-files
decreases-loop-files g l = l.left
