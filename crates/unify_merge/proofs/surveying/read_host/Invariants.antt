use Rattle.std.proofs.Common.{◌≡◌, ◌+◌, ℕ, List, length, Some}
use Rattle.survey.specs.Surveying.{StandsFor}
use Rattle.unify_merge.specs.FirstReading.{ReadsOnly, most_inventory_bytes}
use Rattle.unify_merge.proofs.surveying.read_host.Given as goal

-- text: what was read so far
abbrev pub invariant-loop-survey : goal.invariant-loop-survey
invariant-loop-survey g l = record {
  text : List ℕ;
  reading : (g.F.ReadFiles.ledger l.files).reading ≡ Some (record { host = l.index; text = text });
  read : (g.F.ReadFiles.ledger l.files).read ≡ (g.F.ReadFiles.ledger l.fn.files).read;
  only : ReadsOnly (g.F.ReadFiles.ledger l.fn.files) (g.F.ReadFiles.ledger l.files);
  may : l.left + length text ≡ most_inventory_bytes;
  stands : StandsFor 16777216 l.host l.survey text;
  calls : g.F.ReadFiles.failure l.files ≡ g.F.ReadFiles.failure l.fn.files;
}

abbrev pub decreases-loop-survey : goal.decreases-loop-survey
decreases-loop-survey g l = l.left
