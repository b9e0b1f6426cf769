use Rattle.std.proofs.Common.{◌≡◌, ◌+◌, ℕ, List, length, Some}
use Rattle.unify.specs.Passes.{behind, ended_in}
use Rattle.unify_merge.specs.FirstReading.{ReadsOnly, most_inventory_bytes}
use Rattle.unify_merge.proofs.first_reading.count_reading.Given as goal

-- text: what was read so far
abbrev pub invariant-loop-inventories : goal.invariant-loop-inventories
invariant-loop-inventories g l = record {
  text : List ℕ;
  reading : (g.F.ReadFiles.ledger l.files).reading ≡ Some (record { host = ended_in l.initial.inventories; text = text });
  read : (g.F.ReadFiles.ledger l.files).read ≡ (g.F.ReadFiles.ledger l.initial.files).read;
  only : ReadsOnly (g.F.ReadFiles.ledger l.initial.files) (g.F.ReadFiles.ledger l.files);
  may : l.left + length text ≡ most_inventory_bytes;
  come : l.inventories ≡ record (behind l.initial.inventories.hosts l.initial.inventories.ended) { text = text };
  calls : g.F.ReadFiles.failure l.files ≡ g.F.ReadFiles.failure l.initial.files;
}

abbrev pub decreases-loop-inventories : goal.decreases-loop-inventories
decreases-loop-inventories g l = l.left
