-- What a ledger notes.
use Rattle.std.proofs.Common.{refl, ap}
use Rattle.unify_merge.specs.Ledger.{Ledger}
use Rattle.unify_merge.specs.LedgerLaws.{LedgersNoteFiles, MergesAreSettled}

pub files-noted : LedgersNoteFiles
files-noted l = record {
  cleared = record { begun = refl; finished = refl; settled = refl };
  begun = λ name. refl;
  finished = λ name front back. refl;
  unsettled = λ name front back. refl;
  last = λ file. refl;
  sealed = λ file. refl;
  settled = λ file. refl;
}

pub merges-settled : MergesAreSettled
merges-settled texts rules old new cost merged = record {
  begun = ap (λ (l : Ledger). l.begun) merged.files;
  finished = ap (λ (l : Ledger). l.finished) merged.files;
  settled = ap (λ (l : Ledger). l.settled) merged.files;
}
