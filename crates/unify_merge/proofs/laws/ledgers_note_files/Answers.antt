use Rattle.unify_merge.proofs.Settled.{files-noted, merges-settled}
use Rattle.unify_merge.proofs.laws.ledgers_note_files.Goals as goal

pub returns : goal.returns
returns c = record { merged = merges-settled; calls = files-noted }
