use Rattle.inventory_text.proofs.EntryPaths.{at-the-start, full-itself, in-its-directory, others-open-nothing, relative-read}
use Rattle.inventory_text.proofs.laws.paths_of_entries.Goals as goal

pub returns : goal.returns
returns c = record { start = at-the-start; inside = in-its-directory; full = full-itself; others = others-open-nothing; read = relative-read }
