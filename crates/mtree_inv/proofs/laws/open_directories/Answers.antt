use Rattle.mtree_inv.proofs.LawLemmas.{opens, closes, above, full_entry}
use Rattle.mtree_inv.proofs.laws.open_directories.Goals as goal

pub returns : goal.returns
returns c = record { opens = opens; closes = closes; above = above; full = full_entry }
