use Rattle.mtree_inv.proofs.CountLemmas.{next_follows, text_ends}
use Rattle.mtree_inv.proofs.ListedLemmas.{no_line_passed, entries_listed, said_listed, files_of_entries}
use Rattle.mtree_inv.proofs.laws.every_line_counts.Goals as goal

pub returns : goal.returns
returns c = record { lines = no_line_passed; entries = entries_listed; said = said_listed; files = files_of_entries; next = next_follows; end = text_ends }
