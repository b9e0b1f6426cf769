use Rattle.mtree_inv.proofs.LawfulLemmas.{inventory-files, reader-files, separator_refused, bad_escape_refused}
use Rattle.mtree_inv.proofs.laws.files_are_lawful.Goals as goal

pub returns : goal.returns
returns c = record { inventory = inventory-files; reader = reader-files; separators = separator_refused; escapes = bad_escape_refused }
