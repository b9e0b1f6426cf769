use Rattle.unify_texts.proofs.ReservedLemmas.{reserved_lines_read}
use Rattle.unify_texts.proofs.laws.reserved_lines_read_back.Goals as goal

pub returns : goal.returns
returns c = reserved_lines_read
