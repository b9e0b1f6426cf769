use Rattle.idtext.proofs.EscapeLemmas.{front-first, characters-empty, escaped-back}
use Rattle.idtext.proofs.FormLemmas.{are-forms}
use Rattle.idtext.proofs.laws.escapes_are_read_from_the_left.Goals as goal

pub returns : goal.returns
returns c = record { front = front-first; empty = characters-empty; back = escaped-back; forms = are-forms }
