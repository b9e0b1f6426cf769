use Rattle.idtext.proofs.ByteLemmas.{bytes-stand}
use Rattle.idtext.proofs.NoFormLemmas.{are-no-forms}
use Rattle.idtext.proofs.laws.other_backslashes_are_bad_or_plain.Goals as goal

pub returns : goal.returns
returns c = record { characters = are-no-forms; bytes = bytes-stand }
