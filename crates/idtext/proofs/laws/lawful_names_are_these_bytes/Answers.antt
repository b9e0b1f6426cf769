use Rattle.idtext.proofs.NameLemmas.{names-exactly}
use Rattle.idtext.proofs.laws.lawful_names_are_these_bytes.Goals as goal

pub returns : goal.returns
returns c = names-exactly
