use Rattle.hosts_join.proofs.HostNames.{names-exactly, names-word}
use Rattle.hosts_join.proofs.laws.host_names_are_one_word.Goals as goal

pub returns : goal.returns
returns c = record { exactly = names-exactly; word = names-word }
