use Rattle.keep_text.proofs.KeepListed.{names_are_listed}
use Rattle.keep_text.proofs.laws.names_are_listed.Goals as goal

pub returns : goal.returns
returns c = names_are_listed
