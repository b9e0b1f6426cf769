use Rattle.keep_text.proofs.KeepListed.{unowned_is_said}
use Rattle.keep_text.proofs.laws.unowned_is_said.Goals as goal

pub returns : goal.returns
returns c = unowned_is_said
