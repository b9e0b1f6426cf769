use Rattle.kept_accounts.proofs.OtherLemmas.{others_lawful}
use Rattle.kept_accounts.proofs.laws.others_are_lawful.Goals as goal

pub returns : goal.returns
returns c = others_lawful
