use Rattle.keep_text.proofs.KeepBack.{read_keeps_are_lawful}
use Rattle.keep_text.proofs.laws.keeps_are_lawful.Goals as goal

pub returns : goal.returns
returns c = read_keeps_are_lawful
