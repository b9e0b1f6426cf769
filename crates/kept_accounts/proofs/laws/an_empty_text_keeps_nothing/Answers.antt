use Rattle.kept_accounts.proofs.ReservedLemmas.{empty_keeps_nothing}
use Rattle.kept_accounts.proofs.laws.an_empty_text_keeps_nothing.Goals as goal

pub returns : goal.returns
returns c = empty_keeps_nothing
