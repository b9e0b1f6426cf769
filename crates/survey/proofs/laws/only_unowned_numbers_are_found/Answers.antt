use Rattle.survey.proofs.FoundLemmas.{only_unowned_found}
use Rattle.survey.proofs.laws.only_unowned_numbers_are_found.Goals as goal

pub returns : goal.returns
returns c = only_unowned_found
