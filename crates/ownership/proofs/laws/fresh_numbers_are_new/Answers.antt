use Rattle.ownership.proofs.FreshLemmas.{fresh-new}
use Rattle.ownership.proofs.laws.fresh_numbers_are_new.Goals as goal

pub returns : goal.returns
returns c = fresh-new
