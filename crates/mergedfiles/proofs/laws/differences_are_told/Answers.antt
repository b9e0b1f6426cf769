use Rattle.mergedfiles.proofs.ToldDifferences as told
use Rattle.mergedfiles.proofs.laws.differences_are_told.Goals as goal

pub returns : goal.returns
returns c = told.differences_are_told
