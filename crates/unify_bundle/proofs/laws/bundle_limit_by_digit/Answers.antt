use Rattle.unify_bundle.proofs.WordsAnswered as words
use Rattle.unify_bundle.proofs.laws.bundle_limit_by_digit.Goals as goal

pub returns : goal.returns
returns c = words.bundle_limit_by_digit
