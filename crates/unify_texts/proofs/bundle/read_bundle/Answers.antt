use Rattle.std.proofs.Common.{rules}
use Rattle.unify_texts.specs.Bundles.{bundle_of}
use Rattle.unify_texts.proofs.SpellingLemmas.{reads_what_is_spelled}
use Rattle.unify_texts.proofs.bundle.read_bundle.Goals as goal

pub returns-clause-found : goal.returns-clause-found
unfolding bundle_of
returns-clause-found c = reads_what_is_spelled _ _ (search rules)
