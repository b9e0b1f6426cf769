use Rattle.unify_texts.proofs.SpellingLemmas.{reads_what_is_spelled, spelled_is_read, first_bad_is_told}
use Rattle.unify_texts.proofs.laws.bundles_are_spelled.Goals as goal

pub returns : goal.returns
returns c = record { found = reads_what_is_spelled; read = spelled_is_read; refused = first_bad_is_told }
