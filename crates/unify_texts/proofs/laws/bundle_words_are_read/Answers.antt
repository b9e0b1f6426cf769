use Rattle.unify_texts.proofs.BundleWords as bundle
use Rattle.unify_texts.proofs.laws.bundle_words_are_read.Goals as goal

pub returns-clause-words : goal.returns-clause-words
returns-clause-words c = bundle.words_are_read

pub returns-clause-files : goal.returns-clause-files
returns-clause-files c = bundle.files_have_their_places

pub returns-clause-apart : goal.returns-clause-apart
returns-clause-apart c = bundle.files_are_told_apart
