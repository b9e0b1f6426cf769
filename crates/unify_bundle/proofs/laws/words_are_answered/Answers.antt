use Rattle.unify_bundle.specs.Lines.{accepted_line, cost_lines, records_lines}
use Rattle.unify_bundle.proofs.WordsAnswered as words
use Rattle.unify_bundle.proofs.laws.words_are_answered.Goals as goal

pub returns : goal.returns
returns c = record {
  costs = words.are_words_for cost_lines;
  accepted = words.are_words_for accepted_line;
  records = words.are_words_for records_lines;
}
