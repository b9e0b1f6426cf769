use Rattle.unify_bundle.proofs.AnswersBack as back
use Rattle.unify_bundle.proofs.laws.answers_are_read_back.Goals as goal

pub returns : goal.returns
returns c = record {
  costs = back.costs_are_read;
  accepted = back.accepted_is_read;
  records = back.records_are_read;
  example = back.numbers_by_example;
  merges = back.merges_are_read;
  hosts = back.merges_with_hosts_are_read;
  bars = back.merges_are_of_files;
}
