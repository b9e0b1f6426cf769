use Rattle.unify_merge.proofs.GivenTexts as given
use Rattle.unify_merge.proofs.laws.commands_go_by_what_is_given.Goals as goal

pub returns : goal.returns
returns c = record {
  merges = given.merges;
  refused_merges = given.refused_merges;
  broken_merges = given.broken_merges;
  checks = given.checks;
  refused_checks = given.refused_checks;
  counts = given.counts;
  refused_counts = given.refused_counts;
}
