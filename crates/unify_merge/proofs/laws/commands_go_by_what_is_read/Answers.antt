use Rattle.unify_merge.proofs.ReadTexts.{broken_merges_go_by_read, checks_go_by_read, counts_go_by_read, merges_go_by_read}
use Rattle.unify_merge.proofs.RefusedChecks.{refused_checks_go_by_read}
use Rattle.unify_merge.proofs.laws.commands_go_by_what_is_read.Goals as goal

pub returns : goal.returns
returns c = record {
  checks = checks_go_by_read;
  refused_checks = refused_checks_go_by_read;
  counts = counts_go_by_read;
  merges = merges_go_by_read;
  broken_merges = broken_merges_go_by_read;
}
