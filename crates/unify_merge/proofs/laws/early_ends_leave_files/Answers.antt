use Rattle.unify_merge.proofs.EarlyEnds as early
use Rattle.unify_merge.proofs.Refusals.{refusals_write_nothing, refused_files_write_nothing}
use Rattle.unify_merge.proofs.laws.early_ends_leave_files.Goals as goal

pub returns : goal.returns
returns c = record {
  texts = early.early_ends_leave_all;
  files = early.early_ends_leave_files;
  refused = refusals_write_nothing;
  refused_files = refused_files_write_nothing;
  whole = early.whole_files_are_merged;
}
