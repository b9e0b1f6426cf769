use Rattle.std.proofs.Common.{IfOk, subst}
use Rattle.unify_texts.specs.declared.bundle_line.Command.TheVariants.{Rehearse}
use Rattle.unify_bundle.specs.Output.{Answers, IsReply}
use Rattle.unify_bundle.specs.Replies.{reply_of}
use Rattle.unify_bundle.proofs.bundle_run.run.Goals as goal

pub returns-in-Merge : goal.returns-in-Merge
returns-in-Merge c = rw c.in-Merge.is (rw c.into_vec-in-Merge.ensures at c.run_merge.ensures)

pub returns-in-MergeHosts : goal.returns-in-MergeHosts
returns-in-MergeHosts c = rw c.in-MergeHosts.is (rw c.into_vec-in-MergeHosts.ensures at c.run_merge_hosts.ensures)

pub returns-in-Rehearse : goal.returns-in-Rehearse
returns-in-Rehearse c = rw c.in-Rehearse.is (subst (λ places. IfOk c.run_rehearse.result (λ reply. Answers (IsReply Rehearse places) (reply_of reply))) c.into_vec-in-Rehearse.ensures c.run_rehearse.ensures)
