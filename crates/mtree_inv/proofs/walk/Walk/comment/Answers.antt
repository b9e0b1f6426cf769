use Rattle.std.proofs.Common.{ap}
use Rattle.mtree_inv.specs.Machine.{step}
use Rattle.mtree_inv.specs.Walked.{kept_of}
use Rattle.mtree_inv.proofs.CommentLemmas.{comment-kind}
use Rattle.mtree_inv.proofs.walk.Walk.comment.Goals as goal

pub returns-clause-exact : goal.returns-clause-exact
unfolding step
returns-clause-exact c =
    ap (step c.args.self.now.files.most (kept_of c.args.self.now))
    (comment-kind c.args.text.now c.requires c.in_default.ensures.cases c.in_default-strip_prefix.ensures.cases)
