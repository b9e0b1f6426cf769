use Rattle.unify_bundle.proofs.GoingOut as out
use Rattle.unify_bundle.proofs.laws.replies_go_out.Goals as goal

pub returns : goal.returns
returns c = record {
  replies = out.replies_go_out;
  none = out.no_reply_goes_out;
  bundles = out.bundles_are_answered;
  inputs = out.inputs_are_told;
  taken = out.no_more_is_taken;
  answers = out.answers_are_written;
}
