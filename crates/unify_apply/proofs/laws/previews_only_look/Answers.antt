use Rattle.unify_apply.proofs.PreviewsBack.{only-look}
use Rattle.unify_apply.proofs.laws.previews_only_look.Goals as goal

pub returns : goal.returns
returns c = only-look
