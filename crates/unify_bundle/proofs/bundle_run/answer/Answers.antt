use Rattle.unify_texts.specs.Bundles.{bundle_of}
use Rattle.unify_bundle.specs.Output.{IsOutput}
use Rattle.unify_bundle.proofs.Telling.{fault_answers}
use Rattle.unify_bundle.proofs.bundle_run.answer.Goals as goal

pub returns-in-Err : goal.returns-in-Err
unfolding IsOutput
returns-in-Err c = fault_answers c.in-Err.fault (bundle_of c.args.input.now) c.refused.result c.in-Err.ensures.exact c.refused.ensures
