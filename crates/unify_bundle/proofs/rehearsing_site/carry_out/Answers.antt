use Rattle.std.proofs.Common.{length, ap, sym, ◌∙◌}
use Rattle.std.proofs.lemmas.List.{length-map}
use Rattle.reown_runner.specs.RunnerData.{starting}
use Rattle.unify_bundle.proofs.Carrying.{none_refused, all_carried}
use Rattle.unify_bundle.proofs.rehearsing_site.carry_out.Goals as goal

pub unreachable-requires : goal.unreachable-requires
unreachable-requires c = none_refused c.args.plans.now c.args.trees.items c.requires.ready c.args.events.now c.requires.hosts c.in-Ok.campaign c.in-Ok.ensures.runners c.in-Ok.ensures.trees c.in-Err.field-0 c.in-Err.ensures.hosts c.drive.new.self c.in-Err.ensures.goes

pub done_of-requires : goal.done_of-requires
done_of-requires c =
    sym (c.in-Ok-drive.ensures.runners ∙ ap length c.in-Ok.ensures.runners ∙ length-map c.args.plans.now starting)

pub returns : goal.returns
returns c =
    all_carried c.args.plans.now c.args.trees.items c.args.events.now c.in-Ok.campaign c.in-Ok.ensures.runners c.in-Ok.ensures.trees
    c.drive.new.self c.in-Ok-drive.ensures.goes c.in-Ok-drive.ensures.runners c.in-Ok-drive.ensures.trees c.in_ok-done.done.items c.in_ok-done.ensures c.into_trees.result.items c.into_trees.ensures
