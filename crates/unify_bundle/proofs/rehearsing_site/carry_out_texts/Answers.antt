use Rattle.std.proofs.Common.{map, ◌∙◌}
use Rattle.std.proofs.lemmas.Result.{IfOk-weaker}
use Rattle.unify_bundle.specs.Carrying.{new_tree_of}
use Rattle.unify_bundle.proofs.Carrying.{read_ready, hosts_there, told_carried}
use Rattle.unify_bundle.proofs.rehearsing_site.carry_out_texts.Goals as goal

pub new_trees-requires : goal.new_trees-requires
new_trees-requires c = (c.requires.plans.0, c.requires.plans.2.read)

pub read_plans-requires : goal.read_plans-requires
read_plans-requires c = (c.requires.plans.1, c.requires.plans.2.lawful, c.requires.plans.2.spelled)

pub carry_out-requires : goal.carry_out-requires
carry_out-requires c =
    let files = c.requires.plans.0 in
    let plans = c.requires.plans.1 in
    let are = c.requires.plans.2 in
    record {
      ready = read_ready c.args.keep c.args.mtrees.now c.args.texts.now files plans are c.deref.result.now (c.deref.ensures.value ∙ c.in_ok-plans.ensures plans are.lawful are.spelled) c.in_ok-trees.trees.items (c.in_ok-trees.ensures files are.read);
      hosts = hosts_there c.args.keep c.args.mtrees.now c.args.texts.now files plans are c.in_ok-trees.trees.items (c.in_ok-trees.ensures files are.read) c.args.events.now c.requires.hosts;
    }

pub returns : goal.returns
returns c =
    IfOk-weaker c.carry_out.result _ _
    (λ end carried files plans are.
    told_carried c.deref.result.now plans (c.deref.ensures.value ∙ c.in_ok-plans.ensures plans are.lawful are.spelled) c.in_ok-trees.trees.items (map (new_tree_of c.args.keep) files) (c.in_ok-trees.ensures files are.read) c.args.events.now end.done.items end.trees.items carried)
    c.carry_out.ensures
