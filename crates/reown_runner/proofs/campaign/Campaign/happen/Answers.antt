use Rattle.std.proofs.Common.{◌==◌, sym, subst, ap, refl, ◌∙◌, arith, cond, [], ◌∷◌, None, Some, Option, ◌<◌, ◌≤◌, length, set, ℕ}
use Rattle.reown_runner.specs.declared.runner.RunFault.{RunFault}
use Rattle.reown_runner.specs.World.{World}
use Rattle.reown_runner.specs.Campaign.{EachGoes, Goes, host_of, host_event}
use Rattle.reown_runner.proofs.Lists.{slice_get-read}
use Rattle.reown_runner.proofs.Campaigns.{hosted, each_absent, each_one, refused_here, refused_elsewhere}
use Rattle.reown_runner.proofs.campaign.Campaign.happen.Goals as goal

pub returns-clause-goes : goal.returns-clause-goes
returns-clause-goes g c =
    let runners = c.self.inside.runners.items in
    let trees = c.self.inside.trees.items in
    let h = c.host-host.result in
    let in_trees : h < length trees = omega arith in
    let in_runners : h < length runners = omega (arith, c.self.invariant) in
    let at_runner = slice_get-read runners h c.index_mut.result.now in_runners ∙ ap (λ w. Some w) (sym c.index_mut.ensures.value) in
    let at_tree = slice_get-read trees h c.index_mut-2.result.now in_trees ∙ ap (λ t. Some t) (sym c.index_mut-2.ensures.value) in
    subst (λ (hs : World g.row.T.Denot). EachGoes g.T.Tree.known hs (c.args.event ∷ []) (λ _. None) (record { runners = set runners h c.happen_to.new.runner; trees = set trees h c.happen_to.new.tree })) c.self.view_is
    (each_one g.T.Tree.known runners trees c.args.event h c.index_mut.result.now c.happen_to.new.runner c.index_mut-2.result.now c.happen_to.new.tree (λ _. None) c.host-host.ensures at_runner at_tree in_runners in_trees (λ k ne. refl) c.in_default.ensures)

pub returns-in-Err-clause-goes : goal.returns-in-Err-clause-goes
returns-in-Err-clause-goes g c =
    let runners = c.self.inside.runners.items in
    let trees = c.self.inside.trees.items in
    let h = c.host-host.result in
    let refused : ℕ → Option RunFault = λ host. cond (host_of c.args.event == host) (Some c.in-Err.fault) None in
    let in_trees : h < length trees = omega arith in
    let in_runners : h < length runners = omega (arith, c.self.invariant) in
    let at_runner = slice_get-read runners h c.index_mut.result.now in_runners ∙ ap (λ w. Some w) (sym c.index_mut.ensures.value) in
    let at_tree = slice_get-read trees h c.index_mut-2.result.now in_trees ∙ ap (λ t. Some t) (sym c.index_mut-2.ensures.value) in
    subst (λ (hs : World g.row.T.Denot). EachGoes g.T.Tree.known hs (c.args.event ∷ []) refused (record { runners = set runners h c.happen_to.new.runner; trees = set trees h c.happen_to.new.tree })) c.self.view_is
    (each_one g.T.Tree.known runners trees c.args.event h c.index_mut.result.now c.happen_to.new.runner c.index_mut-2.result.now c.happen_to.new.tree refused c.host-host.ensures at_runner at_tree in_runners in_trees
    (λ k ne. refused_elsewhere (host_of c.args.event) h k c.in-Err.fault c.host-host.ensures ne)
    (subst (λ r. Goes g.T.Tree.known (hosted c.index_mut.result.now c.index_mut-2.result.now) (host_event c.args.event ∷ []) r (hosted c.happen_to.new.runner c.happen_to.new.tree)) (sym (refused_here (host_of c.args.event) h c.in-Err.fault c.host-host.ensures)) c.in-Err.ensures))

pub returns-then-host-len-clause-goes : goal.returns-then-host-len-clause-goes
returns-then-host-len-clause-goes g c =
    let trees = c.self.inside.trees.items in
    let past : length trees ≤ c.host-host.result = omega arith in
    subst (λ (world : World g.row.T.Denot). EachGoes g.T.Tree.known world (c.args.event ∷ []) (λ _. None) world) c.self.view_is
    (each_absent g.T.Tree.known (record { runners = c.self.inside.runners.items; trees = trees }) c.args.event c.host-host.result c.host-host.ensures past)
