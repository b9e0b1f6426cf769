use Rattle.std.proofs.Common.{sym, subst, Ok, Err, [], ◌∷◌, None, Some}
use Rattle.reown_runner.specs.declared.campaign.Event.{Event}
use Rattle.reown_runner.specs.Campaign.{Goes, host_event}
use Rattle.reown_runner.proofs.Campaigns.{hosted, goes_on_by, goes_down}
use Rattle.reown_runner.proofs.campaign.happen_to.Goals as goal

pub returns-in-Ok : goal.returns-in-Ok
returns-in-Ok g c =
    let known = g.T.Tree.known in
    let a = c.in-Ok.ensures in
    subst (λ (e : Event). Goes known (hosted c.args.runner.now c.args.tree.now) (host_event e ∷ []) None (hosted c.advance.new.self c.advance.new.tree)) (sym c.in-Advance.is)
    (goes_on_by known c.args.runner.now c.args.tree.now c.advance.new.self c.advance.new.tree (Ok c.in-Ok.field-0) a.mark a.records a.stands a.safe a.device a.faults a.asked)

pub returns-in-Err : goal.returns-in-Err
returns-in-Err g c =
    let known = g.T.Tree.known in
    let a = c.in-Err.ensures in
    subst (λ (e : Event). Goes known (hosted c.args.runner.now c.args.tree.now) (host_event e ∷ []) (Some c.in-Err.fault) (hosted c.advance.new.self c.advance.new.tree)) (sym c.in-Advance.is)
    (goes_on_by known c.args.runner.now c.args.tree.now c.advance.new.self c.advance.new.tree (Err c.in-Err.fault) a.mark a.records a.stands a.safe a.device a.faults a.asked)

pub returns-in-Stop : goal.returns-in-Stop
returns-in-Stop g c =
    let known = g.T.Tree.known in
    subst (λ (e : Event). Goes known (hosted c.args.runner.now c.args.tree.now) (host_event e ∷ []) None (hosted c.restart.new.self c.reopen.new.self)) (sym c.in-Stop.is)
    (goes_down known c.args.runner.now c.args.tree.now c.restart.new.self c.reopen.new.self c.restart.ensures (g.met.T.Tree.readable c.args.tree.now c.args.runner.now.mark) (c.reopen.ensures.left c.args.runner.now.mark) c.reopen.ensures.faults c.reopen.ensures.asked)
