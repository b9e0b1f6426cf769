use Rattle.std.proofs.Common.{◌≤◌, length, map, ap, ◌∙◌, arith, [], ◌∷◌, ◌++◌}
use Rattle.std.proofs.lemmas.List.{take_all}
use Rattle.reown_runner.specs.Campaign.{is_done}
use Rattle.reown_runner.specs.RunnerData.{RunnerData}
use Rattle.unify_bundle.proofs.Carrying.{done_more}
use Rattle.unify_bundle.proofs.rehearsing_site.done_of.Goals as goal

pub loop-host-preserved : goal.loop-host-preserved
loop-host-preserved c =
    let told = c.is_done.ensures in
    c.in_ok-push.ensures.items ∙ ap (λ b. c.loop-host.done.items ++ b ∷ []) told.2 ∙ done_more c.args.campaign.now.runners c.loop-host.host c.loop-host.done.items c.loop-host.invariant told.0 told.1

pub returns : goal.returns
returns c =
    let all : length c.args.campaign.now.runners ≤ c.loop-host.host = omega (arith, c.requires, c.loop-host-test.false) in
    c.loop-host.invariant ∙ ap (map (λ (r : RunnerData). is_done r.place)) (take_all c.loop-host.host c.args.campaign.now.runners all)
