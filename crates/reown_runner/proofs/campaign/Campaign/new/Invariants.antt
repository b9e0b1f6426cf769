use Rattle.std.proofs.Common.{◌≡◌, map, take}
use Rattle.reown_runner.specs.RunnerData.{starting}
use Rattle.reown_runner.proofs.campaign.Campaign.new.Given as goal

abbrev pub invariant-loop-plan : goal.invariant-loop-plan
invariant-loop-plan g l = l.runners.items ≡ map starting (take l.plan-index l.plans)
