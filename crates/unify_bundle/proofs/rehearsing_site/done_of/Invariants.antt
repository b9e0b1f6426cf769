use Rattle.std.specs.Prelude.{◌≡◌, map, take}
use Rattle.reown_runner.specs.Campaign.{is_done}
use Rattle.unify_bundle.proofs.rehearsing_site.done_of.Given as goal

abbrev pub invariant-loop-host : goal.invariant-loop-host
invariant-loop-host l = l.done.items ≡ map (λ runner. is_done runner.place) (take l.host l.campaign.runners)
