use Rattle.std.proofs.Common.{None, refl}
use Rattle.std.proofs.lemmas.Slice.Zip.{either_empty_from_Zip}
use Rattle.unify_bundle.proofs.PlanLines.{all_pushed}
use Rattle.unify_bundle.proofs.merge_text.push_plans.Goals as goal

pub returns : goal.returns
returns c = all_pushed _ _ c.loop-host.out.items _ (either_empty_from_Zip c.loop-host.host-iterator c.next.new.self None refl c.in-None.ensures.steps) c.loop-host.invariant
