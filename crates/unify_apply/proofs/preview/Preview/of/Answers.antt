use Rattle.std.proofs.Common.{◌≡◌, List, [], ◌++◌, sym, ap}
use Rattle.std.specs.Prelude.{filter_map}
use Rattle.reown_files.specs.Calls.{Called}
use Rattle.unify_apply.specs.Previews.{IsAsked, asked_below}
use Rattle.unify_apply.proofs.preview.Preview.of.Goals as goal

nothing-asked : (calls below : List Called) → calls ≡ [] → IsAsked calls below
nothing-asked calls below none =
    record { older = below; since = ap (λ c. filter_map asked_below c ++ below) (sym none) }

pub invariant_of-result : goal.invariant_of-result
invariant_of-result g c = (c.requires, nothing-asked c.new.result.calls (g.D.Disk.calls c.args.disk) c.new.ensures)
