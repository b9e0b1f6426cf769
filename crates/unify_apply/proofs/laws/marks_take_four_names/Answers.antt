use Rattle.std.proofs.Common.{refl}
use Rattle.unify_apply.proofs.MarkNames.{taken, same, new, modes, new_modes}
use Rattle.unify_apply.proofs.laws.marks_take_four_names.Goals as goal

pub returns : goal.returns
returns c = record { taken = taken; same = same; new = new; modes = modes; new_modes = new_modes; example = refl }
