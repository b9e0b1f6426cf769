use Rattle.std.proofs.Common.{refl}
use Rattle.std.specs.Fmt.{digits}
use Rattle.unify_apply.proofs.MarksTold.{marks_told}
use Rattle.unify_apply.proofs.laws.marks_are_told.Goals as goal

pub returns-clause-marks : goal.returns-clause-marks
returns-clause-marks c = marks_told

pub returns-clause-example : goal.returns-clause-example
unfolding digits
returns-clause-example c = record { own = refl; longer = refl; cut = refl; modes = refl }
