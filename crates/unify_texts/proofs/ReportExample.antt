-- The reports of the examples.
use Rattle.std.proofs.Common.{refl}
use Rattle.std.specs.Fmt.{digits}
use Rattle.unify_texts.specs.ReportExample.{ExampleOfDiffering, ExampleOfPlain, ExampleOfUsers}

pub plain_by_example : ExampleOfPlain
unfolding digits
plain_by_example = refl

pub users_by_example : ExampleOfUsers
unfolding digits
users_by_example = refl

pub differing_by_example : ExampleOfDiffering
unfolding digits
differing_by_example = refl
