use Rattle.std.proofs.Common.{refl}
use Rattle.std.specs.Fmt.{digits}
use Rattle.certcheck.proofs.laws.certificate_by_example.Goals as goal

pub returns : goal.returns
unfolding digits
returns c = refl
