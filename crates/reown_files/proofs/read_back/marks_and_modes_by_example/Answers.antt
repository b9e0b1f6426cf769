use Rattle.std.proofs.Common.{refl}
use Rattle.std.specs.Fmt.{digits}
use Rattle.reown_files.proofs.read_back.marks_and_modes_by_example.Goals as goal

pub returns : goal.returns
unfolding digits
returns c = record { mark = refl; modes = refl; read = record { only = refl; last = refl; none = refl } }
