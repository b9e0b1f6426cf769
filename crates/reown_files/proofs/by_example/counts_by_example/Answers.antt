use Rattle.std.proofs.Common.{refl}
use Rattle.reown_files.proofs.by_example.counts_by_example.Goals as goal

pub returns : goal.returns
returns c = refl
