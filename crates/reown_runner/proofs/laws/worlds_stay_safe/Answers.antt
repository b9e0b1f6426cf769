use Rattle.reown_runner.proofs.Interleaved.{world_safe, world_files}
use Rattle.reown_runner.proofs.laws.worlds_stay_safe.Goals as goal

pub returns-clause-safe : goal.returns-clause-safe
returns-clause-safe c = world_safe

pub returns-clause-files : goal.returns-clause-files
returns-clause-files c = world_files
