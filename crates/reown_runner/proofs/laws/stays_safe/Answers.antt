use Rattle.reown_runner.proofs.Runs.{run_sound, runs_sound}
use Rattle.reown_runner.proofs.laws.stays_safe.Goals as goal

pub returns-clause-run : goal.returns-clause-run
returns-clause-run c = λ inventory records distinct host events refused end run safe. run_sound inventory records distinct host events refused end safe run

pub returns-clause-runs : goal.returns-clause-runs
returns-clause-runs c = λ inventory records distinct host runs end are safe. runs_sound inventory records distinct host runs end safe are
