use Rattle.reown_runner.proofs.Interleaved.{host_by_host, run_by_events}
use Rattle.reown_runner.proofs.laws.happens_host_by_host.Goals as goal

pub returns-clause-hosts : goal.returns-clause-hosts
returns-clause-hosts c = host_by_host

pub returns-clause-runs : goal.returns-clause-runs
returns-clause-runs c = run_by_events
