use Rattle.hosts_join.proofs.LineCounts.{lines_count}
use Rattle.hosts_join.proofs.laws.lines_count_the_hosts.Goals as goal

pub returns : goal.returns
returns c = lines_count
