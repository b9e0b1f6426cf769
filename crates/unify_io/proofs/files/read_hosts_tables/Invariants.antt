use Rattle.std.proofs.Common.{◌≡◌, length}
use Rattle.unify_io.proofs.files.read_hosts_tables.Given as goal

abbrev pub invariant-loop-word : goal.invariant-loop-word
invariant-loop-word l = length l.hosts.items ≡ l.word-index
