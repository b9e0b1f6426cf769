use Rattle.std.proofs.Common.{◌≡◌, take, true}
use Rattle.unify_laws.specs.HostTexts.{host_files}
use Rattle.unify_merge.specs.HostFiles.{HasFiles}
use Rattle.unify_merge.proofs.host_files.write_hosts.Given as goal

abbrev pub invariant-loop-index : goal.invariant-loop-index
invariant-loop-index g l = record {
  clear : (g.F.ReadFiles.ledger l.files).is_clear ≡ true;
  written : HasFiles (host_files l.solved.joined l.solved.merged.mappings (take l.index l.hosts) l.solved.hosts) (g.F.ReadFiles.ledger l.initial.files) (g.F.ReadFiles.ledger l.files);
  calls : g.F.ReadFiles.failure l.files ≡ g.F.ReadFiles.failure l.initial.files;
}
