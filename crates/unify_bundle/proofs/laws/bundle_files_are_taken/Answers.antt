use Rattle.unify_bundle.proofs.TakenFiles as taken
use Rattle.unify_bundle.proofs.laws.bundle_files_are_taken.Goals as goal

pub returns : goal.returns
returns c = record {
  texts = taken.files_have_one_text;
  hosts = taken.hosts_have_their_files;
  rules = taken.rules_have_their_files;
  counts = taken.counts_have_their_map;
  checks = taken.checks_have_their_certificate;
  merges = taken.merges_have_their_hosts;
  surveys = taken.surveys_refuse;
  rehearsals = taken.rehearsals_have_their_files;
}
