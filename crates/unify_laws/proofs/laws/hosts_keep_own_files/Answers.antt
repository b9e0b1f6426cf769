use Rattle.unify_laws.proofs.HostTexts as own
use Rattle.unify_laws.proofs.laws.hosts_keep_own_files.Goals as goal

pub returns : goal.returns
returns c = record {
  keep = own.hosts_keep_own_files;
  texts = own.tables_are_of_texts;
  begun = own.begun_sites_are_in_full;
  read = own.read_sites_are_in_full;
  empty = own.empty_texts_keep_no_name;
}
