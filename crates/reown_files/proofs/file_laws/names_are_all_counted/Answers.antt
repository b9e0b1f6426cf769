use Rattle.reown_files.proofs.FileLaws.{names_all_counted, names_checked}
use Rattle.reown_files.proofs.file_laws.names_are_all_counted.Goals as goal

pub returns : goal.returns
returns c = record { counted = names_all_counted; checked = names_checked }
