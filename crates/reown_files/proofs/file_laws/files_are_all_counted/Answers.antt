use Rattle.reown_files.proofs.CountLaws.{all_counted}
use Rattle.reown_files.proofs.file_laws.files_are_all_counted.Goals as goal

pub returns : goal.returns
returns c = all_counted
