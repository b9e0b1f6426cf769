use Rattle.reown_files.proofs.FileLaws.{owners_looked_at, given_between_looks}
use Rattle.reown_files.proofs.file_laws.files_are_looked_at.Goals as goal

pub returns : goal.returns
returns c = record { owners = owners_looked_at; given = given_between_looks }
