use Rattle.mergedfiles.proofs.MergedExample.{group_by_example, passwd_by_example}
use Rattle.mergedfiles.proofs.laws.merged_files_by_example.Goals as goal

pub returns : goal.returns
returns c = record { passwd = passwd_by_example; group = group_by_example }
