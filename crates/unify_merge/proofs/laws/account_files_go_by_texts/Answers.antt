use Rattle.unify_merge.proofs.AccountFiles.{account-files}
use Rattle.unify_merge.proofs.laws.account_files_go_by_texts.Goals as goal

pub returns : goal.returns
returns c = account-files
