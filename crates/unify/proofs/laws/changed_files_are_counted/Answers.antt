use Rattle.unify.proofs.CountLaws.{first_faults_of_counts}
use Rattle.unify.proofs.CountLaws as counts
use Rattle.unify.proofs.laws.changed_files_are_counted.Goals as goal

pub returns : goal.returns
returns c = record { counted = counts.changed_files_are_counted; refused = first_faults_of_counts }
