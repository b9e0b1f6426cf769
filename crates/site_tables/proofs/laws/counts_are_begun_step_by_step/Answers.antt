use Rattle.site_tables.proofs.CountLaws.{first_faults_before_counts, taken_counts_are_begun}
use Rattle.site_tables.proofs.laws.counts_are_begun_step_by_step.Goals as goal

pub returns : goal.returns
returns c = record { begun = taken_counts_are_begun; refused = first_faults_before_counts }
