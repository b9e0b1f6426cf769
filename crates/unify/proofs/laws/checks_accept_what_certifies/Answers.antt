use Rattle.unify.proofs.CheckLaws.{certifying_are_accepted, first_faults_of_checks}
use Rattle.unify.proofs.laws.checks_accept_what_certifies.Goals as goal

pub returns : goal.returns
returns c = record { accepted = certifying_are_accepted; refused = first_faults_of_checks }
