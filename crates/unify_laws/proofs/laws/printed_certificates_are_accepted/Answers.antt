use Rattle.unify_laws.proofs.Agreeing as agreeing
use Rattle.unify_laws.proofs.laws.printed_certificates_are_accepted.Goals as goal

pub returns : goal.returns
returns c = agreeing.printed_certificates_are_accepted
