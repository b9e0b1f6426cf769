use Rattle.certcheck.proofs.Yes as yes
use Rattle.certcheck.proofs.certified.accepted_is_certified.Goals as goal

pub returns : goal.returns
returns c = yes.accepted_is_certified
