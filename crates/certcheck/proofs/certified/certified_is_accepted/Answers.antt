use Rattle.certcheck.proofs.Yes as yes
use Rattle.certcheck.proofs.certified.certified_is_accepted.Goals as goal

pub returns : goal.returns
returns c = yes.certified_is_accepted
