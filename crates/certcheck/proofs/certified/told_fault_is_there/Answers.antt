use Rattle.certcheck.proofs.Refused as refused
use Rattle.certcheck.proofs.certified.told_fault_is_there.Goals as goal

pub returns : goal.returns
returns c = refused.told_fault_is_there
