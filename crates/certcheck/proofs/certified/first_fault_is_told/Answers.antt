use Rattle.certcheck.proofs.FirstFault as first
use Rattle.certcheck.proofs.certified.first_fault_is_told.Goals as goal

pub returns : goal.returns
returns c = first.first_fault_is_told
