use Rattle.kept_names.proofs.Once.{each-counted, each-told}
use Rattle.kept_names.proofs.laws.each_finding_is_told_once.Goals as goal

pub returns : goal.returns
returns c = record { told = each-told; counted = each-counted }
