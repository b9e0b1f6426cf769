use Rattle.kept_names.proofs.LinesBack.{lines-back}
use Rattle.kept_names.proofs.Tellable.{findings-tellable, tables-tellable}
use Rattle.kept_names.proofs.laws.lines_are_read_back.Goals as goal

pub returns : goal.returns
returns c = record { back = lines-back; names = tables-tellable; found = findings-tellable }
