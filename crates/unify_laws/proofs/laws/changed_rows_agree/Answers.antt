use Rattle.unify_laws.proofs.RowCosts.{changed_rows_agree, no_map_changes_fewer_rows}
use Rattle.unify_laws.proofs.laws.changed_rows_agree.Goals as goal

pub returns : goal.returns
returns c = record { agree = changed_rows_agree; fewest = no_map_changes_fewer_rows }
