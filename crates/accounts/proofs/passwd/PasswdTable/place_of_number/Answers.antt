use Rattle.std.proofs.Common.{◌∙◌, ap, List, nat_eq, position}
use Rattle.accounts.specs.Known.{Known}
use Rattle.accounts.specs.Rows.{Passwd}
use Rattle.accounts.proofs.ListLemmas.{position-map}
use Rattle.accounts.proofs.passwd.PasswdTable.place_of_number.Goals as goal

pub returns-clause-place : goal.returns-clause-place
returns-clause-place c =
    c.index_of_number.ensures
    ∙ ap (λ (known : Known). position (nat_eq c.args.uid) known.numbers) c.self.invariant.0
    ∙ position-map (nat_eq c.args.uid) (λ (row : Passwd). row.uid) c.self.inside.rows.items
    ∙ ap (λ (rows : List Passwd). position (λ row. nat_eq c.args.uid row.uid) rows) c.self.view_is
