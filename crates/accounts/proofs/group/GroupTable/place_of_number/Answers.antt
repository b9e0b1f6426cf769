use Rattle.std.proofs.Common.{◌∙◌, ap, List, nat_eq, position}
use Rattle.accounts.specs.Known.{Known}
use Rattle.accounts.specs.Rows.{Group}
use Rattle.accounts.proofs.ListLemmas.{position-map}
use Rattle.accounts.proofs.group.GroupTable.place_of_number.Goals as goal

pub returns-clause-place : goal.returns-clause-place
returns-clause-place c =
    c.index_of_number.ensures
    ∙ ap (λ (known : Known). position (nat_eq c.args.gid) known.numbers) c.self.invariant.0
    ∙ position-map (nat_eq c.args.gid) (λ (row : Group). row.gid) c.self.inside.rows.items
    ∙ ap (λ (rows : List Group). position (λ row. nat_eq c.args.gid row.gid) rows) c.self.view_is
