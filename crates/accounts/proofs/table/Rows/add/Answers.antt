use Rattle.std.proofs.Common.{◌∙◌, sym, ap}
use Rattle.accounts.specs.Known.{known_twice}
use Rattle.accounts.proofs.KnownLemmas.{same_twice}
use Rattle.accounts.proofs.TableLemmas.{shared-known}
use Rattle.accounts.proofs.table.Rows.add.Goals as goal

pub returns-in-Some-clause-told : goal.returns-in-Some-clause-told
returns-in-Some-clause-told g c =
    sym c.in-Some.is ∙ c.in_ok-code.ensures.told
    ∙ same_twice _ _ _ _ _ c.name.ensures c.number.ensures
    ∙ ap (λ known. known_twice known (g.R.Row.name_of c.args.row) (g.R.Row.number_of c.args.row)) c.requires.known
    ∙ sym (shared-known g.R.Row.line_of g.R.Row.name_of g.R.Row.number_of c.args.self.now.list.items c.args.row)

pub returns-clause-told : goal.returns-clause-told
returns-clause-told g c =
    sym c.in_default.is ∙ c.in_ok-code.ensures.told
    ∙ same_twice _ _ _ _ _ c.name.ensures c.number.ensures
    ∙ ap (λ known. known_twice known (g.R.Row.name_of c.args.row) (g.R.Row.number_of c.args.row)) c.requires.known
    ∙ sym (shared-known g.R.Row.line_of g.R.Row.name_of g.R.Row.number_of c.args.self.now.list.items c.args.row)
