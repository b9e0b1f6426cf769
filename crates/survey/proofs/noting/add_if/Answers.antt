use Rattle.std.proofs.Common.{sym, subst, ◌∙◌}
use Rattle.std.specs.Prelude.{filter}
use Rattle.survey.specs.Surveying.{HasNumbers}
use Rattle.survey.specs.Unowned.{each_once}
use Rattle.survey.proofs.OnceLemmas.{once_more}
use Rattle.survey.proofs.noting.add_if.Goals as goal

pub returns-in_ok-add : goal.returns-in_ok-add
returns-in_ok-add c = λ test others is was.
    subst (λ numbers. HasNumbers numbers c.add.new.self) (once_more test others c.args.number (sym is ∙ c.if-is_unowned.true)) (c.in_ok-add.ensures (each_once (filter test others)) was)
