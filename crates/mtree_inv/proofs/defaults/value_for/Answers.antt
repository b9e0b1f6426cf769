use Rattle.std.proofs.Common.{true, false, sym, ap, ◌∙◌}
use Rattle.std.specs.Prelude.{Some}
use Rattle.mtree_inv.proofs.KeywordLemmas.{given-begun}
use Rattle.mtree_inv.proofs.defaults.value_for.Goals as goal

pub returns-then-ends_key : goal.returns-then-ends_key
returns-then-ends_key c =
    ap Some c.without_first.ensures
    ∙ sym (given-begun c.args.key.now c.args.keyword.now c.requires c.in_ok-behind.behind.now true c.in_ok-behind.ensures.cases.0 c.in_ok-behind.ensures.cases.1 (sym c.ends_key.ensures ∙ c.if-ends_key.true))

pub returns-else-ends_key : goal.returns-else-ends_key
returns-else-ends_key c =
    sym (given-begun c.args.key.now c.args.keyword.now c.requires c.in_ok-behind.behind.now false c.in_ok-behind.ensures.cases.0 c.in_ok-behind.ensures.cases.1 (sym c.ends_key.ensures ∙ c.if-ends_key.false))
