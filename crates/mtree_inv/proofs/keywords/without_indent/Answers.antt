use Rattle.std.proofs.Common.{codes, refl, ap, ◌∙◌, arith}
use Rattle.idtext.specs.Words.{words}
use Rattle.mtree_inv.proofs.KeywordLemmas.{words-behind}
use Rattle.mtree_inv.proofs.keywords.without_indent.Goals as goal

pub loop-behind-preserved : goal.loop-behind-preserved
loop-behind-preserved c = (
  ap words c.in-Some.ensures.cases.1 ∙ words-behind (codes "        ") c.loop-behind.rest.now refl c.in-Some.ensures.cases.0 ∙ c.loop-behind.invariant.0,
  omega (arith, c.in-Some.ensures.cases.2, c.loop-behind.invariant.1),
)
