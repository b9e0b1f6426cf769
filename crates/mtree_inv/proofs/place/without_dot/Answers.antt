use Rattle.std.proofs.Common.{ap}
use Rattle.mtree_inv.specs.Views.{has_backslash, has_nul, has_slash_byte}
use Rattle.mtree_inv.proofs.ParentLemmas.{dotted-word}
use Rattle.mtree_inv.proofs.UnescapedLemmas.{dot-dropped}
use Rattle.mtree_inv.proofs.place.without_dot.Goals as goal

pub returns-in-Some-clause-parts : goal.returns-in-Some-clause-parts
returns-in-Some-clause-parts c = dot-dropped c.args.word.now c.in-Some.rest.now c.in-Some.ensures.cases.0 c.in-Some.ensures.cases.1

pub returns-in-Some-clause-backslash : goal.returns-in-Some-clause-backslash
returns-in-Some-clause-backslash c = ap has_backslash (dotted-word c.args.word.now c.in-Some.rest.now c.in-Some.ensures.cases.0 c.in-Some.ensures.cases.1)

pub returns-in-Some-clause-nul : goal.returns-in-Some-clause-nul
returns-in-Some-clause-nul c = ap has_nul (dotted-word c.args.word.now c.in-Some.rest.now c.in-Some.ensures.cases.0 c.in-Some.ensures.cases.1)

pub returns-in-Some-clause-slash : goal.returns-in-Some-clause-slash
returns-in-Some-clause-slash c = λ _. ap has_slash_byte (dotted-word c.args.word.now c.in-Some.rest.now c.in-Some.ensures.cases.0 c.in-Some.ensures.cases.1)
