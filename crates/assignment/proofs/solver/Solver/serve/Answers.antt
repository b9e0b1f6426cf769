use Rattle.std.proofs.Common.{is_some, sym, ap, ◌∙◌}
use Rattle.assignment.proofs.Starting.{serve_given, not_some}
use Rattle.assignment.proofs.solver.Solver.serve.Goals as goal

pub returns-then-is_some-clause-served : goal.returns-then-is_some-clause-served
returns-then-is_some-clause-served c = serve_given c.args.self.now c.args.root c.requires.serving (ap is_some (sym c.number_of.ensures) ∙ sym c.is_some.ensures ∙ c.if-is_some.true)

pub search-requires-clause-bare : goal.search-requires-clause-bare
search-requires-clause-bare c = sym c.number_of.ensures ∙ not_some c.number_of.result (sym c.is_some.ensures ∙ c.if-is_some.false)
