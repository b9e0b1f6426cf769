use Rattle.unify.proofs.Merged.{solved_names}
use Rattle.unify.proofs.solving.solve_names.Goals as goal

pub returns-clause-solved : goal.returns-clause-solved
returns-clause-solved c = λ files counted.
    let are = c.in_ok-rows.ensures.rows files counted in
    let s = c.in_ok-solution.ensures in
    solved_names c.args.names.now c.in_ok-rows.rows.accounts c.in_ok-rows.ensures.accounts files c.in_ok-solution.solution.mapping c.in_ok-solution.solution.y.items c.in_ok-solution.solution.z.items c.in_ok-side.side
    s.admissible (s.optimal files are) (s.fresh files are) (s.certifies files are) c.in_ok-side.ensures.side c.in_ok-side.ensures.ordered
