use Rattle.std.proofs.Common.{◌≡◌, ℕ, length, ap, subst, arith}
use Rattle.candidates.specs.Rows.{Choices}
use Rattle.assignment.specs.Starting.{IsStarted}
use Rattle.assignment.proofs.solver.Solver.give_all.Goals as goal

pub returns-clause-started : goal.returns-clause-started
returns-clause-started c =
    let inv = c.loop-name.invariant in
    let s = c.loop-name.self in
    let same = ap (λ (x : Choices). length x.rows) inv.rows in
    let n : c.loop-name.name ≡ length s.rows.now.rows = omega (arith, same) in
    subst (λ (k : ℕ). IsStarted s k) n inv.started
