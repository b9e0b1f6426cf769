use Rattle.std.proofs.Common.{ℕ, List, ap}
use Rattle.ownership.proofs.Optimal.{certified_is_optimal}
use Rattle.assignment.specs.Solutions.{Proves}
use Rattle.assignment.proofs.Certified.{certifies, fresh_filled}
use Rattle.assignment.proofs.Solved.{Stays, partial_at, lawful_at, proves_at, filled_at}
use Rattle.assignment.proofs.solve.Goals as goal

pub fill_fresh-requires : goal.fill_fresh-requires
fill_fresh-requires c =
    let e = c.in_ok-solver.ensures in
    rw c.as_slice.ensures.value (partial_at c.in_ok-solver.solver c.args.rows.now e.rows e.served)

pub returns-clause-proves : goal.returns-clause-proves
returns-clause-proves c =
    let s = c.in_ok-solver.solver in
    let e = c.in_ok-solver.ensures in
    let m = c.in_ok-mapping.ensures in
    let z = c.in_ok-z.ensures in
    let mapping : List ℕ = c.in_ok-mapping.mapping in
    let stays : Stays s.pairs.given.items mapping = rw (← c.as_slice.ensures.value) m.given_stay in
    let p : Proves c.args.rows.now mapping s.duals.y.items s.duals.z.entries = proves_at s c.args.rows.now mapping e.rows e.served z.ordered m.admissible stays in
    rw (ap (λ v. v.items) c.into_y.ensures, z.items) p

pub returns-clause-filled : goal.returns-clause-filled
returns-clause-filled c =
    let s = c.in_ok-solver.solver in
    let e = c.in_ok-solver.ensures in
    let m = c.in_ok-mapping.ensures in
    let mapping : List ℕ = c.in_ok-mapping.mapping in
    let stays : Stays s.pairs.given.items mapping = rw (← c.as_slice.ensures.value) m.given_stay in
    filled_at s c.args.rows.now mapping e.rows e.served stays (rw (← c.as_slice.ensures.value) m.filled)

pub returns-clause-certifies : goal.returns-clause-certifies
returns-clause-certifies c =
    let lawful = lawful_at c.in_ok-solver.solver c.args.rows.now c.in_ok-solver.ensures.rows c.in_ok-solver.ensures.served in
    certifies c.args.rows.now c.in_ok-mapping.mapping c.into_y.result.items c.in_ok-z.z.items lawful.len c.in_ok-mapping.ensures.admissible (returns-clause-proves c)

pub returns-clause-optimal : goal.returns-clause-optimal
returns-clause-optimal c = λ files rows.
    let lawful = lawful_at c.in_ok-solver.solver c.args.rows.now c.in_ok-solver.ensures.rows c.in_ok-solver.ensures.served in
    certified_is_optimal c.args.rows.now.accounts files c.in_ok-mapping.mapping c.into_y.result.items c.in_ok-z.z.items lawful.lawful c.in_ok-mapping.ensures.admissible (returns-clause-certifies c files rows)

pub returns-clause-fresh : goal.returns-clause-fresh
returns-clause-fresh c = fresh_filled c.args.rows.now c.in_ok-mapping.mapping (returns-clause-filled c)
