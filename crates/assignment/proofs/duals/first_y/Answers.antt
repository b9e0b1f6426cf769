use Rattle.std.proofs.Common.{◌<◌, ◌≤◌, length, subst, sym, ⊎_elim, arith, List}
use Rattle.std.proofs.lemmas.Bool.{cases_lt}
use Rattle.std.specs.List.{All}
use Rattle.candidates.specs.declared.Candidate.{Candidate}
use Rattle.candidates.specs.Rows.{IsWeighed}
use Rattle.assignment.proofs.Weigh.{row_lawful, weight_past}
use Rattle.assignment.proofs.duals.first_y.Goals as goal

pub least_y-requires : goal.least_y-requires
least_y-requires c = subst (λ (x : List Candidate). All IsWeighed x) (sym c.row.ensures) (row_lawful c.args.rows.now c.len-name-end.ensures.lawful c.loop-name.name (omega arith)).1

pub returns-clause-covers : goal.returns-clause-covers
returns-clause-covers c = λ n v.
    ⊎_elim
    (λ (l : n < length c.args.rows.now.rows). c.loop-name.invariant.covers n v (omega arith))
    (λ (g : length c.args.rows.now.rows ≤ n). let e = weight_past c.args.rows.now n v g in omega (arith, e))
    (cases_lt n (length c.args.rows.now.rows))
