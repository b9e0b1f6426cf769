use Rattle.std.proofs.Common.{◌≡◌, ◌∙◌, suc, get_or, ap, sym, arith}
use Rattle.std.proofs.lemmas.Option.{slice_get-get_or}
use Rattle.mtree_inv.specs.declared.held_cuts.Row.{Row}
use Rattle.mtree_inv.specs.HeldCuts.{start_at}
use Rattle.mtree_inv.proofs.HeldLemmas.{begins_behind}
use Rattle.mtree_inv.proofs.held_cuts.start_of.Goals as goal

pub returns-in-Some : goal.returns-in-Some
returns-in-Some c =
    let none : Row = record { front = 0; end = 0; hash = 0 } in
    let is : suc c.in-Some.before ≡ c.args.number = omega (arith, c.in-Some.ensures.0, c.in-Some.ensures.1) in
    sym (begins_behind 0 c.args.rows.now c.in-Some.before (get_or c.args.rows.now c.in-Some.before none)
    (slice_get-get_or c.args.rows.now c.in-Some.before none (omega (arith, is, c.requires))))
    ∙ ap (start_at 0 c.args.rows.now) is
