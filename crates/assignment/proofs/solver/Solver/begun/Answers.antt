use Rattle.std.proofs.Common.{◌≡◌, List, [], length, sym, ap, ◌∙◌, subst, ℕ}
use Rattle.std.specs.List.{All}
use Rattle.std.proofs.lemmas.List.Elements.{All-nil}
use Rattle.assignment.specs.Starting.{IsOwned}
use Rattle.assignment.proofs.Starting.{start_serves}
use Rattle.assignment.proofs.solver.Solver.begun.Goals as goal

pub returns-then-has_owners-clause-served : goal.returns-then-has_owners-clause-served
returns-then-has_owners-clause-served c =
    let s = c.give_all.new.self in
    start_serves s (length s.rows.now.rows) c.in_ok-give_all.ensures.started (c.has_owners.ensures c.if-has_owners.true)

pub returns-clause-served : goal.returns-clause-served
returns-clause-served c =
    let s = c.in_ok-empty.empty in
    let e : s.duals.z.entries ≡ [] = ap (λ m. m.entries) c.in_ok-empty.ensures.z ∙ c.new-none.ensures.empty in
    start_serves s 0 c.in_ok-empty.ensures.started (subst (λ (es : List (ℕ × ℕ)). All (IsOwned s.pairs) es) (sym e) (All-nil (IsOwned s.pairs)))
