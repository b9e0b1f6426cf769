use Rattle.std.proofs.Common.{◌≡◌, ◌<◌, length, List, None, sym, ap, ◌∙◌, subst, arith}
use Rattle.std.proofs.lemmas.List.{get_or_read}
use Rattle.candidates.specs.declared.Candidate.{Candidate}
use Rattle.candidates.specs.Rows.{weight_in, IsAscending}
use Rattle.assignment.specs.Solutions.{row_weight}
use Rattle.assignment.specs.Lazy.{y_in}
use Rattle.assignment.specs.Standing.{IsTightPair}
use Rattle.assignment.specs.Solving.{standing}
use Rattle.assignment.proofs.Weigh.{row_lawful, row_weight_small}
use Rattle.assignment.proofs.Flip.{GivesOne, owner_in}
use Rattle.assignment.proofs.Starting.{start_gives, not_some}
use Rattle.assignment.proofs.solver.Solver.give_tight.Goals as goal

pub has_weight-requires : goal.has_weight-requires
has_weight-requires c = subst (λ (x : List Candidate). IsAscending x) (sym c.row.ensures) (row_lawful c.args.self.now.rows.now c.requires.started.lawful c.args.name c.requires.name).0

pub returns-clause-started : goal.returns-clause-started
returns-clause-started c =
    let s = c.args.self.now in
    let q = c.requires.started in
    let name = c.args.name in
    let v = c.args.number in
    let e = c.in_ok-give.ensures in
    let inside : name < length s.duals.y.items = omega (arith, c.requires.name, q.fits.y_long) in
    let eh : c.index-high.result.now ≡ y_in s.duals name = get_or_read s.duals.y.items name c.index-high.result.now inside c.index-high.ensures 0 in
    let weighs : row_weight s.rows.now name v ≡ c.saturating_add-weight.result = ap (λ x. weight_in x v) (sym c.row.ensures) ∙ c.has_weight.ensures c.if-not-has_weight.false in
    let small = row_weight_small s.rows.now q.lawful name v in
    let pair : IsTightPair (row_weight s.rows.now) (standing s.duals s.pairs) name v = record { weighs = omega (arith, weighs, c.if-weight-eq0.false); equal = omega (arith, weighs, small, eh, c.value.ensures, c.saturating_add-weight.ensures) } in
    let free : owner_in s.pairs v ≡ None = sym c.owner_of.ensures ∙ not_some c.owner_of.result (sym c.is_some.ensures ∙ c.if-is_some.false) in
    let one : GivesOne s.pairs c.give.new.self name v = record { there = e.there; others = e.others; long = e.long; owns = e.owns; other_owners = e.other_owners } in
    start_gives s c.give.new.self name v q free pair one
