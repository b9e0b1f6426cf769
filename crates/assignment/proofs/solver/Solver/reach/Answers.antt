use Rattle.std.proofs.Common.{◌≡◌, ℕ, ◌+◌, ◌-◌, ◌<◌, ◌≤◌, ◌^◌, min, length, get_or, ap, ◌∙◌, inl, arith}
use Rattle.std.specs.BinaryHeap.{heap_items}
use Rattle.std.proofs.lemmas.List.{get_or_read}
use Rattle.candidates.specs.declared.Candidate.{Candidate}
use Rattle.candidates.specs.Rows.{weight_in}
use Rattle.assignment.specs.Solutions.{row_weight}
use Rattle.assignment.specs.Order.{Edge}
use Rattle.assignment.specs.Solving.{root_of}
use Rattle.assignment.specs.Lazy.{y_in, z_in, lowered_to, IsEdge, IsQueued}
use Rattle.assignment.proofs.Weigh.{row_weight_small}
use Rattle.assignment.proofs.Nearest.{z_small, given_within}
use Rattle.assignment.proofs.Edges.{scanned, row_more, all_reached, followed}
use Rattle.assignment.proofs.solver.Solver.reach.Goals as goal

pub overflow_add-slack : goal.overflow_add-slack
overflow_add-slack c =
    let s = c.args.self.now in
    let t = c.args.tree.now in
    let q = c.requires.searching in
    let at = c.args.at in
    let high = c.index-high.result.now in
    let row = c.row-row.result.now in
    let i = c.loop-candidate.candidate-index in
    let z : Candidate = record { number = 0; weight = 0 } in
    let v = (get_or row i z).number in
    let n = get_or t.names.items at 0 in
    let in' : i < length row = c.loop-candidate-test.true in
    let f = scanned s t c.args.now at c.index-name.result.now high row i q c.requires.at c.index-name.ensures c.index-high.ensures c.row-row.ensures in' in
    let b = z_small (row_weight s.rows.now) (lowered_to s.duals s.pairs t c.args.now) _ v q.fair (row_weight_small s.rows.now q.lawful) in
    omega (arith, f.y, q.high n, b, c.value.ensures)

pub overflow_sub-slack : goal.overflow_sub-slack
overflow_sub-slack c =
    let s = c.args.self.now in
    let t = c.args.tree.now in
    let q = c.requires.searching in
    let at = c.args.at in
    let high = c.index-high.result.now in
    let row = c.row-row.result.now in
    let i = c.loop-candidate.candidate-index in
    let z : Candidate = record { number = 0; weight = 0 } in
    let v = (get_or row i z).number in
    let n = get_or t.names.items at 0 in
    let in' : i < length row = c.loop-candidate-test.true in
    let f = scanned s t c.args.now at c.index-name.result.now high row i q c.requires.at c.index-name.ensures c.index-high.ensures c.row-row.ensures in' in
    omega (arith, f.y, f.weighs, q.cover n v, c.value.ensures)

pub follow-requires : goal.follow-requires
follow-requires c = λ n e.
    let s = c.args.self.now in
    let q = c.requires.searching in
    let v = (get_or c.row-row.result.now c.loop-candidate.candidate-index (record { number = 0; weight = 0 })).number in
    omega (arith, given_within s.pairs.given.items n v (q.fair.has n v e), q.fits.given_long, q.position_long)

pub loop-candidate-preserved-then-least-exit : goal.loop-candidate-preserved-then-least-exit
loop-candidate-preserved-then-least-exit c =
    let s = c.args.self.now in
    let t = c.args.tree.now in
    let q = c.requires.searching in
    let at = c.args.at in
    let high = c.index-high.result.now in
    let row = c.row-row.result.now in
    let i = c.loop-candidate.candidate-index in
    let z : Candidate = record { number = 0; weight = 0 } in
    let v = (get_or row i z).number in
    let n = get_or t.names.items at 0 in
    let in' : i < length row = c.loop-candidate-test.true in
    let f = scanned s t c.args.now at c.index-name.result.now high row i q c.requires.at c.index-name.ensures c.index-high.ensures c.row-row.ensures in' in
    let inv = c.loop-candidate.invariant in
    let exit = c.loop-candidate.exit in
    let w = (get_or row i z).weight in
    let least : exit.level ≤ min (c.args.now + (high - w)) (2 ^ 64 - 1) = omega (arith, c.if-least-exit.true, c.saturating_add-least.ensures, c.saturating_sub.ensures) in
    let far : IsQueued s t exit.level (heap_items c.loop-candidate.queue.heap) at v = inl (omega (arith, least, f.y, f.weighs, q.cover n v, c.requires.level)) in
    record {
      exit = inv.exit;
      later = inv.later;
      edges = inv.edges;
      row = row_more s t exit.level at (heap_items c.loop-candidate.queue.heap) row i in' inv.row (λ _. far);
    }

pub loop-candidate-preserved : goal.loop-candidate-preserved
loop-candidate-preserved c =
    let s = c.args.self.now in
    let t = c.args.tree.now in
    let q = c.requires.searching in
    let at = c.args.at in
    let high = c.index-high.result.now in
    let row = c.row-row.result.now in
    let i = c.loop-candidate.candidate-index in
    let z : Candidate = record { number = 0; weight = 0 } in
    let v = (get_or row i z).number in
    let n = get_or t.names.items at 0 in
    let in' : i < length row = c.loop-candidate-test.true in
    let f = scanned s t c.args.now at c.index-name.result.now high row i q c.requires.at c.index-name.ensures c.index-high.ensures c.row-row.ensures in' in
    let now = c.args.now in
    let inv = c.loop-candidate.invariant in
    let exit = c.loop-candidate.exit in
    let found = c.in_ok-exit.exit in
    let old = heap_items c.loop-candidate.queue.heap in
    let new = heap_items c.follow.new.queue.heap in
    let slack = high + c.value.result - (get_or row i z).weight in
    let level = c.saturating_add-level.result in
    let x : Edge = (record { 0 = level }, record { 0 = at }, v) in
    let sum : slack + row_weight s.rows.now n v ≡ y_in s.duals n + z_in s.duals v = omega (arith, f.y, f.weighs, q.cover n v, c.value.ensures) in
    let capped : level ≡ min (now + slack) (2 ^ 64 - 1) = c.saturating_add-level.ensures in
    let low : exit.level < 2 ^ 63 = omega (arith, inv.exit.least 0 q.shape.some, q.starts, q.high (root_of t)) in
    let one : level < exit.level → IsEdge s t now x = λ near.
    let exact : level ≡ now + slack = omega (arith, capped, low, near) in
    record { within = f.within; weighs = omega (arith, f.weighs, f.positive); level = omega (arith, exact, sum, c.requires.level); later = omega (arith, exact) } in
    let far : exit.level ≤ level → IsQueued s t exit.level old at v = λ le. inl (omega (arith, capped, le, sum, c.requires.level)) in
    let after = followed s t now x exit found old new one far inv.later inv.exit inv.edges.edge c.in_ok-exit.ensures in
    record {
      exit = after.left;
      later = after.later;
      edges = record { edge = after.edge; all = λ j u h free w. after.kept j u (inv.edges.all j u h free w) };
      row = row_more s t found.level at new row i in' (λ k d h free. after.kept at (get_or row k d).number (inv.row k d h free)) after.here;
    }

pub returns-clause-edges : goal.returns-clause-edges
returns-clause-edges c =
    let s = c.args.self.now in
    let t = c.args.tree.now in
    let row = c.row-row.result.now in
    let name = c.index-name.result.now in
    let at = c.args.at in
    let l : at < length t.names.items = omega (arith, c.requires.at) in
    let en : name ≡ get_or t.names.items at 0 = get_or_read t.names.items at name l c.index-name.ensures 0 in
    let same : (v : ℕ) → weight_in row v ≡ row_weight s.rows.now (get_or t.names.items at 0) v = λ v. ap (λ x. weight_in x v) c.row-row.ensures ∙ ap (λ n. row_weight s.rows.now n v) en in
    let inv = c.loop-candidate.invariant in
    all_reached s t c.args.now c.loop-candidate.exit.level at row (heap_items c.loop-candidate.queue.heap) c.requires.at same inv.edges (λ k d h. inv.row k d (omega (arith, h)))
