use Rattle.std.proofs.Common.{◌≡◌, ◌≢◌, true, false, length, sym, ap, ◌∙◌, arith}
use Rattle.std.specs.BTreeMap as btree
use Rattle.std.specs.BinaryHeap.{heap_items}
use Rattle.std.specs.Ordering.{nat_cmp}
use Rattle.std.proofs.lemmas.Bool.{both_ways}
use Rattle.assignment.specs.Order.{Edge}
use Rattle.assignment.specs.Standing.{holds}
use Rattle.assignment.specs.Lazy.{HasOtherEdges}
use Rattle.assignment.proofs.Nearest.{given_within}
use Rattle.assignment.proofs.Lazy.{slack_upto}
use Rattle.assignment.proofs.Edges.{low_all, edges_less, queued_less, edge_met, exit_met, exit_unowned}
use Rattle.assignment.proofs.solver.Solver.next.Goals as goal

pub returns-then-exit-level-clause-slack : goal.returns-then-exit-level-clause-slack
returns-then-exit-level-clause-slack c =
    let x : Edge = (c.in-Some.field-0-0, c.in-Some.field-0-1, c.in-Some.number) in
    let e = c.in-Some.ensures in
    let old = heap_items c.loop-level.queue.heap in
    let new = heap_items c.pop.new.self.heap in
    let all = low_all x old new c.args.exit.level e.taken e.least c.if-exit-level.true in
    slack_upto c.args.self.now c.args.tree.now c.args.now c.args.exit.level c.args.exit old c.requires.searching c.requires.exit c.loop-level.invariant c.requires.later (omega arith) all

pub returns-then-exit-level-clause-met : goal.returns-then-exit-level-clause-met
returns-then-exit-level-clause-met c = exit_met c.args.self.now c.args.tree.now c.args.now c.args.exit c.requires.searching c.requires.exit c.requires.later c.args.exit.number c.requires.exit.way

pub returns-then-exit-level-clause-rest : goal.returns-then-exit-level-clause-rest
returns-then-exit-level-clause-rest c =
    let s = c.args.self.now in
    let t = c.args.tree.now in
    exit_unowned s t c.args.exit.level c.args.exit.at (λ v. HasOtherEdges s t c.args.exit.level c.args.exit.level (heap_items c.pop.new.self.heap) v) c.args.exit.number c.requires.exit.way

pub holds-requires : goal.holds-requires
holds-requires c = λ n e.
    let s = c.args.self.now in
    let q = c.requires.searching in
    let g = q.fair.has n c.in-Some.number e in
    omega (arith, given_within s.pairs.given.items n c.in-Some.number g, q.fits.given_long, q.position_long)

pub returns-then-not-holds-clause-later : goal.returns-then-not-holds-clause-later
returns-then-not-holds-clause-later c =
    let x : Edge = (c.in-Some.field-0-0, c.in-Some.field-0-1, c.in-Some.number) in
    let e = c.in-Some.ensures in
    (edges_less c.args.self.now c.args.tree.now c.args.now x (heap_items c.loop-level.queue.heap) (heap_items c.pop.new.self.heap) e.taken c.loop-level.invariant.edge).0.later

pub returns-then-not-holds-clause-slack : goal.returns-then-not-holds-clause-slack
returns-then-not-holds-clause-slack c =
    let x : Edge = (c.in-Some.field-0-0, c.in-Some.field-0-1, c.in-Some.number) in
    let e = c.in-Some.ensures in
    let old = heap_items c.loop-level.queue.heap in
    let new = heap_items c.pop.new.self.heap in
    let all = low_all x old new x.0.0 e.taken e.least (omega arith) in
    let later = (edges_less c.args.self.now c.args.tree.now c.args.now x old new e.taken c.loop-level.invariant.edge).0.later in
    slack_upto c.args.self.now c.args.tree.now c.args.now x.0.0 c.args.exit old c.requires.searching c.requires.exit c.loop-level.invariant later (omega (arith, c.if-exit-level.false)) all

pub returns-then-not-holds-clause-within : goal.returns-then-not-holds-clause-within
returns-then-not-holds-clause-within c =
    let x : Edge = (c.in-Some.field-0-0, c.in-Some.field-0-1, c.in-Some.number) in
    let e = c.in-Some.ensures in
    (edges_less c.args.self.now c.args.tree.now c.args.now x (heap_items c.loop-level.queue.heap) (heap_items c.pop.new.self.heap) e.taken c.loop-level.invariant.edge).0.within

pub returns-then-not-holds-clause-met : goal.returns-then-not-holds-clause-met
returns-then-not-holds-clause-met c =
    let s = c.args.self.now in
    let t = c.args.tree.now in
    let x : Edge = (c.in-Some.field-0-0, c.in-Some.field-0-1, c.in-Some.number) in
    let e = c.in-Some.ensures in
    let edge = (edges_less s t c.args.now x (heap_items c.loop-level.queue.heap) (heap_items c.pop.new.self.heap) e.taken c.loop-level.invariant.edge).0 in
    let free : holds t.position.items t.names.items (length t.names.items) (btree.get nat_cmp s.pairs.owner x.2) ≡ false = sym c.holds.ensures ∙ c.if-not-holds.true in
    edge_met s t c.args.now x c.requires.searching edge free (omega (arith, c.requires.later, c.requires.exit.least x.1.0 edge.within))

pub returns-then-not-holds-clause-rest : goal.returns-then-not-holds-clause-rest
returns-then-not-holds-clause-rest c =
    let s = c.args.self.now in
    let t = c.args.tree.now in
    let x : Edge = (c.in-Some.field-0-0, c.in-Some.field-0-1, c.in-Some.number) in
    let e = c.in-Some.ensures in
    let old = heap_items c.loop-level.queue.heap in
    let new = heap_items c.pop.new.self.heap in
    let left = (edges_less s t c.args.now x old new e.taken c.loop-level.invariant.edge).1 in
    λ _ _. record {
      edge = λ k d l. let a = left k d l in record { within = a.within; weighs = a.weighs; level = a.level; later = e.least k d l };
      all = λ i u l apart free w. queued_less s t c.args.exit.level x old new i u e.taken apart (c.loop-level.invariant.all i u l free w);
    }

pub returns-clause-met : goal.returns-clause-met
returns-clause-met c = exit_met c.args.self.now c.args.tree.now c.args.now c.args.exit c.requires.searching c.requires.exit c.requires.later c.args.exit.number c.requires.exit.way

pub returns-clause-rest : goal.returns-clause-rest
returns-clause-rest c =
    let s = c.args.self.now in
    let t = c.args.tree.now in
    exit_unowned s t c.args.exit.level c.args.exit.at (λ v. HasOtherEdges s t c.args.exit.level c.args.exit.level (heap_items c.pop.new.self.heap) v) c.args.exit.number c.requires.exit.way

pub loop-level-preserved : goal.loop-level-preserved
loop-level-preserved c =
    let s = c.args.self.now in
    let t = c.args.tree.now in
    let x : Edge = (c.in-Some.field-0-0, c.in-Some.field-0-1, c.in-Some.number) in
    let e = c.in-Some.ensures in
    let old = heap_items c.loop-level.queue.heap in
    let new = heap_items c.pop.new.self.heap in
    let held : holds t.position.items t.names.items (length t.names.items) (btree.get nat_cmp s.pairs.owner x.2) ≡ true = sym c.holds.ensures ∙ c.if-not-holds.false in
    record {
      edge = (edges_less s t c.args.now x old new e.taken c.loop-level.invariant.edge).1;
      all = λ i u l free w.
          let apart : u ≢ x.2 = λ q. both_ways (holds t.position.items t.names.items (length t.names.items) (btree.get nat_cmp s.pairs.owner x.2)) (ap (λ v. holds t.position.items t.names.items (length t.names.items) (btree.get nat_cmp s.pairs.owner v)) (sym q) ∙ free) held in
          queued_less s t c.args.exit.level x old new i u e.taken apart (c.loop-level.invariant.all i u l free w);
    }
