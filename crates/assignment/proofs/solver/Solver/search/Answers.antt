use Rattle.std.proofs.Common.{◌≡◌, ℕ, ◌+◌, ◌-◌, ◌<◌, length, get_or, Option, Some, None, IfSome, sym, ap, ◌∙◌, subst, ◌⊎◌, ⊎_elim, arith}
use Rattle.std.specs.BTreeMap as btree
use Rattle.std.specs.BinaryHeap.{heap_items}
use Rattle.std.specs.Ordering.{nat_cmp}
use Rattle.std.proofs.lemmas.List.{get_or_read}
use Rattle.assignment.specs.declared.search.Nearest.{Nearest}
use Rattle.assignment.specs.Solving.{IsSearching, root_of}
use Rattle.assignment.specs.Lazy.{y_in, HasOtherEdges}
use Rattle.assignment.proofs.Nearest.{given_within}
use Rattle.assignment.proofs.Lazy.{can_settle, settled_search}
use Rattle.assignment.proofs.Flip.{flip_start}
use Rattle.assignment.proofs.Turns.{Grows, next_lazy, next_tight, next_zero, settled_tight, lazy_push, exit_push, edges_push}
use Rattle.assignment.proofs.solver.Solver.search.Goals as goal

pub settle-requires-clause-can : goal.settle-requires-clause-can
settle-requires-clause-can c =
    let s = c.turns.self in
    let t = c.turns.tree in
    let b = c.next-best.result in
    let m = c.next-best.ensures in
    let inv = c.turns.invariant in
    can_settle s t b.level c.turns.exit (next_lazy s t c.turns.now b inv.searching m.later m.slack) inv.exit m.below

pub leave-requires-clause-searching : goal.leave-requires-clause-searching
leave-requires-clause-searching c =
    let s = c.turns.self in
    let t = c.turns.tree in
    let b = c.next-best.result in
    let m = c.next-best.ensures in
    let inv = c.turns.invariant in
    let e = c.in_ok-settle.ensures in
    settled_search s c.settle.new.self t b.level (next_lazy s t c.turns.now b inv.searching m.later m.slack) e.settled e.long e.positive

pub leave-requires-clause-zero : goal.leave-requires-clause-zero
leave-requires-clause-zero c =
    let m = c.next-best.ensures in
    next_zero c.turns.self c.settle.new.self c.turns.tree c.turns.now c.next-best.result c.turns.invariant.searching m.later m.within m.met c.in_default.is c.in_ok-settle.ensures.settled

pub settle-requires-in_default-owner_of-clause-can : goal.settle-requires-in_default-owner_of-clause-can
settle-requires-in_default-owner_of-clause-can c =
    let s = c.turns.self in
    let t = c.turns.tree in
    let b = c.next-best.result in
    let m = c.next-best.ensures in
    let inv = c.turns.invariant in
    can_settle s t b.level c.turns.exit (next_lazy s t c.turns.now b inv.searching m.later m.slack) inv.exit m.below

pub flip-requires : goal.flip-requires
flip-requires c =
    let s = c.turns.self in
    let t = c.turns.tree in
    let d = c.settle-in_default-owner_of.new.self in
    let b = c.next-best.result in
    let m = c.next-best.ensures in
    let inv = c.turns.invariant in
    let e = c.in_ok-settle-2.ensures in
    let v = c.in-Some.number in
    let lazy = next_lazy s t c.turns.now b inv.searching m.later m.slack in
    let after : IsSearching (record s { duals = d }) t = settled_search s d t b.level lazy e.settled e.long e.positive in
    let tight = next_tight s t c.turns.now b v inv.searching m.later m.slack m.within m.met c.in-Some.is in
    flip_start (record s { duals = d }) t b.at v after m.within (sym c.owner_of.ensures ∙ c.in_default-owner_of.is) (settled_tight s d t b.level (get_or t.names.items b.at 0) v e.settled tight.0)

pub overflow_add-now : goal.overflow_add-now
overflow_add-now c =
    let s = c.turns.self in
    let t = c.turns.tree in
    let b = c.next-best.result in
    let m = c.next-best.ensures in
    let inv = c.turns.invariant in
    let q = inv.searching in
    let name = c.in-Some-owner_of.name in
    let own = sym c.owner_of.ensures ∙ c.in-Some-owner_of.is in
    let had = q.fair.has name c.in-Some.number own in
    let short : name < length s.duals.y.items = omega (arith, given_within s.pairs.given.items name c.in-Some.number had, q.fits.given_long, q.fits.y_long) in
    let eh : c.index-in-turns.result.now ≡ y_in s.duals name = get_or_read s.duals.y.items name c.index-in-turns.result.now short c.index-in-turns.ensures 0 in
    omega (arith, eh, q.high name, q.high (root_of t), m.below, inv.exit.least 0 q.shape.some, q.starts)

pub reach-requires-in-turns-clause-searching : goal.reach-requires-in-turns-clause-searching
reach-requires-in-turns-clause-searching c =
    let s = c.turns.self in
    let t = c.turns.tree in
    let b = c.next-best.result in
    let m = c.next-best.ensures in
    let inv = c.turns.invariant in
    let f = c.in_ok-push.ensures in
    let v = c.in-Some.number in
    let name = c.in-Some-owner_of.name in
    let lazy = next_lazy s t c.turns.now b inv.searching m.later m.slack in
    let tight = next_tight s t c.turns.now b v inv.searching m.later m.slack m.within m.met c.in-Some.is in
    let own = sym c.owner_of.ensures ∙ c.in-Some-owner_of.is in
    let g : Grows t c.push.new.self name b.at b.level = record { position = f.position; names = f.names; parents = f.parents; levels = f.levels } in
    (lazy_push s t c.push.new.self b.level b.at v name lazy m.within own tight.1 tight.0 g).0

pub reach-requires-in-turns-clause-edges : goal.reach-requires-in-turns-clause-edges
reach-requires-in-turns-clause-edges c =
    let s = c.turns.self in
    let t = c.turns.tree in
    let t' = c.push.new.self in
    let b = c.next-best.result in
    let m = c.next-best.ensures in
    let inv = c.turns.invariant in
    let f = c.in_ok-push.ensures in
    let v = c.in-Some.number in
    let name = c.in-Some-owner_of.name in
    let lazy = next_lazy s t c.turns.now b inv.searching m.later m.slack in
    let tight = next_tight s t c.turns.now b v inv.searching m.later m.slack m.within m.met c.in-Some.is in
    let own = sym c.owner_of.ensures ∙ c.in-Some-owner_of.is in
    let g : Grows t t' name b.at b.level = record { position = f.position; names = f.names; parents = f.parents; levels = f.levels } in
    let more = lazy_push s t t' b.level b.at v name lazy m.within own tight.1 tight.0 g in
    let edges = heap_items c.next-best.new.queue.heap in
    let rest' : (n : ℕ) → btree.get nat_cmp s.pairs.owner v ≡ Some n → HasOtherEdges s t b.level c.turns.exit.level edges v = subst (λ (o : Option ℕ). IfSome o (λ u. (n : ℕ) → btree.get nat_cmp s.pairs.owner u ≡ Some n → HasOtherEdges s t b.level c.turns.exit.level edges u)) c.in-Some.is m.rest in
    let rest = rest' name own in
    let el : c.len-at.result ≡ length t.names.items = omega (arith, c.len-at.ensures, t.names.ok.0) in
    rw el (edges_push s t t' b.level b.at v name c.turns.exit.level c.or-leaves.result.level edges lazy more.0 m.within own g c.or-leaves.ensures.first rest)

pub turns-smaller : goal.turns-smaller
turns-smaller c =
    let s = c.turns.self in
    let t = c.turns.tree in
    let t' = c.push.new.self in
    let b = c.next-best.result in
    let m = c.next-best.ensures in
    let inv = c.turns.invariant in
    let f = c.in_ok-push.ensures in
    let v = c.in-Some.number in
    let name = c.in-Some-owner_of.name in
    let lazy = next_lazy s t c.turns.now b inv.searching m.later m.slack in
    let tight = next_tight s t c.turns.now b v inv.searching m.later m.slack m.within m.met c.in-Some.is in
    let own = sym c.owner_of.ensures ∙ c.in-Some-owner_of.is in
    let g : Grows t t' name b.at b.level = record { position = f.position; names = f.names; parents = f.parents; levels = f.levels } in
    let more = lazy_push s t t' b.level b.at v name lazy m.within own tight.1 tight.0 g in
    let k : length s.rows.now.rows - length t'.names.items < length s.rows.now.rows - length t.names.items = omega (arith, more.2, more.3) in
    k

pub push-requires : goal.push-requires
push-requires c =
    let s = c.turns.self in
    let q = c.turns.invariant.searching in
    let name = c.in-Some-owner_of.name in
    let own = sym c.owner_of.ensures ∙ c.in-Some-owner_of.is in
    let had = q.fair.has name c.in-Some.number own in
    omega (arith, given_within s.pairs.given.items name c.in-Some.number had, q.fits.given_long, q.position_long)

pub index-requires-in-turns : goal.index-requires-in-turns
index-requires-in-turns c =
    let s = c.turns.self in
    let q = c.turns.invariant.searching in
    let name = c.in-Some-owner_of.name in
    let own = sym c.owner_of.ensures ∙ c.in-Some-owner_of.is in
    let had = q.fair.has name c.in-Some.number own in
    omega (arith, given_within s.pairs.given.items name c.in-Some.number had, q.fits.given_long, q.fits.y_long, s.duals.y.ok.0)

-- what the name that joined makes of the exit
pub reach-requires-in-turns-clause-exit : goal.reach-requires-in-turns-clause-exit
reach-requires-in-turns-clause-exit c =
    let s = c.turns.self in
    let t = c.turns.tree in
    let b = c.next-best.result in
    let q = c.turns.invariant.searching in
    let f = c.in_ok-push.ensures in
    let v = c.in-Some.number in
    let name = c.in-Some-owner_of.name in
    let own = sym c.owner_of.ensures ∙ c.in-Some-owner_of.is in
    let g : Grows t c.push.new.self name b.at b.level = record { position = f.position; names = f.names; parents = f.parents; levels = f.levels } in
    let had = q.fair.has name v own in
    let short : name < length s.duals.y.items = omega (arith, given_within s.pairs.given.items name v had, q.fits.given_long, q.fits.y_long) in
    let high = c.index-in-turns.result.now in
    let eh : high ≡ y_in s.duals name = get_or_read s.duals.y.items name high short c.index-in-turns.ensures 0 in
    let el : c.len-at.result ≡ length t.names.items = omega (arith, c.len-at.ensures, t.names.ok.0) in
    let x = c.or-leaves.result in
    let o = c.or-leaves.ensures in
    let one : (x ≡ c.turns.exit) ⊎ (x ≡ record { level = b.level + high; at = length t.names.items; number = None }) = subst (λ (k : ℕ). (x ≡ c.turns.exit) ⊎ (x ≡ record { level = b.level + high; at = k; number = None })) el o.one in
    exit_push s t c.push.new.self b.level b.at name high c.turns.exit x q.levels_long c.turns.invariant.exit g eh one o.first o.second

pub reach-requires-in-turns-clause-later : goal.reach-requires-in-turns-clause-later
reach-requires-in-turns-clause-later c =
    let b = c.next-best.result in
    let x = c.or-leaves.result in
    ⊎_elim
    (λ (a : x ≡ c.turns.exit). omega (arith, ap (λ (y : Nearest). y.level) a, c.next-best.ensures.below))
    (λ (a : x ≡ record { level = b.level + c.index-in-turns.result.now; at = c.len-at.result; number = None }). let k : x.level ≡ b.level + c.index-in-turns.result.now = ap (λ (y : Nearest). y.level) a in omega (arith, k))
    c.or-leaves.ensures.one

pub turns-preserved : goal.turns-preserved
turns-preserved c =
    let s = c.turns.self in
    let t = c.turns.tree in
    let t' = c.push.new.self in
    let b = c.next-best.result in
    let m = c.next-best.ensures in
    let inv = c.turns.invariant in
    let f = c.in_ok-push.ensures in
    let e = c.in_ok-exit-2.ensures in
    let v = c.in-Some.number in
    let name = c.in-Some-owner_of.name in
    let lazy = next_lazy s t c.turns.now b inv.searching m.later m.slack in
    let tight = next_tight s t c.turns.now b v inv.searching m.later m.slack m.within m.met c.in-Some.is in
    let own = sym c.owner_of.ensures ∙ c.in-Some-owner_of.is in
    let g : Grows t t' name b.at b.level = record { position = f.position; names = f.names; parents = f.parents; levels = f.levels } in
    let more = lazy_push s t t' b.level b.at v name lazy m.within own tight.1 tight.0 g in
    record {
      rows = inv.rows;
      root = more.1 ∙ inv.root;
      position = f.long ∙ inv.position;
      searching = more.0;
      exit = e.exit;
      later = e.later;
      edges = e.edges;
    }
