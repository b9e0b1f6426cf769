use Rattle.std.proofs.Common.{◌≡◌, ℕ, ◌-◌, ◌<◌, length, get_or, ◌∙◌, subst, arith}
use Rattle.std.proofs.lemmas.List.{get_or_read}
use Rattle.assignment.specs.Lazy.{level_of}
use Rattle.assignment.proofs.Settle.{LowersOne, settle_more}
use Rattle.assignment.proofs.duals.Duals.settle.Goals as goal

pub loop-at-preserved : goal.loop-at-preserved
loop-at-preserved c =
    let a = c.loop-at.self in
    let b = c.lower_one.new.self in
    let p = c.args.pairs.now in
    let t = c.args.tree.now in
    let i = c.loop-at.at in
    let now = c.args.now in
    let e = c.in_ok-lower_one.ensures in
    let inv = c.loop-at.invariant in
    let l : i < length t.names.items = omega arith in
    let l' : i < length t.levels.items = omega (arith, l, c.requires.can.levels_long) in
    let en : c.index-name.result.now ≡ get_or t.names.items i 0 = get_or_read t.names.items i c.index-name.result.now l c.index-name.ensures 0 in
    let el : c.index-level.result.now ≡ level_of t i = get_or_read t.levels.items i c.index-level.result.now l' c.index-level.ensures 0 in
    let one' : LowersOne a b p c.index-name.result.now (now - c.index-level.result.now) = record { here = e.here; others = e.others; held = e.held; rest = e.rest } in
    let one'' : LowersOne a b p (get_or t.names.items i 0) (now - c.index-level.result.now) = subst (λ (n : ℕ). LowersOne a b p n (now - c.index-level.result.now)) en one' in
    let one : LowersOne a b p (get_or t.names.items i 0) (now - level_of t i) = subst (λ (k : ℕ). LowersOne a b p (get_or t.names.items i 0) (now - k)) el one'' in
    record { settled = settle_more c.args.self.now a b p t now i c.requires.can l inv.settled one; long = e.long ∙ inv.long; positive = e.positive inv.positive }
