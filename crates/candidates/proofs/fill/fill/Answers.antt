use Rattle.std.proofs.Common.{◌≡◌, ℕ, ◌<◌, ◌≤◌, ◌⊎◌, length, get_or, sym, ◌∙◌, ap, arith, refl, inl, inr}
use Rattle.hosts_join.specs.declared.Class.{Class}
use Rattle.hosts_join.specs.declared.Class.TheVariants.{Pinned, Regular, System}
use Rattle.hosts_join.specs.Rules.{in_pool, same_class, class_at}
use Rattle.candidates.proofs.FillLemmas.{is-next, fill-step, fill-start, fill-end, cursor_of, some-none}
use Rattle.candidates.proofs.Pigeons.{one-left}
use Rattle.candidates.proofs.fill.fill.Goals as goal
use Rattle.candidates.proofs.fill.fill.Goals.{in-System+in_ok-system-in-System, in-Regular+in_ok-regular-in-Regular}

moved-system : (r s next : ℕ) (x : Class) → x ≡ System → (c : Class) → (cursor_of r next c ≤ cursor_of r s c) ⊎ ((c ≡ x) × (cursor_of r next c ≡ next))
moved-system r s next x e (Pinned v) = inl (omega arith)
moved-system r s next x e Regular = inl (omega arith)
moved-system r s next x e System = inr (sym e, refl)

moved-regular : (r s next : ℕ) (x : Class) → x ≡ Regular → (c : Class) → (cursor_of next s c ≤ cursor_of r s c) ⊎ ((c ≡ x) × (cursor_of next s c ≡ next))
moved-regular r s next x e (Pinned v) = inl (omega arith)
moved-regular r s next x e System = inl (omega arith)
moved-regular r s next x e Regular = inr (sym e, refl)

pub loop-entry-init : goal.loop-entry-init
loop-entry-init c = fill-start c.args.names.now c.args.filling.now c.args.waiting.now c.requires.start

pub class-requires : goal.class-requires
class-requires c =
    let a = c.args.names.now in
    let start = c.args.filling.now in
    let ws = c.args.waiting.now in
    let k = c.loop-entry.entry-index in
    let h : k < length ws = omega (arith, c.loop-entry-test.true) in
    let n = is-next a start ws k c.requires.waiting h in
    omega (arith, n.within)

pub give-requires-clause-within : goal.give-requires-clause-within
give-requires-clause-within c =
    let a = c.args.names.now in
    let start = c.args.filling.now in
    let ws = c.args.waiting.now in
    let k = c.loop-entry.entry-index in
    let h : k < length ws = omega (arith, c.loop-entry-test.true) in
    let n = is-next a start ws k c.requires.waiting h in
    let inv = c.loop-entry.invariant in
    omega (arith, n.within, inv.len, c.requires.start.len)

pub give-requires-in-Regular-clause-within : goal.give-requires-in-Regular-clause-within
give-requires-in-Regular-clause-within c =
    let a = c.args.names.now in
    let start = c.args.filling.now in
    let ws = c.args.waiting.now in
    let k = c.loop-entry.entry-index in
    let h : k < length ws = omega (arith, c.loop-entry-test.true) in
    let n = is-next a start ws k c.requires.waiting h in
    let inv = c.loop-entry.invariant in
    omega (arith, n.within, inv.len, c.requires.start.len)

pub give-requires-clause-none : goal.give-requires-clause-none
give-requires-clause-none c =
    let a = c.args.names.now in
    let start = c.args.filling.now in
    let ws = c.args.waiting.now in
    let k = c.loop-entry.entry-index in
    let h : k < length ws = omega (arith, c.loop-entry-test.true) in
    let n = is-next a start ws k c.requires.waiting h in
    let inv = c.loop-entry.invariant in
    inv.todo (get_or ws k 0) n.none n.first

pub give-requires-in-Regular-clause-none : goal.give-requires-in-Regular-clause-none
give-requires-in-Regular-clause-none c =
    let a = c.args.names.now in
    let start = c.args.filling.now in
    let ws = c.args.waiting.now in
    let k = c.loop-entry.entry-index in
    let h : k < length ws = omega (arith, c.loop-entry-test.true) in
    let n = is-next a start ws k c.requires.waiting h in
    let inv = c.loop-entry.invariant in
    inv.todo (get_or ws k 0) n.none n.first

pub give-requires-clause-left : goal.give-requires-clause-left
give-requires-clause-left c =
    let a = c.args.names.now in
    let start = c.args.filling.now in
    let ws = c.args.waiting.now in
    let k = c.loop-entry.entry-index in
    let h : k < length ws = omega (arith, c.loop-entry-test.true) in
    let n = is-next a start ws k c.requires.waiting h in
    let inv = c.loop-entry.invariant in
    one-left a start ws k c.loop-entry.filling c.loop-entry.regular c.loop-entry.system c.requires.lawful c.requires.start inv System (get_or ws k 0) c.pool.result.now (ap (same_class System) (sym c.class.ensures ∙ c.in-System.is)) (c.pool.ensures.enough refl) c.pool.ensures.members n.within (inv.todo (get_or ws k 0) n.none n.first)

pub give-requires-in-Regular-clause-left : goal.give-requires-in-Regular-clause-left
give-requires-in-Regular-clause-left c =
    let a = c.args.names.now in
    let start = c.args.filling.now in
    let ws = c.args.waiting.now in
    let k = c.loop-entry.entry-index in
    let h : k < length ws = omega (arith, c.loop-entry-test.true) in
    let n = is-next a start ws k c.requires.waiting h in
    let inv = c.loop-entry.invariant in
    one-left a start ws k c.loop-entry.filling c.loop-entry.regular c.loop-entry.system c.requires.lawful c.requires.start inv Regular (get_or ws k 0) c.pool-in-Regular.result.now (ap (same_class Regular) (sym c.class.ensures ∙ c.in-Regular.is)) (c.pool-in-Regular.ensures.enough refl) c.pool-in-Regular.ensures.members n.within (inv.todo (get_or ws k 0) n.none n.first)

pub unreachable-requires : goal.unreachable-requires
unreachable-requires c =
    let a = c.args.names.now in
    let start = c.args.filling.now in
    let ws = c.args.waiting.now in
    let k = c.loop-entry.entry-index in
    let h : k < length ws = omega (arith, c.loop-entry-test.true) in
    let n = is-next a start ws k c.requires.waiting h in
    let pin : class_at a (get_or ws k 0) ≡ Pinned c.in-Pinned.field-0 = sym c.class.ensures ∙ c.in-Pinned.is in
    some-none (c.requires.start.pinned (get_or ws k 0) c.in-Pinned.field-0 (omega (arith, n.within, c.requires.start.len)) pin) n.none

pub loop-entry-preserved : goal.loop-entry-preserved
loop-entry-preserved c =
    let a = c.args.names.now in
    let start = c.args.filling.now in
    let ws = c.args.waiting.now in
    let k = c.loop-entry.entry-index in
    let h : k < length ws = omega (arith, c.loop-entry-test.true) in
    let n = is-next a start ws k c.requires.waiting h in
    let inv = c.loop-entry.invariant in
    elim c.match-class.branch [
      | in-System+in_ok-system-in-System w ↦
          let class : class_at a (get_or ws k 0) ≡ System = sym c.class.ensures ∙ w.in-System.is in
          let given = w.in_ok-system-in-System.ensures in
          rw (w.filling-is, w.regular-is, w.system-is) (fill-step a start ws k c.loop-entry.filling w.give.new.self c.loop-entry.regular c.loop-entry.system c.loop-entry.regular w.in_ok-system-in-System.system w.pool.result.now c.loop-entry.system w.in_ok-system-in-System.system c.requires.lawful c.requires.waiting h inv c.requires.start.len (λ v. w.pool.ensures.members v ∙ ap (λ (x : Class). in_pool a x v) (sym class)) given (ap (cursor_of c.loop-entry.regular c.loop-entry.system) (sym class)) (moved-system c.loop-entry.regular c.loop-entry.system w.in_ok-system-in-System.system (class_at a (get_or ws k 0)) class))
      | in-Regular+in_ok-regular-in-Regular w ↦
          let class : class_at a (get_or ws k 0) ≡ Regular = sym c.class.ensures ∙ w.in-Regular.is in
          let given = w.in_ok-regular-in-Regular.ensures in
          rw (w.filling-is, w.regular-is, w.system-is) (fill-step a start ws k c.loop-entry.filling w.give-in-Regular.new.self c.loop-entry.regular c.loop-entry.system w.in_ok-regular-in-Regular.regular c.loop-entry.system w.pool-in-Regular.result.now c.loop-entry.regular w.in_ok-regular-in-Regular.regular c.requires.lawful c.requires.waiting h inv c.requires.start.len (λ v. w.pool-in-Regular.ensures.members v ∙ ap (λ (x : Class). in_pool a x v) (sym class)) given (ap (cursor_of c.loop-entry.regular c.loop-entry.system) (sym class)) (moved-regular c.loop-entry.regular c.loop-entry.system w.in_ok-regular-in-Regular.regular (class_at a (get_or ws k 0)) class))
    ]

pub returns : goal.returns
returns c = fill-end c.args.names.now c.args.filling.now c.loop-entry.filling c.args.waiting.now c.loop-entry.entry-index c.loop-entry.regular c.loop-entry.system c.requires.start.len c.requires.waiting (omega (arith, c.loop-entry-test.false)) c.loop-entry.invariant
