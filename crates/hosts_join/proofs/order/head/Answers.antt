use Rattle.std.proofs.Common.{◌≡◌, ℕ, ◌+◌, ◌-◌, ◌<◌, List, ap, refl, sym, subst, ◌∙◌, arith}
use Rattle.std.specs.Borrow.{Bor}
use Rattle.std.specs.List.{All}
use Rattle.std.proofs.lemmas.List.{nil_from_length}
use Rattle.std.proofs.lemmas.List.Elements.{All-from_get_or, All-head, All-tail}
use Rattle.hosts_join.specs.Heads.{head_after}
use Rattle.hosts_join.proofs.Heads.{few, grown, none_taken, taken}
use Rattle.hosts_join.proofs.order.head.Goals as goal
use Rattle.hosts_join.proofs.order.head.Goals.{in-Some, in-None}

pub loop-init : goal.loop-init
loop-init c = record {
  few = omega arith;
  left = refl;
  bytes = All-from_get_or (λ b. b < 256) c.args.name.now 0 (λ i low. omega (arith, c.type_inv.name i));
  small = omega arith;
}

pub overflow_mul-head : goal.overflow_mul-head
overflow_mul-head c = omega (arith, few c.loop.head c.loop.counter c.loop.invariant.small c.loop-test.true)

pub overflow_add-head : goal.overflow_add-head
overflow_add-head c =
    let byte : c.from.result < 256 = elim c.match-split_first.branch [
      | in-Some w ↦
          let here = subst (All (λ b. b < 256)) w.in-Some.ensures.cases.0 c.loop.invariant.bytes in
          omega (arith, c.from.ensures, ap (λ (p : ℕ × Bor (List ℕ)). p.0) w.byte-is, All-head (λ b. b < 256) w.in-Some.first.now w.in-Some.others.now here)
      | in-None w ↦ omega (arith, c.from.ensures, ap (λ (p : ℕ × Bor (List ℕ)). p.0) w.byte-is)
    ] in
    omega (arith, few c.loop.head c.loop.counter c.loop.invariant.small c.loop-test.true, byte)

pub loop-preserved : goal.loop-preserved
loop-preserved c =
    let next : 8 - c.loop.counter ≡ (8 - (c.loop.counter + 1)) + 1 = omega (arith, c.loop-test.true) in
    elim c.match-split_first.branch [
      | in-Some w ↦
          let is = w.in-Some.ensures.cases.0 in
          let here = subst (All (λ b. b < 256)) is c.loop.invariant.bytes in
          let byte : c.from.result ≡ w.in-Some.first.now = c.from.ensures ∙ ap (λ (p : ℕ × Bor (List ℕ)). p.0) w.byte-is in
          let others : c.match-split_first.byte.1.now ≡ w.in-Some.others.now = ap (λ (p : ℕ × Bor (List ℕ)). p.1.now) w.byte-is in
          let one = All-head (λ b. b < 256) w.in-Some.first.now w.in-Some.others.now here in
          record {
            few = omega (arith, c.loop-test.true);
            left = rw (byte, others) (sym (taken (8 - (c.loop.counter + 1)) (8 - c.loop.counter) c.loop.head w.in-Some.first.now c.loop.rest.now w.in-Some.others.now (omega (arith, next)) is) ∙ c.loop.invariant.left);
            bytes = rw others (All-tail (λ b. b < 256) w.in-Some.first.now w.in-Some.others.now here);
            small = grown c.loop.head c.from.result c.loop.counter c.loop.invariant.small (omega (arith, byte, one));
          }
      | in-None w ↦
          let byte : c.from.result ≡ 0 = c.from.ensures ∙ ap (λ (p : ℕ × Bor (List ℕ)). p.0) w.byte-is in
          let others : c.match-split_first.byte.1.now ≡ c.loop.rest.now = ap (λ (p : ℕ × Bor (List ℕ)). p.1.now) w.byte-is in
          record {
            few = omega (arith, c.loop-test.true);
            left = rw (byte, others) (sym (none_taken (8 - (c.loop.counter + 1)) (8 - c.loop.counter) c.loop.head c.loop.rest.now (omega (arith, next)) (nil_from_length c.loop.rest.now w.in-None.ensures.cases)) ∙ c.loop.invariant.left);
            bytes = rw others c.loop.invariant.bytes;
            small = grown c.loop.head c.from.result c.loop.counter c.loop.invariant.small (omega (arith, byte));
          }
    ]

pub returns : goal.returns
unfolding head_after
returns c =
    let all : c.loop.counter ≡ 8 = omega (arith, c.loop-test.false, c.loop.invariant.few) in
    let none : 0 ≡ 8 - c.loop.counter = omega (arith, all) in
    record {
      is = ap (λ n. head_after n c.loop.head c.loop.rest.now) none ∙ c.loop.invariant.left;
      bytes = All-from_get_or (λ b. b < 256) c.args.name.now 0 (λ i low. omega (arith, c.type_inv.name i));
    }
