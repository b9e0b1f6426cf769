use Rattle.std.proofs.Common.{◌≡◌, ℕ, ◌+◌, List, length, Option, ◌∙◌, ap, arith}
use Rattle.candidates.specs.Fill.{gift}
use Rattle.hosts_join.specs.declared.Class.{Class}
use Rattle.candidates.specs.Settled.{settled, settled_by}
use Rattle.candidates.proofs.FillLemmas.{push-each, length_pushed}
use Rattle.candidates.proofs.fill.settle.Goals as goal

pub loop-index-preserved : goal.loop-index-preserved
loop-index-preserved c =
    let a = c.args.names.now in
    let given = c.args.given.now in
    let k = c.loop-index.index in
    let x : c.settled_number.result ≡ settled a given k = c.settled_number.ensures ∙ ap (λ (d : Class). settled_by d (gift given k)) c.class.ensures in
    record {
      len = ap length c.in_ok-push.ensures.items ∙ length_pushed c.loop-index.numbers.items c.settled_number.result ∙ ap (λ (n : ℕ). n + 1) c.loop-index.invariant.len;
      same = λ i h. ap (λ (xs : List (Option ℕ)). gift xs i) c.in_ok-push.ensures.items ∙ push-each c.loop-index.numbers.items c.settled_number.result k (settled a given) c.loop-index.invariant.len c.loop-index.invariant.same x i h;
    }

pub returns-clause-len : goal.returns-clause-len
returns-clause-len c = omega (arith, c.loop-index.invariant.len, c.len-index-end.ensures.len, c.loop-index-test.false)

pub returns-clause-numbers : goal.returns-clause-numbers
returns-clause-numbers c = λ i h. c.loop-index.invariant.same i (omega (arith, c.len-index-end.ensures.len, c.loop-index-test.false))
