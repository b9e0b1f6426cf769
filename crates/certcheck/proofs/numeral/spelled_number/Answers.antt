use Rattle.std.proofs.Common.{◌+◌, ◌<◌, get_or, sym, ◌∙◌, arith, ⊎_elim}
use Rattle.certcheck.proofs.Numerals.{value_more, not_digits, too_large, numeral_yes, numeral_above, numeral_other, value_all}
use Rattle.certcheck.proofs.numeral.spelled_number.Goals as goal
use Rattle.certcheck.proofs.numeral.spelled_number.Goals.{else-value-most-via-then-value-most+else-eq, else-value-most-via-else-value-most}

pub returns-then-not-is_ascii_digit-clause-exact : goal.returns-then-not-is_ascii_digit-clause-exact
returns-then-not-is_ascii_digit-clause-exact c = not_digits c.args.most c.args.text.now c.loop-byte.byte-index (omega arith) (omega arith) (λ low high. ⊎_elim (λ (l : get_or c.args.text.now c.loop-byte.byte-index 0 < 48). absurd (omega (arith, l, low))) (λ (h : 57 < get_or c.args.text.now c.loop-byte.byte-index 0). absurd (omega (arith, h, high))) c.if-not-is_ascii_digit.ensures.cases)

pub returns-in_err-checked_mul-clause-exact : goal.returns-in_err-checked_mul-clause-exact
returns-in_err-checked_mul-clause-exact c =
    let more = value_more c.args.text.now c.loop-byte.byte-index (omega arith) c.if-not-is_ascii_digit.ensures.cases.0 c.if-not-is_ascii_digit.ensures.cases.1 in
    c.from_residual.ensures ∙ too_large c.args.most c.args.text.now (c.loop-byte.byte-index + 1) (omega arith) (omega (arith, more, c.loop-byte.invariant, c.in_err-checked_mul.ensures))

pub returns-in_err-value-clause-exact : goal.returns-in_err-value-clause-exact
returns-in_err-value-clause-exact c =
    let more = value_more c.args.text.now c.loop-byte.byte-index (omega arith) c.if-not-is_ascii_digit.ensures.cases.0 c.if-not-is_ascii_digit.ensures.cases.1 in
    c.from_residual-in_err-value.ensures ∙ too_large c.args.most c.args.text.now (c.loop-byte.byte-index + 1) (omega arith) (omega (arith, more, c.loop-byte.invariant, c.in_err-value.ensures, c.in_ok-checked_mul.ensures, c.from.ensures))

pub loop-byte-preserved : goal.loop-byte-preserved
loop-byte-preserved c =
    let more = value_more c.args.text.now c.loop-byte.byte-index (omega arith) c.if-not-is_ascii_digit.ensures.cases.0 c.if-not-is_ascii_digit.ensures.cases.1 in
    omega (arith, more, c.loop-byte.invariant, c.in_ok-value.ensures, c.in_ok-checked_mul.ensures, c.from.ensures)

pub returns-then-eq-clause-exact : goal.returns-then-eq-clause-exact
returns-then-eq-clause-exact c = numeral_yes c.args.most c.args.text.now c.loop-byte.value c.as_bytes.result.now (value_all c.args.text.now c.loop-byte.byte-index c.loop-byte.value (omega arith) c.loop-byte.invariant) c.if-value-most.true (c.as_bytes.ensures.value ∙ c.format.ensures.text) (sym c.if-eq.ensures)

pub returns-else-value-most-clause-exact : goal.returns-else-value-most-clause-exact
returns-else-value-most-clause-exact c =
    let all = value_all c.args.text.now c.loop-byte.byte-index c.loop-byte.value (omega arith) c.loop-byte.invariant in
    elim c.else-value-most.branch [
      | else-value-most-via-then-value-most+else-eq w ↦ numeral_other c.args.most c.args.text.now c.loop-byte.value w.as_bytes.result.now all (w.as_bytes.ensures.value ∙ w.format.ensures.text) (sym w.if-eq.ensures)
      | else-value-most-via-else-value-most w ↦ numeral_above c.args.most c.args.text.now c.loop-byte.value all w.if-value-most.false
    ]
