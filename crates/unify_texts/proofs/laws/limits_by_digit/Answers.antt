use Rattle.std.proofs.Common.{refl}
use Rattle.std.specs.Fmt.{digits}
use Rattle.unify_texts.specs.LimitDigits.{LimitsByDigit}
use Rattle.unify_texts.proofs.laws.limits_by_digit.Goals as goal

limits_by_digit : LimitsByDigit
unfolding digits
limits_by_digit = record { files = refl; line_bytes = refl }

pub returns : goal.returns
returns c = limits_by_digit
