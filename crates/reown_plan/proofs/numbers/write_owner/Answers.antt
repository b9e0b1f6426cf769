use Rattle.std.proofs.Common.{◌≤◌, length, arith}
use Rattle.reown_plan.specs.Spelling.{number}
use Rattle.reown_plan.proofs.Numerals.{number_short}
use Rattle.reown_plan.proofs.numbers.write_owner.Goals as goal

pub write_number-middle-requires : goal.write_number-middle-requires
write_number-middle-requires c =
    let short : length (number c.from.result) ≤ 11 = number_short c.from.result (omega arith) in
    (omega arith, omega arith)

pub write_number-requires : goal.write_number-requires
write_number-requires c =
    let first : length (number c.from.result) ≤ 11 = number_short c.from.result (omega arith) in
    let short : length (number c.from-2.result) ≤ 11 = number_short c.from-2.result (omega arith) in
    (omega arith, omega arith)

pub returns-clause-start : goal.returns-clause-start
returns-clause-start c =
    let first : length (number c.from.result) ≤ 11 = number_short c.from.result (omega arith) in
    let short : length (number c.from-2.result) ≤ 11 = number_short c.from-2.result (omega arith) in
    omega arith
