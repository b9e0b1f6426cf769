use Rattle.std.proofs.Common.{arith}
use Rattle.reown_plan.proofs.Numerals.{number_long}
use Rattle.reown_plan.proofs.numbers.write_length.Goals as goal

pub write_number-requires : goal.write_number-requires
write_number-requires c = (number_long c.args.length (omega arith), omega arith)
