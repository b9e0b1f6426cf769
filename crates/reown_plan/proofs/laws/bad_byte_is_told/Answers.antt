use Rattle.reown_plan.proofs.BadByte.{bad_byte}
use Rattle.reown_plan.proofs.laws.bad_byte_is_told.Goals as goal

pub returns : goal.returns
returns c = bad_byte
