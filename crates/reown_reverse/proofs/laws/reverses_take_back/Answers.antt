use Rattle.reown_reverse.proofs.Reversing.{reversed-twice, reversed-lawful, takes-back}
use Rattle.reown_reverse.proofs.laws.reverses_take_back.Goals as goal

pub returns : goal.returns
returns c = record {
  twice = reversed-twice;
  lawful = reversed-lawful;
  back = takes-back;
}
