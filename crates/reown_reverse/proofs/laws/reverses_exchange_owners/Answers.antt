use Rattle.std.proofs.Common.{refl}
use Rattle.reown_reverse.proofs.Reversing.{same-paths, old-from-new, new-from-old}
use Rattle.reown_reverse.proofs.laws.reverses_exchange_owners.Goals as goal

pub returns : goal.returns
returns c = record {
  host = λ plan. refl;
  paths = λ plan. same-paths plan.records;
  before = λ plan. old-from-new plan.records;
  after = λ plan. new-from-old plan.records;
}
