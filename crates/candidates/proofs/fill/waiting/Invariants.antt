use Rattle.std.proofs.Common.{◌≡◌, take}
use Rattle.candidates.proofs.WaitingNames.{waiting_among}
use Rattle.candidates.proofs.fill.waiting.Given as goal

abbrev pub invariant-loop-index : goal.invariant-loop-index
invariant-loop-index l = l.waiting.items ≡ waiting_among l.names l.numbers (take l.index-index l.index-items)
