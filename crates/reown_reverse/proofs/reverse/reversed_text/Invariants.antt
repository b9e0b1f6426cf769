use Rattle.std.proofs.Common.{◌≡◌, ◌++◌, take}
use Rattle.std.specs.List.{flat_map}
use Rattle.reown_plan.specs.Spelling.{head}
use Rattle.reown_reverse.proofs.Reversing.{reversed-line}
use Rattle.reown_reverse.proofs.reverse.reversed_text.Given as goal

abbrev pub invariant-loop-planned : goal.invariant-loop-planned
invariant-loop-planned l = l.text.items ≡ head l.plan.host ++ flat_map reversed-line (take l.planned-index l.planned-items)
