use Rattle.std.proofs.Common.{◌≡◌, ◌++◌, take, flat_map}
use Rattle.unify_texts.specs.ReservedLines.{reserved_line}
use Rattle.unify_texts.proofs.reserved.push_each_reserved.Given as goal

abbrev pub invariant-loop-one : goal.invariant-loop-one
invariant-loop-one l = l.out.items ≡ l.fn.out.items ++ flat_map (reserved_line l.kind) (take l.one-index l.reserved)
