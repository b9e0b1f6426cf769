use Rattle.std.proofs.Common.{◌≡◌, ◌++◌, take, flat_map}
use Rattle.unify_texts.specs.Report.{difference_line}
use Rattle.unify_texts.proofs.report.push_differences.Given as goal

abbrev pub invariant-loop-difference : goal.invariant-loop-difference
invariant-loop-difference l = l.out.items ≡ l.fn.out.items ++ flat_map difference_line (take l.difference-index l.told)
