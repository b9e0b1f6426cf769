use Rattle.std.proofs.Common.{◌≡◌, ◌++◌}
use Rattle.std.specs.Slice.Iter.{iter_rest}
use Rattle.std.specs.Iterator.Adapters.{zip_first, zip_second}
use Rattle.unify_merge.specs.SecondReading.{plan_files}
use Rattle.unify_bundle.specs.Lines.{named_lines}
use Rattle.unify_bundle.proofs.merge_text.push_plans.Given as goal

-- what is pushed and what is left are all plans
abbrev pub invariant-loop-host : goal.invariant-loop-host
invariant-loop-host l = l.out.items ++ named_lines (plan_files (iter_rest (zip_first l.host-iterator)) (iter_rest (zip_second l.host-iterator))) ≡ l.fn.out.items ++ named_lines (plan_files l.hosts l.plans)
