use Rattle.std.proofs.Common.{◌≡◌, ◌++◌, take}
use Rattle.reown_plan.specs.Spelling.{head, lines}
use Rattle.reown_plan.specs.Target.{plan_of, name_at}
use Rattle.reown_plan.proofs.write.plan_text.Given as goal

abbrev pub invariant-loop-entry : goal.invariant-loop-entry
invariant-loop-entry l = record {
  planned : l.text.items ≡ head (name_at l.hosts l.owners.host) ++ lines (plan_of l.owners.site.now l.owners.mappings.now l.owners.host (take l.entry-index l.entry-items));
}
