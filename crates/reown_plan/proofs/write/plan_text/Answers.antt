use Rattle.std.proofs.Common.{◌<◌, ◌++◌, length, ap, ◌∙◌, rules}
use Rattle.reown_plan.specs.NewOwners.{target_of}
use Rattle.reown_plan.specs.OwnerChange.{line_of}
use Rattle.reown_plan.specs.Spelling.{head}
use Rattle.reown_plan.specs.Target.{name_at}
use Rattle.reown_plan.proofs.Writing.{one_line, text_more}
use Rattle.reown_plan.proofs.write.plan_text.Goals as goal

pub loop-entry-preserved : goal.loop-entry-preserved
loop-entry-preserved c =
    let within : c.loop-entry.entry-index < length c.entries-entry-items.result.now = search rules in
    let to = target_of c.args.owners.now in
    let entry = c.entry-item.result in
    let line = ap (λ change. line_of change entry.path) c.new-change.ensures ∙ one_line to entry in
    record {
      planned = text_more to (head (name_at c.args.hosts.now c.args.owners.now.host)) c.loop-entry.text.items _ _ c.loop-entry.entry-index entry within c.entry-item.is c.loop-entry.invariant.planned (c.in_ok-push_plan_entry.ensures.text ∙ ap (λ t. c.loop-entry.text.items ++ t) line);
    }
