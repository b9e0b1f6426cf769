use Rattle.std.proofs.Common.{◌∙◌, ◌++◌, ap}
use Rattle.accounts.specs.Rows.{members_of}
use Rattle.mergedfiles.specs.Seen.{group_seen, texts_of}
use Rattle.mergedfiles.specs.declared.rows.GroupOn.{GroupOn}
use Rattle.mergedfiles.proofs.Steps.{members_more}
use Rattle.mergedfiles.proofs.group.members.Goals as goal

pub loop-group-preserved : goal.loop-group-preserved
loop-group-preserved c =
    members_more c.args.groups.now c.loop-group.group-index c.group-item.result _ _ c.loop-group-test.true c.loop-group.invariant
    (c.in_ok-push_members.ensures ∙ ap (λ (g : GroupOn). texts_of c.loop-group.users.items ++ members_of (group_seen g).row.members) c.group-item.is)
