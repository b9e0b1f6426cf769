use Rattle.std.proofs.Common.{ap, ◌∙◌}
use Rattle.kept_accounts.specs.Reserving.{UnownedNumbers, reserved_groups, reserved_users}
use Rattle.kept_accounts.proofs.ReservedLemmas.{keeping_decides}
use Rattle.site_tables.proofs.others.reserve.Goals as goal

pub returns-clause-users : goal.returns-clause-users
returns-clause-users c =
    let decided = keeping_decides c.args.keep.now c.args.hosts.now c.args.kept.now.users c.args.kept.now.groups c.requires.users c.requires.groups in
    c.in_ok-users.ensures ∙ decided.uids c.deref.result.now ∙ ap (reserved_users c.args.keep.now c.args.hosts.now) (c.deref.ensures.value ∙ ap (λ (u : UnownedNumbers). u.users) c.unowned.view_is)

pub returns-clause-groups : goal.returns-clause-groups
returns-clause-groups c =
    let decided = keeping_decides c.args.keep.now c.args.hosts.now c.args.kept.now.users c.args.kept.now.groups c.requires.users c.requires.groups in
    c.in_ok-groups.ensures ∙ decided.gids c.deref-2.result.now ∙ ap (reserved_groups c.args.keep.now c.args.hosts.now) (c.deref-2.ensures.value ∙ ap (λ (u : UnownedNumbers). u.groups) c.unowned.view_is)
