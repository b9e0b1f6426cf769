use Rattle.std.proofs.Common.{ap, ◌∙◌}
use Rattle.unify.specs.RowFiles.{RowFiles}
use Rattle.unify.proofs.FileCounts.{groups_more, groups_room, users_more, users_room}
use Rattle.unify.proofs.row_files.count_at.Goals as goal

pub add_one-requires-clause-room : goal.add_one-requires-clause-room
add_one-requires-clause-room c =
    let here = c.requires in
    users_room here.0 here.1 c.args.places.now.user here.2 c.rows.inside.users.items 2147483648 (ap (λ (r : RowFiles). r.users) (c.rows.view_is ∙ here.4)) here.5

pub add_one-requires-2-clause-room : goal.add_one-requires-2-clause-room
add_one-requires-2-clause-room c =
    let here = c.requires in
    groups_room here.0 here.1 c.args.places.now.group here.2 c.rows.inside.groups.items 2147483648 (ap (λ (r : RowFiles). r.groups) (c.rows.view_is ∙ here.4)) here.5

pub returns : goal.returns
returns c = λ host file files owns is.
    let users = users_more host file c.args.places.now.user files c.rows.inside.users.items c.add_one.new.files.items owns.users owns.user (ap (λ (r : RowFiles). r.users) (c.rows.view_is ∙ is)) c.add_one.ensures.counted c.add_one.ensures.stays in
    let groups = groups_more host file c.args.places.now.group files c.rows.inside.groups.items c.add_one-2.new.files.items owns.groups owns.group (ap (λ (r : RowFiles). r.groups) (c.rows.view_is ∙ is)) c.add_one-2.ensures.counted c.add_one-2.ensures.stays in
    λ i. record { users = users i; groups = groups i }
