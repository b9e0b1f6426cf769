use Rattle.unify.specs.Outcomes.{user_files, group_files}
use Rattle.unify.proofs.Merged.{both_answered}
use Rattle.unify.proofs.merging.solve_site.Goals as goal

pub returns-clause-answered : goal.returns-clause-answered
returns-clause-answered c = λ whole joined counted.
    let users = (rw (c.users.ensures, c.users-2.ensures.users, joined) at c.in_ok-users.ensures.solved) (user_files whole) counted.users in
    let groups = (rw (c.groups.ensures, c.groups-2.ensures.groups, joined) at c.in_ok-groups.ensures.solved) (group_files whole) counted.groups in
    both_answered whole c.in_ok-users.users.mapping c.in_ok-groups.groups.mapping c.in_ok-users.users.side c.in_ok-groups.groups.side users groups
