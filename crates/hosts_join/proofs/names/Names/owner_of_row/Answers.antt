use Rattle.std.proofs.Common.{◌∙◌}
use Rattle.hosts_join.proofs.OwnerTables.{owner-tied, owner-within}
use Rattle.hosts_join.proofs.names.Names.owner_of_row.Goals as goal

pub returns-clause-tied : goal.returns-clause-tied
returns-clause-tied c =
    let e = c.get_near.ensures ∙ c.self.invariant.index.owners c.args.host c.args.number in
    rw (← c.self.view_is) (owner-tied _ c.args.host c.args.number c.get_near.result e c.self.invariant.once)

pub returns-clause-within : goal.returns-clause-within
returns-clause-within c =
    let e = c.get_near.ensures ∙ c.self.invariant.index.owners c.args.host c.args.number in
    rw (← c.self.view_is) (owner-within _ c.args.host c.args.number c.get_near.result e)
