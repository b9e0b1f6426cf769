use Rattle.hosts_join.specs.HostOwners.{place_in}
use Rattle.hosts_join.proofs.OwnerTables.{one-more}
use Rattle.hosts_join.proofs.owners.Owners.insert.Goals as goal

pub returns-clause-given : goal.returns-clause-given
returns-clause-given c =
    one-more place_in c.args.self.now.hosts.items c.args.host c.index_mut.result.now c.insert.new.self c.args.number c.args.place c.requires.among
    (λ v. rw (← c.index_mut.ensures.value) (c.in_ok-insert.ensures v))
