use Rattle.hosts_join.specs.Index.{accounts_in}
use Rattle.hosts_join.proofs.NameOrder.{all-within}
use Rattle.hosts_join.proofs.names.Names.in_byte_order.Goals as goal

pub returns-clause-within : goal.returns-clause-within
returns-clause-within c = rw (← c.self.view_is, c.as_slice.ensures.value) (all-within (accounts_in c.self.inside.index) c.self.inside.order.items c.self.invariant.order)
