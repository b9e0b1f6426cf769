use Rattle.std.proofs.Common.{◌∙◌}
use Rattle.hosts_join.specs.declared.host.Host.{Host}
use Rattle.site_tables.proofs.Loading.{AreRead, primary_accepted, primary_refused}
use Rattle.site_tables.proofs.host.tables_at.Goals as goal
use Rattle.site_tables.proofs.host.tables_at.Goals.{After-none-2}

abbrev made : After-none-2 → Host
made c = record { name = c.new.result; ranges = c.in_ok-ranges.ranges; users = c.in_ok-users.users; groups = c.in_ok-groups.groups; spared_users = c.none.result; spared_groups = c.none-2.result }

are_read : (c : After-none-2) → AreRead c.args.text.now (made c)
are_read c = record {
  name = c.new.ensures ∙ c.bytes-name.ensures;
  ranges = rw (c.bytes-name.ensures, c.bytes.ensures) at c.in_ok-ranges.ensures.exact;
  users = rw (c.bytes-name.ensures, c.bytes-2.ensures) at c.in_ok-users.ensures.exact;
  groups = rw (c.bytes-name.ensures, c.bytes-3.ensures) at c.in_ok-groups.ensures.exact;
  spared_users = c.none.ensures;
  spared_groups = c.none-2.ensures;
}

pub returns-clause-accepted : goal.returns-clause-accepted
returns-clause-accepted c = let at = (goal.at.returns-clause-accepted c).After-none-2 in λ u h. primary_accepted c.args.text.now (made at) u (are_read at) h

pub returns-clause-unchecked : goal.returns-clause-unchecked
returns-clause-unchecked c = let at = (goal.at.returns-clause-unchecked c).After-none-2 in λ f h. primary_refused c.args.text.now (made at) f (are_read at) h
