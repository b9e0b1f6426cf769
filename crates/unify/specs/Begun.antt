-- A site whose inventories have not come.
-- Source: this project's own rule.
use Rattle.std.specs.Prelude.{◌≡◌}
use Rattle.unify.specs.declared.site.JoinedSite.{JoinedSite}
use Rattle.unify.specs.declared.map_cost.MappedSite.{MappedSite}
use Rattle.site_tables.specs.Mapped.{BegunCost}
use Rattle.site_tables.specs.Begun.{AreTogether, BegunSite}
use Rattle.unify.specs.Passes.{at_start}

-- the hosts with their tables, and the accounts over all of them
pub record IsBegun (begun : BegunSite) (held : JoinedSite) : Type 0 where
  pub start : held.inventories ≡ at_start begun.hosts
  pub joined : held.site ≡ begun.joined
  pub whole : AreTogether begun.hosts begun.joined

-- the hosts with their tables, and the map
pub record IsBegunCost (begun : BegunCost) (held : MappedSite) : Type 0 where
  pub start : held.inventories ≡ at_start begun.hosts
  pub names : held.names ≡ begun.names
