-- Mappings of the users and of the groups of a site.
-- Source: the assignment problem.
use Rattle.std.specs.Prelude.{◌≡◌, length}
use Rattle.hosts_join.specs.Site.{Joined}
pub use Rattle.ownership.specs.Mapping.{number_at, number_under, MayHave, AreDistinct, IsMapping}
pub use Rattle.ownership.specs.Mapping.{IsAdmissible}
use Rattle.ownership.specs.declared.mapping.Mappings.{Mappings}

-- they have one number for each name of the site
pub record AreForSite (site : Joined) (m : Mappings) : Type 0 where
  pub users : length m.users ≡ length site.users.names
  pub groups : length m.groups ≡ length site.groups.names

pub record AreAdmissible (site : Joined) (m : Mappings) : Type 0 where
  pub users : IsAdmissible site.users m.users
  pub groups : IsAdmissible site.groups m.groups
