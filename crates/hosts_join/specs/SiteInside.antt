-- What the fields of a site stand for.
-- Words of the code and not of the subject: only private contracts, views and invariants cite them.
use Rattle.hosts_join.specs.Site.{Joined, IsSite}
use Rattle.hosts_join.specs.declared.joining.Site.TheInside.{Inside}

abbrev pub site_of : Inside → Joined
site_of s = record { users = s.users; groups = s.groups; hosts = s.hosts }

abbrev pub IsSiteInside : Inside → Type 0
IsSiteInside s = IsSite (site_of s)
