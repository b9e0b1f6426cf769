-- What a yes of the check means.
-- Source: the assignment problem, with its weak duality (Kuhn 1955, Munkres 1957); changed rows are
-- this project's own rule.
use Rattle.std.specs.Prelude.{◌≡◌, ℕ, List, Ok}
use Rattle.hosts_join.specs.Accounts.{Accounts}
use Rattle.hosts_join.specs.Lawful.{AreLawfulAccounts}
use Rattle.hosts_join.specs.Rules.{is_name}
use Rattle.hosts_join.specs.Site.{Joined}
use Rattle.ownership.specs.Costs.{AreLeast, IsOptimal, site_cost}
use Rattle.ownership.specs.Files.{File, Added, by_user, by_group}
use Rattle.ownership.specs.Mappings.{IsAdmissible}
use Rattle.ownership.specs.Potentials.{AreCertifying}
use Rattle.certcheck.specs.Certificate.{IsSide, Side}
use Rattle.certcheck.specs.Check.{answer, is_listed, mapping_of, mappings_of, potentials_of}
use Rattle.certcheck.specs.declared.certificate.Certificate.{Certificate}

-- the rows have exactly the site's names, their mapping is admissible, and their y and z are
-- certifying potentials for it
pub record IsCertified (a : Accounts) (files : List File) (s : Side) : Type 0 where
  pub names : (n : List ℕ) → is_name a.names n ≡ is_listed s.rows n
  pub admissible : IsAdmissible a (mapping_of a s.rows)
  pub certifying : AreCertifying a files (mapping_of a s.rows) (potentials_of a s.rows) s.z

-- so for both kinds
pub record AreCertified (site : Joined) (files : List Added) (c : Certificate) : Type 0 where
  pub users : IsCertified site.users (by_user files) c.users
  pub groups : IsCertified site.groups (by_group files) c.groups

-- No admissible pair of mappings costs less, and none of the same cost for a kind changes fewer
-- account rows of it.
pub record AreBest (site : Joined) (files : List Added) (c : Certificate) : Type 0 where
  pub least : AreLeast site files (mappings_of site c)
  pub users : IsOptimal site.users (by_user files) (mapping_of site.users c.users.rows)
  pub groups : IsOptimal site.groups (by_group files) (mapping_of site.groups c.groups.rows)

-- What a yes proves, where this cost is told.
pub record IsAccepted (site : Joined) (files : List Added) (c : Certificate) (told : ℕ) :
    Type 0 where
  pub certified : AreCertified site files c
  pub best : AreBest site files c
  pub cost : told ≡ site_cost site files (mappings_of site c)

abbrev pub AcceptedIsCertified : Type 0
AcceptedIsCertified =
    (site : Joined) (files : List Added) (c : Certificate) (cost : ℕ) → AreLawfulAccounts site.users
    → AreLawfulAccounts site.groups → IsSide c.users → IsSide c.groups
    → answer site files c ≡ Ok cost → IsAccepted site files c cost

-- A certificate that certifies is accepted.
abbrev pub CertifiedIsAccepted : Type 0
CertifiedIsAccepted =
    (site : Joined) (files : List Added) (c : Certificate) → AreLawfulAccounts site.users
    → AreLawfulAccounts site.groups → IsSide c.users → IsSide c.groups → AreCertified site files c
    → answer site files c ≡ Ok (site_cost site files (mappings_of site c))
