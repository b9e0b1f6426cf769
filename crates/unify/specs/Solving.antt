-- What the solver gives for one kind, with its certificate.
-- Words of the code and not of the subject: only private contracts, views and invariants cite them.
use Rattle.std.specs.Prelude.{◌≡◌, ℕ, List}
use Rattle.hosts_join.specs.Accounts.{Accounts}
use Rattle.ownership.specs.Costs.{IsOptimal}
use Rattle.ownership.specs.Files.{File}
use Rattle.ownership.specs.Mappings.{IsAdmissible}
use Rattle.ownership.specs.Weights.{IsFilled, IsFresh}
use Rattle.certcheck.specs.Certificate.{Side, IsSide}
use Rattle.certcheck.specs.Certified.{IsCertified}
use Rattle.certcheck.specs.Check.{mapping_of}

-- a mapping that costs the least, filled, and the side of a certificate that gives and certifies it
pub record IsSolved (a : Accounts) (files : List File) (m : List ℕ) (side : Side) : Type 0 where
  pub admissible : IsAdmissible a m
  pub optimal : IsOptimal a files m
  pub filled : IsFilled a (IsFresh a files m) m
  pub given : mapping_of a side.rows ≡ m
  pub certified : IsCertified a files side
  pub ordered : IsSide side
