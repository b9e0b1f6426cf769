-- What a refused certificate is told is so.
-- Source: the assignment problem (coverage and equal sums: Kuhn 1955, Munkres 1957); which faults
-- there are is this project's own rule.
use Rattle.std.specs.Prelude.{◌≡◌, ◌≢◌, ◌⊎◌, ℕ, ◌+◌, ◌<◌, true, false, List, length, Err}
use Rattle.std.specs.List.{Contains}
use Rattle.hosts_join.specs.declared.Which.{Which}
use Rattle.hosts_join.specs.declared.Which.TheVariants.{User, Group}
use Rattle.hosts_join.specs.declared.Class.TheVariants.{Pinned}
use Rattle.hosts_join.specs.Accounts.{Accounts}
use Rattle.hosts_join.specs.Rules.{account, class_at, in_pool, is_free_class}
use Rattle.hosts_join.specs.Site.{Joined}
use Rattle.ownership.specs.Files.{Added, File, by_group, by_user}
use Rattle.ownership.specs.Potentials.{potential_sum, value_at}
use Rattle.ownership.specs.Weights.{free_weight, weight}
use Rattle.certcheck.specs.Certificate.{Side}
use Rattle.certcheck.specs.Check.{answer, mapping_of, potentials_of}
use Rattle.certcheck.specs.Laws.{IsCertificate}
use Rattle.certcheck.specs.declared.certificate.Certificate.{Certificate}
use Rattle.certcheck.specs.declared.fault.CheckFault.{CheckFault}
use Rattle.certcheck.specs.declared.fault.CheckFault.TheVariants.{Memory, NameMissing, NumberTwice}
use Rattle.certcheck.specs.declared.fault.CheckFault.TheVariants.{NotCovered, OutsidePool}
use Rattle.certcheck.specs.declared.fault.CheckFault.TheVariants.{PinBroken, SumsDiffer}

-- one of the rows says this
abbrev pub HasRow : Side → List ℕ → ℕ → ℕ → Type 0
HasRow s name number y = Contains s.rows (record { name = name; number = number; y = y })

-- the certificate gives the name the number
abbrev pub HasNumber : Side → List ℕ → ℕ → Type 0
HasNumber s name number = (y : ℕ) × HasRow s name number y

-- and has a row of it
abbrev pub IsOfCertificate : Side → List ℕ → Type 0
IsOfCertificate s name = (number : ℕ) × HasNumber s name number

-- the name at the index of the site
abbrev pub IsNameAt : Accounts → ℕ → List ℕ → Type 0
IsNameAt a i name = (i < length a.names) × ((account a i).name ≡ name)

abbrev pub IsOfSite : Accounts → List ℕ → Type 0
IsOfSite a name = (i : ℕ) × IsNameAt a i name

-- exactly one of site and certificate has the name
abbrev pub IsInOne : Accounts → Side → List ℕ → Type 0
IsInOne a s name =
    (IsOfSite a name × ¬ IsOfCertificate s name) ⊎ (IsOfCertificate s name × ¬ IsOfSite a name)

-- two names have the number
pub record IsTwice (s : Side) (number : ℕ) : Type 0 where
  pub one : List ℕ
  pub other : List ℕ
  pub differ : one ≢ other
  pub one_has : HasNumber s one number
  pub other_has : HasNumber s other number

-- a free name has a number that is not in its pool
pub record IsOutsidePool (a : Accounts) (s : Side) (name : List ℕ) : Type 0 where
  pub index : ℕ
  pub named : IsNameAt a index name
  pub free : is_free_class (class_at a index) ≡ true
  pub number : ℕ
  pub has : HasNumber s name number
  pub outside : in_pool a (class_at a index) number ≡ false

-- a pinned name has a number that is not its pin
pub record IsPinBroken (a : Accounts) (s : Side) (name : List ℕ) : Type 0 where
  pub index : ℕ
  pub named : IsNameAt a index name
  pub pin : ℕ
  pub pinned : class_at a index ≡ Pinned pin
  pub number : ℕ
  pub has : HasNumber s name number
  pub broken : number ≢ pin

-- y and z are together less than what the number, one of the name's pool, weighs for the name
pub record IsNotCovered (a : Accounts) (files : List File) (s : Side) (name : List ℕ) (v : ℕ) :
    Type 0 where
  pub index : ℕ
  pub named : IsNameAt a index name
  pub may : in_pool a (class_at a index) v ≡ true
  pub number : ℕ
  pub y : ℕ
  pub has : HasRow s name number y
  pub less : y + value_at s.z v < weight a files index v

-- all potentials together, and what the mapping weighs, and they differ
pub record DoDiffer (a : Accounts) (files : List File) (s : Side) (total weighs : ℕ) :
    Type 0 where
  pub potentials : total ≡ potential_sum (potentials_of a s.rows) s.z
  pub mapping : weighs ≡ free_weight a files (mapping_of a s.rows)
  pub differ : total ≢ weighs

-- the fault is of the kind, and is there
abbrev pub IsThere : Which → Accounts → List File → Side → CheckFault → Type 0
IsThere kind a files s (NameMissing k name) = (k ≡ kind) × IsInOne a s name
IsThere kind a files s (NumberTwice k v) = (k ≡ kind) × IsTwice s v
IsThere kind a files s (OutsidePool k name) = (k ≡ kind) × IsOutsidePool a s name
IsThere kind a files s (PinBroken k name) = (k ≡ kind) × IsPinBroken a s name
IsThere kind a files s (NotCovered k name v) = (k ≡ kind) × IsNotCovered a files s name v
IsThere kind a files s (SumsDiffer k total weighs) = (k ≡ kind) × DoDiffer a files s total weighs
IsThere kind a files s Memory = ⊥

-- where a certificate is refused, the fault that is told is there, of users or of groups
abbrev pub ToldFaultIsThere : Type 0
ToldFaultIsThere =
    (site : Joined) (files : List Added) (c : Certificate) (fault : CheckFault) → IsCertificate c
    → answer site files c ≡ Err fault → IsThere User site.users (by_user files) c.users fault
    ⊎ IsThere Group site.groups (by_group files) c.groups fault
