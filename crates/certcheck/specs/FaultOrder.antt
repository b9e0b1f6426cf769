-- Which fault a refused certificate is told: the first of those that are there.
-- Source: this project's own rule.
use Rattle.std.specs.Prelude.{◌≡◌, ◌⊎◌, ℕ, ◌<◌, List, Err}
use Rattle.hosts_join.specs.declared.Which.{Which}
use Rattle.hosts_join.specs.declared.Which.TheVariants.{User, Group}
use Rattle.hosts_join.specs.Accounts.{Accounts}
use Rattle.hosts_join.specs.Lawful.{AreLawfulAccounts}
use Rattle.hosts_join.specs.Site.{Joined}
use Rattle.ownership.specs.Files.{Added, File, by_group, by_user}
use Rattle.certcheck.specs.Certificate.{ComesBefore, Side}
use Rattle.certcheck.specs.Check.{answer}
use Rattle.certcheck.specs.Laws.{IsCertificate}
use Rattle.certcheck.specs.Refused.{IsThere}
use Rattle.certcheck.specs.declared.certificate.Certificate.{Certificate}
use Rattle.certcheck.specs.declared.fault.CheckFault.{CheckFault}
use Rattle.certcheck.specs.declared.fault.CheckFault.TheVariants.{Memory, NameMissing, NumberTwice}
use Rattle.certcheck.specs.declared.fault.CheckFault.TheVariants.{NotCovered, OutsidePool}
use Rattle.certcheck.specs.declared.fault.CheckFault.TheVariants.{PinBroken, SumsDiffer}

-- the number of the fault in the table of faults, where want of memory has none
abbrev pub fault_number : CheckFault → ℕ
fault_number (NameMissing kind name) = 29
fault_number (NumberTwice kind v) = 30
fault_number (OutsidePool kind name) = 31
fault_number (PinBroken kind name) = 32
fault_number (NotCovered kind name v) = 33
fault_number (SumsDiffer kind total weighs) = 34
fault_number Memory = 0

-- of two faults with one number, the first is of a lesser name or account number
abbrev pub IsOfLesser : CheckFault → CheckFault → Type 0
IsOfLesser (NameMissing k name) (NameMissing j other) = ComesBefore name other
IsOfLesser (NumberTwice k v) (NumberTwice j u) = v < u
IsOfLesser (OutsidePool k name) (OutsidePool j other) = ComesBefore name other
IsOfLesser (PinBroken k name) (PinBroken j other) = ComesBefore name other
IsOfLesser (NotCovered k name v) (NotCovered j other u) =
    ComesBefore name other ⊎ ((name ≡ other) × (v < u))
IsOfLesser one other = ⊥

-- the order of the faults of one kind
abbrev pub StandsBefore : CheckFault → CheckFault → Type 0
StandsBefore one other = (fault_number one < fault_number other) ⊎ IsOfLesser one other

-- the fault is there, and none of the kind that stands before it
pub record IsFirst (kind : Which) (a : Accounts) (files : List File) (s : Side)
    (told : CheckFault) : Type 0 where
  pub there : IsThere kind a files s told
  pub none_before : (other : CheckFault) → StandsBefore other told
      → ¬ IsThere kind a files s other

-- no fault of the kind is there
abbrev pub HasNoFault : Which → Accounts → List File → Side → Type 0
HasNoFault kind a files s = (fault : CheckFault) → ¬ IsThere kind a files s fault

-- Where a certificate is refused, the first fault is told: that of users, or, where they have none,
-- that of groups.
abbrev pub FirstFaultIsTold : Type 0
FirstFaultIsTold =
    (site : Joined) (files : List Added) (c : Certificate) (told : CheckFault)
    → AreLawfulAccounts site.users → AreLawfulAccounts site.groups → IsCertificate c
    → answer site files c ≡ Err told → IsFirst User site.users (by_user files) c.users told
    ⊎ (HasNoFault User site.users (by_user files) c.users
    × IsFirst Group site.groups (by_group files) c.groups told)
