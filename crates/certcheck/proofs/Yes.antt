-- What a yes means: certified, and so the best; and where both kinds are certified the answer is yes.
use Rattle.std.proofs.Common.{◌≡◌, ℕ, List, Option, Some, None, Ok, refl, ap, ◌∙◌, arith}
use Rattle.std.proofs.lemmas.List.{length-map}
use Rattle.idtext.specs.First.{or_else, unless}
use Rattle.hosts_join.specs.declared.Which.{Which}
use Rattle.hosts_join.specs.declared.Which.TheVariants.{User, Group}
use Rattle.hosts_join.specs.Accounts.{Accounts}
use Rattle.hosts_join.specs.Lawful.{AreLawfulAccounts}
use Rattle.hosts_join.specs.Site.{Joined}
use Rattle.ownership.specs.Costs.{IsOptimal, site_cost}
use Rattle.ownership.specs.Files.{Added, File, by_group, by_user}
use Rattle.ownership.specs.Weights.{weight}
use Rattle.ownership.proofs.Optimal.{certified_is_optimal}
use Rattle.certcheck.specs.Certificate.{IsSide, Side}
use Rattle.certcheck.specs.declared.certificate.Certificate.{Certificate}
use Rattle.certcheck.specs.declared.fault.CheckFault.{CheckFault}
use Rattle.certcheck.specs.Certified.{AcceptedIsCertified, AreBest, AreCertified, CertifiedIsAccepted, IsCertified}
use Rattle.certcheck.specs.Check.{answer, kind_fault, mapping_of, mappings_of}
use Rattle.certcheck.proofs.Exact.{IsCertifiedBy, certified_from, no_fault_from}
use Rattle.certcheck.proofs.Least.{none_both}

-- a kind without a fault is certified, and a certified kind has none
kind_certified : (kind : Which) (a : Accounts) (files : List File) (s : Side) → AreLawfulAccounts a → IsSide s → kind_fault kind a (weight a files) s ≡ None → IsCertified a files s
kind_certified kind a files s lawful side clear =
    let by : IsCertifiedBy a (weight a files) s = certified_from kind a (weight a files) s lawful side clear in
    record {
      names = by.names;
      admissible = by.admissible;
      certifying = record { len = length-map a.names _; cover = by.cover; equal = by.equal };
    }

pub kind_clear : (kind : Which) (a : Accounts) (files : List File) (s : Side) → AreLawfulAccounts a → IsSide s → IsCertified a files s → kind_fault kind a (weight a files) s ≡ None
kind_clear kind a files s lawful side certified = no_fault_from kind a (weight a files) s lawful side (record {
  names = certified.names;
  admissible = certified.admissible;
  cover = certified.certifying.cover;
  equal = certified.certifying.equal;
})

kind_optimal : (a : Accounts) (files : List File) (s : Side) → AreLawfulAccounts a → IsCertified a files s → IsOptimal a files (mapping_of a s.rows)
kind_optimal a files s lawful certified = certified_is_optimal a files _ _ s.z lawful certified.admissible certified.certifying

-- both kinds are certified, and so the mappings are the best
certified_best : (site : Joined) (files : List Added) (c : Certificate) → AreLawfulAccounts site.users → AreLawfulAccounts site.groups → AreCertified site files c → AreBest site files c
certified_best site files c users groups certified =
    let one = kind_optimal site.users (by_user files) c.users users certified.users in
    let two = kind_optimal site.groups (by_group files) c.groups groups certified.groups in
    record {
      least = record {
        admissible = record { users = certified.users.admissible; groups = certified.groups.admissible };
        least = λ other may. omega (arith, one.least other.users may.users, two.least other.groups may.groups);
      };
      users = one;
      groups = two;
    }

pub unless_ok : (o : Option CheckFault) (x n : ℕ) → unless o x ≡ Ok n → (o ≡ None) × (n ≡ x)
unless_ok None x n h = let same : n ≡ x = cc in (refl, same)
unless_ok (Some f) x n h = absurd (cc)

pub accepted_is_certified : AcceptedIsCertified
accepted_is_certified site files c cost users groups user_side group_side is_ok =
    let user_fault = kind_fault User site.users (weight site.users (by_user files)) c.users in
    let group_fault = kind_fault Group site.groups (weight site.groups (by_group files)) c.groups in
    let told = unless_ok (or_else user_fault group_fault) (site_cost site files (mappings_of site c)) cost is_ok in
    let none = none_both user_fault group_fault told.0 in
    let certified : AreCertified site files c = record {
      users = kind_certified User site.users (by_user files) c.users users user_side none.0;
      groups = kind_certified Group site.groups (by_group files) c.groups groups group_side none.1;
    } in
    record { certified = certified; best = certified_best site files c users groups certified; cost = told.1 }

-- no fault of either kind
pub both_clear : (site : Joined) (files : List Added) (c : Certificate) → kind_fault User site.users (weight site.users (by_user files)) c.users ≡ None → kind_fault Group site.groups (weight site.groups (by_group files)) c.groups ≡ None → answer site files c ≡ Ok (site_cost site files (mappings_of site c))
both_clear site files c users groups =
    ap (λ o. unless (or_else o (kind_fault Group site.groups (weight site.groups (by_group files)) c.groups)) (site_cost site files (mappings_of site c))) users
    ∙ ap (λ o. unless o (site_cost site files (mappings_of site c))) groups

pub certified_is_accepted : CertifiedIsAccepted
certified_is_accepted site files c users groups user_side group_side certified =
    both_clear site files c
    (kind_clear User site.users (by_user files) c.users users user_side certified.users)
    (kind_clear Group site.groups (by_group files) c.groups groups group_side certified.groups)
