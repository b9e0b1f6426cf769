-- What the counters tell is so of the files that they stand for.
use Rattle.std.proofs.Common.{◌≡◌, ℕ, ◌+◌, ◌*◌, ◌-◌, List, length, Option, Some, None, Result, Ok, Err, sym, ap, ◌∙◌, arith, subst}
use Rattle.std.specs.Prelude.{IfSome, IfErr}
use Rattle.std.specs.Result.{IsErrAnd}
use Rattle.idtext.specs.First.{Gives, or_else, unless}
use Rattle.hosts_join.specs.declared.Which.{Which}
use Rattle.hosts_join.specs.declared.Which.TheVariants.{User, Group}
use Rattle.hosts_join.specs.Accounts.{Accounts, lines}
use Rattle.hosts_join.specs.Lawful.{AreLawfulAccounts}
use Rattle.hosts_join.specs.Rules.{account}
use Rattle.hosts_join.specs.Site.{Joined}
use Rattle.ownership.specs.Costs.{cost_of, site_cost}
use Rattle.ownership.specs.Counts.{AreWithin, Counted, CountFiles, StandsFor, Tally, told_kept, told_total}
use Rattle.ownership.specs.Files.{Added, File, by_group, by_user, kept, total}
use Rattle.ownership.specs.Mappings.{number_at}
use Rattle.ownership.specs.Weights.{file_weight, told_weight, weight}
use Rattle.ownership.proofs.CostLemmas.{cost-by-names, kept-le-total}
use Rattle.ownership.proofs.SumsBelow.{sum_below-same}
use Rattle.certcheck.specs.Certificate.{IsSide, Side}
use Rattle.certcheck.specs.declared.certificate.Certificate.{Certificate}
use Rattle.certcheck.specs.declared.fault.CheckFault.{CheckFault}
use Rattle.certcheck.specs.Certified.{AreCertified, IsAccepted, IsCertified}
use Rattle.certcheck.specs.Check.{answer, kind_fault, mapping_of, mappings_of}
use Rattle.certcheck.specs.OneKind.{AreBounded, kind_answer, told_cost}
use Rattle.certcheck.specs.Told.{told}
use Rattle.certcheck.proofs.SameWeights.{kind_fault-same}
use Rattle.certcheck.proofs.Yes.{accepted_is_certified, both_clear, kind_clear, unless_ok}

-- no counter is above the files of its name
bounded : (a : Accounts) (tallies : List Tally) (files : List File) → CountFiles a.names tallies files → AreWithin tallies 2147483648 → AreBounded a tallies
bounded a tallies files count few = record {
  kept_le = λ i v l. let less = kept-le-total a.names files i v in omega (arith, less, count.kept_is i v l, count.total_is i l);
  total_le = few.total_le;
}

-- the same, where accounts and counters were handed on
pub bounded_at : (a a' : Accounts) (tallies tallies' : List Tally) (files : List File) → a ≡ a' → tallies ≡ tallies' → CountFiles a'.names tallies' files → AreWithin tallies 2147483648 → AreBounded a tallies
bounded_at a a' tallies tallies' files ea et count few =
    let P : Accounts → Type 0 = λ x. CountFiles x.names tallies' files in
    let Q : List Tally → Type 0 = λ t. CountFiles a.names t files in
    bounded a tallies files (subst Q (sym et) (subst P (sym ea) count)) few

-- what the counters tell is what the files weigh, and so the first fault is theirs
fault_is_theirs : (kind : Which) (a : Accounts) (tallies : List Tally) (files : List File) (s : Side) → CountFiles a.names tallies files → kind_fault kind a (told_weight a tallies) s ≡ kind_fault kind a (weight a files) s
fault_is_theirs kind a tallies files s count = kind_fault-same a (told_weight a tallies) (weight a files) (λ i v l. ap (λ k. file_weight a * k + lines (account a i) v) (count.kept_is i v l)) kind s

-- and so is the cost
cost_is_theirs : (a : Accounts) (tallies : List Tally) (files : List File) (m : List ℕ) → AreLawfulAccounts a → CountFiles a.names tallies files → told_cost a tallies m ≡ cost_of a files m
cost_is_theirs a tallies files m lawful count =
    sum_below-same (λ i. told_total tallies i - told_kept tallies i (number_at m i)) (λ i. total a.names files i - kept a.names files i (number_at m i)) (length a.names) (λ i l. let t = count.total_is i l in let k = count.kept_is i (number_at m i) l in omega (arith, t, k))
    ∙ sym (cost-by-names a lawful files m)

-- What a kind answered, where accounts and counters were handed on.
answer_at : (kind : Which) (a a' : Accounts) (k k' : List Tally) (s : Side) → a ≡ a' → k ≡ k' → kind_answer kind a' k' s ≡ kind_answer kind a k s
answer_at kind a a' k k' s ea ek = sym (ap (λ x. kind_answer kind x k s) ea ∙ ap (λ t. kind_answer kind a' t s) ek)

lawful_at : (a a' : Accounts) → a ≡ a' → AreLawfulAccounts a → AreLawfulAccounts a'
lawful_at a a' e lawful = let P : Accounts → Type 0 = λ x. AreLawfulAccounts x in subst P e lawful

unless_err : (o : Option CheckFault) (x : ℕ) (f : CheckFault) → unless o x ≡ Err f → o ≡ Some f
unless_err None x f h = absurd (cc)
unless_err (Some g) x f h = let same : g ≡ f = cc in ap (λ (e : CheckFault). Some e) same

-- a kind that answered a cost
pub record IsClear (kind : Which) (a : Accounts) (k : List Tally) (s : Side) (n : ℕ) : Type 0 where
  pub lawful : AreLawfulAccounts a
  pub side : IsSide s
  pub clear : kind_fault kind a (told_weight a k) s ≡ None
  pub cost : n ≡ told_cost a k (mapping_of a s.rows)

pub clear_at : (kind : Which) (a a' : Accounts) (k k' : List Tally) (s : Side) (n : ℕ) → a ≡ a' → k ≡ k' → AreLawfulAccounts a → IsSide s → kind_answer kind a k s ≡ Ok n → IsClear kind a' k' s n
clear_at kind a a' k k' s n ea ek lawful side h =
    let clear = unless_ok (kind_fault kind a' (told_weight a' k') s) (told_cost a' k' (mapping_of a' s.rows)) n (answer_at kind a a' k k' s ea ek ∙ h) in
    record { lawful = lawful_at a a' ea lawful; side = side; clear = clear.0; cost = clear.1 }

-- a kind that answered a fault
pub record HasFault (kind : Which) (a : Accounts) (k : List Tally) (s : Side) (f : CheckFault) : Type 0 where
  pub lawful : AreLawfulAccounts a
  pub side : IsSide s
  pub fault : IfSome (told f) (λ g. kind_fault kind a (told_weight a k) s ≡ Some g)

if_some : {X : Type 0} (A B : X → Type 0) (o : Option X) → ((x : X) → A x → B x) → IfSome o A → IfSome o B
if_some A B None f h = tt
if_some A B (Some x) f h = f x h

pub fault_at : (kind : Which) (a a' : Accounts) (k k' : List Tally) (s : Side) (f : CheckFault) → a ≡ a' → k ≡ k' → AreLawfulAccounts a → IsSide s → IfSome (told f) (λ g. kind_answer kind a k s ≡ Err g) → HasFault kind a' k' s f
fault_at kind a a' k k' s f ea ek lawful side h = record {
  lawful = lawful_at a a' ea lawful;
  side = side;
  fault = if_some (λ g. kind_answer kind a k s ≡ Err g) (λ g. kind_fault kind a' (told_weight a' k') s ≡ Some g) (told f) (λ g e. unless_err (kind_fault kind a' (told_weight a' k') s) (told_cost a' k' (mapping_of a' s.rows)) g (answer_at kind a a' k k' s ea ek ∙ e)) h;
}

-- 1. Both kinds answered a cost

module _ (site : Joined) (counts : Counted) (c : Certificate) (n m : ℕ) (users : IsClear User site.users counts.users c.users n) (groups : IsClear Group site.groups counts.groups c.groups m) (files : List Added) (stands : StandsFor site counts files) where
  pub cost_answered : answer site files c ≡ Ok (n + m)
  cost_answered =
      let one = cost_is_theirs site.users counts.users (by_user files) (mapping_of site.users c.users.rows) users.lawful stands.users in
      let two = cost_is_theirs site.groups counts.groups (by_group files) (mapping_of site.groups c.groups.rows) groups.lawful stands.groups in
      let same : site_cost site files (mappings_of site c) ≡ n + m = omega (arith, one, two, users.cost, groups.cost) in
      both_clear site files c
      (sym (fault_is_theirs User site.users counts.users (by_user files) c.users stands.users) ∙ users.clear)
      (sym (fault_is_theirs Group site.groups counts.groups (by_group files) c.groups stands.groups) ∙ groups.clear)
      ∙ ap (λ (k : ℕ). Ok k) same

  pub accepted : IsAccepted site files c (n + m)
  accepted = accepted_is_certified site files c (n + m) users.lawful groups.lawful users.side groups.side cost_answered

-- 2. A kind answered a fault

giving : (r told' : Result ℕ CheckFault) (f : CheckFault) → IsErrAnd r (λ e. e ≡ f) → IfSome (told f) (λ g. told' ≡ Err g) → Gives (λ cost. cost) told r told'
giving (Ok n) told' f is h = absurd is
giving (Err e) told' f is h = let P : CheckFault → Type 0 = λ x. IfSome (told x) (λ g. told' ≡ Err g) in subst P (sym is) h

abbrev pub IsRefusal : Joined → Counted → Certificate → Result ℕ CheckFault → Type 0
IsRefusal site counts c r = IfErr r (λ e. IfSome (told e) (λ x. (files : List Added) → StandsFor site counts files → AreCertified site files c → ⊥))

refusing : (B : CheckFault → Type 0) (r : Result ℕ CheckFault) (f : CheckFault) → IsErrAnd r (λ e. e ≡ f) → B f → IfErr r B
refusing B (Ok n) f is h = tt
refusing B (Err e) f is h = subst B (sym is) h

-- a kind with a fault is not certified
not_certified : (kind : Which) (a : Accounts) (k : List Tally) (s : Side) (g : CheckFault) (files : List File) → AreLawfulAccounts a → IsSide s → CountFiles a.names k files → kind_fault kind a (told_weight a k) s ≡ Some g → IsCertified a files s → ⊥
not_certified kind a k s g files lawful side count e certified =
    let off : None ≡ Some g = sym (kind_clear kind a files s lawful side certified) ∙ sym (fault_is_theirs kind a k files s count) ∙ e in
    absurd (cc)

module _ (site : Joined) (counts : Counted) (c : Certificate) (f : CheckFault) (r : Result ℕ CheckFault) (is : IsErrAnd r (λ e. e ≡ f)) where
  pub user_fault_answered : HasFault User site.users counts.users c.users f → (files : List Added) → StandsFor site counts files → Gives (λ cost. cost) told r (answer site files c)
  user_fault_answered fails files stands = giving r (answer site files c) f is
      (if_some (λ g. kind_fault User site.users (told_weight site.users counts.users) c.users ≡ Some g) (λ g. answer site files c ≡ Err g) (told f)
      (λ g e. ap (λ o. unless (or_else o (kind_fault Group site.groups (weight site.groups (by_group files)) c.groups)) (site_cost site files (mappings_of site c))) (sym (fault_is_theirs User site.users counts.users (by_user files) c.users stands.users) ∙ e))
      fails.fault)

  pub group_fault_answered : (n : ℕ) → IsClear User site.users counts.users c.users n → HasFault Group site.groups counts.groups c.groups f → (files : List Added) → StandsFor site counts files → Gives (λ cost. cost) told r (answer site files c)
  group_fault_answered n clear fails files stands = giving r (answer site files c) f is
      (if_some (λ g. kind_fault Group site.groups (told_weight site.groups counts.groups) c.groups ≡ Some g) (λ g. answer site files c ≡ Err g) (told f)
      (λ g e. ap (λ o. unless (or_else o (kind_fault Group site.groups (weight site.groups (by_group files)) c.groups)) (site_cost site files (mappings_of site c))) (sym (fault_is_theirs User site.users counts.users (by_user files) c.users stands.users) ∙ clear.clear)
      ∙ ap (λ o. unless o (site_cost site files (mappings_of site c))) (sym (fault_is_theirs Group site.groups counts.groups (by_group files) c.groups stands.groups) ∙ e))
      fails.fault)

  pub users_refused : HasFault User site.users counts.users c.users f → IsRefusal site counts c r
  users_refused fails = refusing (λ e. IfSome (told e) (λ x. (files : List Added) → StandsFor site counts files → AreCertified site files c → ⊥)) r f is
      (if_some (λ g. kind_fault User site.users (told_weight site.users counts.users) c.users ≡ Some g) (λ g. (files : List Added) → StandsFor site counts files → AreCertified site files c → ⊥) (told f)
      (λ g e files stands certified. not_certified User site.users counts.users c.users g (by_user files) fails.lawful fails.side stands.users e certified.users)
      fails.fault)

  pub groups_refused : HasFault Group site.groups counts.groups c.groups f → IsRefusal site counts c r
  groups_refused fails = refusing (λ e. IfSome (told e) (λ x. (files : List Added) → StandsFor site counts files → AreCertified site files c → ⊥)) r f is
      (if_some (λ g. kind_fault Group site.groups (told_weight site.groups counts.groups) c.groups ≡ Some g) (λ g. (files : List Added) → StandsFor site counts files → AreCertified site files c → ⊥) (told f)
      (λ g e files stands certified. not_certified Group site.groups counts.groups c.groups g (by_group files) fails.lawful fails.side stands.groups e certified.groups)
      fails.fault)
