-- No name has a reserved number, and so none has one that a host spares.
use Rattle.std.proofs.Common.{◌≡◌, ℕ, ◌<◌, true, false, List, length, Some, refl, sym, ap, subst, ◌∙◌}
use Rattle.std.specs.Option.{is_some}
use Rattle.std.specs.Str.{bytes_eq}
use Rattle.std.proofs.lemmas.Option.{same_Some}
use Rattle.hosts_join.specs.Accounts.{Account, Accounts, Pair, no_account}
use Rattle.hosts_join.specs.Laws.{LeavesOut}
use Rattle.hosts_join.specs.Pairs.{number_of}
use Rattle.hosts_join.specs.Rules.{account, class_at, is_name, is_reserved}
use Rattle.hosts_join.specs.declared.Class.{Class}
use Rattle.hosts_join.specs.declared.Class.TheVariants.{Pinned, Regular, System}
use Rattle.hosts_join.proofs.Grouping.{bytes_same}
use Rattle.hosts_join.proofs.Pairing.{place-holds}
use Rattle.mergedfiles.proofs.Places.{name-place}
use Rattle.ownership.specs.Mappings.{IsAdmissible, MayHave, number_at}
use Rattle.unify_texts.specs.WrittenMap.{SayMapping}

-- a name that stands among accounts is that of one of them
named_at : (a : Accounts) (n : List ℕ) → is_name a.names n ≡ true → (i : ℕ) × (i < length a.names) × (n ≡ (account a i).name)
named_at a n h =
    let at = name-place a.names n h in
    let holds = place-holds (λ (x : Account). bytes_eq n x.name) a.names at.0 no_account at.1 in
    (at.0, holds.0, bytes_same n (account a at.0).name holds.1)

-- a name that has a number has it by its index
pub numbered_at : (a : Accounts) (m : List ℕ) (pairs : List Pair) → SayMapping a m pairs → (n : List ℕ) (v : ℕ) → number_of pairs n ≡ Some v → (i : ℕ) × (i < length a.names) × (n ≡ (account a i).name) × (number_at m i ≡ v)
numbered_at a m pairs say n v h =
    let at = named_at a n (sym (say.names n) ∙ ap is_some h) in
    (at.0, at.1, at.2, same_Some (number_at m at.0) v (sym (say.numbers at.0 at.1) ∙ ap (number_of pairs) (sym at.2) ∙ h))

module _ (a : Accounts) (leaves : LeavesOut a (is_reserved a.reserved)) where
  may_not : (i v : ℕ) → i < length a.names → (c : Class) → class_at a i ≡ c → MayHave a c v → is_reserved a.reserved v ≡ false
  may_not i v within (Pinned p) is may = leaves.pins i v within (is ∙ ap Pinned (sym may))
  may_not i v within Regular is may = leaves.pools Regular v may
  may_not i v within System is may = leaves.pools System v may

  -- no name has a reserved number
  pub unreserved : (m : List ℕ) (pairs : List Pair) → IsAdmissible a m → SayMapping a m pairs → (n : List ℕ) (v : ℕ) → number_of pairs n ≡ Some v → is_reserved a.reserved v ≡ true → ⊥
  unreserved m pairs ok say n v h reserved =
      let at = numbered_at a m pairs say n v h in
      let free : is_reserved a.reserved v ≡ false = subst (λ w. is_reserved a.reserved w ≡ false) at.3 (may_not at.0 (number_at m at.0) at.1 (class_at a at.0) refl (ok.lawful at.0 at.1)) in
      absurd (cc)
