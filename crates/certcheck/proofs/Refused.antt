-- What a refused certificate is told is so.
use Rattle.std.proofs.Common.{◌≡◌, ◌≢◌, ◌⊎◌, ℕ, ◌+◌, ◌<◌, ◌^◌, Bool, true, false, not, cond, eqb, ltb, List, map, filter, count_by, Contains, get_or, Option, Some, None, Err, refl, sym, ap, ◌∙◌, subst, inl, inr, arith, bytes_eq}
use Rattle.std.specs.Option.{option_map}
use Rattle.std.proofs.lemmas.Bool.{and_parts, eqb-true, eq-eqb, ltb-true, false≢true, not-true}
use Rattle.std.proofs.lemmas.List.{get_or_default}
use Rattle.std.proofs.lemmas.List.Elements.{Contains-append_cases}
use Rattle.std.proofs.lemmas.Slice.Eq.{bytes_eq-Decides}
use Rattle.idtext.specs.First.{unless}
use Rattle.hosts_join.specs.declared.Which.{Which}
use Rattle.hosts_join.specs.declared.Which.TheVariants.{User, Group}
use Rattle.hosts_join.specs.declared.Class.{Class}
use Rattle.hosts_join.specs.declared.Class.TheVariants.{Pinned, Regular, System}
use Rattle.hosts_join.specs.Accounts.{Account, Accounts, no_account, place_of}
use Rattle.hosts_join.specs.Rules.{account, class_at, in_pool, is_free_class, is_name}
use Rattle.ownership.specs.Files.{File, by_group, by_user}
use Rattle.ownership.specs.Potentials.{potential_sum, value_at}
use Rattle.ownership.specs.Weights.{weight}
use Rattle.certcheck.specs.declared.fault.CheckFault.{CheckFault}
use Rattle.certcheck.specs.declared.fault.CheckFault.TheVariants.{NameMissing, NumberTwice, OutsidePool, PinBroken, NotCovered, SumsDiffer}
use Rattle.certcheck.specs.Certificate.{IsSide, Row, Side}
use Rattle.certcheck.specs.Check.{breaks_pin, broken, is_listed, is_outside, is_row_outside, is_uncovered, kind_fault, mapping_of, missing, outside, potentials_of, repeated, row_breaks_pin, sums_differ, uncovered, uncovered_at, uncovered_in, weight_by}
use Rattle.certcheck.specs.Refused.{HasNumber, HasRow, IsInOne, IsNameAt, IsNotCovered, IsOfCertificate, IsOfSite, IsOutsidePool, IsPinBroken, IsThere, IsTwice, ToldFaultIsThere}
use Rattle.certcheck.proofs.Order.{differ as differ_names}
use Rattle.certcheck.proofs.Indices.{any_from, blank, row, same_names}
use Rattle.certcheck.proofs.Twice.{Two, two_counted}
use Rattle.certcheck.proofs.Found.{at_index, below_passes, from_either, from_filter, from_find, from_first, from_least, from_map, from_place, mapped, passed_at}

-- ---- names and rows

abbrev made : List ℕ → ℕ → ℕ → Row
made name number y = record { name = name; number = number; y = y }

renamed : (s : Side) (r : Row) (name : List ℕ) → Contains s.rows r → r.name ≡ name → HasRow s name r.number r.y
renamed s r name there e = let P : List ℕ → Type 0 = λ n. HasRow s n r.number r.y in subst P e there

given : (s : Side) (r : Row) (number : ℕ) → Contains s.rows r → r.number ≡ number → HasNumber s r.name number
given s r number there e = let P : ℕ → Type 0 = λ v. HasNumber s r.name v in subst P e (r.y, there)

account_there : (a : Accounts) (x : Account) (name : List ℕ) → Contains a.names x → x.name ≡ name → IsOfSite a name
account_there a x name there e = (there.0, (there.1, ap (λ (y : Account). y.name) (get_or_default a.names there.0 no_account x there.1 ∙ there.2) ∙ e))

not_of_site : (a : Accounts) (name : List ℕ) → is_name a.names name ≡ false → IsOfSite a name → ⊥
not_of_site a name none at = false≢true (sym none ∙ any_from (λ (x : Account). bytes_eq name x.name) a.names at.0 no_account at.1.0 ((bytes_eq-Decides name (account a at.0).name).1 (sym at.1.1)))

not_of_certificate : (s : Side) (name : List ℕ) → is_listed s.rows name ≡ false → IsOfCertificate s name → ⊥
not_of_certificate s name none has =
    let r = made name has.0 has.1.0 in
    let there : Contains s.rows r = has.1.1 in
    false≢true (sym none ∙ any_from (λ (x : Row). bytes_eq name x.name) s.rows there.0 r there.1 ((bytes_eq-Decides name (get_or s.rows there.0 r).name).1 (sym (ap (λ (x : Row). x.name) there.2))))

-- the index of a name
name_at : (a : Accounts) (name : List ℕ) (i : ℕ) → place_of a.names name ≡ Some i → IsNameAt a i name
name_at a name i e =
    let it = from_place (λ (x : Account). bytes_eq name x.name) a.names i no_account e in
    (it.0, sym (same_names name (account a i).name it.1))

-- ---- what each step finds

module _ (kind : Which) (a : Accounts) (files : List File) (s : Side) where
  -- what is told of the kind
  told : {X : Type 0} (fault : X → CheckFault) (o : Option X) (f : CheckFault) → ((x : X) → o ≡ Some x → IsThere kind a files s (fault x)) → option_map fault o ≡ Some f → IsThere kind a files s f
  told fault o f so h = let it = mapped fault o f h in subst (IsThere kind a files s) it.2 (so it.0 it.1)

  missing_there : (n : List ℕ) → missing a s.rows ≡ Some n → IsInOne a s n
  missing_there n h =
      let unknown : List ℕ → Bool = λ (m : List ℕ). not (is_name a.names m) in
      let unlisted : List ℕ → Bool = λ (m : List ℕ). not (is_listed s.rows m) in
      by (Contains-append_cases (filter unknown (map (λ (r : Row). r.name) s.rows)) (filter unlisted (map (λ (x : Account). x.name) a.names)) n (from_least _ n h))
    where
      by : Contains (filter (λ (m : List ℕ). not (is_name a.names m)) (map (λ (r : Row). r.name) s.rows)) n ⊎ Contains (filter (λ (m : List ℕ). not (is_listed s.rows m)) (map (λ (x : Account). x.name) a.names)) n → IsInOne a s n
      by (inl there) =
          let it = from_filter (λ (m : List ℕ). not (is_name a.names m)) (map (λ (r : Row). r.name) s.rows) n there in
          let r = from_map (λ (r : Row). r.name) s.rows n it.0 in
          inr ((r.0.number, (r.0.y, renamed s r.0 n r.1 r.2)), not_of_site a n (not-true _ it.1))
      by (inr there) =
          let it = from_filter (λ (m : List ℕ). not (is_listed s.rows m)) (map (λ (x : Account). x.name) a.names) n there in
          let x = from_map (λ (x : Account). x.name) a.names n it.0 in
          inl (account_there a x.0 n x.1 x.2, not_of_certificate s n (not-true _ it.1))

  twice_there : IsSide s → (v : ℕ) → repeated s.rows ≡ Some v → IsTwice s v
  twice_there side v h =
      let passes : ltb 1 (count_by (λ (r : Row). eqb r.number v) s.rows) ≡ true = below_passes (λ u. ltb 1 (count_by (λ (r : Row). eqb r.number u) s.rows)) (2 ^ 32) v h in
      let two : Two (λ (r : Row). eqb r.number v) s.rows = two_counted (λ (r : Row). eqb r.number v) s.rows (ltb-true _ _ passes) in
      record {
        one = (row s.rows two.0).name;
        other = (row s.rows two.1).name;
        differ = differ_names (row s.rows two.0).name (row s.rows two.1).name (side.names_ascend two.0 two.1 blank two.2 two.3);
        one_has = given s (row s.rows two.0) v (at_index s.rows two.0 blank (omega (arith, two.2, two.3))) (eqb-true _ v (two.4 blank));
        other_has = given s (row s.rows two.1) v (at_index s.rows two.1 blank two.3) (eqb-true _ v (two.5 blank));
      }

  outside_there : (r : Row) → outside a s.rows ≡ Some r → IsOutsidePool a s r.name
  outside_there r h =
      let it = from_find (is_row_outside a) s.rows r h in
      let at = passed_at (λ i. is_outside a (class_at a i) r.number) (place_of a.names r.name) it.1 in
      let both = and_parts (is_free_class (class_at a at.0)) (not (in_pool a (class_at a at.0) r.number)) at.2 in
      record {
        index = at.0;
        named = name_at a r.name at.0 at.1;
        free = both.0;
        number = r.number;
        has = (r.y, it.0);
        outside = not-true _ both.1;
      }

  pin_of : (c : Class) (v : ℕ) → breaks_pin c v ≡ true → (pin : ℕ) × (c ≡ Pinned pin) × (v ≢ pin)
  pin_of (Pinned p) v h = (p, refl, λ e. false≢true (ap not (sym (eq-eqb v p e)) ∙ h))
  pin_of Regular v h = absurd (false≢true h)
  pin_of System v h = absurd (false≢true h)

  broken_there : (r : Row) → broken a s.rows ≡ Some r → IsPinBroken a s r.name
  broken_there r h =
      let it = from_find (row_breaks_pin a) s.rows r h in
      let at = passed_at (λ i. breaks_pin (class_at a i) r.number) (place_of a.names r.name) it.1 in
      let pin = pin_of (class_at a at.0) r.number at.2 in
      record {
        index = at.0;
        named = name_at a r.name at.0 at.1;
        pin = pin.0;
        pinned = pin.1;
        number = r.number;
        has = (r.y, it.0);
        broken = pin.2;
      }

  -- a number of a name's pool that y and z do not cover
  below_weight : (i y v : ℕ) → uncovered_at a (weight a files) s.z i y ≡ Some v → (in_pool a (class_at a i) v ≡ true) × (y + value_at s.z v < weight a files i v)
  unfolding uncovered_at
  below_weight i y v h =
      let both = and_parts (in_pool a (class_at a i) v) (ltb (y + value_at s.z v) (weight a files i v)) (below_passes (is_uncovered a (weight a files) s.z i y) (2 ^ 32) v h) in
      (both.0, ltb-true _ _ both.1)

  in_row : (r : Row) (o : Option ℕ) (p : List ℕ × ℕ) → Contains s.rows r → place_of a.names r.name ≡ o → uncovered_in a (weight a files) s.z r o ≡ Some p → IsNotCovered a files s p.0 p.1
  in_row r None p there at h = absurd (cc)
  in_row r (Some i) p there at h =
      let it = mapped (λ (v : ℕ). (r.name, v)) (uncovered_at a (weight a files) s.z i r.y) p h in
      let less = below_weight i r.y it.0 it.1 in
      let P : List ℕ × ℕ → Type 0 = λ q. IsNotCovered a files s q.0 q.1 in
      subst P it.2 (record {
        index = i;
        named = name_at a r.name i at;
        may = less.0;
        number = r.number;
        y = r.y;
        has = there;
        less = less.1;
      })

  uncovered_there : (p : List ℕ × ℕ) → uncovered a (weight a files) s ≡ Some p → IsNotCovered a files s p.0 p.1
  uncovered_there p h =
      let it = from_first (λ (r : Row). uncovered_in a (weight a files) s.z r (place_of a.names r.name)) s.rows p h in
      in_row it.0 (place_of a.names it.0.name) p it.1 refl it.2

  sums_by : (total weighs : ℕ) (f : CheckFault) (b : Bool) → total ≡ potential_sum (potentials_of a s.rows) s.z → weighs ≡ weight_by a (weight a files) (mapping_of a s.rows) → eqb total weighs ≡ b → cond b None (Some (SumsDiffer kind total weighs)) ≡ Some f → IsThere kind a files s f
  sums_by total weighs f true all mapped is e = absurd (cc)
  sums_by total weighs f false all mapped is e =
      let same : SumsDiffer kind total weighs ≡ f = cc in
      subst (IsThere kind a files s) same (refl, record { potentials = all; mapping = mapped; differ = λ alike. false≢true (sym is ∙ eq-eqb total weighs alike) })

  sums_there : (f : CheckFault) → sums_differ kind a (weight a files) s ≡ Some f → IsThere kind a files s f
  sums_there f h =
      let total = potential_sum (potentials_of a s.rows) s.z in
      let weighs = weight_by a (weight a files) (mapping_of a s.rows) in
      sums_by total weighs f (eqb total weighs) refl refl refl h

  -- ---- the first of them

  pub fault_there : (f : CheckFault) → IsSide s → kind_fault kind a (weight a files) s ≡ Some f → IsThere kind a files s f
  unfolding kind_fault
  fault_there f side =
      from_either (IsThere kind a files s) _ _ f (told (λ n. NameMissing kind n) (missing a s.rows) f (λ n e. (refl, missing_there n e)))
      (from_either (IsThere kind a files s) _ _ f (told (λ v. NumberTwice kind v) (repeated s.rows) f (λ v e. (refl, twice_there side v e)))
      (from_either (IsThere kind a files s) _ _ f (told (λ (r : Row). OutsidePool kind r.name) (outside a s.rows) f (λ r e. (refl, outside_there r e)))
      (from_either (IsThere kind a files s) _ _ f (told (λ (r : Row). PinBroken kind r.name) (broken a s.rows) f (λ r e. (refl, broken_there r e)))
      (from_either (IsThere kind a files s) _ _ f (told (λ (p : List ℕ × ℕ). NotCovered kind p.0 p.1) (uncovered a (weight a files) s) f (λ p e. (refl, uncovered_there p e)))
      (sums_there f)))))

-- ---- for both kinds

pub refused : (o : Option CheckFault) (cost : ℕ) (f : CheckFault) → unless o cost ≡ Err f → o ≡ Some f
refused None cost f h = absurd (cc)
refused (Some g) cost f h = let same : g ≡ f = cc in ap (λ (x : CheckFault). Some x) same

pub told_fault_is_there : ToldFaultIsThere
told_fault_is_there site files c f are h =
    from_either (λ g. IsThere User site.users (by_user files) c.users g ⊎ IsThere Group site.groups (by_group files) c.groups g) _ _ f
    (λ e. inl (fault_there User site.users (by_user files) c.users f are.users e))
    (λ e. inr (fault_there Group site.groups (by_group files) c.groups f are.groups e))
    (refused _ _ f h)
