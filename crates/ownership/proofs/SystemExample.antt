-- A filling of system names by example.
use Rattle.std.proofs.Common.{◌≡◌, ◌≢◌, ℕ, zero, suc, ◌<◌, ◌≤◌, true, ◌&&◌, nat_le, not, List, [], ◌∷◌, inl, inr, refl, sym, subst, arith}
use Rattle.std.proofs.lemmas.Bool.{and_parts, cases_lt, leb-true}
use Rattle.hosts_join.specs.Rules.{in_pool, is_given_away, is_id}
use Rattle.hosts_join.specs.declared.Class.TheVariants.{System}
use Rattle.ownership.specs.FillingExample.{BothWait, ExampleOfSystemFilling, system_accounts}
use Rattle.ownership.specs.Mappings.{number_at}
use Rattle.ownership.specs.Weights.{IsFilled, IsHad, Precedes}

abbrev served : List ℕ
served = 103 ∷ 101 ∷ []

-- www before mail
abbrev exchanged : List ℕ
exchanged = 101 ∷ 103 ∷ []

abbrev greatest : List ℕ
greatest = 998 ∷ 999 ∷ []

-- the numbers of the pool begin with 101
from_101 : (v : ℕ) → in_pool system_accounts System v ≡ true → 101 ≤ v
from_101 v is =
    let lies = nat_le 101 v && nat_le v 999 in
    let inside = and_parts (is_id v && (lies && (lies && true))) (not (is_given_away system_accounts v)) is in
    let there = and_parts (is_id v) (lies && (lies && true)) inside.0 in
    let first = and_parts lies (lies && true) there.1 in
    leb-true 101 v (and_parts (nat_le 101 v) (nat_le v 999) first.0).0

-- 102 is pinned
not_102 : (v : ℕ) → v ≡ 102 → in_pool system_accounts System v ≡ true → ⊥
not_102 v is pool = absurd (cc (subst (λ w. in_pool system_accounts System w ≡ true) is pool))

had_by_mail : (v : ℕ) → v ≡ 101 → IsHad system_accounts BothWait served 0 v
had_by_mail v is = record {
  by = 1;
  within = omega arith;
  other = λ same. omega (arith, same);
  has = sym is;
  earlier = λ waits. refl;
}

is_filled : IsFilled system_accounts BothWait served
is_filled zero v within waits pool less =
    let least = from_101 v pool in
    elim (cases_lt v 102) [
      | inl l ↦ had_by_mail v (omega (arith, least, l))
      | inr l ↦ absurd (not_102 v (omega (arith, l, less)) pool)
    ]
is_filled (suc zero) v within waits pool less = absurd (omega (arith, from_101 v pool, less))
is_filled (suc (suc i)) v within waits pool less = absurd (omega (arith, within))

-- nobody who is served before mail has 101
none_before : (by : ℕ) → by < 2 → by ≢ 1 → number_at exchanged by ≡ 101 → (BothWait by → Precedes system_accounts by 1) → ⊥
none_before zero within other has earlier = absurd (cc (earlier (omega arith)))
none_before (suc zero) within other has earlier = absurd (other refl)
none_before (suc (suc i)) within other has earlier = absurd (omega (arith, within))

not_exchanged : IsFilled system_accounts BothWait exchanged → ⊥
not_exchanged filled =
    let had = filled 1 101 (omega arith) (omega arith) refl (omega arith) in
    none_before had.by had.within had.other had.has had.earlier

-- nobody has 101
none_has : (by : ℕ) → by < 2 → number_at greatest by ≡ 101 → ⊥
none_has zero within has = absurd (omega (arith, has))
none_has (suc zero) within has = absurd (omega (arith, has))
none_has (suc (suc i)) within has = absurd (omega (arith, within))

not_greatest : IsFilled system_accounts BothWait greatest → ⊥
not_greatest filled =
    let had = filled 1 101 (omega arith) (omega arith) refl (omega arith) in
    none_has had.by had.within had.has

pub systems_by_example : ExampleOfSystemFilling
systems_by_example = (is_filled, not_exchanged, not_greatest)
