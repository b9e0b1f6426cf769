-- A filling by example.
use Rattle.std.proofs.Common.{◌≡◌, ◌≢◌, ℕ, zero, suc, ◌<◌, ◌≤◌, true, ◌&&◌, nat_le, not, List, [], ◌∷◌, inl, inr, refl, sym, arith}
use Rattle.std.proofs.lemmas.Bool.{and_parts, cases_lt, leb-true}
use Rattle.hosts_join.specs.Rules.{in_pool, is_given_away, is_id}
use Rattle.hosts_join.specs.declared.Class.TheVariants.{Regular}
use Rattle.ownership.specs.FillingExample.{ExampleOfFilling, Waits, accounts}
use Rattle.ownership.specs.Mappings.{number_at}
use Rattle.ownership.specs.Weights.{IsFilled, IsHad, Precedes}

abbrev served : List ℕ
served = 1001 ∷ 1002 ∷ 1000 ∷ []

abbrev exchanged : List ℕ
exchanged = 1001 ∷ 1000 ∷ 1002 ∷ []

-- the numbers of the pool begin with 1000
from_1000 : (v : ℕ) → in_pool accounts Regular v ≡ true → 1000 ≤ v
from_1000 v is =
    let lies = nat_le 1000 v && nat_le v 60000 in
    let inside = and_parts (is_id v && (lies && (lies && (lies && true)))) (not (is_given_away accounts v)) is in
    let there = and_parts (is_id v) (lies && (lies && (lies && true))) inside.0 in
    let first = and_parts lies (lies && (lies && true)) there.1 in
    leb-true 1000 v (and_parts (nat_le 1000 v) (nat_le v 60000) first.0).0

-- alice has 1000, zoe 1001
had : (v : ℕ) → v ≡ 1000 → IsHad accounts Waits served 1 v
had v is = record {
  by = 2;
  within = omega arith;
  other = λ same. omega (arith, same);
  has = sym is;
  earlier = λ waits. refl;
}

had_by_zoe : (v : ℕ) → v ≡ 1001 → IsHad accounts Waits served 1 v
had_by_zoe v is = record {
  by = 0;
  within = omega arith;
  other = λ same. omega (arith, same);
  has = sym is;
  earlier = λ waits. absurd (omega (arith, waits));
}

is_filled : IsFilled accounts Waits served
is_filled zero v within waits pool less = absurd (omega (arith, waits))
is_filled (suc zero) v within waits pool less =
    let least = from_1000 v pool in
    elim (cases_lt v 1001) [
      | inl l ↦ had v (omega (arith, least, l))
      | inr l ↦ had_by_zoe v (omega (arith, l, less))
    ]
is_filled (suc (suc zero)) v within waits pool less = absurd (omega (arith, from_1000 v pool, less))
is_filled (suc (suc (suc i))) v within waits pool less = absurd (omega (arith, within))

-- nobody who is served before alice has 1000
none_before : (by : ℕ) → by < 3 → by ≢ 2 → number_at exchanged by ≡ 1000 → (Waits by → Precedes accounts by 2) → ⊥
none_before zero within other has earlier = absurd (omega (arith, has))
none_before (suc zero) within other has earlier = absurd (cc (earlier (omega arith)))
none_before (suc (suc zero)) within other has earlier = absurd (other refl)
none_before (suc (suc (suc i))) within other has earlier = absurd (omega (arith, within))

is_not_filled : IsFilled accounts Waits exchanged → ⊥
is_not_filled filled =
    let had = filled 2 1000 (omega arith) (omega arith) refl (omega arith) in
    none_before had.by had.within had.other had.has had.earlier

pub filling_by_example : ExampleOfFilling
filling_by_example = (is_filled, is_not_filled)
