-- Numbers that are reserved, and ranges that hold the numbers that are given away.
use Rattle.std.proofs.Common.{◌≡◌, ℕ, ◌<◌, ◌^◌, ◌==◌, ◌&&◌, ◌||◌, Bool, true, false, not, List, [], ◌∷◌, ◌++◌, map, Option, None, Some, Result, Ok, Err, IfOk, IfSome, Vec, Global, refl, sym, ◌∙◌, ap, arith, inl, inr}
use Rattle.std.specs.List.{All, list_any}
use Rattle.std.specs.Option.{option_map}
use Rattle.std.proofs.Math.Bool.{or-false, or_assoc}
use Rattle.std.proofs.lemmas.Bool.{cases_Bool, cases_lt, cases_eq, or_parts, or_from, ne_eqb, eq-eqb, eqb-true, false≢true}
use Rattle.std.proofs.lemmas.List.Elements.{All-nil, All-cons, All-head, All-tail}
use Rattle.std.proofs.lemmas.List.Folds.{list_any-append}
use Rattle.idtext.specs.First.{or_else}
use Rattle.idtext.proofs.FirstLemmas.{none_of_both}
use Rattle.logindefs.specs.declared.ranges.IdRange.{IdRange}
use Rattle.logindefs.specs.Ranges.{in_range}
use Rattle.hosts_join.specs.Accounts as spec
use Rattle.hosts_join.specs.Pool.{is_free}
use Rattle.hosts_join.specs.RangeLists.{lies_in_some}
use Rattle.hosts_join.specs.Rules.{claim_fault, clash, first_some, is_reserved, is_taken, pin_reserved, reserver}
use Rattle.hosts_join.specs.Views.{pairs_of}
use Rattle.hosts_join.specs.declared.Pair.{Pair}
use Rattle.hosts_join.specs.declared.Which.{Which}
use Rattle.hosts_join.specs.declared.fault.SiteFault.{SiteFault}
use Rattle.hosts_join.specs.declared.fault.SiteFault.TheVariants.{PinReserved}
use Rattle.hosts_join.specs.declared.reserving.Reserved.{Reserved}
use Rattle.hosts_join.proofs.FreeNumbers.{in_range-before, in_range-after, in_range-between}
use Rattle.hosts_join.proofs.Sources.{none-mapped}

-- ---- ranges that hold the numbers that are given away

list_any-push : {X : Type 0} (p : X → Bool) (xs : List X) (x : X) → list_any p (xs ++ x ∷ []) ≡ (list_any p xs || p x)
list_any-push p xs x = list_any-append p xs (x ∷ []) ∙ ap (λ b. list_any p xs || b) (or-false (p x))

one-number : (n v : ℕ) → in_range (record { low = n; high = n }) v ≡ (n == v)
one-number n v = elim (cases_eq n v) [
  | inl same ↦ in_range-between (record { low = n; high = n }) v (omega arith) (omega arith) ∙ sym (eq-eqb n v same)
  | inr other ↦ elim (cases_lt v n) [
    | inl less ↦ in_range-before (record { low = n; high = n }) v less ∙ sym (ne_eqb n v other)
    | inr more ↦ in_range-after (record { low = n; high = n }) v (omega arith) ∙ sym (ne_eqb n v other)
  ]
]

abbrev claim_range : Pair → IdRange
claim_range p = record { low = p.number; high = p.number }

claims-held : (ps : List Pair) (v : ℕ) → lies_in_some (map claim_range ps) v ≡ is_taken (pairs_of ps) v
claims-held [] v = refl
claims-held (p ∷ ps) v = rw (one-number p.number v, claims-held ps v) refl

pub claims-and-reserved : {E : Type 0} (o : Result (Vec IdRange Global) E) (first : List IdRange) (ps : List Pair) (rs : List Reserved) → first ≡ map claim_range ps → IfOk o (λ all. (v : ℕ) → lies_in_some all.items v ≡ (lies_in_some first v || is_reserved rs v))
    → IfOk o (λ all. (v : ℕ) → lies_in_some all.items v ≡ (is_taken (pairs_of ps) v || is_reserved rs v))
claims-and-reserved (Err e) first ps rs same is = tt
claims-and-reserved (Ok all) first ps rs same is = λ v. is v ∙ ap (λ b. b || is_reserved rs v) (ap (λ xs. lies_in_some xs v) same ∙ claims-held ps v)

pub with-reserved : (runs : List IdRange) (taken : Bool) (rs : List Reserved) (r : Reserved) (v : ℕ) → lies_in_some runs v ≡ (taken || is_reserved rs v) → lies_in_some (runs ++ r.numbers ∷ []) v ≡ (taken || is_reserved (rs ++ r ∷ []) v)
with-reserved runs taken rs r v e =
    list_any-push (λ (x : IdRange). in_range x v) runs r.numbers
    ∙ ap (λ b. b || in_range r.numbers v) e
    ∙ or_assoc taken (is_reserved rs v) (in_range r.numbers v)
    ∙ ap (λ b. taken || b) (sym (list_any-push (λ (x : Reserved). in_range x.numbers v) rs r))

-- all numbers but those of ranges that hold what is reserved
pub unreserved : {E : Type 0} (o : Result (List IdRange) E) (ranges : List IdRange) (rs : List Reserved) → ((v : ℕ) → lies_in_some ranges v ≡ is_reserved rs v) → IfOk o (λ pool. (v : ℕ) → lies_in_some pool v ≡ is_free (record { low = 0; high = 4294967295 }) ranges v)
    → IfOk o (λ pool. (v : ℕ) → v < 2 ^ 32 → lies_in_some pool v ≡ not (is_reserved rs v))
unreserved (Err e) ranges rs same is = tt
unreserved (Ok pool) ranges rs same is = λ v h.
    is v ∙ ap (λ b. b && not (lies_in_some ranges v)) (in_range-between (record { low = 0; high = 4294967295 }) v (omega arith) (omega arith)) ∙ ap not (same v)

-- ---- who reserves a number

pub nobody-reserves : (rs : List Reserved) (v : ℕ) → is_reserved rs v ≡ false → reserver rs v ≡ None
nobody-reserves [] v e = refl
nobody-reserves (r ∷ rs) v e = let parts = or_parts (in_range r.numbers v) (is_reserved rs v) e in rw parts.0 (nobody-reserves rs v parts.1)

pub not-reserved : (rs : List Reserved) (v : ℕ) → reserver rs v ≡ None → is_reserved rs v ≡ false
not-reserved [] v e = refl
not-reserved (r ∷ rs) v e = elim (cases_Bool (in_range r.numbers v)) [
  | inl t ↦ let e' = rw t at e in absurd (full r e')
  | inr f ↦ or_from _ _ f (not-reserved rs v (rw f at e))
]
  where
    full : {X : Type 0} (x : X) → Some x ≡ None → ⊥
    full x e = cc

-- ---- claims at reserved numbers

pub pin-unreserved : (kind : Which) (rs : List Reserved) (p : spec.Pair) → is_reserved rs p.number ≡ false → pin_reserved kind rs p ≡ None
pin-unreserved kind rs p e = ap (option_map (λ (r : Reserved). PinReserved kind p.number p.name r)) (nobody-reserves rs p.number e)

pub all-unreserved : (kind : Which) (rs : List Reserved) (ps : List spec.Pair) → first_some (pin_reserved kind rs) ps ≡ None → All (λ p. is_reserved rs p.number ≡ false) ps
all-unreserved kind rs [] e = All-nil (λ (p : spec.Pair). is_reserved rs p.number ≡ false)
all-unreserved kind rs (p ∷ ps) e =
    let parts = none_of_both (pin_reserved kind rs p) (first_some (pin_reserved kind rs) ps) e in
    All-cons (λ (p : spec.Pair). is_reserved rs p.number ≡ false) p ps
    (not-reserved rs p.number (none-mapped (λ (r : Reserved). PinReserved kind p.number p.name r) (reserver rs p.number) parts.0))
    (all-unreserved kind rs ps parts.1)

pub taken-unreserved : (rs : List Reserved) (ps : List spec.Pair) (v : ℕ) → All (λ p. is_reserved rs p.number ≡ false) ps → is_taken ps v ≡ true → is_reserved rs v ≡ false
taken-unreserved rs [] v all t = absurd (false≢true t)
taken-unreserved rs (p ∷ ps) v all t = elim (cases_Bool (p.number == v)) [
  | inl same ↦ ap (is_reserved rs) (sym (eqb-true p.number v same)) ∙ All-head (λ (p : spec.Pair). is_reserved rs p.number ≡ false) p ps all
  | inr other ↦ taken-unreserved rs ps v (All-tail (λ (p : spec.Pair). is_reserved rs p.number ≡ false) p ps all) (rw other at t)
]

-- ---- what is wrong with claims

module _ (kind : Which) (rs : List Reserved) (given : List spec.Pair) where
  pub claim-reserved : (told : Option SiteFault) → IfSome told (λ f. first_some (pin_reserved kind rs) given ≡ Some f) → IfSome told (λ f. claim_fault kind rs given ≡ Some f)
  claim-reserved None h = tt
  claim-reserved (Some f) h = ap (λ o. or_else o (clash kind given)) h

  pub claim-clash : (o : Option SiteFault) → first_some (pin_reserved kind rs) given ≡ None → clash kind given ≡ o → claim_fault kind rs given ≡ o
  claim-clash o none h = ap (λ x. or_else x (clash kind given)) none ∙ h
