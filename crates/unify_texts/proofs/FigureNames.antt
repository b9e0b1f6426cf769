-- The figures of names count the names that are pinned, keep a number and have a new one.
use Rattle.std.proofs.Common.{◌≡◌, ◌≢◌, ℕ, zero, suc, ◌<◌, ◌==◌, ◌&&◌, nat_lt, nat_eq, not, Bool, cond, List, [], ◌∷◌, count_by, length, refl, ap, ◌∙◌, arith, inl, inr}
use Rattle.std.specs.Bool.{Decides}
use Rattle.std.specs.List.{All, Any}
use Rattle.std.proofs.lemmas.Bool.{cases_Bool, eq-eqb, eqb-true, ne_eqb}
use Rattle.std.proofs.lemmas.Bool.Decides.{Decides-and, Decides-eqb, Decides-like, Decides-ltb, same_from_decides}
use Rattle.std.proofs.lemmas.List.Elements.{All-cons, All-head, All-nil, All-tail}
use Rattle.std.proofs.lemmas.List.Sums.{sum_by-cons}
use Rattle.hosts_join.specs.Accounts.{Accounts, lines}
use Rattle.hosts_join.specs.Count.{count_below}
use Rattle.hosts_join.specs.Rules.{account, class_at, is_free_class}
use Rattle.hosts_join.specs.declared.Class.{Class}
use Rattle.hosts_join.specs.declared.Class.TheVariants.{Pinned, Regular, System}
use Rattle.hosts_join.specs.declared.Spot.{Spot}
use Rattle.hosts_join.proofs.Counting.{count_below-same}
use Rattle.ownership.specs.Fresh.{HasNewNumber}
use Rattle.ownership.specs.Mappings.{number_at}
use Rattle.unify_texts.specs.Figures.{AreSoMany, FiguresCountTheirNames, IsPinned, KeepsNumber}

-- ---- rows with a number

abbrev has : ℕ → Spot → ℕ
has v s = cond (s.number == v) 1 0

has-yes : (v : ℕ) (s : Spot) → s.number ≡ v → has v s ≡ 1
has-yes v s e = ap (λ b. cond {A = ℕ} b 1 0) (eq-eqb s.number v e)

has-no : (v : ℕ) (s : Spot) → s.number ≢ v → has v s ≡ 0
has-no v s other = ap (λ b. cond {A = ℕ} b 1 0) (ne_eqb s.number v other)

some-row : (v : ℕ) (ss : List Spot) → 0 < count_by (λ s. s.number == v) ss → Any (λ s. s.number ≡ v) ss
some-row v [] h = absurd (omega (arith, h))
some-row v (s ∷ ss) h = elim (cases_Bool (s.number == v)) [
  | inl t ↦ (0, s, omega arith, refl, eqb-true s.number v t)
  | inr f ↦
      let none : has v s ≡ 0 = ap (λ b. cond {A = ℕ} b 1 0) f in
      let rest = some-row v ss (omega (arith, h, none, sum_by-cons (has v) s ss)) in
      (suc rest.0, rest.1, omega (arith, rest.2), rest.3, rest.4)
]

row-counted : (v : ℕ) (ss : List Spot) → Any (λ s. s.number ≡ v) ss → 0 < count_by (λ s. s.number == v) ss
row-counted v [] any = absurd (omega (arith, any.2))
row-counted v (s ∷ ss) (zero, x, h, is, e) = omega (arith, has-yes v s (ap (λ (y : Spot). y.number) is ∙ e), sum_by-cons (has v) s ss)
row-counted v (s ∷ ss) (suc k, x, h, is, e) = omega (arith, row-counted v ss (k, x, omega (arith, h), is, e), sum_by-cons (has v) s ss)

no-row : (v : ℕ) (ss : List Spot) → count_by (λ s. s.number == v) ss ≡ 0 → All (λ s. s.number ≢ v) ss
no-row v [] e = All-nil (λ s. s.number ≢ v)
no-row v (s ∷ ss) e =
    let sum = sum_by-cons (has v) s ss in
    All-cons (λ s. s.number ≢ v) s ss (λ same. omega (arith, e, sum, has-yes v s same)) (no-row v ss (omega (arith, e, sum)))

none-counted : (v : ℕ) (ss : List Spot) → All (λ s. s.number ≢ v) ss → count_by (λ s. s.number == v) ss ≡ 0
none-counted v [] all = refl
none-counted v (s ∷ ss) all =
    omega (
      arith,
      sum_by-cons (has v) s ss,
      has-no v s (All-head (λ s. s.number ≢ v) s ss all),
      none-counted v ss (All-tail (λ s. s.number ≢ v) s ss all),
    )

-- ---- classes

pinned-told : (c : Class) → Decides (not (is_free_class c)) ((v : ℕ) × (c ≡ Pinned v))
pinned-told (Pinned v) = (λ _. (v, refl), λ _. refl)
pinned-told Regular = (λ h. absurd (cc), λ h. let is = h.1 in absurd (cc))
pinned-told System = (λ h. absurd (cc), λ h. let is = h.1 in absurd (cc))

free-told : (c : Class) → Decides (is_free_class c) ((v : ℕ) → c ≢ Pinned v)
free-told (Pinned v) = (λ h. absurd (cc), λ free. absurd (free v refl))
free-told Regular = (λ h v is. absurd (cc), λ _. refl)
free-told System = (λ h v is. absurd (cc), λ _. refl)

-- ---- figures

so-many : (a : Accounts) (IsSuch : ℕ → Type 0) (own : ℕ → Bool) → ((i : ℕ) → Decides (own i) (IsSuch i)) → AreSoMany a IsSuch (count_below own (length a.names))
so-many a IsSuch own told tells exactly = count_below-same own tells (length a.names) (λ i h. same_from_decides (own i) (tells i) (told i) (exactly i h))

kept-told : (a : Accounts) (m : List ℕ) (i : ℕ) → Decides (is_free_class (class_at a i) && nat_lt 0 (lines (account a i) (number_at m i))) (KeepsNumber a m i)
kept-told a m i =
    let free = is_free_class (class_at a i) in
    let some = nat_lt 0 (lines (account a i) (number_at m i)) in
    Decides-like (free && some)
    (λ (h : ((v : ℕ) → class_at a i ≢ Pinned v) × (0 < lines (account a i) (number_at m i))). record { not_pinned = h.0; on_some_host = some-row (number_at m i) (account a i).spots h.1 })
    (λ (h : KeepsNumber a m i). (h.not_pinned, row-counted (number_at m i) (account a i).spots h.on_some_host))
    (Decides-and free some (free-told (class_at a i)) (Decides-ltb 0 (lines (account a i) (number_at m i))))

fresh-told : (a : Accounts) (m : List ℕ) (i : ℕ) → Decides (is_free_class (class_at a i) && nat_eq (lines (account a i) (number_at m i)) 0) (HasNewNumber a m i)
fresh-told a m i =
    let free = is_free_class (class_at a i) in
    let none = nat_eq (lines (account a i) (number_at m i)) 0 in
    Decides-like (free && none)
    (λ (h : ((v : ℕ) → class_at a i ≢ Pinned v) × (lines (account a i) (number_at m i) ≡ 0)). record { not_pinned = h.0; on_no_host = no-row (number_at m i) (account a i).spots h.1 })
    (λ (h : HasNewNumber a m i). (h.not_pinned, none-counted (number_at m i) (account a i).spots h.on_no_host))
    (Decides-and free none (free-told (class_at a i)) (Decides-eqb (lines (account a i) (number_at m i)) 0))

pub figures_count_their_names : FiguresCountTheirNames
figures_count_their_names a files m = record {
  pinned = so-many a (IsPinned a) (λ i. not (is_free_class (class_at a i))) (λ i. pinned-told (class_at a i));
  kept = so-many a (KeepsNumber a m) (λ i. is_free_class (class_at a i) && nat_lt 0 (lines (account a i) (number_at m i))) (kept-told a m);
  fresh = so-many a (HasNewNumber a m) (λ i. is_free_class (class_at a i) && nat_eq (lines (account a i) (number_at m i)) 0) (fresh-told a m);
}
