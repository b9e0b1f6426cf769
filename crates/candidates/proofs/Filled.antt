-- What the fill begins with, and what it leaves.
use Rattle.std.proofs.Common.{◌≡◌, ◌≢◌, ℕ, ◌<◌, ◌≤◌, ◌==◌, ◌⊎◌, Bool, true, List, [], ◌∷◌, length, Option, None, Some, refl, sym, ◌∙◌, ap, arith, inl, inr}
use Rattle.std.specs.List.{All}
use Rattle.std.proofs.lemmas.Bool.{cases_Bool, eqb-true, false≢true, both_ways}
use Rattle.std.proofs.lemmas.List.Elements.{All-head, All-tail, All-from_get_or}
use Rattle.hosts_join.specs.Rules.{in_pool, is_free_class, class_at}
use Rattle.hosts_join.specs.declared.Class.{Class}
use Rattle.hosts_join.specs.declared.Class.TheVariants.{Pinned, Regular, System}
use Rattle.candidates.specs.declared.Candidate.{Candidate}
use Rattle.candidates.specs.Rows.{Choices, AreRows, row_at, weight_in}
use Rattle.candidates.specs.Fill.{gift, IsPartial, Waits}
use Rattle.ownership.specs.Mappings.{IsMapping, number_at, AreDistinct, IsAdmissible, MayHave}
use Rattle.ownership.specs.Weights.{IsFilled}
use Rattle.candidates.specs.Settled.{settled, settled_by, IsStart, IsDone}
use Rattle.candidates.proofs.FillLemmas.{some-none, some-same, none-past}
use Rattle.candidates.proofs.Pigeons.{pin-away, pool-id}

weight-pooled : (p : ℕ → Bool) (row : List Candidate) (v : ℕ) → All (λ c. p c.number ≡ true) row → 1 ≤ weight_in row v → p v ≡ true
weight-pooled p [] v all h = absurd (omega arith)
weight-pooled p (c ∷ row) v all h = elim (cases_Bool (c.number == v)) [
  | inl t ↦ ap p (sym (eqb-true c.number v t)) ∙ All-head (λ (c : Candidate). p c.number ≡ true) c row all
  | inr f ↦ let h' = rw f at h in weight-pooled p row v (All-tail (λ (c : Candidate). p c.number ≡ true) c row all) h'
]

free-settled : (c : Class) (o : Option ℕ) → is_free_class c ≡ true → settled_by c o ≡ o
free-settled (Pinned v) o f = absurd (false≢true f)
free-settled Regular o f = refl
free-settled System o f = refl

module _ (ch : Choices) (given start : List (Option ℕ)) (rows : AreRows ch) (part : IsPartial ch given) (long : length start ≡ length ch.accounts.names)
    (same : (i : ℕ) → i < length ch.accounts.names → gift start i ≡ settled ch.accounts given i) where
  given-pooled : (i v : ℕ) → gift given i ≡ Some v → in_pool ch.accounts (class_at ch.accounts i) v ≡ true
  given-pooled i v e =
      let within : i < length ch.rows = omega (arith, none-past given i v e, part.len) in
      weight-pooled (in_pool ch.accounts (class_at ch.accounts i)) (row_at ch.rows i) v (rows.each i within).pooled (part.candidate i v e)

  given-free : (i v : ℕ) → gift given i ≡ Some v → is_free_class (class_at ch.accounts i) ≡ true
  given-free i v e = by (class_at ch.accounts i) (given-pooled i v e)
    where
      by : (c : Class) → in_pool ch.accounts c v ≡ true → is_free_class c ≡ true
      by (Pinned u) p = p
      by Regular p = refl
      by System p = refl

  given-start : (i v : ℕ) → gift given i ≡ Some v → gift start i ≡ Some v
  given-start i v e = same i (omega (arith, none-past given i v e, part.len, rows.len)) ∙ free-settled (class_at ch.accounts i) (gift given i) (given-free i v e) ∙ e

  source : (i v : ℕ) → gift start i ≡ Some v → (class_at ch.accounts i ≡ Pinned v) ⊎ (gift given i ≡ Some v)
  source i v e = by (class_at ch.accounts i) refl (sym (same i (omega (arith, none-past start i v e, long))) ∙ e)
    where
      by : (c : Class) → class_at ch.accounts i ≡ c → settled_by (class_at ch.accounts i) (gift given i) ≡ Some v → (class_at ch.accounts i ≡ Pinned v) ⊎ (gift given i ≡ Some v)
      by (Pinned u) g s = inl (let s' : settled_by (Pinned u) (gift given i) ≡ Some v = ap (λ (c : Class). settled_by c (gift given i)) (sym g) ∙ s in g ∙ ap Pinned (some-same s'))
      by Regular g s = inr (ap (λ (c : Class). settled_by c (gift given i)) (sym g) ∙ s)
      by System g s = inr (ap (λ (c : Class). settled_by c (gift given i)) (sym g) ∙ s)

  pub is-start : IsStart ch.accounts start
  is-start = record {
    len = long;
    pinned = λ i v h e. same i (omega (arith, h, long)) ∙ ap (λ (c : Class). settled_by c (gift given i)) e;
    pooled = λ i v f e. elim (source i v e) [
      | inl pin ↦ absurd (let f' = rw pin at f in false≢true f')
      | inr g ↦ given-pooled i v g
    ];
    distinct = λ i j v ei ej. elim (source i v ei) [
      | inl pi ↦ elim (source j v ej) [
        | inl pj ↦ rows.lawful.pins_differ i j v (omega (arith, none-past start i v ei, long)) (omega (arith, none-past start j v ej, long)) pi pj
        | inr gj ↦ absurd (both_ways (in_pool ch.accounts (class_at ch.accounts j) v) (pin-away ch.accounts i v (class_at ch.accounts j) (omega (arith, none-past start i v ei, long)) pi) (given-pooled j v gj))
      ]
      | inr gi ↦ elim (source j v ej) [
        | inl pj ↦ absurd (both_ways (in_pool ch.accounts (class_at ch.accounts i) v) (pin-away ch.accounts j v (class_at ch.accounts i) (omega (arith, none-past start j v ej, long)) pj) (given-pooled i v gi))
        | inr gj ↦ part.distinct i j v gi gj
      ]
    ];
  }

  module _ (numbers : List (Option ℕ)) (done : IsDone ch.accounts start numbers) where
    pub all-have : (i : ℕ) → i < length numbers → gift numbers i ≡ None → ⊥
    all-have i h none = split (gift start i) refl
      where
        split : (o : Option ℕ) → gift start i ≡ o → ⊥
        split (Some v) e = some-none (done.kept i v e) none
        split None e = some-none (done.filled i (omega (arith, done.len)) e).has none

    module _ (m : List ℕ) (full : length m ≡ length numbers) (is : (i : ℕ) → i < length numbers → gift numbers i ≡ Some (number_at m i)) where
      has : (i v : ℕ) → gift numbers i ≡ Some v → number_at m i ≡ v
      has i v e = some-same (sym (is i (none-past numbers i v e)) ∙ e)

      pub all-distinct : AreDistinct m
      all-distinct i j hi hj e = done.distinct i j (number_at m j) (is i (omega (arith, full)) ∙ ap Some e) (is j (omega (arith, full)))

      waits-start : (i : ℕ) → i < length m → Waits ch.accounts given i → gift start i ≡ None
      waits-start i h w = same i (omega (arith, full, done.len, long)) ∙ free-settled (class_at ch.accounts i) (gift given i) w.0 ∙ w.1

      pub all-stay : (i v : ℕ) → gift given i ≡ Some v → number_at m i ≡ v
      all-stay i v e = has i v (done.kept i v (given-start i v e))

      has-lawful : (i : ℕ) → i < length ch.accounts.names → MayHave ch.accounts (class_at ch.accounts i) (number_at m i)
      has-lawful i h = by (class_at ch.accounts i) refl
        where
          start-long : i < length start
          start-long = omega (arith, h, long)

          free : is_free_class (class_at ch.accounts i) ≡ true → in_pool ch.accounts (class_at ch.accounts i) (number_at m i) ≡ true
          free f = split (gift start i) refl
            where
              split : (o : Option ℕ) → gift start i ≡ o → in_pool ch.accounts (class_at ch.accounts i) (number_at m i) ≡ true
              split (Some v) e = ap (in_pool ch.accounts (class_at ch.accounts i)) (has i v (done.kept i v e)) ∙ is-start.pooled i v f e
              split None e = let d = done.filled i start-long e in ap (in_pool ch.accounts (class_at ch.accounts i)) (has i d.number d.has) ∙ d.member

          by : (c : Class) → class_at ch.accounts i ≡ c → MayHave ch.accounts c (number_at m i)
          by (Pinned v) e = has i v (done.kept i v (is-start.pinned i v start-long e))
          by Regular e = ap (λ (c : Class). in_pool ch.accounts c (number_at m i)) (sym e) ∙ free (ap is_free_class e)
          by System e = ap (λ (c : Class). in_pool ch.accounts c (number_at m i)) (sym e) ∙ free (ap is_free_class e)

      pub is-admissible : IsAdmissible ch.accounts m
      is-admissible = record { len = full ∙ done.len ∙ long; lawful = has-lawful; distinct = all-distinct }

      may-id : (c : Class) (i v : ℕ) → class_at ch.accounts i ≡ c → MayHave ch.accounts c v → v ≤ 4294967294
      may-id (Pinned p) i v e l = omega (arith, l, rows.lawful.pin_ids i p e)
      may-id Regular i v e l = pool-id ch.accounts Regular v l
      may-id System i v e l = pool-id ch.accounts System v l

      pub is-mapping : IsMapping m
      is-mapping = record {
        distinct = all-distinct;
        ids = All-from_get_or (λ v. v ≤ 4294967294) m 0 (λ i h. may-id (class_at ch.accounts i) i (number_at m i) refl (has-lawful i (omega (arith, h, full, done.len, long))));
      }

      other-than : (by i u : ℕ) → number_at m by ≡ u → u < number_at m i → by ≢ i
      other-than by i u has l e = omega (arith, has, l, ap (number_at m) e)

      pub is-filled : IsFilled ch.accounts (Waits ch.accounts given) m
      is-filled = λ i u h w p l.
          let h' : i < length m = omega (arith, h, full, done.len, long) in
          let d = done.filled i (omega (arith, h, long)) (waits-start i h' w) in
          let b = d.least u p (omega (arith, has i d.number d.has, l)) in
          let inside : b.by < length m = omega (arith, none-past numbers b.by u b.has, full) in
          record {
            by = b.by;
            within = omega (arith, inside, full, done.len, long);
            other = other-than b.by i u (has b.by u b.has) l;
            has = has b.by u b.has;
            earlier = λ w'. b.earlier (waits-start b.by inside w');
          }
