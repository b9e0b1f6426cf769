-- Fronts: whole numbers of blocks, no two of them the same, so that a path is cut in one way.
use Rattle.std.proofs.Common.{get_or, ◌≡◌, ◌≤◌, ◌<◌, ◌+◌, ◌%◌, ℕ, zero, suc, List, [], ◌∷◌, ◌++◌, length, take, drop, refl, sym, ap, ◌∙◌, subst, arith, length-append, inl, inr, ◌⊎◌}
use Rattle.std.proofs.lemmas.List.{take_at, drop_at, get_or_append_left, get_or_push}
use Rattle.std.proofs.lemmas.Option.{slice_get-get_or}
use Rattle.std.specs.Prelude.{Some, slice_get}
use Rattle.mtree_inv.specs.Cuts.{Cut, IsNew}
use Rattle.mtree_inv.specs.Fronts.{block_len, front_at, path_of_cut, IsCut, AreFronts, fronts_behind, fronts_in, IsFrontAt, AreFrontCuts}
use Rattle.mtree_inv.proofs.PlaceLemmas.{slice_get-more, distinct_more}

-- ---- one way to cut

same_parts : (a b c d : List ℕ) → length a ≡ length c → a ++ b ≡ c ++ d → (a ≡ c) × (b ≡ d)
same_parts a b c d lengths e = (
  sym (take_at a b (length a) refl) ∙ ap (take (length a)) e ∙ take_at c d (length a) (sym lengths),
  sym (drop_at a b (length a) refl) ∙ ap (drop (length a)) e ∙ drop_at c d (length a) (sym lengths),
)

same_lengths : (a b x y : ℕ) → a % block_len ≡ 0 → b % block_len ≡ 0 → x ≤ block_len → y ≤ block_len
    → (x ≡ 0 → a ≡ 0) → (y ≡ 0 → b ≡ 0) → a + x ≡ b + y → a ≡ b
same_lengths a b x y whole_a whole_b short_x short_y filled_x filled_y e = grind arith

no_front : (fronts : List (List ℕ)) (cut : Cut) → AreFronts fronts → IsCut fronts cut → length cut.1 ≡ 0 → length (front_at fronts cut.0) ≡ 0
no_front fronts cut are is e = ap (λ (n : ℕ). length (front_at fronts n)) (is.filled e) ∙ ap length are.first

-- two cuts of one path are the same
pub cut_once : (fronts : List (List ℕ)) (p q : Cut) → AreFronts fronts → IsCut fronts p → IsCut fronts q → path_of_cut fronts p ≡ path_of_cut fronts q
    → (p.0 ≡ q.0) × (p.1 ≡ q.1)
cut_once fronts p q are is_p is_q e =
    let a = front_at fronts p.0 in
    let c = front_at fronts q.0 in
    let sum : length a + length p.1 ≡ length c + length q.1 = sym (length-append a p.1) ∙ ap length e ∙ length-append c q.1 in
    let lengths = same_lengths (length a) (length c) (length p.1) (length q.1) (are.whole p.0 is_p.kept) (are.whole q.0 is_q.kept) is_p.short is_q.short
    (no_front fronts p are is_p) (no_front fronts q are is_q) sum in
    let parts = same_parts a p.1 c q.1 lengths e in
    (are.distinct p.0 q.0 is_p.kept is_q.kept parts.0, parts.1)

-- ---- more fronts

pub front-more : (fronts added : List (List ℕ)) (n : ℕ) → n < length fronts → front_at (fronts ++ added) n ≡ front_at fronts n
front-more fronts added n less = get_or_append_left fronts added [] n less

pub path-more : (fronts added : List (List ℕ)) (cut : Cut) → cut.0 < length fronts → path_of_cut (fronts ++ added) cut ≡ path_of_cut fronts cut
path-more fronts added cut less = ap (λ (front : List ℕ). front ++ cut.1) (front-more fronts added cut.0 less)

pub cut-more : (fronts added : List (List ℕ)) (cut : Cut) → IsCut fronts cut → IsCut (fronts ++ added) cut
cut-more fronts added cut is = record { kept = omega (arith, is.kept, length-append fronts added); short = is.short; filled = is.filled }

front_is-more : (fronts added : List (List ℕ)) (cut : Cut) (n : ℕ) → IsFrontAt fronts cut n → IsFrontAt (fronts ++ added) cut n
front_is-more fronts added cut n is = record {
  kept = omega (arith, is.kept, length-append fronts added);
  before = is.before;
  block = is.block;
  is_front = front-more fronts added n is.kept ∙ is.is_front ∙ sym (path-more fronts added cut (omega (arith, is.before, is.kept)));
}

-- ---- fronts as cuts

fronts_behind-more : (fronts : List (List ℕ)) (cuts : List Cut) (cut : Cut) → fronts_behind fronts (cuts ++ cut ∷ []) ≡ fronts_behind fronts cuts ++ path_of_cut (fronts_behind fronts cuts) cut ∷ []
fronts_behind-more fronts [] cut = refl
fronts_behind-more fronts (c ∷ cuts) cut = fronts_behind-more (fronts ++ path_of_cut fronts c ∷ []) cuts cut

pub fronts-new : (cuts : List Cut) (cut : Cut) → fronts_in (cuts ++ cut ∷ []) ≡ fronts_in cuts ++ path_of_cut (fronts_in cuts) cut ∷ []
unfolding fronts_in
fronts-new cuts cut = fronts_behind-more ([] ∷ []) cuts cut

module _ (cuts : List Cut) (are : AreFrontCuts cuts) where
  abbrev fronts : List (List ℕ)
  fronts = fronts_in cuts

  -- the cut that makes a front
  abbrev maker : ℕ → Cut
  maker n = get_or cuts n (0, [])

  made : (n : ℕ) → suc n < length fronts → slice_get cuts n ≡ Some (maker n)
  made n less = slice_get-get_or cuts n (0, []) (omega (arith, less, are.counted))

  is_made : (n : ℕ) → suc n < length fronts → IsFrontAt fronts (maker n) (suc n)
  is_made n less = are.told n (maker n) (made n less)

  length-front : (n : ℕ) (less : suc n < length fronts) → length (front_at fronts (suc n)) ≡ length (front_at fronts (maker n).0) + block_len
  length-front n less =
      let is = is_made n less in
      ap length is.is_front ∙ length-append (front_at fronts (maker n).0) (maker n).1 ∙ ap (λ (l : ℕ). length (front_at fronts (maker n).0) + l) is.block

  whole_below : (k n : ℕ) → n < k → n < length fronts → length (front_at fronts n) % block_len ≡ 0
  whole_below zero n below less = absurd (omega arith)
  whole_below (suc k) zero below less = ap (λ (f : List ℕ). length f % block_len) are.first
  whole_below (suc k) (suc n) below less =
      let is = is_made n less in
      omega (arith, length-front n less, whole_below k (maker n).0 (omega (arith, is.before, below)) (omega (arith, is.before, is.kept)))

  not_empty : (n : ℕ) → suc n < length fronts → front_at fronts 0 ≡ front_at fronts (suc n) → ⊥
  not_empty n less e = omega (arith, length-front n less, ap length e, ap length are.first)

  distinct_below : (k m n : ℕ) → m < k → m < length fronts → n < length fronts → front_at fronts m ≡ front_at fronts n → m ≡ n
  distinct_below zero m n below less_m less_n e = absurd (omega arith)
  distinct_below (suc k) zero zero below less_m less_n e = refl
  distinct_below (suc k) zero (suc n) below less_m less_n e = absurd (not_empty n less_n e)
  distinct_below (suc k) (suc m) zero below less_m less_n e = absurd (not_empty m less_m (sym e))
  distinct_below (suc k) (suc m) (suc n) below less_m less_n e =
      let is_m = is_made m less_m in
      let is_n = is_made n less_n in
      let a = front_at fronts (maker m).0 in
      let c = front_at fronts (maker n).0 in
      let lengths : length a ≡ length c = omega (arith, length-front m less_m, length-front n less_n, ap length e) in
      let parts = same_parts a (maker m).1 c (maker n).1 lengths (sym is_m.is_front ∙ e ∙ is_n.is_front) in
      let before : (maker m).0 ≡ (maker n).0 = distinct_below k (maker m).0 (maker n).0 (omega (arith, is_m.before, below)) (omega (arith, is_m.before, is_m.kept)) (omega (arith, is_n.before, is_n.kept)) parts.0 in
      let same : maker m ≡ maker n = ap (λ (f : ℕ). (f, (maker m).1)) before ∙ ap (λ (t : List ℕ). ((maker n).0, t)) parts.1 in
      ap suc (are.distinct m n (maker n) (made m less_m ∙ ap Some same) (made n less_n))

  pub are_fronts : AreFronts fronts
  are_fronts = record {
    some = omega (arith, are.counted);
    first = are.first;
    whole = λ n less. whole_below (suc n) n (omega arith) less;
    distinct = λ m n less_m less_n e. distinct_below (suc m) m n (omega arith) less_m less_n e;
  }

  -- ---- with one more

  module _ (cut : Cut) (new : IsNew cuts cut) (less : cut.0 < length fronts) (block : length cut.1 ≡ block_len) where
    abbrev more : List (List ℕ)
    more = path_of_cut fronts cut ∷ []

    length-fronts : length (fronts ++ more) ≡ suc (suc (length cuts))
    length-fronts = omega (arith, length-append fronts more, are.counted)

    pub front_is-new : IsFrontAt (fronts ++ more) cut (suc (length cuts))
    front_is-new = record {
      kept = omega (arith, length-fronts);
      before = omega (arith, less, are.counted);
      block = block;
      is_front = get_or_push fronts (path_of_cut fronts cut) [] (suc (length cuts)) are.counted ∙ sym (path-more fronts more cut less);
    }

    told-new : (i : ℕ) (p : Cut) → (slice_get cuts i ≡ Some p) ⊎ ((i ≡ length cuts) × (p ≡ cut)) → IsFrontAt (fronts ++ more) p (suc i)
    told-new i p (inl at) = front_is-more fronts more p (suc i) (are.told i p at)
    told-new i p (inr last) = subst (λ (n : ℕ). IsFrontAt (fronts ++ more) p (suc n)) (sym last.0) (subst (λ (q : Cut). IsFrontAt (fronts ++ more) q (suc (length cuts))) (sym last.1) front_is-new)

    pub front_cuts-new : AreFrontCuts (cuts ++ cut ∷ [])
    front_cuts-new = record {
      distinct = distinct_more cuts cut are.distinct new;
      counted = ap length (fronts-new cuts cut) ∙ length-fronts ∙ ap suc (omega (arith, length-append cuts (cut ∷ [])));
      first = ap (λ (l : List (List ℕ)). front_at l 0) (fronts-new cuts cut) ∙ front-more fronts more 0 (omega (arith, are.counted)) ∙ are.first;
      told = λ i p at. subst (λ (l : List (List ℕ)). IsFrontAt l p (suc i)) (sym (fronts-new cuts cut)) (told-new i p (slice_get-more cuts cut i p at));
    }

pub no_cuts_are : AreFrontCuts []
unfolding fronts_in
no_cuts_are = record { distinct = λ i j cut at. absurd (cc); counted = refl; first = refl; told = λ i cut at. absurd (cc) }
