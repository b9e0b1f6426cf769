-- Cuts that are told apart by their hashes.
use Rattle.std.proofs.Common.{◌≡◌, ◌≤◌, ◌<◌, ◌+◌, ◌*◌, ◌-◌, ◌/◌, ◌⊎◌, inl, inr, ℕ, suc, Bool, true, false, cond, List, [], ◌∷◌, ◌++◌, length, get_or, refl, sym, ap, subst, ◌∙◌, arith}
use Rattle.std.proofs.lemmas.Bool.{cases_lt}
use Rattle.std.proofs.lemmas.Option.{slice_get_within, slice_get-get_or}
use Rattle.std.specs.Prelude.{Option, Some, None, slice_get, Result, Ok, Err, IfOk, IfNone}
use Rattle.std.specs.Map.{lookup, values_of}
use Rattle.std.specs.declared.alloc.AllocError.{AllocError}
use Rattle.mtree_inv.specs.declared.places.Place.{Place}
use Rattle.mtree_inv.specs.Cuts.{Cut, IsNew}
use Rattle.mtree_inv.specs.Places.{most_probes, all_hashes, hash_of, place_at, start_of, AreTaken, TellsOf, Key, Others, other_at, IsFoundAt, AreFound, IsAlone, KeepOthers}
use Rattle.mtree_inv.specs.Following.{AreEachOnce, HaveHashes, AreApart, IsApart, AreDifferentAt}
use Rattle.mtree_inv.proofs.PlaceLemmas.{slice_get-more}

-- ---- a cut whose hash no place that it passes tells of

-- where a cut of this index is found, from a start on
abbrev IsThere : List Place → Others → Cut → ℕ → ℕ → ℕ → Type 0
IsThere places others cut i start probes =
    ((probes < most_probes) × TellsOf (place_at places (start + probes)) cut i) ⊎ ((probes ≡ most_probes) × (other_at others cut ≡ Some i))

module _ (cuts : List Cut) (places : List Place) (others : Others) (are : AreFound cuts places others) (cut : Cut) where
  abbrev start : ℕ
  start = start_of (length places) cut

  -- cuts with one hash are looked for from one place on
  same_start : (other : Cut) → hash_of other ≡ hash_of cut → start_of (length places) other ≡ start
  same_start other e = ap (λ (h : ℕ). h * (length places - most_probes) / all_hashes) e

  taken_there : (i : ℕ) (other : Cut) → (found : IsFoundAt places others other i) → hash_of other ≡ hash_of cut → AreTaken places start found.probes
  taken_there i other found e = subst (λ (s : ℕ). AreTaken places s found.probes) (same_start other e) found.taken

  is_there : (i : ℕ) (other : Cut) → (found : IsFoundAt places others other i) → hash_of other ≡ hash_of cut → IsThere places others other i start found.probes
  is_there i other found e = subst (λ (s : ℕ). IsThere places others other i s found.probes) (same_start other e) found.there

  -- no cut has its hash, where one of the places is free
  module _ (k : ℕ) (less : k < most_probes) (free : (place_at places (start + k)).number ≡ 0) (alone : IsAlone cuts places cut k) where
    nowhere : (i : ℕ) (other : Cut) → slice_get cuts i ≡ Some other → hash_of other ≡ hash_of cut → (probes : ℕ) → AreTaken places start probes → IsThere places others other i start probes → ⊥
    nowhere i other at e probes taken (inr there) = taken k (omega (arith, there.0, less)) free
    nowhere i other at e probes taken (inl tells) = first (cases_lt probes k)
      where
        second : k ≤ probes → (k < probes) ⊎ (probes ≤ k) → ⊥
        second up (inl later) = taken k later free
        second up (inr down) =
            let same : probes ≡ k = omega (arith, up, down) in
            omega (arith, free, ap (λ (p : Place). p.number) tells.1, ap (λ (n : ℕ). (place_at places (start + n)).number) same)

        first : (probes < k) ⊎ (k ≤ probes) → ⊥
        first (inl before) = alone probes before i other at e tells.1
        first (inr up) = second up (cases_lt k probes)

    pub apart_at_free : (new_others : Others) → IsApart cuts new_others cut
    apart_at_free new_others i other at e =
        absurd (nowhere i other at e (are i other at).probes (taken_there i other (are i other at) e) (is_there i other (are i other at) e))

  -- a cut that has its hash is in the tree, where all are taken
  module _ (alone : IsAlone cuts places cut most_probes) where
    in_tree : (i : ℕ) (other : Cut) → slice_get cuts i ≡ Some other → hash_of other ≡ hash_of cut → (probes : ℕ) → IsThere places others other i start probes → other_at others other ≡ Some i
    in_tree i other at e probes (inl tells) = absurd (alone probes tells.0 i other at e tells.1)
    in_tree i other at e probes (inr there) = there.1

    pub apart_when_known : (new_others : Others) → KeepOthers cuts others new_others → (Untold : Type 0) → (answer : Result (Option ℕ) AllocError)
        → IfOk answer (λ known. IfNone known (Untold × (other_at new_others cut ≡ Some (length cuts))))
        → IfOk answer (λ known. IfNone known (IsApart cuts new_others cut))
    apart_when_known new_others keep Untold (Err e) new = tt
    apart_when_known new_others keep Untold (Ok (Some i)) new = tt
    apart_when_known new_others keep Untold (Ok None) new = λ i other at e.
        (keep i other at (in_tree i other at e (are i other at).probes (is_there i other (are i other at) e)), new.1)

-- ---- a list of cuts that are apart

pub apart_still : (cuts : List Cut) (others new_others : Others) → KeepOthers cuts others new_others → AreApart cuts others → AreApart cuts new_others
apart_still cuts others new_others keep are i j a b at_i at_j e = by (are i j a b at_i at_j e)
  where
    by : (i ≡ j) ⊎ ((other_at others a ≡ Some i) × (other_at others b ≡ Some j)) → (i ≡ j) ⊎ ((other_at new_others a ≡ Some i) × (other_at new_others b ≡ Some j))
    by (inl same) = inl same
    by (inr both) = inr (keep i a at_i both.0, keep j b at_j both.1)

pub apart_more : (cuts : List Cut) (others : Others) (cut : Cut) → AreApart cuts others → IsApart cuts others cut → AreApart (cuts ++ cut ∷ []) others
apart_more cuts others cut are is i j a b at_i at_j e = by (slice_get-more cuts cut i a at_i) (slice_get-more cuts cut j b at_j)
  where
    last : (n : ℕ) (c : Cut) → n ≡ length cuts → c ≡ cut → other_at others cut ≡ Some (length cuts) → other_at others c ≡ Some n
    last n c at same told = ap (other_at others) same ∙ told ∙ ap Some (sym at)

    by : (slice_get cuts i ≡ Some a) ⊎ ((i ≡ length cuts) × (a ≡ cut)) → (slice_get cuts j ≡ Some b) ⊎ ((j ≡ length cuts) × (b ≡ cut))
        → (i ≡ j) ⊎ ((other_at others a ≡ Some i) × (other_at others b ≡ Some j))
    by (inl one) (inl two) = are i j a b one two e
    by (inl one) (inr two) = let told = is i a one (e ∙ ap hash_of two.1) in inr (told.0, last j b two.0 two.1 told.1)
    by (inr one) (inl two) = let told = is j b two (sym e ∙ ap hash_of one.1) in inr (last i a one.0 one.1 told.1, told.0)
    by (inr one) (inr two) = inl (one.0 ∙ sym two.0)

-- ---- a list of cuts that have the hashes which are expected

module _ (cuts : List Cut) (expected : List ℕ) (cut : Cut) (next : slice_get expected (length cuts) ≡ Some (hash_of cut)) (once : AreEachOnce expected) (have : HaveHashes cuts expected) where
  pub new_when_expected : IsNew cuts cut
  new_when_expected i at =
      let same : i ≡ length cuts = once i (length cuts) (hash_of cut) (have i cut at) next in
      let within : i < length cuts = slice_get_within cuts i cut at in
      omega (arith, same, within)

  pub have_more : HaveHashes (cuts ++ cut ∷ []) expected
  have_more i other at = by (slice_get-more cuts cut i other at)
    where
      by : (slice_get cuts i ≡ Some other) ⊎ ((i ≡ length cuts) × (other ≡ cut)) → slice_get expected i ≡ Some (hash_of other)
      by (inl before) = have i other before
      by (inr last) = ap (slice_get expected) last.0 ∙ next ∙ ap (λ (c : Cut). Some (hash_of c)) (sym last.1)

pub apart_when_expected : (cuts : List Cut) (expected : List ℕ) (others : Others) → AreEachOnce expected → HaveHashes cuts expected → AreApart cuts others
apart_when_expected cuts expected others once have i j a b at_i at_j e =
    inl (once i j (hash_of a) (have i a at_i) (have j b at_j ∙ ap Some (sym e)))

-- ---- the hashes of a list of cuts

-- a value that a tree has at a key stands among its values
value_at : (test : Key → Bool) (others : Others) (i : ℕ) → lookup test others ≡ Some i → (p : ℕ) × (slice_get (values_of others) p ≡ Some i)
value_at test [] i e = absurd (cc)
value_at test (entry ∷ others) i e = by (λ told. value_at test others i told) (test entry.0) refl
  where
    by : (lookup test others ≡ Some i → (p : ℕ) × (slice_get (values_of others) p ≡ Some i)) → (is : Bool) → test entry.0 ≡ is
        → (p : ℕ) × (slice_get (values_of (entry ∷ others)) p ≡ Some i)
    by rest true is = (0, sym (ap (λ (b : Bool). cond b (Some entry.1) (lookup test others)) is) ∙ e)
    by rest false is =
        let behind = rest (sym (ap (λ (b : Bool). cond b (Some entry.1) (lookup test others)) is) ∙ e) in
        (suc behind.0, behind.1)

module _ (cuts : List Cut) (others : Others) (hashes : List ℕ) (are : AreApart cuts others) (have : HaveHashes cuts hashes) (len : length hashes ≡ length cuts)
    (differ : AreDifferentAt hashes (values_of others)) where
  cut_at : (i hash : ℕ) → slice_get hashes i ≡ Some hash → (cut : Cut) × (slice_get cuts i ≡ Some cut) × (hash_of cut ≡ hash)
  cut_at i hash at =
      let none : Cut = (0, []) in
      let cut : Cut = get_or cuts i none in
      let stands : slice_get cuts i ≡ Some cut = slice_get-get_or cuts i none (omega (arith, len, slice_get_within hashes i hash at)) in
      let both : Some (hash_of cut) ≡ Some hash = sym (have i cut stands) ∙ at in
      let same : hash_of cut ≡ hash = cc in
      (cut, stands, same)

  pub each_once : AreEachOnce hashes
  each_once i j hash at_i at_j = by (cut_at i hash at_i) (cut_at j hash at_j)
    where
      by : (cut : Cut) × (slice_get cuts i ≡ Some cut) × (hash_of cut ≡ hash) → (cut : Cut) × (slice_get cuts j ≡ Some cut) × (hash_of cut ≡ hash) → i ≡ j
      by one two = or (are i j one.0 two.0 one.1 two.1 (one.2 ∙ sym two.2))
        where
          or : (i ≡ j) ⊎ ((other_at others one.0 ≡ Some i) × (other_at others two.0 ≡ Some j)) → i ≡ j
          or (inl same) = same
          or (inr both) =
              let p = value_at _ others i both.0 in
              let q = value_at _ others j both.1 in
              differ p.0 q.0 i j hash p.1 q.1 at_i at_j
