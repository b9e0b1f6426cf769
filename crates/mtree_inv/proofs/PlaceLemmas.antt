-- Where the cuts of a list are found.
use Rattle.std.proofs.Common.{◌≡◌, ◌≢◌, ◌≤◌, ◌<◌, ◌+◌, ◌⊎◌, inl, inr, ℕ, zero, suc, Bool, true, false, cond, List, [], ◌∷◌, ◌++◌, length, refl, sym, ap, subst, ◌∙◌, arith, true≢false}
use Rattle.std.proofs.lemmas.Bool.{cases_lt, cases_eq}
use Rattle.std.proofs.lemmas.Slice.Eq.{bytes_eq-Decides}
use Rattle.std.proofs.lemmas.Map.Text.{is_eq-slice_cmp}
use Rattle.std.proofs.lemmas.Map.Lookups.{exact_bytes, exact_unsigned}
use Rattle.std.specs.Prelude.{Option, Some, None, slice_get, Result, Ok, Err, IfOk, IfSome, IfNone, MatchOption}
use Rattle.std.specs.declared.alloc.AllocError.{AllocError}
use Rattle.std.specs.Ordering.{nat_cmp, is_eq, is_lt, match_ordering, ordering_then, ordering_reverse}
use Rattle.std.specs.Cmp.{nat_cmp_total}
use Rattle.std.specs.Cmp.Lexicographic.{slice_cmp}
use Rattle.std.specs.BTreeMap.{insert_entry}
use Rattle.std.specs.Map.{lookup}
use Rattle.std.specs.declared.cmp.Ordering.{Ordering}
use Rattle.std.specs.declared.cmp.Ordering.TheVariants.{Less, Equal, Greater}
use Rattle.mtree_inv.specs.declared.places.Place.{Place}
use Rattle.mtree_inv.specs.Cuts.{Cut, IsNew, IsPlaceOf, AreDistinct}
use Rattle.mtree_inv.specs.Places.{most_probes, hash_of, half, place_at, start_of, AreTaken, TellsOf, digest_of, Key, IsKeyOf, key_cmp, Others, other_at, IsFoundAt, AreFound, IsToldNowhere}

-- ---- keys of the tree

abbrev Parts : Type 0
Parts = ℕ × ℕ × List ℕ

abbrev parts : Key → Parts
parts key = (key.0, key.1, key.2.items)

abbrev parts_of : Cut → Parts
parts_of cut = (digest_of cut, cut.0, cut.1)

abbrev is_key : Cut → Key → Bool
is_key cut key = is_eq (key_cmp (parts_of cut) (parts key))

equal : (o : Ordering) → is_eq o ≡ true → o ≡ Equal
equal Less e = absurd (true≢false (sym e))
equal Equal e = refl
equal Greater e = absurd (true≢false (sym e))

both_equal : (o p : Ordering) → is_eq (ordering_then o p) ≡ true → (o ≡ Equal) × (p ≡ Equal)
both_equal Less p h = absurd (true≢false (sym h))
both_equal Equal p h = (refl, equal p h)
both_equal Greater p h = absurd (true≢false (sym h))

same_parts : (a b : Parts) → is_eq (key_cmp a b) ≡ true → a ≡ b
same_parts a b h =
    let numbers = ordering_then (nat_cmp a.0 b.0) (nat_cmp a.1 b.1) in
    let both = both_equal numbers (slice_cmp nat_cmp a.2 b.2) h in
    let two = both_equal (nat_cmp a.0 b.0) (nat_cmp a.1 b.1) (ap is_eq both.0) in
    ap (λ (n : ℕ). (n, a.1, a.2)) (exact_unsigned a.0 b.0 two.0) ∙ ap (λ (n : ℕ). (b.0, n, a.2)) (exact_unsigned a.1 b.1 two.1)
    ∙ ap (λ (xs : List ℕ). (b.0, b.1, xs)) (exact_bytes a.2 b.2 both.1)

number_itself : (n : ℕ) → nat_cmp n n ≡ Equal
number_itself n = by (nat_cmp n n) (nat_cmp_total.antisymm n n)
  where
    by : (o : Ordering) → o ≡ ordering_reverse o → o ≡ Equal
    by Less e = absurd (true≢false (ap is_lt e))
    by Equal e = refl
    by Greater e = absurd (true≢false (sym (ap is_lt e)))

parts_itself : (a : Parts) → is_eq (key_cmp a a) ≡ true
parts_itself a =
    ap (λ (o : Ordering). is_eq (ordering_then (ordering_then o (nat_cmp a.1 a.1)) (slice_cmp nat_cmp a.2 a.2))) (number_itself a.0)
    ∙ ap (λ (o : Ordering). is_eq (ordering_then o (slice_cmp nat_cmp a.2 a.2))) (number_itself a.1)
    ∙ is_eq-slice_cmp a.2 a.2 ∙ (bytes_eq-Decides a.2 a.2).1 refl

-- the key of a cut is its parts
parts_are : (key : Key) (cut : Cut) → IsKeyOf key cut → parts_of cut ≡ parts key
parts_are key cut is =
    ap (λ (n : ℕ). (n, cut.0, cut.1)) (sym is.digest) ∙ ap (λ (n : ℕ). (key.0, n, cut.1)) (sym is.front) ∙ ap (λ (xs : List ℕ). (key.0, key.1, xs)) (sym is.tail)

-- what the tree says of a cut is what it has at its key
pub at_key : (others : Others) (key : Key) (cut : Cut) → IsKeyOf key cut → lookup (λ (k : Key). is_eq (key_cmp (parts key) (parts k))) others ≡ other_at others cut
at_key others key cut is = ap (λ (p : Parts). lookup (λ (k : Key). is_eq (key_cmp p (parts k))) others) (sym (parts_are key cut is))

-- ---- the tree with a key

module _ (key : Key) (of : Cut) (is : IsKeyOf key of) (new : ℕ) where
  abbrev with_key : Others → Others
  with_key others = insert_entry (λ (a b : Key). key_cmp (parts a) (parts b)) others key new

  is_its_key : is_key of key ≡ true
  is_its_key = ap (λ (p : Parts). is_eq (key_cmp p (parts key))) (parts_are key of is) ∙ parts_itself (parts key)

  same_key : (cut : Cut) → is_key cut key ≡ true → cut ≡ of
  same_key cut h = ap (λ (p : Parts). (p.1, p.2)) (same_parts (parts_of cut) (parts key) h ∙ sym (parts_are key of is))

  other-new : (cut : Cut) (others : Others) → other_at (with_key others) cut ≡ cond (is_key cut key) (Some new) (other_at others cut)
  other-new cut [] = refl
  other-new cut (row ∷ others) = by (key_cmp (parts key) (parts row.0)) refl (other-new cut others)
    where
      replaced : (b d : Bool) → b ≡ d → cond d (Some new) (other_at others cut) ≡ cond b (Some new) (cond d (Some row.1) (other_at others cut))
      replaced true true e = refl
      replaced true false e = absurd (true≢false e)
      replaced false true e = absurd (true≢false (sym e))
      replaced false false e = refl

      apart : (b d : Bool) → is_key cut key ≡ b → is_key cut row.0 ≡ d → key_cmp (parts key) (parts row.0) ≡ Greater
          → cond d (Some row.1) (cond b (Some new) (other_at others cut)) ≡ cond b (Some new) (cond d (Some row.1) (other_at others cut))
      apart true true h k e =
          let same : parts key ≡ parts row.0 = sym (same_parts (parts_of cut) (parts key) h) ∙ same_parts (parts_of cut) (parts row.0) k in
          absurd (true≢false (sym (parts_itself (parts key)) ∙ ap (λ (p : Parts). is_eq (key_cmp (parts key) p)) same ∙ ap is_eq e))
      apart true false h k e = refl
      apart false d h k e = refl

      one_key : key_cmp (parts key) (parts row.0) ≡ Equal → is_key cut key ≡ is_key cut row.0
      one_key e = ap (λ (p : Parts). is_eq (key_cmp (parts_of cut) p)) (same_parts (parts key) (parts row.0) (ap is_eq e))

      by : (o : Ordering) → key_cmp (parts key) (parts row.0) ≡ o → other_at (with_key others) cut ≡ cond (is_key cut key) (Some new) (other_at others cut)
          → other_at (match_ordering o ((key, new) ∷ row ∷ others) ((row.0, new) ∷ others) (row ∷ with_key others)) cut ≡ cond (is_key cut key) (Some new) (other_at (row ∷ others) cut)
      by Less e rest = refl
      by Equal e rest = replaced (is_key cut key) (is_key cut row.0) (one_key e)
      by Greater e rest =
          ap (λ (o : Option ℕ). cond (is_key cut row.0) (Some row.1) o) rest
          ∙ apart (is_key cut key) (is_key cut row.0) refl refl e

  pub other_at-new : (others new_others : Others) → new_others ≡ with_key others → other_at new_others of ≡ Some new
  other_at-new others new_others are =
      ap (λ (l : Others). other_at l of) are ∙ other-new of others ∙ ap (λ (b : Bool). cond b (Some new) (other_at others of)) is_its_key

  pub other_at-other : (others new_others : Others) → new_others ≡ with_key others → (i : ℕ) (cut : Cut) → other_at others cut ≡ Some i → (cut ≡ of → i ≡ new) → other_at new_others cut ≡ Some i
  other_at-other others new_others are i cut at one = ap (λ (l : Others). other_at l cut) are ∙ other-new cut others ∙ by (is_key cut key) refl
    where
      by : (b : Bool) → is_key cut key ≡ b → cond b (Some new) (other_at others cut) ≡ Some i
      by true h = ap Some (sym (one (same_key cut h)))
      by false h = at

-- ---- a cut is found still, where a free place was taken

module _ (places new_places : List Place) (others : Others) (at : ℕ) (len : length new_places ≡ length places)
    (same : (n : ℕ) → n ≢ at → place_at new_places n ≡ place_at places n) (free : (place_at places at).number ≡ 0) (hash index : ℕ)
    (now : place_at new_places at ≡ record { hash = hash; number = suc index }) where
  taken_still : (n : ℕ) → (place_at places n).number ≢ 0 → (place_at new_places n).number ≢ 0
  taken_still n taken = by (cases_eq n at)
    where
      by : (n ≡ at) ⊎ (n ≡ at → ⊥) → (place_at new_places n).number ≢ 0
      by (inl e) = λ z. omega (arith, sym (ap (λ (p : Place). p.number) now), ap (λ (m : ℕ). (place_at new_places m).number) (sym e), z)
      by (inr apart) = λ z. taken (ap (λ (p : Place). p.number) (sym (same n apart)) ∙ z)

  tells_still : (n i : ℕ) (cut : Cut) → TellsOf (place_at places n) cut i → TellsOf (place_at new_places n) cut i
  tells_still n i cut tells = by (cases_eq n at)
    where
      by : (n ≡ at) ⊎ (n ≡ at → ⊥) → TellsOf (place_at new_places n) cut i
      by (inl e) = absurd (omega (arith, free, ap (λ (m : ℕ). (place_at places m).number) (sym e), ap (λ (p : Place). p.number) tells))
      by (inr apart) = same n apart ∙ tells

  pub found_still : (cut : Cut) (i : ℕ) → IsFoundAt places others cut i → IsFoundAt new_places others cut i
  found_still cut i found = subst (λ (n : ℕ). (most_probes < n) → AreTaken new_places (start_of n cut) found.probes
      → ((found.probes < most_probes) × TellsOf (place_at new_places (start_of n cut + found.probes)) cut i) ⊎ ((found.probes ≡ most_probes) × (other_at others cut ≡ Some i))
      → IsFoundAt new_places others cut i) len
      (λ roomy taken there. record { roomy = roomy; probes = found.probes; taken = taken; there = there })
      found.roomy (λ k less. taken_still (start_of (length places) cut + k) (found.taken k less)) (by found.there)
    where
      by : ((found.probes < most_probes) × TellsOf (place_at places (start_of (length places) cut + found.probes)) cut i) ⊎ ((found.probes ≡ most_probes) × (other_at others cut ≡ Some i))
          → ((found.probes < most_probes) × TellsOf (place_at new_places (start_of (length places) cut + found.probes)) cut i) ⊎ ((found.probes ≡ most_probes) × (other_at others cut ≡ Some i))
      by (inl tells) = inl (tells.0, tells_still (start_of (length places) cut + found.probes) i cut tells.1)
      by (inr other) = inr other

  -- and the cut that took it is found there
  pub found_there : (cut : Cut) (k : ℕ) → most_probes < length places → k < most_probes → at ≡ start_of (length places) cut + k → AreTaken places (start_of (length places) cut) k
      → hash ≡ half (hash_of cut) → IsFoundAt new_places others cut index
  found_there cut k roomy few is taken hashes = subst (λ (n : ℕ). (most_probes < n) → AreTaken new_places (start_of n cut) k → TellsOf (place_at new_places (start_of n cut + k)) cut index
      → IsFoundAt new_places others cut index) len
      (λ roomy taken tells. record { roomy = roomy; probes = k; taken = taken; there = inl (few, tells) })
      roomy (λ j less. taken_still (start_of (length places) cut + j) (taken j less))
      (ap (place_at new_places) (sym is) ∙ now ∙ ap (λ (m : ℕ). (let p : Place = record { hash = m; number = suc index } in p)) hashes)

-- ---- a cut is found still, where another went into the tree

pub found_beside : (places : List Place) (others new_others : Others) (cut : Cut) (i : ℕ) → (other_at others cut ≡ Some i → other_at new_others cut ≡ Some i)
    → IsFoundAt places others cut i → IsFoundAt places new_others cut i
found_beside places others new_others cut i keeps found = record { roomy = found.roomy; probes = found.probes; taken = found.taken; there = by found.there }
  where
    by : ((found.probes < most_probes) × TellsOf (place_at places (start_of (length places) cut + found.probes)) cut i) ⊎ ((found.probes ≡ most_probes) × (other_at others cut ≡ Some i))
        → ((found.probes < most_probes) × TellsOf (place_at places (start_of (length places) cut + found.probes)) cut i) ⊎ ((found.probes ≡ most_probes) × (other_at new_others cut ≡ Some i))
    by (inl tells) = inl tells
    by (inr other) = inr (other.0, keeps other.1)

-- ---- where a cut is not found, it is new

module _ (cuts : List Cut) (places : List Place) (others : Others) (are : AreFound cuts places others) (cut : Cut) where
  pub new_without_places : length places ≤ most_probes → IsNew cuts cut
  new_without_places few i at = omega (arith, (are i cut at).roomy, few)

  pub new_at_free : (k : ℕ) → k < most_probes → (place_at places (start_of (length places) cut + k)).number ≡ 0 → IsToldNowhere cuts places cut k → IsNew cuts cut
  new_at_free k less free nowhere i at = by (are i cut at) (are i cut at).there
    where
      behind : (found : IsFoundAt places others cut i) → k < found.probes → ⊥
      behind found later = found.taken k later free

      by : (found : IsFoundAt places others cut i)
          → ((found.probes < most_probes) × TellsOf (place_at places (start_of (length places) cut + found.probes)) cut i) ⊎ ((found.probes ≡ most_probes) × (other_at others cut ≡ Some i)) → ⊥
      by found (inl tells) = cases (cases_lt found.probes k)
        where
          here : k ≤ found.probes → (k < found.probes) ⊎ (found.probes ≤ k) → ⊥
          here up (inl later) = behind found later
          here up (inr down) =
              let same : found.probes ≡ k = omega (arith, up, down) in
              omega (arith, free, ap (λ (p : Place). p.number) tells.1, ap (λ (n : ℕ). (place_at places (start_of (length places) cut + n)).number) same)

          cases : (found.probes < k) ⊎ (k ≤ found.probes) → ⊥
          cases (inl before) = nowhere found.probes before i at tells.1
          cases (inr up) = here up (cases_lt k found.probes)
      by found (inr other) = behind found (omega (arith, other.0, less))

  pub new_when_full : IsToldNowhere cuts places cut most_probes → ((i : ℕ) → slice_get cuts i ≡ Some cut → other_at others cut ≡ Some i → ⊥) → IsNew cuts cut
  new_when_full nowhere none i at = by (are i cut at) (are i cut at).there
    where
      by : (found : IsFoundAt places others cut i)
          → ((found.probes < most_probes) × TellsOf (place_at places (start_of (length places) cut + found.probes)) cut i) ⊎ ((found.probes ≡ most_probes) × (other_at others cut ≡ Some i)) → ⊥
      by found (inl tells) = nowhere found.probes tells.0 i at tells.1
      by found (inr other) = none i at other.1

  -- what the tree answers then is where the cut stands
  pub place_when_full : IsToldNowhere cuts places cut most_probes → (answer : Result (Option ℕ) AllocError)
      → IfOk answer (λ found. IfSome found (λ i. slice_get cuts i ≡ Some cut))
      → IfOk answer (λ found. MatchOption found ((i : ℕ) → slice_get cuts i ≡ Some cut → other_at others cut ≡ Some i → ⊥) (λ _. Unit {0}))
      → IfOk answer (IsPlaceOf cuts cut)
  place_when_full nowhere (Err e) found none = tt
  place_when_full nowhere (Ok None) found none = new_when_full nowhere none
  place_when_full nowhere (Ok (Some i)) found none = found

  -- the same, where the tree comes to know a cut that it did not
  pub place_when_known : IsToldNowhere cuts places cut most_probes → (Told : Type 0) → (answer : Result (Option ℕ) AllocError)
      → IfOk answer (λ known. IfSome known (λ i. slice_get cuts i ≡ Some cut))
      → IfOk answer (λ known. IfNone known (((i : ℕ) → slice_get cuts i ≡ Some cut → other_at others cut ≡ Some i → ⊥) × Told))
      → IfOk answer (IsPlaceOf cuts cut)
  place_when_known nowhere Told (Err e) known new = tt
  place_when_known nowhere Told (Ok None) known new = new_when_full nowhere new.0
  place_when_known nowhere Told (Ok (Some i)) known new = known

-- and then it is found there
pub found_when_known : (places : List Place) (others : Others) (cut : Cut) (last : ℕ) → most_probes < length places → AreTaken places (start_of (length places) cut) most_probes
    → (Untold : Type 0) → (answer : Result (Option ℕ) AllocError) → IfOk answer (λ known. IfNone known (Untold × (other_at others cut ≡ Some last)))
    → IfOk answer (λ known. IfNone known (IsFoundAt places others cut last))
found_when_known places others cut last roomy taken Untold (Err e) new = tt
found_when_known places others cut last roomy taken Untold (Ok None) new = record { roomy = roomy; probes = most_probes; taken = taken; there = inr (refl, new.1) }
found_when_known places others cut last roomy taken Untold (Ok (Some i)) new = tt

-- ---- a list with a cut more

pub slice_get-more : {X : Type 0} (xs : List X) (y : X) (i : ℕ) (x : X) → slice_get (xs ++ y ∷ []) i ≡ Some x → (slice_get xs i ≡ Some x) ⊎ ((i ≡ length xs) × (x ≡ y))
slice_get-more [] y zero x e = inr (refl, sym (cc))
slice_get-more [] y (suc i) x e = absurd (cc)
slice_get-more (z ∷ xs) y zero x e = inl e
slice_get-more (z ∷ xs) y (suc i) x e = by (slice_get-more xs y i x e)
  where
    by : (slice_get xs i ≡ Some x) ⊎ ((i ≡ length xs) × (x ≡ y)) → (slice_get xs i ≡ Some x) ⊎ ((suc i ≡ suc (length xs)) × (x ≡ y))
    by (inl at) = inl at
    by (inr last) = inr (ap suc last.0, last.1)

pub distinct_more : (cuts : List Cut) (cut : Cut) → AreDistinct cuts → IsNew cuts cut → AreDistinct (cuts ++ cut ∷ [])
distinct_more cuts cut are new i j p at_i at_j = by (slice_get-more cuts cut i p at_i) (slice_get-more cuts cut j p at_j)
  where
    by : (slice_get cuts i ≡ Some p) ⊎ ((i ≡ length cuts) × (p ≡ cut)) → (slice_get cuts j ≡ Some p) ⊎ ((j ≡ length cuts) × (p ≡ cut)) → i ≡ j
    by (inl a) (inl b) = are i j p a b
    by (inl a) (inr b) = absurd (new i (a ∙ ap Some b.1))
    by (inr a) (inl b) = absurd (new j (b ∙ ap Some a.1))
    by (inr a) (inr b) = a.0 ∙ sym b.0

pub settled_more : (cuts : List Cut) (cut : Cut) (places : List Place) (others : Others) → AreFound cuts places others → IsFoundAt places others cut (length cuts)
    → AreFound (cuts ++ cut ∷ []) places others
settled_more cuts cut places others are found i p at = by (slice_get-more cuts cut i p at)
  where
    by : (slice_get cuts i ≡ Some p) ⊎ ((i ≡ length cuts) × (p ≡ cut)) → IsFoundAt places others p i
    by (inl a) = are i p a
    by (inr b) = subst (λ (n : ℕ). IsFoundAt places others p n) (sym b.0) (subst (λ (q : Cut). IsFoundAt places others q (length cuts)) (sym b.1) found)

-- what was found still is, where a new cut was settled
