-- New numbers of rows: they differ, and each is named as the number before it was.
use Rattle.std.proofs.Common.{◌≡◌, ◌⊎◌, ℕ, suc, ◌<◌, ◌==◌, true, false, List, [], ◌∷◌, map, length, refl, sym, ap, ◌∙◌, subst, arith, inl, inr, Option, Some, None}
use Rattle.std.specs.Prelude.{MatchBool}
use Rattle.std.specs.List.{All, AllByRecursion, filter, find}
use Rattle.std.specs.Option.{option_map}
use Rattle.std.specs.Str.{bytes_eq}
use Rattle.std.proofs.lemmas.Bool.{cases_Bool, both_ways, eqb-true, eq-eqb, ne_eqb, true≢false}
use Rattle.std.proofs.lemmas.List.Elements.{recursion_from_All}
use Rattle.std.proofs.lemmas.Option.{same_Some}
use Rattle.accounts.specs.Laws.{AreDistinct}
use Rattle.hosts_join.specs.Accounts.{Account, Accounts, place_of}
use Rattle.hosts_join.specs.Rules.{account, is_name}
use Rattle.ownership.specs.Mappings.{AreDistinct as HaveOneEach, number_under}
use Rattle.mergedfiles.specs.FullTables.{AreNumberedRows, IsRenumbered}
use Rattle.mergedfiles.specs.ReadBack.{HasNumber, IsGivenToNone}
use Rattle.mergedfiles.proofs.Places.{name-place, no-place, place-within}
use Rattle.mergedfiles.proofs.ReadOrder.{distinct-cons, place-name, same-number}
use Rattle.mergedfiles.proofs.ReadText.{all-says}

-- ---- lists without repeats

distinct-first : {K : Type 0} (x : K) (xs : List K) → AreDistinct (x ∷ xs) → AllByRecursion (λ y. x ≡ y → ⊥) xs
distinct-first x xs apart = recursion_from_All (λ y. x ≡ y → ⊥) xs (λ k d h e. let same : 0 ≡ suc k = apart 0 (suc k) d (omega arith) (omega (arith, h)) e in absurd (omega (arith, same)))

distinct-rest : {K : Type 0} (x : K) (xs : List K) → AreDistinct (x ∷ xs) → AreDistinct xs
distinct-rest x xs apart = λ i j d h k e. let same : suc i ≡ suc j = apart (suc i) (suc j) d (omega (arith, h)) (omega (arith, k)) e in omega (arith, same)

-- ---- rows by their numbers

module _ {Row : Type 0} (name : Row → List ℕ) (number : Row → ℕ) where
  pub told-by : (v : ℕ) (rows : List Row) → option_map (λ (p : List ℕ × ℕ). p.0) (find (λ p. v == p.1) (map (λ row. (name row, number row)) rows)) ≡ option_map name (find (λ row. v == number row) rows)
  told-by v [] = refl
  told-by v (row ∷ rows) = elim (cases_Bool (v == number row)) [ inl t ↦ rw t refl | inr f ↦ rw f (told-by v rows) ]

  abbrev pub IsFound : List Row → Row → Type 0
  IsFound rows row = option_map name (find (λ r. number row == number r) rows) ≡ Some (name row)

  found-later : (first : Row) (rows more : List Row) → AllByRecursion (λ v. number first ≡ v → ⊥) (map number more) → AllByRecursion (IsFound rows) more → AllByRecursion (IsFound (first ∷ rows)) more
  found-later first rows [] other all = tt
  found-later first rows (row ∷ more) other all =
      let away : (number row == number first) ≡ false = ne_eqb (number row) (number first) (λ e. other.0 (sym e)) in
      (rw away all.0, found-later first rows more other.1 all.1)

  -- each row is found by its number
  pub each-found : (rows : List Row) → AreDistinct (map number rows) → AllByRecursion (IsFound rows) rows
  each-found [] apart = tt
  each-found (row ∷ rows) apart =
      let here : (number row == number row) ≡ true = eq-eqb (number row) (number row) refl in
      (rw here refl, found-later row rows rows (distinct-first (number row) (map number rows) apart) (each-found rows (distinct-rest (number row) (map number rows) apart)))

-- ---- rows that were joined, and rows that are kept

module _ {Row : Type 0} (name : Row → List ℕ) (number : Row → ℕ) (a : Accounts) where
  abbrev pub name_at : List Row → ℕ → Option (List ℕ)
  name_at rows v = option_map name (find (λ row. v == number row) rows)

  abbrev pub joined : List Row → List Row
  joined rows = filter (λ row. is_name a.names (name row)) rows

  pub joined-named : (v : ℕ) (n : List ℕ) (rows : List Row) → name_at (joined rows) v ≡ Some n → is_name a.names n ≡ true
  joined-named v n [] e = absurd (cc)
  joined-named v n (row ∷ rows) e = elim (cases_Bool (is_name a.names (name row))) [
    | inl t ↦ elim (cases_Bool (v == number row)) [
      | inl u ↦ ap (is_name a.names) (sym (same_Some (name row) n (rw (t, u) at e))) ∙ t
      | inr g ↦ joined-named v n rows (rw (t, g) at e)
    ]
    | inr f ↦ joined-named v n rows (rw f at e)
  ]

  pub none-joined : (v : ℕ) (rows : List Row) → name_at rows v ≡ None → name_at (joined rows) v ≡ None
  none-joined v [] e = refl
  none-joined v (row ∷ rows) e = elim (cases_Bool (v == number row)) [
    | inl u ↦ let named : Some (name row) ≡ None = rw u at e in absurd (cc)
    | inr g ↦ elim (cases_Bool (is_name a.names (name row))) [
      | inl t ↦ rw (t, g) (none-joined v rows (rw g at e))
      | inr f ↦ rw f (none-joined v rows (rw g at e))
    ]
  ]

  -- a number that a kept row has is given to no name
  pub kept-number : (m : List ℕ) (v : ℕ) (n : List ℕ) (rows : List Row) → AllByRecursion (λ row. is_name a.names (name row) ≡ false → IsGivenToNone a m (number row)) rows → name_at rows v ≡ Some n → name_at (joined rows) v ≡ None → IsGivenToNone a m v
  kept-number m v n [] kept had e = absurd (cc)
  kept-number m v n (row ∷ rows) kept had e = elim (cases_Bool (is_name a.names (name row))) [
    | inl t ↦ elim (cases_Bool (v == number row)) [
      | inl u ↦ let named : Some (name row) ≡ None = rw (t, u) at e in absurd (cc)
      | inr g ↦ kept-number m v n rows kept.1 (rw g at had) (rw (t, g) at e)
    ]
    | inr f ↦ elim (cases_Bool (v == number row)) [
      | inl u ↦ subst (IsGivenToNone a m) (sym (eqb-true v (number row) u)) (kept.0 f)
      | inr g ↦ kept-number m v n rows kept.1 (rw g at had) (rw f at e)
    ]
  ]

  module _ (m : List ℕ) (full rest : List Row) (is : AreNumberedRows name number a m full rest) where
    -- a number that some row has, but none that was joined
    pub stays : (v : ℕ) (n : List ℕ) → name_at full v ≡ Some n → name_at rest v ≡ None → IsGivenToNone a m v
    stays v n had none =
        kept-number m v n full (recursion_from_All (λ row. is_name a.names (name row) ≡ false → IsGivenToNone a m (number row)) full is.kept) had
        (ap (λ rows. name_at rows v) (sym is.joined_are) ∙ none)

    -- a number that no row has
    pub unnamed : (v : ℕ) → name_at full v ≡ None → IsGivenToNone a m v → IsRenumbered a m (name_at rest v) v v
    unnamed v none given =
        subst (λ (o : Option (List ℕ)). IsRenumbered a m o v v) (sym (ap (λ rows. name_at rows v) is.joined_are ∙ none-joined v full none)) (refl, given)

-- ---- numbers by a mapping

module _ (a : Accounts) (m : List ℕ) (long : length m ≡ length a.names) (apart : HaveOneEach m) where
  pub within : (n : List ℕ) (v : ℕ) (has : HasNumber a m n v) → has.0 < length m
  within n v has = let named : has.0 < length a.names = place-within (λ (x : Account). bytes_eq n x.name) a.names has.0 has.1 in omega (arith, named, long)

  same-name : (n o : List ℕ) (v w : ℕ) → HasNumber a m n v → HasNumber a m o w → v ≡ w → n ≡ o
  same-name n o v w h k e =
      let same : h.0 ≡ k.0 = apart h.0 k.0 (within n v h) (within o w k) (h.2 ∙ e ∙ sym k.2) in
      sym (place-name a n h.0 h.1) ∙ ap (λ i. (account a i).name) same ∙ place-name a o k.0 k.1

  -- ---- rows, of which those get the numbers of their names that have one

  module _ {Row : Type 0} (name : Row → List ℕ) (number : Row → ℕ) (new : Row → Row) (keeps : (row : Row) → name (new row) ≡ name row) where
    -- a row gets the number of its name, or else, where it is kept, stays at one that no name is given
    abbrev pub IsNumberedRow : Row → Type 0
    IsNumberedRow row = ((is_name a.names (name row) ≡ true) × HasNumber a m (name row) (number (new row)))
        ⊎ ((is_name a.names (name row) ≡ false) × (number (new row) ≡ number row) × IsGivenToNone a m (number row))

    pub numbered-row : (row : Row) → number (new row) ≡ number_under m (place_of a.names (name row)) (number row) → (is_name a.names (name row) ≡ false → IsGivenToNone a m (number row)) → IsNumberedRow row
    numbered-row row is kept = elim (cases_Bool (is_name a.names (name row))) [
      | inl t ↦ let at = name-place a.names (name row) t in inl (t, (at.0, at.1, sym (is ∙ ap (λ o. number_under m o (number row)) at.1)))
      | inr f ↦ inr (f, is ∙ ap (λ o. number_under m o (number row)) (no-place a.names (name row) f), kept f)
    ]

    pub numbered-rows : ((row : Row) → number (new row) ≡ number_under m (place_of a.names (name row)) (number row)) → (rows : List Row) → All (λ row. is_name a.names (name row) ≡ false → IsGivenToNone a m (number row)) rows → AllByRecursion IsNumberedRow rows
    numbered-rows is rows kept =
        all-says (λ row. is_name a.names (name row) ≡ false → IsGivenToNone a m (number row)) IsNumberedRow (λ row stays. numbered-row row (is row) stays) rows
        (recursion_from_All (λ row. is_name a.names (name row) ≡ false → IsGivenToNone a m (number row)) rows kept)

    pub joined-row : (row : Row) → IsNumberedRow row → is_name a.names (name row) ≡ true → HasNumber a m (name row) (number (new row))
    joined-row row (inl is) e = is.1
    joined-row row (inr is) e = absurd (true≢false (sym e ∙ is.0))

    pub kept-row : (row : Row) → IsNumberedRow row → is_name a.names (name row) ≡ false → (number (new row) ≡ number row) × IsGivenToNone a m (number row)
    kept-row row (inl is) e = absurd (true≢false (sym is.0 ∙ e))
    kept-row row (inr is) e = (is.1, is.2)

    pub named-or-kept : (row : Row) → IsNumberedRow row → MatchBool (is_name a.names (name row)) (HasNumber a m (name row) (number (new row))) (number (new row) ≡ number row)
    named-or-kept row (inl is) = subst (λ b. MatchBool b (HasNumber a m (name row) (number (new row))) (number (new row) ≡ number row)) (sym is.0) is.1
    named-or-kept row (inr is) = subst (λ b. MatchBool b (HasNumber a m (name row) (number (new row))) (number (new row) ≡ number row)) (sym is.0) is.1

    -- two rows have neither one name nor one number
    abbrev pub IsApart : Row → Row → Type 0
    IsApart row other = (name row ≡ name other → ⊥) × (number row ≡ number other → ⊥)

    abbrev pub AllApart : List Row → Type 0
    AllApart [] = Unit {0}
    AllApart (row ∷ rows) = AllByRecursion (IsApart row) rows × AllApart rows

    apart-first : (row : Row) (rows : List Row) → AllByRecursion (λ n. name row ≡ n → ⊥) (map name rows) → AllByRecursion (λ v. number row ≡ v → ⊥) (map number rows) → AllByRecursion (IsApart row) rows
    apart-first row [] by_name by_number = tt
    apart-first row (next ∷ rows) by_name by_number = ((by_name.0, by_number.0), apart-first row rows by_name.1 by_number.1)

    pub all-apart : (rows : List Row) → AreDistinct (map name rows) → AreDistinct (map number rows) → AllApart rows
    all-apart [] names numbers = tt
    all-apart (row ∷ rows) names numbers = (
      apart-first row rows (distinct-first (name row) (map name rows) names) (distinct-first (number row) (map number rows) numbers),
      all-apart rows (distinct-rest (name row) (map name rows) names) (distinct-rest (number row) (map number rows) numbers),
    )

    -- ---- the new numbers differ

    new-apart : (row next : Row) → IsNumberedRow row → IsNumberedRow next → IsApart row next → number (new row) ≡ number (new next) → ⊥
    new-apart row next (inl h) (inl k) apart e = apart.0 (same-name (name row) (name next) (number (new row)) (number (new next)) h.1 k.1 e)
    new-apart row next (inl h) (inr k) apart e = k.2 (name row) (h.1.0, h.1.1, h.1.2 ∙ e ∙ k.1)
    new-apart row next (inr h) (inl k) apart e = h.2 (name next) (k.1.0, k.1.1, k.1.2 ∙ sym e ∙ h.1)
    new-apart row next (inr h) (inr k) apart e = apart.1 (sym h.1 ∙ e ∙ k.1)

    others : (row : Row) (rows : List Row) → IsNumberedRow row → AllByRecursion IsNumberedRow rows → AllByRecursion (IsApart row) rows → AllByRecursion (λ v. number (new row) ≡ v → ⊥) (map number (map new rows))
    others row [] is all apart = tt
    others row (next ∷ rows) is all apart = (new-apart row next is all.0 apart.0, others row rows is all.1 apart.1)

    pub numbers-apart : (rows : List Row) → AllByRecursion IsNumberedRow rows → AllApart rows → AreDistinct (map number (map new rows))
    numbers-apart [] all apart = λ i j d h k e. absurd (omega (arith, h))
    numbers-apart (row ∷ rows) all apart = distinct-cons (number (new row)) (map number (map new rows)) (others row rows all.0 all.1 apart.0) (numbers-apart rows all.1 apart.1)

    pub names-same : (rows : List Row) → map name (map new rows) ≡ map name rows
    names-same [] = refl
    names-same (row ∷ rows) = ap (λ n. n ∷ map name (map new rows)) (keeps row) ∙ ap (λ ns. name row ∷ ns) (names-same rows)

    -- ---- the names of numbers

    -- after a row no other has its number or its name
    number-behind : (v : ℕ) (row : Row) (rows : List Row) → AllByRecursion (IsApart row) rows → number row ≡ v → name_at name number a (joined name number a rows) v ≡ None
    number-behind v row [] apart is = refl
    number-behind v row (next ∷ rows) apart is =
        let away : (v == number next) ≡ false = ne_eqb v (number next) (λ e. apart.0.1 (is ∙ e)) in
        elim (cases_Bool (is_name a.names (name next))) [
          | inl t ↦ rw (t, away) (number-behind v row rows apart.1 is)
          | inr f ↦ rw f (number-behind v row rows apart.1 is)
        ]

    name-behind : (v : ℕ) (n : List ℕ) (row : Row) (rows : List Row) → AllByRecursion (IsApart row) rows → name_at name number a (joined name number a rows) v ≡ Some n → name row ≡ n → ⊥
    name-behind v n row [] apart had is = absurd (cc)
    name-behind v n row (next ∷ rows) apart had is = elim (cases_Bool (is_name a.names (name next))) [
      | inl t ↦ elim (cases_Bool (v == number next)) [
        | inl u ↦ absurd (apart.0.0 (is ∙ sym (same_Some (name next) n (rw (t, u) at had))))
        | inr g ↦ name-behind v n row rows apart.1 (rw (t, g) at had) is
      ]
      | inr f ↦ name-behind v n row rows apart.1 (rw f at had) is
    ]

    -- the new number of another number is not the new one of a row
    not-here : (old v : ℕ) (row : Row) (named : Option (List ℕ)) → (old ≡ number row → ⊥) → ((n : List ℕ) → named ≡ Some n → name row ≡ n → ⊥) → IsNumberedRow row → IsRenumbered a m named old v → v ≡ number (new row) → ⊥
    not-here old v row None other names (inl h) is e = is.1 (name row) (h.1.0, h.1.1, h.1.2 ∙ sym e)
    not-here old v row None other names (inr k) is e = other (sym is.0 ∙ e ∙ k.1)
    not-here old v row (Some n) other names (inl h) is e = names n refl (same-name (name row) n (number (new row)) v h.1 is (sym e))
    not-here old v row (Some n) other names (inr k) is e = k.2 n (is.0, is.1, is.2 ∙ e ∙ k.1)

    -- a new number is named as the old one was
    pub names-kept : (old v : ℕ) (rows : List Row) → AllByRecursion IsNumberedRow rows → AllApart rows → IsRenumbered a m (name_at name number a (joined name number a rows) old) old v → name_at name number a (map new rows) v ≡ name_at name number a rows old
    names-kept old v [] all apart is = refl
    names-kept old v (row ∷ rows) all apart is = elim (cases_Bool (old == number row)) [
      | inl u ↦ rw (hit u, u) (ap Some (keeps row))
      | inr g ↦ rw (missed g (past g), g) (names-kept old v rows all.1 apart.1 (past g))
    ]
      where
        -- the new number is that of the row, if the old one was
        hit : (old == number row) ≡ true → (v == number (new row)) ≡ true
        hit u = elim (cases_Bool (is_name a.names (name row))) [
          | inl t ↦
              let has : HasNumber a m (name row) v = rw (t, u) at is in
              eq-eqb v (number (new row)) (same-number a m (name row) (name row) v (number (new row)) has (joined-row row all.0 t) refl)
          | inr f ↦
              let later : IsRenumbered a m (name_at name number a (joined name number a rows) old) old v = rw f at is in
              let stays : (v ≡ old) × IsGivenToNone a m v = subst (λ (o : Option (List ℕ)). IsRenumbered a m o old v) (number-behind old row rows apart.0 (sym (eqb-true old (number row) u))) later in
              eq-eqb v (number (new row)) (stays.0 ∙ eqb-true old (number row) u ∙ sym (kept-row row all.0 f).0)
        ]

        past : (old == number row) ≡ false → IsRenumbered a m (name_at name number a (joined name number a rows) old) old v
        past g = elim (cases_Bool (is_name a.names (name row))) [ inl t ↦ rw (t, g) at is | inr f ↦ rw f at is ]

        missed : (old == number row) ≡ false → IsRenumbered a m (name_at name number a (joined name number a rows) old) old v → (v == number (new row)) ≡ false
        missed g later =
            ne_eqb v (number (new row))
            (not-here old v row (name_at name number a (joined name number a rows) old) (λ e. both_ways (old == number row) g (eq-eqb old (number row) e)) (λ n had. name-behind old n row rows apart.0 had) all.0 later)
