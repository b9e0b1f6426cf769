-- Lines that say nothing, and the first item of a list that may not stand there.
use Rattle.std.proofs.Common.{◌≡◌, ◌⊎◌, ℕ, zero, suc, ◌<◌, ◌==◌, ◌||◌, true, List, [], ◌∷◌, ◌++◌, length, take, get_or, Option, Some, None, refl, sym, ap, ◌∙◌, subst, append_assoc, append-nil, Err, inl, inr, arith}
use Rattle.std.specs.Prelude.{slice_get}
use Rattle.std.specs.List.{All, list_all}
use Rattle.std.proofs.lemmas.Bool.{and_parts, and_from, cases_Bool, eqb-true, eq-eqb, false≢true, or_right}
use Rattle.std.proofs.lemmas.List.Elements.{All-nil, All-cons, All-head, All-tail}
use Rattle.std.proofs.lemmas.Option.{same_Some}
use Rattle.idtext.specs.First.{first_fault, or_else, unless}
use Rattle.idtext.specs.Names.{is_skipped}
use Rattle.idtext.specs.Words.{is_white}
use Rattle.idtext.proofs.FirstLemmas.{none_of_both}
use Rattle.hosts_join.specs.BadLines.{AllMayStand, IsFirstBad, SaysNothing}

-- ---- lines that say nothing

abbrev IsWhite : ℕ → Type 0
IsWhite b = (b ≡ 32) ⊎ (b ≡ 9)

white-is : (b : ℕ) → is_white b ≡ true → IsWhite b
white-is b h = elim (cases_Bool (b == 32)) [
  | inl it ↦ inl (eqb-true b 32 it)
  | inr other ↦ let h' = rw other at h in inr (eqb-true b 9 h')
]

is-white : (b : ℕ) → IsWhite b → is_white b ≡ true
is-white b (inl e) = ap is_white e
is-white b (inr e) = ap is_white e

all-white : (bytes : List ℕ) → list_all is_white bytes ≡ true → All IsWhite bytes
all-white [] h = All-nil IsWhite
all-white (b ∷ bytes) h =
    let both = and_parts (is_white b) (list_all is_white bytes) h in
    All-cons IsWhite b bytes (white-is b both.0) (all-white bytes both.1)

white-all : (bytes : List ℕ) → All IsWhite bytes → list_all is_white bytes ≡ true
white-all [] h = refl
white-all (b ∷ bytes) h =
    and_from (is_white b) (list_all is_white bytes) (is-white b (All-head IsWhite b bytes h)) (white-all bytes (All-tail IsWhite b bytes h))

mark-first : (line : List ℕ) → (get_or line 0 0 == 35) ≡ true → slice_get line 0 ≡ Some 35
mark-first [] h = absurd (false≢true h)
mark-first (b ∷ bytes) h = ap (λ (c : ℕ). Some c) (eqb-true b 35 h)

first-mark : (line : List ℕ) → slice_get line 0 ≡ Some 35 → (get_or line 0 0 == 35) ≡ true
first-mark [] h = absurd (cc)
first-mark (b ∷ bytes) h = eq-eqb b 35 (same_Some b 35 h)

pub says-nothing : (line : List ℕ) → is_skipped line ≡ true → SaysNothing line
says-nothing line h = elim (cases_Bool (list_all is_white line)) [
  | inl it ↦ inl (all-white line it)
  | inr other ↦ let h' = rw other at h in inr (mark-first line h')
]

pub nothing-said : (line : List ℕ) → SaysNothing line → is_skipped line ≡ true
nothing-said line (inl white) = ap (λ b. b || (get_or line 0 0 == 35)) (white-all line white)
nothing-said line (inr mark) = or_right (list_all is_white line) (get_or line 0 0 == 35) (first-mark line mark)

-- ---- the first item that may not stand there

-- the items before one that is there
pub front-size : {A : Type 0} (items : List A) (k : ℕ) (x : A) → slice_get items k ≡ Some x → length (take k items) ≡ k
front-size [] k x e = absurd (cc)
front-size (y ∷ items) zero x e = refl
front-size (y ∷ items) (suc k) x e = let rest = front-size items k x e in omega (arith, rest)

-- Is: what a fault tells of an item, after these
module _ {A F : Type 0} (MayStand : List A → A → Type 0) (judge : List A → A → Option F) (Is : F → List A → A → Type 0)
    (passes : (before : List A) (x : A) → judge before x ≡ None → MayStand before x)
    (fails : (before : List A) (x : A) (f : F) → judge before x ≡ Some f → Is f before x × (¬ MayStand before x)) where
  -- after other items
  abbrev StandAfter : List A → List A → ℕ → Type 0
  StandAfter before items count = (i : ℕ) (x : A) → i < count → slice_get items i ≡ Some x → MayStand (before ++ take i items) x

  record FailsAfter (before items : List A) (f : F) : Type 0 where
    pub count : ℕ
    pub good : StandAfter before items count
    pub item : A
    pub there : slice_get items count ≡ Some item
    pub told : Is f (before ++ take count items) item
    pub bad : ¬ MayStand (before ++ take count items) item

  first-stands : (before : List A) (y : A) (items : List A) (x : A) → MayStand before y → slice_get (y ∷ items) 0 ≡ Some x → MayStand (before ++ take 0 (y ∷ items)) x
  first-stands before y items x stands e =
      subst (λ (bs : List A). MayStand bs x) (sym (append-nil before)) (subst (λ (z : A). MayStand before z) (same_Some y x e) stands)

  later-stands : (before : List A) (y : A) (items : List A) (i : ℕ) (x : A) → MayStand ((before ++ y ∷ []) ++ take i items) x → MayStand (before ++ take (suc i) (y ∷ items)) x
  later-stands before y items i x stands = subst (λ (bs : List A). MayStand bs x) (append_assoc before (y ∷ []) (take i items)) stands

  stand-more : (before : List A) (y : A) (items : List A) (count : ℕ) → MayStand before y → StandAfter (before ++ y ∷ []) items count → StandAfter before (y ∷ items) (suc count)
  stand-more before y items count stands rest zero x lt e = first-stands before y items x stands e
  stand-more before y items count stands rest (suc i) x lt e = later-stands before y items i x (rest i x (omega (arith, lt)) e)

  stand-none : (before items : List A) → StandAfter before items 0
  stand-none before items i x lt e = absurd (omega (arith, lt))

  all-stand : (before items : List A) → first_fault judge before items ≡ None → StandAfter before items (length items)
  unfolding first_fault
  all-stand before [] none = stand-none before []
  all-stand before (y ∷ items) none =
      let both = none_of_both (judge before y) (first_fault judge (before ++ y ∷ []) items) none in
      stand-more before y items (length items) (passes before y both.0) (all-stand (before ++ y ∷ []) items both.1)

  one-fails : (before : List A) (y : A) (items : List A) (f : F) → judge before y ≡ Some f → FailsAfter before (y ∷ items) f
  one-fails before y items f e =
      let both = fails before y f e in
      record {
        count = 0;
        good = stand-none before (y ∷ items);
        item = y;
        there = refl;
        told = subst (λ (bs : List A). Is f bs y) (sym (append-nil before)) both.0;
        bad = λ stands. both.1 (subst (λ (bs : List A). MayStand bs y) (append-nil before) stands);
      }

  more-fail : (before : List A) (y : A) (items : List A) (f : F) → judge before y ≡ None → FailsAfter (before ++ y ∷ []) items f → FailsAfter before (y ∷ items) f
  more-fail before y items f none rest =
      let same = append_assoc before (y ∷ []) (take rest.count items) in
      record {
        count = suc rest.count;
        good = stand-more before y items rest.count (passes before y none) rest.good;
        item = rest.item;
        there = rest.there;
        told = subst (λ (bs : List A). Is f bs rest.item) same rest.told;
        bad = λ stands. rest.bad (subst (λ (bs : List A). MayStand bs rest.item) (sym same) stands);
      }

  by_judge : (before : List A) (y : A) (items : List A) (f : F) (o : Option F) → judge before y ≡ o → (first_fault judge (before ++ y ∷ []) items ≡ Some f → FailsAfter (before ++ y ∷ []) items f) → or_else o (first_fault judge (before ++ y ∷ []) items) ≡ Some f → FailsAfter before (y ∷ items) f
  by_judge before y items f None e rest h = more-fail before y items f e (rest h)
  by_judge before y items f (Some g) e rest h = one-fails before y items f (e ∙ h)

  some-fails : (before items : List A) (f : F) → first_fault judge before items ≡ Some f → FailsAfter before items f
  unfolding first_fault
  some-fails before [] f h = absurd (cc)
  some-fails before (y ∷ items) f h = by_judge before y items f (judge before y) refl (λ e. some-fails (before ++ y ∷ []) items f e) h

  pub no-bad : (items : List A) → first_fault judge [] items ≡ None → AllMayStand MayStand items (length items)
  no-bad items none = all-stand [] items none

  pub first-bad : (items : List A) (f : F) → first_fault judge [] items ≡ Some f → (before : ℕ) × (bad : IsFirstBad MayStand items before) × Is f (take before items) bad.item
  first-bad items f h =
      let found = some-fails [] items f h in
      (found.count, record { good = found.good; item = found.item; there = found.there; bad = found.bad }, found.told)

-- ---- a fault of a reader

pub faulty : {F V : Type 0} (o : Option F) (value : V) (f : F) → unless o value ≡ Err f → o ≡ Some f
faulty {F} None value f h = absurd (cc)
faulty {F} (Some g) value f h = let same : g ≡ f = cc in ap (λ (x : F). Some x) same
