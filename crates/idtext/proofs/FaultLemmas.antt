-- The first fault of some items: at which it is, and that none before it has one.
use Rattle.std.proofs.Common.{◌≡◌, ℕ, zero, suc, ◌<◌, List, [], ◌∷◌, ◌++◌, length, take, Option, Some, None, Err, refl, sym, ap, ◌∙◌, append_assoc, append-nil, arith}
use Rattle.std.specs.Prelude.{slice_get}
use Rattle.std.proofs.lemmas.Option.{same_Some}
use Rattle.idtext.specs.First.{first_fault, or_else, unless}
use Rattle.idtext.proofs.FirstLemmas.{none_of_both}

module _ {A F : Type 0} (judge : List A → A → Option F) where
  -- the items, so many of them, have no fault after these
  abbrev FineAfter : List A → List A → ℕ → Type 0
  FineAfter before items count = (i : ℕ) (x : A) → i < count → slice_get items i ≡ Some x → judge (before ++ take i items) x ≡ None

  pub record FaultAfter (before items : List A) (f : F) : Type 0 where
    pub count : ℕ
    pub item : A
    pub there : slice_get items count ≡ Some item
    pub fine : FineAfter before items count
    pub told : judge (before ++ take count items) item ≡ Some f

  fine-none : (before items : List A) → FineAfter before items 0
  fine-none before items i x lt e = absurd (omega (arith, lt))

  fine-more : (before : List A) (y : A) (items : List A) (count : ℕ) → judge before y ≡ None → FineAfter (before ++ y ∷ []) items count → FineAfter before (y ∷ items) (suc count)
  fine-more before y items count none rest zero x lt e =
      ap (λ bs. judge bs x) (append-nil before) ∙ ap (judge before) (sym (same_Some y x e)) ∙ none
  fine-more before y items count none rest (suc i) x lt e =
      ap (λ bs. judge bs x) (sym (append_assoc before (y ∷ []) (take i items))) ∙ rest i x (omega (arith, lt)) e

  pub all_fine : (before items : List A) → first_fault judge before items ≡ None → (i : ℕ) (x : A) → slice_get items i ≡ Some x → judge (before ++ take i items) x ≡ None
  unfolding first_fault
  all_fine before [] none i x e = absurd (cc)
  all_fine before (y ∷ items) none zero x e =
      let both = none_of_both (judge before y) (first_fault judge (before ++ y ∷ []) items) none in
      ap (λ bs. judge bs x) (append-nil before) ∙ ap (judge before) (sym (same_Some y x e)) ∙ both.0
  all_fine before (y ∷ items) none (suc i) x e =
      let both = none_of_both (judge before y) (first_fault judge (before ++ y ∷ []) items) none in
      ap (λ bs. judge bs x) (sym (append_assoc before (y ∷ []) (take i items))) ∙ all_fine (before ++ y ∷ []) items both.1 i x e

  one-fails : (before : List A) (y : A) (items : List A) (f : F) → judge before y ≡ Some f → FaultAfter before (y ∷ items) f
  one-fails before y items f e = record {
    count = 0;
    item = y;
    there = refl;
    fine = fine-none before (y ∷ items);
    told = ap (λ bs. judge bs y) (append-nil before) ∙ e;
  }

  more-fail : (before : List A) (y : A) (items : List A) (f : F) → judge before y ≡ None → FaultAfter (before ++ y ∷ []) items f → FaultAfter before (y ∷ items) f
  more-fail before y items f none rest = record {
    count = suc rest.count;
    item = rest.item;
    there = rest.there;
    fine = fine-more before y items rest.count none rest.fine;
    told = ap (λ bs. judge bs rest.item) (sym (append_assoc before (y ∷ []) (take rest.count items))) ∙ rest.told;
  }

  by_judge : (before : List A) (y : A) (items : List A) (f : F) (o : Option F) → judge before y ≡ o → (first_fault judge (before ++ y ∷ []) items ≡ Some f → FaultAfter (before ++ y ∷ []) items f) → or_else o (first_fault judge (before ++ y ∷ []) items) ≡ Some f → FaultAfter before (y ∷ items) f
  by_judge before y items f None e rest h = more-fail before y items f e (rest h)
  by_judge before y items f (Some g) e rest h = one-fails before y items f (e ∙ h)

  pub fault_found : (before items : List A) (f : F) → first_fault judge before items ≡ Some f → FaultAfter before items f
  unfolding first_fault
  fault_found before [] f h = absurd (cc)
  fault_found before (y ∷ items) f h = by_judge before y items f (judge before y) refl (λ e. fault_found (before ++ y ∷ []) items f e) h

-- the items before one that is there
pub front-size : {A : Type 0} (items : List A) (k : ℕ) (x : A) → slice_get items k ≡ Some x → length (take k items) ≡ k
front-size [] k x e = absurd (cc)
front-size (y ∷ items) zero x e = refl
front-size (y ∷ items) (suc k) x e = let rest = front-size items k x e in omega (arith, rest)

-- the fault of a reader
pub faulty : {F V : Type 0} (o : Option F) (value : V) (f : F) → unless o value ≡ Err f → o ≡ Some f
faulty {F} None value f h = absurd (cc)
faulty {F} (Some g) value f h = let same : g ≡ f = cc in ap (λ (x : F). Some x) same
