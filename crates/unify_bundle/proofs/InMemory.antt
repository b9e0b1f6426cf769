-- Inventories among texts, and files in memory.
use Rattle.std.proofs.Common.{◌≡◌, ℕ, ◌+◌, List, [], ◌∷◌, ◌++◌, length, zero, suc, take, ◌≤◌, Option, Some, None, refl, sym, ap, subst, ◌∙◌, arith, append_assoc, append-nil}
use Rattle.std.specs.List.{All, slice_get}
use Rattle.std.proofs.lemmas.List.{take_all}
use Rattle.std.proofs.lemmas.List.Elements.{All-nil, All-cons, All-head, All-tail, All-append}
use Rattle.std.proofs.lemmas.Option.{same_Some}
use Rattle.unify.specs.declared.site_files.NamedText.{NamedText}
use Rattle.unify_merge.specs.Ledger.{Ledger, Reading, read_on, with_piece}
use Rattle.unify_merge.specs.FirstReading.{readings_from}
use Rattle.unify_merge.specs.declared.files.CallFailed.{CallFailed}
use Rattle.unify_bundle.specs.TextFiles.{Holds, IsFrontOf, IsOf, ReadsTexts, ledger_of}

pub none : (xs : List ℕ) → length xs ≡ 0 → xs ≡ []
none [] h = refl
none (x ∷ xs) h = absurd (omega (arith, h))

-- ---- what is held

-- after one piece more
module _ (texts : List (List ℕ)) (left : List ℕ) (files : List NamedText) (writing : Option NamedText) (l : Ledger) (h : Holds texts left files writing l) where
  pub held_piece : (next rest : List ℕ) → left ≡ next ++ rest → (next ≡ [] → rest ≡ []) → Holds texts rest files writing (with_piece next l)
  held_piece next rest parts ends = by l.reading refl next parts ends
    where
      by : (o : Option Reading) → l.reading ≡ o → (next : List ℕ) → left ≡ next ++ rest → (next ≡ [] → rest ≡ []) → Holds texts rest files writing (read_on next o l)
      by None none next parts ends = record {
        read = h.read;
        reading = λ r is. absurd (let no : ◌≡◌ {A = Option Reading} None (Some r) = sym none ∙ is in cc);
        finished = h.finished;
        writing_is = h.writing_is;
      }
      by (Some r) here [] parts ends =
          let whole : IsOf texts r = h.reading r here ∙ ap (λ t. Some (r.text ++ t)) (parts ∙ ends refl) ∙ ap (λ t. Some t) (append-nil r.text) in
          record {
            read = All-append (IsOf texts) l.read (r ∷ []) h.read (All-cons (IsOf texts) r [] whole (All-nil (IsOf texts)));
            reading = λ s none. absurd (cc);
            finished = h.finished;
            writing_is = h.writing_is;
          }
      by (Some r) here (b ∷ bs) parts ends =
          let next : List ℕ = b ∷ bs in
          let more : IsFrontOf texts rest (record { host = r.host; text = r.text ++ next }) = h.reading r here ∙ ap (λ t. Some t) (ap (λ t. r.text ++ t) parts ∙ sym (append_assoc r.text next rest)) in
          record {
            read = h.read;
            reading = λ s is. subst (IsFrontOf texts rest) (same_Some (record { host = r.host; text = r.text ++ next }) s is) more;
            finished = h.finished;
            writing_is = h.writing_is;
          }

-- ---- every reading is of the texts

-- the first readings are
first_texts : (texts : List (List ℕ)) (start : ℕ) (all : List (List ℕ)) → ((k : ℕ) (text : List ℕ) → slice_get texts k ≡ Some text → slice_get all (start + k) ≡ Some text) → All (IsOf all) (readings_from start texts)
first_texts [] start all at = All-nil (IsOf all)
first_texts (t ∷ texts) start all at =
    let here : start ≡ start + 0 = omega arith in
    All-cons (IsOf all) (record { host = start; text = t }) (readings_from (start + 1) texts) (ap (slice_get all) here ∙ at 0 t refl)
    (first_texts texts (start + 1) all (λ k text there.
    let next : (start + 1) + k ≡ start + suc k = omega arith in
    ap (slice_get all) next ∙ at (suc k) text there))

pub reads_texts : (texts : List (List ℕ)) (left : List ℕ) (files : List NamedText) (writing : Option NamedText) (l : Ledger) (failure : Option CallFailed) → Holds texts left files writing l → ReadsTexts texts (ledger_of (record { texts = texts; done = l; failure = failure }))
reads_texts texts left files writing l failure h = record {
  whole = All-append (IsOf texts) (readings_from 0 texts) l.read (first_texts texts 0 texts (λ k text here.
      let same : 0 + k ≡ k = omega arith in
      ap (slice_get texts) same ∙ here)) h.read;
  so_far = λ r is. (left, h.reading r is);
}

-- those after others
pub back_all : {A : Type 0} (P : A → Type 0) (xs ys : List A) → All P (xs ++ ys) → All P ys
back_all P [] ys all = all
back_all P (x ∷ xs) ys all = back_all P xs ys (All-tail P x (xs ++ ys) all)

module _ (all : List (List ℕ)) where
  -- what was read at an index
  pub read_at : (texts : List (List ℕ)) (start k : ℕ) (text : List ℕ) → All (IsOf all) (readings_from start texts) → slice_get texts k ≡ Some text → slice_get all (start + k) ≡ Some text
  read_at [] start k text are here = absurd (cc)
  read_at (t ∷ texts) start zero text are here =
      let same : t ≡ text = same_Some t text here in
      let index : start + 0 ≡ start = omega arith in
      ap (slice_get all) index ∙ All-head (IsOf all) (record { host = start; text = t }) (readings_from (start + 1) texts) are ∙ ap (λ x. Some x) same
  read_at (t ∷ texts) start (suc k) text are here =
      let index : start + suc k ≡ (start + 1) + k = omega arith in
      ap (slice_get all) index ∙ read_at texts (start + 1) k text (All-tail (IsOf all) (record { host = start; text = t }) (readings_from (start + 1) texts) are) here

  -- what is read again is what was read
  pub read_again : (texts again : List (List ℕ)) (start : ℕ) → All (IsOf all) (readings_from start texts) → All (IsOf all) (readings_from start again) → length again ≤ length texts → again ≡ take (length again) texts
  read_again texts [] start are were few = refl
  read_again [] (u ∷ again) start are were few = absurd (omega (arith, few))
  read_again (t ∷ texts) (u ∷ again) start are were few =
      let first : u ≡ t = same_Some u t (sym (All-head (IsOf all) (record { host = start; text = u }) (readings_from (start + 1) again) were) ∙ All-head (IsOf all) (record { host = start; text = t }) (readings_from (start + 1) texts) are) in
      let rest = read_again texts again (start + 1) (All-tail (IsOf all) (record { host = start; text = t }) (readings_from (start + 1) texts) are) (All-tail (IsOf all) (record { host = start; text = u }) (readings_from (start + 1) again) were) (omega (arith, few)) in
      λ j. first j ∷ rest j

  pub read_all_again : (texts again : List (List ℕ)) → All (IsOf all) (readings_from 0 texts) → All (IsOf all) (readings_from 0 again) → length again ≡ length texts → again ≡ texts
  read_all_again texts again are were same = read_again texts again 0 are were (omega (arith, same)) ∙ take_all (length again) texts (omega (arith, same))

  -- so far as it is read again
  pub so_far_again : (texts : List (List ℕ)) (index : ℕ) (whole text rest : List ℕ) → All (IsOf all) (readings_from 0 texts) → slice_get texts index ≡ Some whole → IsFrontOf all rest (record { host = index; text = text }) → whole ≡ text ++ rest
  so_far_again texts index whole text rest are here front =
      let at : slice_get all index ≡ Some whole = ap (slice_get all) (omega_zero index) ∙ read_at texts 0 index whole are here in
      same_Some whole (text ++ rest) (sym at ∙ front)
    where
      omega_zero : (k : ℕ) → k ≡ 0 + k
      omega_zero k = omega arith
