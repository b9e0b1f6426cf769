-- A text taken out of files.
use Rattle.std.proofs.Common.{◌≡◌, ◌≢◌, ℕ, zero, suc, ◌<◌, ◌≤◌, ◌==◌, Bool, true, false, cond, List, [], ◌∷◌, length, get_or, set, None, Some, refl, sym, ◌∙◌, arith, inl, inr}
use Rattle.std.specs.List.{position, position_or_len}
use Rattle.std.proofs.lemmas.Bool.{cases_Bool, eqb-true, ne_eqb, ltb-false}
use Rattle.unify_texts.specs.declared.places.NamedFile.{NamedFile}
use Rattle.unify_texts.specs.declared.bundle_line.FileName.{FileName}
use Rattle.unify_texts.specs.BundleLines.{file_index}
use Rattle.unify_bundle.specs.Output.{text_in}

-- the first file of the name has its text
pub text_first : (files : List NamedFile) (file : FileName) (i : ℕ) (d : NamedFile) → i < length files → (file_index (get_or files i d).file == file_index file) ≡ true
    → ((k : ℕ) → k < i → (file_index (get_or files k d).file == file_index file) ≡ false) → text_in files file ≡ (get_or files i d).text
text_first [] file i d l hit before = absurd (omega (arith, l))
text_first (n ∷ files) file zero d l hit before = rw hit refl
text_first (n ∷ files) file (suc i) d l hit before = rw (before 0 (omega arith)) (text_first files file i d (omega (arith, l)) hit (λ k m. before (suc k) (omega (arith, m))))

-- files of other names have theirs, whatever the text of this one becomes
pub text_other : (files : List NamedFile) (file other : FileName) (i : ℕ) (d new : NamedFile) → (file_index (get_or files i d).file == file_index file) ≡ true → new.file ≡ (get_or files i d).file
    → file_index other ≢ file_index file → text_in (set files i new) other ≡ text_in files other
text_other [] file other i d new hit same differ = refl
text_other (n ∷ files) file other zero d new hit same differ =
    let away : (file_index n.file == file_index other) ≡ false = ne_eqb (file_index n.file) (file_index other) (λ e. differ (sym e ∙ eqb-true (file_index n.file) (file_index file) hit)) in
    rw (same, away) refl
text_other (n ∷ files) file other (suc i) d new hit same differ = elim (cases_Bool (file_index n.file == file_index other)) [
  | inl t ↦ rw t refl
  | inr f ↦ rw f (text_other files file other i d new hit same differ)
]

-- there is no text where there is no file of the name
text_past : (files : List NamedFile) (file : FileName) → length files ≤ position_or_len (λ n. file_index n.file == file_index file) files → text_in files file ≡ []
text_past [] file e = refl
text_past (n ∷ files) file e = elim (cases_Bool (file_index n.file == file_index file)) [
  | inl t ↦ let e' = rw t at e in absurd (omega (arith, e'))
  | inr f ↦ let e' = rw f at e in rw f (text_past files file (omega (arith, e')))
]

not_chosen : (b : Bool) (a : ℕ) → cond b (Some a) None ≡ None → b ≡ false
not_chosen true a e = cc
not_chosen false a e = refl

pub text_none : (files : List NamedFile) (file : FileName) → position (λ n. file_index n.file == file_index file) files ≡ None → text_in files file ≡ []
text_none files file e = text_past files file (ltb-false _ _ (not_chosen _ _ e))
