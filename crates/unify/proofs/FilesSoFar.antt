-- The files that a reader has are the first of those of its text, whatever follows.
use Rattle.std.proofs.Common.{◌≡◌, ℕ, Bool, true, false, List, [], ◌++◌, Option, None, Ok, refl, sym, ap, subst, ◌∙◌, append-nil}
use Rattle.idtext.specs.declared.faults.ReadError.{ReadError}
use Rattle.idtext.proofs.OkLemmas.{unless_ok}
use Rattle.mtree_inv.specs.declared.entry.Entry.{Entry}
use Rattle.mtree_inv.specs.Inventory.{inventory}
use Rattle.mtree_inv.specs.Reading.{Reading, finished, read_bytes, start}
use Rattle.mtree_inv.specs.Standing.{ReaderValue, StandsAt, StandsFor, files_before_fault}
use Rattle.mtree_inv.proofs.ReadLemmas.{Grows, grows-twice, read-grows}
use Rattle.mtree_inv.proofs.StandLemmas.{all_inventory, files_at_finish, finished-grows, going_at, read-append, whole_inventory}

-- in mid-text
pub files_first : (r : ReaderValue) (text more : List ℕ) → r.most ≡ 16777216 → r.fault ≡ None → r.is_finished ≡ false → StandsFor r text → Grows r.files (files_before_fault 16777216 (text ++ more))
files_first r text more most sound going stands =
    let here = read_bytes r.most start text in
    let same : here.kept.files ≡ r.files = (unless_ok here.fault here.kept.files r.files (sym (whole_inventory r.most text) ∙ (going_at r text sound going stands).1)).1 in
    let grown = grows-twice here.kept.files (read_bytes r.most here more).kept.files (finished r.most (read_bytes r.most here more)).kept.files (read-grows r.most more here) (finished-grows r.most (read_bytes r.most here more)) in
    let whole : (finished r.most (read_bytes r.most here more)).kept.files ≡ files_before_fault 16777216 (text ++ more) =
    ap (λ (x : Reading). (finished r.most x).kept.files) (read-append r.most start text more) ∙ sym (files_at_finish r.most (text ++ more)) ∙ ap (λ n. files_before_fault n (text ++ more)) most in
    subst (λ fs. Grows fs (files_before_fault 16777216 (text ++ more))) same (subst (Grows here.kept.files) whole grown)

-- of a whole text
pub files_all : (text : List ℕ) (files : List Entry) → inventory 16777216 text ≡ Ok files → files_before_fault 16777216 text ≡ files
files_all text files is =
    let end = finished 16777216 (read_bytes 16777216 start text) in
    files_at_finish 16777216 text ∙ (unless_ok end.fault end.kept.files files (sym (all_inventory 16777216 text) ∙ is)).1

-- wherever the reader stands
pub files_so_far : (r : ReaderValue) (text : List ℕ) → r.most ≡ 16777216 → r.fault ≡ None → StandsFor r text → Grows r.files (files_before_fault 16777216 text)
files_so_far r text most sound stands = by r.is_finished refl
  where
    by : (b : Bool) → r.is_finished ≡ b → Grows r.files (files_before_fault 16777216 text)
    by false going = subst (λ t. Grows r.files (files_before_fault 16777216 t)) (append-nil text) (files_first r text [] most sound going stands)
    by true over =
        let at_fault : StandsAt None r.is_finished r text = subst (λ (o : Option ReadError). StandsAt o r.is_finished r text) sound stands in
        let read : inventory r.most text ≡ Ok r.files = subst (λ (b : Bool). StandsAt None b r text) over at_fault in
        ([], files_all text r.files (ap (λ n. inventory n text) (sym most) ∙ read) ∙ sym (append-nil r.files))
