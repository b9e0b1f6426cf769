-- Cuts whose bytes stand in one buffer.
use Rattle.std.proofs.Common.{◌≡◌, ◌+◌, ◌-◌, ℕ, zero, suc, List, [], ◌∷◌, ◌++◌, length, take, drop, refl, ap, sym, subst, ◌∙◌, arith, length-append, length-drop}
use Rattle.std.proofs.lemmas.List.{take-append-le, drop-append-le, drop_at, take_all}
use Rattle.std.specs.Prelude.{Some, slice_get}
use Rattle.mtree_inv.specs.declared.held_cuts.Row.{Row}
use Rattle.mtree_inv.specs.Cuts.{Cut}
use Rattle.mtree_inv.specs.Places.{hash_of}
use Rattle.mtree_inv.specs.HeldCuts.{cut_in, cuts_in, start_at, IsHeld, AreHeld}

pub held_at : (bytes : List ℕ) (start : ℕ) (rows : List Row) (i : ℕ) (row : Row) → AreHeld bytes start rows → slice_get rows i ≡ Some row → IsHeld bytes (start_at start rows i) row
held_at bytes start [] i row are e = absurd (cc)
held_at bytes start (r ∷ rows) zero row are e = let same : r ≡ row = cc in subst (IsHeld bytes start) same are.0
held_at bytes start (r ∷ rows) (suc i) row are e = held_at bytes r.end rows i row are.1 e

pub cut_at : (bytes : List ℕ) (start : ℕ) (rows : List Row) (i : ℕ) (row : Row) → slice_get rows i ≡ Some row → slice_get (cuts_in bytes start rows) i ≡ Some (cut_in bytes (start_at start rows i) row)
cut_at bytes start [] i row e = absurd (cc)
cut_at bytes start (r ∷ rows) zero row e = let same : r ≡ row = cc in ap (λ (it : Row). Some (cut_in bytes start it)) same
cut_at bytes start (r ∷ rows) (suc i) row e = cut_at bytes r.end rows i row e

-- the bytes of a row begin where those of the one before end
pub begins_behind : (start : ℕ) (rows : List Row) (i : ℕ) (row : Row) → slice_get rows i ≡ Some row → start_at start rows (suc i) ≡ row.end
begins_behind start [] i row e = absurd (cc)
begins_behind start (r ∷ rows) zero row e = let same : r ≡ row = cc in ap (λ (it : Row). it.end) same
begins_behind start (r ∷ rows) (suc i) row e = begins_behind r.end rows i row e

pub length-cuts : (bytes : List ℕ) (start : ℕ) (rows : List Row) → length (cuts_in bytes start rows) ≡ length rows
length-cuts bytes start [] = refl
length-cuts bytes start (row ∷ rows) = ap suc (length-cuts bytes row.end rows)

cut-more : (bytes more : List ℕ) (start : ℕ) (row : Row) → IsHeld bytes start row → cut_in (bytes ++ more) start row ≡ cut_in bytes start row
cut-more bytes more start row is =
    ap (λ (tail : List ℕ). (row.front, tail))
    (ap (take (row.end - start)) (drop-append-le start bytes more (omega (arith, is.begins, is.within)))
    ∙ take-append-le (row.end - start) (drop start bytes) more (omega (arith, is.begins, is.within, length-drop start bytes)))

held-more : (bytes more : List ℕ) (start : ℕ) (row : Row) → IsHeld bytes start row → IsHeld (bytes ++ more) start row
held-more bytes more start row is = record {
  begins = is.begins;
  within = omega (arith, is.within, length-append bytes more);
  hash = is.hash ∙ ap hash_of (sym (cut-more bytes more start row is));
}

-- the row of a cut whose bytes come behind all others
pub record IsNew (bytes : List ℕ) (cut : Cut) (row : Row) : Type 0 where
  pub front : row.front ≡ cut.0
  pub end : row.end ≡ length bytes + length cut.1
  pub hash : row.hash ≡ hash_of cut

new-cut : (bytes : List ℕ) (cut : Cut) (row : Row) → IsNew bytes cut row → cut_in (bytes ++ cut.1) (length bytes) row ≡ cut
new-cut bytes cut row is =
    ap (λ (front : ℕ). (front, take (row.end - length bytes) (drop (length bytes) (bytes ++ cut.1)))) is.front
    ∙ ap (λ (tail : List ℕ). (cut.0, tail)) (ap (take (row.end - length bytes)) (drop_at bytes cut.1 (length bytes) refl)
    ∙ take_all (row.end - length bytes) cut.1 (omega (arith, is.end)))

pub cuts-new : (bytes : List ℕ) (start : ℕ) (rows : List Row) (cut : Cut) (row : Row) → AreHeld bytes start rows → IsNew bytes cut row → cuts_in (bytes ++ cut.1) start (rows ++ row ∷ []) ≡ cuts_in bytes start rows ++ cut ∷ []
cuts-new bytes start [] cut row are is =
    ap (λ (it : Cut). it ∷ []) (ap (λ (s : ℕ). cut_in (bytes ++ cut.1) s row) are ∙ new-cut bytes cut row is)
cuts-new bytes start (r ∷ rows) cut row are is =
    ap (λ (it : Cut). it ∷ cuts_in (bytes ++ cut.1) r.end (rows ++ row ∷ [])) (cut-more bytes cut.1 start r are.0)
    ∙ ap (λ (l : List Cut). cut_in bytes start r ∷ l) (cuts-new bytes r.end rows cut row are.1 is)

pub held-new : (bytes : List ℕ) (start : ℕ) (rows : List Row) (cut : Cut) (row : Row) → AreHeld bytes start rows → IsNew bytes cut row → AreHeld (bytes ++ cut.1) start (rows ++ row ∷ [])
held-new bytes start [] cut row are is = (
  record {
    begins = omega (arith, are, is.end);
    within = omega (arith, is.end, length-append bytes cut.1);
    hash = is.hash ∙ ap hash_of (sym (ap (λ (s : ℕ). cut_in (bytes ++ cut.1) s row) are ∙ new-cut bytes cut row is));
  },
  omega (arith, is.end, length-append bytes cut.1),
)
held-new bytes start (r ∷ rows) cut row are is = (held-more bytes cut.1 start r are.0, held-new bytes r.end rows cut row are.1 is)
