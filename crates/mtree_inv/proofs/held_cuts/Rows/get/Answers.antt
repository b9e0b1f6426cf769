use Rattle.std.proofs.Common.{◌≡◌, ◌≤◌, ◌<◌, ◌∙◌, ◌-◌, ℕ, List, take, drop, get_or, refl, ap, sym, subst, arith, length, length-drop}
use Rattle.std.specs.Prelude.{slice_get, Some}
use Rattle.std.proofs.lemmas.Option.{slice_get_read}
use Rattle.mtree_inv.specs.declared.held_cuts.Row.{Row}
use Rattle.mtree_inv.specs.Cuts.{Cut}
use Rattle.mtree_inv.specs.Places.{hash_of}
use Rattle.mtree_inv.specs.HeldCuts.{cut_in, start_at, IsHeld, AreHeld}
use Rattle.mtree_inv.proofs.HeldLemmas.{held_at, cut_at, length-cuts}
use Rattle.mtree_inv.proofs.held_cuts.Rows.get.Goals as goal

pub returns-in_err-row : goal.returns-in_err-row
returns-in_err-row c =
    let past : length c.args.self.now ≤ c.args.number =
    grind (
      arith,
      c.in_err-row.ensures.lookup,
      ap length c.deref.ensures.value,
      length-cuts c.self.inside.bytes.items 0 c.self.inside.rows.items,
      ap length c.self.view_is,
    ) in
    grind (arith, past, c.from_residual.ensures)

-- the row that was read
row_at : (read rows : List Row) (i : ℕ) (row : Row) → read ≡ rows → i < length read → row ≡ get_or read i row → slice_get rows i ≡ Some row
row_at read rows i row e less is = subst (λ (l : List Row). slice_get l i ≡ Some row) e (slice_get_read read (length read) i row refl less is)

-- it is held, and its bytes begin here
held : (bytes : List ℕ) (read again rows : List Row) (i start : ℕ) (row : Row) → read ≡ rows → i < length read → row ≡ get_or read i row → again ≡ rows → start ≡ start_at 0 again i → AreHeld bytes 0 rows → IsHeld bytes start row
held bytes read again rows i start row e less is same begins are =
    subst (λ (s : ℕ). IsHeld bytes s row) (sym (begins ∙ ap (λ (l : List Row). start_at 0 l i) same))
    (held_at bytes 0 rows i row are (row_at read rows i row e less is))

pub split_at-requires : goal.split_at-requires
split_at-requires c =
    let h = c.in_ok-row.ensures.lookup in
    let is = held _ _ _ _ _ _ _ c.deref.ensures.value h.3.0 h.1 c.deref-2.ensures.value c.start_of-start.ensures c.self.invariant in
    omega (arith, is.begins, is.within, ap length c.deref-3.ensures.value)

pub overflow_sub-row : goal.overflow_sub-row
overflow_sub-row c =
    let h = c.in_ok-row.ensures.lookup in
    (held _ _ _ _ _ _ _ c.deref.ensures.value h.3.0 h.1 c.deref-2.ensures.value c.start_of-start.ensures c.self.invariant).begins

pub split_at-requires-2 : goal.split_at-requires-2
split_at-requires-2 c =
    let h = c.in_ok-row.ensures.lookup in
    let is = held _ _ _ _ _ _ _ c.deref.ensures.value h.3.0 h.1 c.deref-2.ensures.value c.start_of-start.ensures c.self.invariant in
    omega (
      arith,
      is.within,
      ap length c.deref-3.ensures.value,
      ap length c.split_at.ensures.back,
      length-drop c.start_of-start.result c.deref-3.result.now,
    )

-- its cut, of whose bytes the second part of what stands from its start on is the tail
cut : (bytes read behind tail : List ℕ) (start : ℕ) (row : Row) → read ≡ bytes → behind ≡ drop start read → tail ≡ take (row.end - start) behind → cut_in bytes start row ≡ (row.front, tail)
cut bytes read behind tail start row e back front =
    ap (λ (t : List ℕ). (row.front, t)) (sym (front ∙ ap (take (row.end - start)) (back ∙ ap (drop start) e)))

pub with_hash-requires : goal.with_hash-requires
with_hash-requires c =
    let h = c.in_ok-row.ensures.lookup in
    (held _ _ _ _ _ _ _ c.deref.ensures.value h.3.0 h.1 c.deref-2.ensures.value c.start_of-start.ensures c.self.invariant).hash
    ∙ ap hash_of (cut _ _ _ _ _ c.in_ok-row.row.now c.deref-3.ensures.value c.split_at.ensures.back c.split_at-2.ensures.front)

pub returns : goal.returns
returns c =
    let h = c.in_ok-row.ensures.lookup in
    let bytes = c.self.inside.bytes.items in
    let rows = c.self.inside.rows.items in
    ap (λ (l : List Cut). slice_get l c.args.number) (sym c.self.view_is)
    ∙ cut_at bytes 0 rows c.args.number c.in_ok-row.row.now (row_at _ _ _ _ c.deref.ensures.value h.3.0 h.1)
    ∙ ap (λ (s : ℕ). Some (cut_in bytes s c.in_ok-row.row.now))
    (sym (c.start_of-start.ensures ∙ ap (λ (l : List Row). start_at 0 l c.args.number) c.deref-2.ensures.value))
    ∙ ap Some (cut _ _ _ _ _ c.in_ok-row.row.now c.deref-3.ensures.value c.split_at.ensures.back c.split_at-2.ensures.front ∙ sym c.with_hash.ensures)
