use Rattle.std.proofs.Common.{◌≡◌, ◌≤◌, ◌++◌, ◌∷◌, [], Err, length, refl, subst, ap, ◌∙◌, arith}
use Rattle.std.specs.Prelude.{IfSome}
use Rattle.std.proofs.lemmas.Result.{err_from_is_err_and}
use Rattle.unify_texts.specs.Told.{told}
use Rattle.site_tables.specs.Hosts.{files_of, lines_of}
use Rattle.unify.specs.Passes.{InventoriesValue, IsNext, ended_in, is_read}
use Rattle.unify_merge.specs.FirstReading.{most_inventory_bytes}
use Rattle.unify_merge.specs.Ledger.{Ledger, Reading}
use Rattle.unify_merge.proofs.Stops.{first_lines, first_whole, piece_ended}
use Rattle.unify_merge.proofs.first_reading.count_reading.Goals as goal

pub returns-in_err-next_piece-clause-stopped : goal.returns-in_err-next_piece-clause-stopped
returns-in_err-next_piece-clause-stopped g c =
    let inv = c.loop-inventories.invariant in
    let p = err_from_is_err_and c.from_residual.result c.from_residual.ensures.1 in
    let r : Reading = record { host = ended_in c.args.inventories.now; text = inv.text } in
    rw (p.1, p.2) (λ host here. piece_ended _ r.host _ inv.text _ _ _ _ inv.may (c.in_err-next_piece.ensures.stopped r inv.reading))

pub returns-in_err-piece-clause-stopped : goal.returns-in_err-piece-clause-stopped
returns-in_err-piece-clause-stopped g c =
    let inv = c.loop-inventories.invariant in
    let p = err_from_is_err_and c.from_residual-in_err-piece.result c.from_residual-in_err-piece.ensures.1 in
    let r : Reading = record { host = ended_in c.args.inventories.now; text = inv.text } in
    let goes = rw c.if-branch.true at c.in_ok-next_piece.ensures.read r inv.reading in
    let bytes = c.next_piece.new.bytes.items in
    let e = c.in_err-piece.field-0.0 in
    rw (p.1, p.2) (λ host here.
    first_lines host r.host (inv.text ++ bytes) _ (g.F.ReadFiles.ledger c.next_piece.new.files) e (ap (λ (l : Ledger). l.read) goes.0 ∙ inv.read, ap (λ (l : Ledger). l.reading) goes.0)
    (subst (λ (v : InventoriesValue). IsNext v host → IfSome (told e) (λ f. is_read (lines_of host (v.text ++ bytes)) ≡ Err f)) inv.come (rw c.deref.ensures.value at c.in_err-piece.ensures.told host) (here, refl)))

pub returns-in_err-end_host-clause-stopped : goal.returns-in_err-end_host-clause-stopped
returns-in_err-end_host-clause-stopped g c =
    let inv = c.loop-inventories.invariant in
    let p = err_from_is_err_and c.from_residual-in_err-end_host.result c.from_residual-in_err-end_host.ensures.1 in
    let r : Reading = record { host = ended_in c.args.inventories.now; text = inv.text } in
    let goes = rw c.if-branch.false at c.in_ok-next_piece.ensures.read r inv.reading in
    let e = c.in_err-end_host.field-0.0 in
    rw (p.1, p.2) (λ host here.
    first_whole host r.host inv.text _ (g.F.ReadFiles.ledger c.next_piece.new.files) e (ap (λ (l : Ledger). l.read) goes ∙ ap (λ rs. rs ++ r ∷ []) inv.read)
    (subst (λ (v : InventoriesValue). IsNext v host → IfSome (told e) (λ f. is_read (files_of (record { host = host; mtree = v.text })) ≡ Err f)) inv.come (c.in_err-end_host.ensures.told host) (here, refl)))

pub returns-clause-counted : goal.returns-clause-counted
returns-clause-counted g c =
    let inv = c.loop-inventories.invariant in
    let r : Reading = record { host = ended_in c.args.inventories.now; text = inv.text } in
    let goes = rw c.if-branch.false at c.in_ok-next_piece.ensures.read r inv.reading in
    let few : length inv.text ≤ most_inventory_bytes = omega (arith, inv.may) in (
      inv.text,
      c.in_ok-end_host.ensures.ended ∙ ap (λ (v : InventoriesValue). record v { ended = v.ended ++ v.text ∷ []; text = [] }) inv.come,
      ap (λ (l : Ledger). l.read) goes ∙ ap (λ rs. rs ++ r ∷ []) inv.read,
      few,
    )
