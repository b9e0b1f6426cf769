use Rattle.std.proofs.Common.{◌≤◌, ◌++◌, ◌∷◌, [], length, ap, sym, ◌∙◌, arith, length-append}
use Rattle.std.proofs.lemmas.Result.{err_from_is_err_and}
use Rattle.unify_merge.specs.FirstReading.{most_inventory_bytes}
use Rattle.unify_merge.specs.Ledger.{Ledger, Reading}
use Rattle.unify_merge.proofs.Readings.{reads_on}
use Rattle.unify_merge.proofs.Rehearsals.{piece_refused}
use Rattle.unify_merge.proofs.Stops.{piece_ended}
use Rattle.unify_merge.proofs.rehearse.read_and_end.Goals as goal

pub piece-requires : goal.piece-requires
piece-requires g c = (c.requires.0, c.loop-rehearsal.invariant.text, c.loop-rehearsal.invariant.stands c.requires.0 c.requires.1)

pub end-requires : goal.end-requires
end-requires g c = (c.requires.0, c.loop-rehearsal.invariant.text, c.loop-rehearsal.invariant.stands c.requires.0 c.requires.1)

pub returns-in_err-next_piece-clause-stopped : goal.returns-in_err-next_piece-clause-stopped
returns-in_err-next_piece-clause-stopped g c =
    let inv = c.loop-rehearsal.invariant in
    let p = err_from_is_err_and c.from_residual-in_err-next_piece.result c.from_residual-in_err-next_piece.ensures.1 in
    let r : Reading = record { host = 0; text = inv.text } in
    rw (p.1, p.2) (λ plan s. piece_ended _ r.host _ inv.text _ _ _ _ inv.may (c.in_err-next_piece.ensures.stopped r inv.reading))

pub loop-rehearsal-preserved : goal.loop-rehearsal-preserved
loop-rehearsal-preserved g c =
    let inv = c.loop-rehearsal.invariant in
    let old = g.F.ReadFiles.ledger c.args.files.now in
    let mid = g.F.ReadFiles.ledger c.loop-rehearsal.files in
    let new = g.F.ReadFiles.ledger c.next_piece.new.files in
    let r : Reading = record { host = 0; text = inv.text } in
    let goes = rw c.if-branch.true at c.in_ok-next_piece.ensures.read r inv.reading in
    let bytes = c.next_piece.new.bytes.items in
    record {
      text = inv.text ++ bytes;
      reading = ap (λ (l : Ledger). l.reading) goes.0;
      read = ap (λ (l : Ledger). l.read) goes.0 ∙ inv.read;
      only = reads_on old mid new inv.only (goes.0 ∙ sym (ap (λ (l : Ledger). record mid { read = l.read; reading = l.reading }) goes.0));
      may = omega (arith, goes.1, inv.may, length-append inv.text bytes);
      stands = λ plan s. rw c.deref.ensures.value at c.in_ok-piece.ensures.stands plan inv.text (inv.stands plan s);
      calls = c.in_ok-next_piece.ensures.calls ∙ inv.calls;
    }

pub returns-in_err-piece-clause-stopped : goal.returns-in_err-piece-clause-stopped
returns-in_err-piece-clause-stopped g c =
    let inv = c.loop-rehearsal.invariant in
    let p = err_from_is_err_and c.from_residual-in_err-piece.result c.from_residual-in_err-piece.ensures.1 in
    let r : Reading = record { host = 0; text = inv.text } in
    let goes = rw c.if-branch.true at c.in_ok-next_piece.ensures.read r inv.reading in
    let now = c.next_piece.new.files in
    rw (p.1, p.2) (λ plan s.
    piece_refused plan _ _ (g.F.ReadFiles.ledger now) _ (ap (λ (l : Ledger). l.read) goes.0 ∙ inv.read, ap (λ (l : Ledger). l.reading) goes.0)
    (rw c.deref.ensures.value at c.in_err-piece.ensures.refused plan inv.text (inv.stands plan s)))

pub returns-clause-carried : goal.returns-clause-carried
returns-clause-carried g c =
    let inv = c.loop-rehearsal.invariant in
    let r : Reading = record { host = 0; text = inv.text } in
    let goes = rw c.if-branch.false at c.in_ok-next_piece.ensures.read r inv.reading in
    let few : length inv.text ≤ most_inventory_bytes = omega (arith, inv.may) in
    λ plan s. (inv.text, ap (λ (l : Ledger). l.read) goes ∙ ap (λ rs. rs ++ r ∷ []) inv.read, c.in_ok-records.ensures plan inv.text (inv.stands plan s), few)
