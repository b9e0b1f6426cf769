use Rattle.std.proofs.Common.{◌≡◌, ◌≤◌, ◌+◌, ◌++◌, ◌∷◌, [], ℕ, List, Some, length, refl, sym, ap, subst, ◌∙◌, arith, length-append}
use Rattle.std.specs.Prelude.{OnOk}
use Rattle.std.proofs.lemmas.Result.{err_from_is_err_and}
use Rattle.std.proofs.lemmas.Option.{same_Some}
use Rattle.mtree_inv.specs.declared.entry.Entry.{Entry}
use Rattle.unify.specs.SecondPass.{IsNext, SolvedValue, WereFirst, ended_in, whole_plan}
use Rattle.unify.specs.declared.site_files.NamedText.{NamedText}
use Rattle.unify_laws.proofs.Agreeing.{item_at}
use Rattle.unify_merge.specs.FirstReading.{most_inventory_bytes}
use Rattle.unify_merge.specs.Ledger.{Ledger, Reading, with_bytes}
use Rattle.unify_merge.specs.SecondReading.{IsReadAgain, StopsEnd, StopsPiece}
use Rattle.unify_merge.proofs.AllPlanned.{same_site}
use Rattle.unify_merge.proofs.BreakingOff.{has_read_none, has_read_one}
use Rattle.unify_merge.proofs.Changes.{early_read, second_lines_stop, second_whole_stop}
use Rattle.unify_merge.proofs.Readings.{if_err, on_ok}
use Rattle.unify_merge.proofs.Stops.{piece_ended}
use Rattle.unify_merge.proofs.Writing.{within_file, written_more}
use Rattle.unify_merge.proofs.second_reading.plan_reading.Goals as goal

pub returns-in_err-next_piece-clause-stopped : goal.returns-in_err-next_piece-clause-stopped
returns-in_err-next_piece-clause-stopped g c =
    let inv = c.loop-files.invariant in
    let p = err_from_is_err_and c.from_residual.result c.from_residual.ensures.1 in
    let r : Reading = record { host = ended_in c.args.solved.now; text = inv.text } in
    let now = c.next_piece.new.files in
    rw (p.1, p.2) (λ host were turn.
    piece_ended _ r.host c.loop-files.left inv.text c.next_piece.new.bytes.items (g.F.ReadFiles.ledger c.loop-files.files) (g.F.ReadFiles.ledger now) c.in_err-next_piece.field-0.0 inv.may (c.in_err-next_piece.ensures.stopped r inv.reading))

pub loop-files-init : goal.loop-files-init
loop-files-init g c =
    let fresh = c.requires.fresh in
    record {
      text = [];
      planned = [];
      reading = c.requires.begun;
      read = refl;
      only = refl;
      may = refl;
      name = c.requires.file.0;
      was = c.requires.file.1;
      writing = c.requires.file.1;
      come = λ j. record c.args.solved.now { text = fresh.none j; planned = fresh.unplanned j };
      calls = refl;
    }

pub loop-files-preserved : goal.loop-files-preserved
loop-files-preserved g c =
    let inv = c.loop-files.invariant in
    let start = c.args.solved.now in
    let old = g.F.ReadFiles.ledger c.args.files.now in
    let mid = g.F.ReadFiles.ledger c.next_piece.new.files in
    let new = g.F.ReadFiles.ledger c.plan_piece.new.files in
    let r : Reading = record { host = ended_in start; text = inv.text } in
    let goes = rw c.if-branch.true at c.in_ok-next_piece.ensures.read r inv.reading in
    let writes = c.in_ok-plan_piece.ensures.writes in
    let bytes = c.next_piece.new.bytes.items in
    let at = item_at start.hosts (ended_in start) c.requires.left in
    let next : IsNext c.loop-files.solved at.0 = subst (λ (v : SolvedValue). IsNext v at.0) (sym inv.come) (at.1, c.requires.fresh.unmet) in
    let p = rw c.deref.ensures.value at c.in_ok-plan_piece.ensures.planned at.0 next in
    record {
      text = inv.text ++ bytes;
      planned = inv.planned ++ p.0;
      reading = ap (λ (l : Ledger). l.reading) writes ∙ ap (λ (l : Ledger). l.reading) goes.0;
      read = ap (λ (l : Ledger). l.read) writes ∙ ap (λ (l : Ledger). l.read) goes.0 ∙ inv.read;
      only = within_file old new (ap (λ (l : Ledger). l.is_clear) writes ∙ ap (λ (l : Ledger). l.is_clear) goes.0 ∙ ap (λ (l : Ledger). l.is_clear) inv.only)
          (ap (λ (l : Ledger). l.begun) writes ∙ ap (λ (l : Ledger). l.begun) goes.0 ∙ ap (λ (l : Ledger). l.begun) inv.only)
          (ap (λ (l : Ledger). l.finished) writes ∙ ap (λ (l : Ledger). l.finished) goes.0 ∙ ap (λ (l : Ledger). l.finished) inv.only)
          (ap (λ (l : Ledger). l.settled) writes ∙ ap (λ (l : Ledger). l.settled) goes.0 ∙ ap (λ (l : Ledger). l.settled) inv.only);
      may = omega (arith, goes.1, inv.may, length-append inv.text bytes);
      name = inv.name;
      was = inv.was;
      writing = ap (λ (l : Ledger). l.writing) p.1 ∙ written_more mid inv.name inv.planned p.0 (ap (λ (l : Ledger). l.writing) goes.0 ∙ inv.writing);
      come = p.2 ∙ ap (λ (v : SolvedValue). record v { text = v.text ++ bytes; planned = v.planned ++ p.0 }) inv.come;
      calls = c.in_ok-plan_piece.ensures.calls ∙ c.in_ok-next_piece.ensures.calls ∙ inv.calls;
    }

pub returns-in_err-plan_piece-clause-stopped : goal.returns-in_err-plan_piece-clause-stopped
returns-in_err-plan_piece-clause-stopped g c =
    let inv = c.loop-files.invariant in
    let p = err_from_is_err_and c.from_residual-in_err-plan_piece.result c.from_residual-in_err-plan_piece.ensures.1 in
    let r : Reading = record { host = ended_in c.args.solved.now; text = inv.text } in
    let before = (g.F.ReadFiles.ledger c.args.files.now).read in
    let goes = rw c.if-branch.true at c.in_ok-next_piece.ensures.read r inv.reading in
    let writes = c.in_err-plan_piece.ensures.writes in
    let now = c.plan_piece.new.files in
    let fault = c.in_err-plan_piece.field-0.0 in
    let bytes = c.next_piece.new.bytes.items in
    let told = rw c.deref.ensures.value at c.in_err-plan_piece.ensures.told in
    rw (p.1, p.2) (λ host were turn.
    second_lines_stop host were r.host (inv.text ++ bytes) before (g.F.ReadFiles.ledger now) fault
    (ap (λ (l : Ledger). l.read) writes ∙ ap (λ (l : Ledger). l.read) goes.0 ∙ inv.read, ap (λ (l : Ledger). l.reading) writes ∙ ap (λ (l : Ledger). l.reading) goes.0)
    (subst (λ (v : SolvedValue). IsNext v host → StopsPiece host (v.text ++ bytes) fault) inv.come (told host) (turn.here, turn.fresh.unmet)))

pub returns-clause-planned : goal.returns-clause-planned
returns-clause-planned g c =
    let inv = c.loop-files.invariant in
    let start = c.args.solved.now in
    let mid = g.F.ReadFiles.ledger c.next_piece.new.files in
    let end = g.F.ReadFiles.ledger c.end_plan.new.files in
    let r : Reading = record { host = ended_in start; text = inv.text } in
    let goes = rw c.if-branch.false at c.in_ok-next_piece.ensures.read r inv.reading in
    let writes = c.end_plan.ensures.writes in
    let few : length inv.text ≤ most_inventory_bytes = omega (arith, inv.may) in
    on_ok c.end_plan.result _ _ (λ planned host were name turn file.
    let p = subst (λ (v : SolvedValue). IsNext v host → WereFirst v host were → (more : List ℕ) × (end ≡ with_bytes more mid) × (found : List Entry) × IsReadAgain host were v.text found × (v.planned ++ more ≡ whole_plan host v.joined v.merged (ended_in v) found)) inv.come
    (planned host were) (turn.here, turn.fresh.unmet) turn.first in
    let one : NamedText = record { name = inv.name; text = [] } in
    let other : NamedText = record { name = name; text = [] } in
    let names : inv.name ≡ name = ap (λ (f : NamedText). f.name) (same_Some one other (sym inv.was ∙ file)) in
    record {
      text = inv.text;
      within = few;
      files = p.2;
      again = p.3;
      readings = ap (λ (l : Ledger). l.read) writes ∙ ap (λ (l : Ledger). l.read) goes ∙ ap (λ rs. rs ++ r ∷ []) inv.read;
      written = ap (λ (l : Ledger). l.writing) p.1 ∙ written_more mid inv.name inv.planned p.0 (ap (λ (l : Ledger). l.writing) goes ∙ inv.writing) ∙ (λ j. Some (record { name = names j; text = p.4 j }));
    })
    c.end_plan.ensures.planned

pub returns-clause-stopped : goal.returns-clause-stopped
returns-clause-stopped g c =
    let inv = c.loop-files.invariant in
    let r : Reading = record { host = ended_in c.args.solved.now; text = inv.text } in
    let before = (g.F.ReadFiles.ledger c.args.files.now).read in
    let goes = rw c.if-branch.false at c.in_ok-next_piece.ensures.read r inv.reading in
    let writes = c.end_plan.ensures.writes in
    let now = c.end_plan.new.files in
    if_err c.end_plan.result _ _ (λ fault stops host were turn.
    second_whole_stop host were r.host inv.text before (g.F.ReadFiles.ledger now) fault
    (ap (λ (l : Ledger). l.read) writes ∙ ap (λ (l : Ledger). l.read) goes ∙ ap (λ rs. rs ++ r ∷ []) inv.read)
    (subst (λ (v : SolvedValue). IsNext v host → WereFirst v host were → StopsEnd host were v.text fault) inv.come (stops host were) (turn.here, turn.fresh.unmet) turn.first))
    c.end_plan.ensures.told

pub returns-clause-fresh : goal.returns-clause-fresh
returns-clause-fresh g c =
    let inv = c.loop-files.invariant in
    c.end_plan.ensures.fresh (ap (λ (v : SolvedValue). v.met) inv.come ∙ c.requires.fresh.unmet)

pub returns-clause-ended : goal.returns-clause-ended
returns-clause-ended g c =
    let inv = c.loop-files.invariant in
    subst (λ n. OnOk c.end_plan.result (ended_in c.end_plan.new.solved ≡ n + 1)) (ap ended_in inv.come) c.end_plan.ensures.ended

pub returns-clause-site : goal.returns-clause-site
returns-clause-site g c = on_ok c.end_plan.result _ _ (same_site c.args.solved.now c.loop-files.solved c.end_plan.new.solved c.loop-files.invariant.come) c.end_plan.ensures.site

pub returns-in_err-next_piece-clause-reads : goal.returns-in_err-next_piece-clause-reads
returns-in_err-next_piece-clause-reads g c =
    let inv = c.loop-files.invariant in
    let r : Reading = record { host = ended_in c.args.solved.now; text = inv.text } in
    let old = g.F.ReadFiles.ledger c.args.files.now in
    let mid = g.F.ReadFiles.ledger c.loop-files.files in
    let new = g.F.ReadFiles.ledger c.next_piece.new.files in
    has_read_none old.read new
    (early_read r c.next_piece.new.bytes.items c.loop-files.left mid new c.in_err-next_piece.field-0.0 (c.in_err-next_piece.ensures.stopped r inv.reading) ∙ inv.read)

pub returns-in_err-plan_piece-clause-reads : goal.returns-in_err-plan_piece-clause-reads
returns-in_err-plan_piece-clause-reads g c =
    let inv = c.loop-files.invariant in
    let r : Reading = record { host = ended_in c.args.solved.now; text = inv.text } in
    let goes = rw c.if-branch.true at c.in_ok-next_piece.ensures.read r inv.reading in
    has_read_none (g.F.ReadFiles.ledger c.args.files.now).read (g.F.ReadFiles.ledger c.plan_piece.new.files)
    (ap (λ (l : Ledger). l.read) c.in_err-plan_piece.ensures.writes ∙ ap (λ (l : Ledger). l.read) goes.0 ∙ inv.read)

pub returns-clause-reads : goal.returns-clause-reads
returns-clause-reads g c =
    let inv = c.loop-files.invariant in
    let r : Reading = record { host = ended_in c.args.solved.now; text = inv.text } in
    let goes = rw c.if-branch.false at c.in_ok-next_piece.ensures.read r inv.reading in
    has_read_one (g.F.ReadFiles.ledger c.args.files.now).read r (g.F.ReadFiles.ledger c.end_plan.new.files)
    (ap (λ (l : Ledger). l.read) c.end_plan.ensures.writes ∙ ap (λ (l : Ledger). l.read) goes ∙ ap (λ rs. rs ++ r ∷ []) inv.read)
