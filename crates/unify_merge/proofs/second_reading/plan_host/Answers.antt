use Rattle.std.proofs.Common.{◌++◌, ◌∷◌, [], List, sym, ap, subst, ◌∙◌}
use Rattle.std.proofs.lemmas.Result.{err_from_is_err_and}
use Rattle.unify.specs.SecondPass.{ended_in, whole_plan}
use Rattle.unify.specs.declared.site_files.NamedText.{NamedText}
use Rattle.unify_merge.specs.Ledger.{Ledger, Reading, finished_on}
use Rattle.unify_merge.specs.SecondReading.{HasReadOneAtMost, PlanBrokeOff}
use Rattle.unify_merge.proofs.BreakingOff.{finishes_none, has_read_none, on_err}
use Rattle.unify_merge.proofs.Changes.{second_same}
use Rattle.unify_merge.proofs.second_reading.plan_host.Goals as goal

pub returns-clause-planned : goal.returns-clause-planned
returns-clause-planned g c = λ host were turn.
    let solved = c.args.solved.now in
    let begun = c.in_ok-begin.ensures.begun in
    let opened = c.in_ok-open.ensures.opened in
    let kept = c.in_ok-plan_reading.ensures.kept in
    let p = c.in_ok-plan_reading.ensures.planned host were c.args.name.now turn (ap (λ (l : Ledger). l.writing) opened ∙ ap (λ (l : Ledger). l.writing) begun) in
    let file : NamedText = record { name = c.args.name.now; text = whole_plan host solved.joined solved.merged (ended_in solved) p.files } in
    let r : Reading = record { host = ended_in solved; text = p.text } in
    let l = g.F.ReadFiles.ledger c.plan_reading.new.files in
    let new = g.F.ReadFiles.ledger c.finish.new.self in
    let done = c.in_ok-finish.ensures.finished ∙ ap (λ o. finished_on o l) p.written in
    let clear = ap (λ (x : Ledger). x.is_clear) done ∙ ap (λ (x : Ledger). x.is_clear) kept ∙ ap (λ (x : Ledger). x.is_clear) opened ∙ ap (λ (x : Ledger). x.is_clear) begun in
    let names = ap (λ (x : Ledger). x.begun) done ∙ ap (λ (x : Ledger). x.begun) kept ∙ ap (λ (x : Ledger). x.begun) opened ∙ ap (λ (x : Ledger). x.begun) begun in
    let finished = ap (λ (x : Ledger). x.finished) done ∙ ap (λ (x : Ledger). x.finished ++ file ∷ []) kept ∙ ap (λ (x : Ledger). x.finished ++ file ∷ []) opened ∙ ap (λ (x : Ledger). x.finished ++ file ∷ []) begun in
    let settled = ap (λ (x : Ledger). x.settled) done ∙ ap (λ (x : Ledger). x.settled) kept ∙ ap (λ (x : Ledger). x.settled) opened ∙ ap (λ (x : Ledger). x.settled) begun in
    let writing = ap (λ (x : Ledger). x.writing) done in
    record {
      text = p.text;
      within = p.within;
      files = p.files;
      again = p.again;
      readings = ap (λ (x : Ledger). x.read) done ∙ p.readings ∙ ap (λ (x : Ledger). x.read ++ r ∷ []) opened ∙ ap (λ (x : Ledger). x.read ++ r ∷ []) begun;
      written = λ j. record { read = new.read; reading = new.reading; is_clear = clear j; begun = names j; finished = finished j; settled = settled j; writing = writing j };
    }

pub returns-in_err-begin-clause-left : goal.returns-in_err-begin-clause-left
returns-in_err-begin-clause-left g c =
    let old = g.F.ReadFiles.ledger c.args.files.now in
    let new = g.F.ReadFiles.ledger c.begin.new.self in
    let none = c.in_err-begin.ensures.none in
    on_err c.from_residual.result (PlanBrokeOff old new)
    (record { reads = has_read_none old.read new (ap (λ (l : Ledger). l.read) none); no_file = finishes_none old new (ap (λ (l : Ledger). l.is_clear) none) (ap (λ (l : Ledger). l.finished) none) (ap (λ (l : Ledger). l.settled) none) })

pub returns-in_err-open-clause-left : goal.returns-in_err-open-clause-left
returns-in_err-open-clause-left g c =
    let old = g.F.ReadFiles.ledger c.args.files.now in
    let new = g.F.ReadFiles.ledger c.open.new.self in
    let begun = c.in_err-open.ensures.none ∙ c.in_ok-begin.ensures.begun in
    on_err c.from_residual-in_err-open.result (PlanBrokeOff old new)
    (record { reads = has_read_none old.read new (ap (λ (l : Ledger). l.read) begun); no_file = finishes_none old new (ap (λ (l : Ledger). l.is_clear) begun) (ap (λ (l : Ledger). l.finished) begun) (ap (λ (l : Ledger). l.settled) begun) })

pub returns-in_err-plan_reading-clause-left : goal.returns-in_err-plan_reading-clause-left
returns-in_err-plan_reading-clause-left g c =
    let old = g.F.ReadFiles.ledger c.args.files.now in
    let new = g.F.ReadFiles.ledger c.plan_reading.new.files in
    let begun = c.in_ok-begin.ensures.begun in
    let opened = c.in_ok-open.ensures.opened in
    let kept = c.in_err-plan_reading.ensures.kept in
    on_err c.from_residual-in_err-plan_reading.result (PlanBrokeOff old new)
    (record {
      reads = subst (λ (rs : List Reading). HasReadOneAtMost rs new) (ap (λ (l : Ledger). l.read) opened ∙ ap (λ (l : Ledger). l.read) begun) c.in_err-plan_reading.ensures.reads;
      no_file = finishes_none old new (ap (λ (l : Ledger). l.is_clear) kept ∙ ap (λ (l : Ledger). l.is_clear) opened ∙ ap (λ (l : Ledger). l.is_clear) begun) (ap (λ (l : Ledger). l.finished) kept ∙ ap (λ (l : Ledger). l.finished) opened ∙ ap (λ (l : Ledger). l.finished) begun)
          (ap (λ (l : Ledger). l.settled) kept ∙ ap (λ (l : Ledger). l.settled) opened ∙ ap (λ (l : Ledger). l.settled) begun);
    })

pub returns-in_err-finish-clause-left : goal.returns-in_err-finish-clause-left
returns-in_err-finish-clause-left g c =
    let old = g.F.ReadFiles.ledger c.args.files.now in
    let new = g.F.ReadFiles.ledger c.finish.new.self in
    let begun = c.in_ok-begin.ensures.begun in
    let opened = c.in_ok-open.ensures.opened in
    let none = c.in_err-finish.ensures.none in
    let kept = c.in_ok-plan_reading.ensures.kept in
    let reads = c.in_ok-plan_reading.ensures.reads in
    on_err c.from_residual-in_err-finish.result (PlanBrokeOff old new)
    (record {
      reads = record { more = reads.more; one_at_most = reads.one_at_most; readings = ap (λ (l : Ledger). l.read) none ∙ reads.readings ∙ ap (λ (l : Ledger). l.read ++ reads.more) opened ∙ ap (λ (l : Ledger). l.read ++ reads.more) begun };
      no_file = finishes_none old new (ap (λ (l : Ledger). l.is_clear) none ∙ ap (λ (l : Ledger). l.is_clear) kept ∙ ap (λ (l : Ledger). l.is_clear) opened ∙ ap (λ (l : Ledger). l.is_clear) begun)
          (ap (λ (l : Ledger). l.finished) none ∙ ap (λ (l : Ledger). l.finished) kept ∙ ap (λ (l : Ledger). l.finished) opened ∙ ap (λ (l : Ledger). l.finished) begun)
          (ap (λ (l : Ledger). l.settled) none ∙ ap (λ (l : Ledger). l.settled) kept ∙ ap (λ (l : Ledger). l.settled) opened ∙ ap (λ (l : Ledger). l.settled) begun);
    })

pub returns-in_err-plan_reading-clause-stopped : goal.returns-in_err-plan_reading-clause-stopped
returns-in_err-plan_reading-clause-stopped g c =
    let p = err_from_is_err_and c.from_residual-in_err-plan_reading.result c.from_residual-in_err-plan_reading.ensures.1 in
    let now = c.plan_reading.new.files in
    let read = ap (λ (x : Ledger). x.read) c.in_ok-open.ensures.opened ∙ ap (λ (x : Ledger). x.read) c.in_ok-begin.ensures.begun in
    let fault = c.in_err-plan_reading.field-0.0 in
    rw (p.1, p.2) (λ host were turn.
    second_same host were _ _ _ _ (g.F.ReadFiles.ledger now) fault (sym c.requires.next) read (c.in_err-plan_reading.ensures.stopped host were turn))
