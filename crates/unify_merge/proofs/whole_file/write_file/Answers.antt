use Rattle.std.proofs.Common.{◌∷◌, [], Some, ap, ◌∙◌}
use Rattle.std.proofs.lemmas.Result.{on_err_weaker}
use Rattle.unify.specs.declared.site_files.NamedText.{NamedText}
use Rattle.unify_merge.specs.Ledger.{BrokeOff, with_bytes}
use Rattle.unify_merge.proofs.BreakingOff.{broken_none, broken_open, on_err}
use Rattle.unify_merge.proofs.whole_file.write_file.Goals as goal

pub returns-in_err-begin-clause-left : goal.returns-in_err-begin-clause-left
returns-in_err-begin-clause-left g c =
    let file : NamedText = record { name = c.args.name.now; text = c.args.text.now } in
    let old = g.F.ReadFiles.ledger c.args.files.now in
    let new = g.F.ReadFiles.ledger c.begin.new.self in
    on_err c.from_residual.result (BrokeOff (file ∷ []) old new) (broken_none (file ∷ []) old new c.in_err-begin.ensures.none)

pub returns-in_err-append-clause-left : goal.returns-in_err-append-clause-left
returns-in_err-append-clause-left g c =
    let file : NamedText = record { name = c.args.name.now; text = c.args.text.now } in
    let old = g.F.ReadFiles.ledger c.args.files.now in
    let new = g.F.ReadFiles.ledger c.append.new.self in
    on_err c.from_residual-in_err-append.result (BrokeOff (file ∷ []) old new)
    (broken_open file.name file.text (Some (record { name = file.name; text = [] })) old new (c.in_err-append.ensures.none ∙ c.in_ok-begin.ensures.begun))

pub returns-clause-left : goal.returns-clause-left
returns-clause-left g c =
    let file : NamedText = record { name = c.args.name.now; text = c.args.text.now } in
    let old = g.F.ReadFiles.ledger c.args.files.now in
    let new = g.F.ReadFiles.ledger c.finish.new.self in
    on_err_weaker c.finish.result
    (λ none. broken_open file.name file.text (Some file) old new (none ∙ c.in_ok-append.ensures.written ∙ ap (with_bytes file.text) c.in_ok-begin.ensures.begun))
    c.finish.ensures.none
