use Rattle.std.proofs.Common.{◌++◌, ◌∷◌, [], refl}
use Rattle.unify.specs.declared.site_files.NamedText.{NamedText}
use Rattle.unify_merge.specs.Ledger.{BrokeOff}
use Rattle.unify_merge.proofs.BreakingOff.{broken_none, on_err}
use Rattle.unify_merge.proofs.host_files.write_text.Goals as goal

pub returns-in_err-name-clause-left : goal.returns-in_err-name-clause-left
returns-in_err-name-clause-left g c =
    let file : NamedText = record { name = c.args.start.now ++ c.args.host.now.name; text = c.args.text.now } in
    let old = g.F.ReadFiles.ledger c.args.files.now in
    on_err c.from_residual.result (BrokeOff (file ∷ []) old old) (broken_none (file ∷ []) old old refl)
