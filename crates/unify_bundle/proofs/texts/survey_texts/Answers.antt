use Rattle.std.proofs.Common.{sym, subst}
use Rattle.std.specs.Prelude.{IfErr, IfOk}
use Rattle.idtext.specs.First.{Gives}
use Rattle.unify_texts.specs.Told.{told}
use Rattle.site_tables.specs.Survey.{surveyed}
use Rattle.unify_merge.specs.Surveyed.{StopsFinding, WereFound}
use Rattle.unify_bundle.specs.TextFiles.{TextFilesValue, ledger_of}
use Rattle.unify_bundle.proofs.InTexts.{found}
use Rattle.unify_bundle.proofs.texts.survey_texts.Goals as goal

pub returns : goal.returns
returns c =
    let hosts = c.args.texts.now in
    let keep = c.args.keep.now in
    let new = c.survey_files-found.new.files in
    let result = c.survey_files-found.result in
    subst (λ r. Gives (λ found. found) told r (surveyed hosts keep)) (sym c.answer.ensures.told)
    (found hosts new.texts (ledger_of new) c.answer.ensures.read keep result
    (subst (λ (v : TextFilesValue). IfOk result (WereFound hosts keep (ledger_of v) (ledger_of new))) c.new-files.ensures c.survey_files-found.ensures.found)
    (subst (λ (v : TextFilesValue). IfErr result (StopsFinding hosts keep (ledger_of v) (ledger_of new))) c.new-files.ensures c.survey_files-found.ensures.stopped))
