use Rattle.std.proofs.Common.{sym, subst}
use Rattle.std.specs.Prelude.{IfErr, IfOk}
use Rattle.idtext.specs.First.{Gives}
use Rattle.unify_texts.specs.Told.{told}
use Rattle.unify.specs.Count.{count_of}
use Rattle.unify_merge.specs.Count.{HasCounted, StopsCount}
use Rattle.unify_bundle.specs.TextFiles.{TextFilesValue, ledger_of}
use Rattle.unify_bundle.proofs.InTexts.{counted}
use Rattle.unify_bundle.proofs.texts.count.Goals as goal

pub returns : goal.returns
returns c =
    let hosts = c.args.hosts.now in
    let keep = c.args.keep.now in
    let said = c.args.map.now in
    let new = c.count_by-cost.new.files in
    let result = c.count_by-cost.result in
    subst (λ r. Gives (λ cost. cost) told r (count_of hosts keep said)) (sym c.answer.ensures.told)
    (counted hosts new.texts (ledger_of new) c.answer.ensures.read keep said result
    (subst (λ (v : TextFilesValue). IfOk result (HasCounted hosts keep said (ledger_of v) (ledger_of new))) c.new-files.ensures c.count_by-cost.ensures.counted)
    (subst (λ (v : TextFilesValue). IfErr result (StopsCount hosts keep said (ledger_of v) (ledger_of new))) c.new-files.ensures c.count_by-cost.ensures.stopped))
