use Rattle.std.proofs.Common.{sym, subst}
use Rattle.std.specs.Prelude.{IfErr, IfOk}
use Rattle.idtext.specs.First.{Gives}
use Rattle.unify_texts.specs.Told.{told}
use Rattle.unify.specs.Checking.{IsChecked, check_of}
use Rattle.unify_merge.specs.Check.{HasChecked, StopsCheck}
use Rattle.unify_bundle.specs.TextFiles.{TextFilesValue, ledger_of}
use Rattle.unify_bundle.proofs.InTexts.{checked}
use Rattle.unify_bundle.proofs.texts.check.Goals as goal

pub returns-clause-exact : goal.returns-clause-exact
returns-clause-exact c =
    let hosts = c.args.hosts.now in
    let rules = c.args.rules.now in
    let certificate = c.args.certificate.now in
    let new = c.check_by-cost.new.files in
    let result = c.check_by-cost.result in
    subst (λ r. Gives (λ cost. cost) told r (check_of hosts rules certificate)) (sym c.answer.ensures.told)
    (checked hosts new.texts (ledger_of new) c.answer.ensures.read rules certificate result
    (subst (λ (v : TextFilesValue). IfOk result (HasChecked hosts rules certificate (ledger_of v) (ledger_of new))) c.new-files.ensures c.check_by-cost.ensures.checked)
    (subst (λ (v : TextFilesValue). IfErr result (StopsCheck hosts rules certificate (ledger_of v) (ledger_of new))) c.new-files.ensures c.check_by-cost.ensures.stopped)).0

pub returns-clause-proved : goal.returns-clause-proved
returns-clause-proved c =
    let hosts = c.args.hosts.now in
    let rules = c.args.rules.now in
    let certificate = c.args.certificate.now in
    let new = c.check_by-cost.new.files in
    let result = c.check_by-cost.result in
    subst (λ r. IfOk r (IsChecked hosts rules certificate)) (sym c.answer.ensures.told)
    (checked hosts new.texts (ledger_of new) c.answer.ensures.read rules certificate result
    (subst (λ (v : TextFilesValue). IfOk result (HasChecked hosts rules certificate (ledger_of v) (ledger_of new))) c.new-files.ensures c.check_by-cost.ensures.checked)
    (subst (λ (v : TextFilesValue). IfErr result (StopsCheck hosts rules certificate (ledger_of v) (ledger_of new))) c.new-files.ensures c.check_by-cost.ensures.stopped)).1
