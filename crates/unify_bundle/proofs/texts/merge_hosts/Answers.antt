use Rattle.std.proofs.Common.{sym, subst}
use Rattle.std.specs.Prelude.{IfErr, IfOk}
use Rattle.std.proofs.lemmas.Result.{err_from_is_err_and}
use Rattle.unify_merge.specs.Merge.{HasMade, StopsMerge}
use Rattle.unify_bundle.specs.TextFiles.{TextFilesValue, ledger_of}
use Rattle.unify_bundle.proofs.InTexts.{answered_ok, made_parted, made_site, merge_refused, own_files}
use Rattle.unify_bundle.proofs.SameTexts.{at_start}
use Rattle.unify_bundle.proofs.texts.merge_hosts.Goals as goal

pub returns-in_err-outcome : goal.returns-in_err-outcome
returns-in_err-outcome c =
    let p = err_from_is_err_and c.from_residual.result c.from_residual.ensures.1 in
    let hosts = c.args.hosts.now in
    let rules = c.args.rules.now in
    let new = c.merge_outcome-merged.new.files in
    let result = c.merge_outcome-merged.result in
    rw (p.1, p.2)
    (merge_refused hosts new.texts (ledger_of new) c.in_err-outcome.ensures.read rules result c.in_err-outcome.field-0.0 (sym c.in_err-outcome.ensures.told)
    (subst (λ (v : TextFilesValue). IfErr result (StopsMerge hosts rules (ledger_of v) (ledger_of new))) c.new-files.ensures c.merge_outcome-merged.ensures.stopped))

pub with_files-requires : goal.with_files-requires
with_files-requires c =
    let hosts = c.args.hosts.now in
    let rules = c.args.rules.now in
    let new = c.merge_outcome-merged.new.files in
    let result = c.merge_outcome-merged.result in
    let made = c.in_ok-outcome.outcome in
    let h = answered_ok (HasMade hosts rules (at_start hosts) (ledger_of new)) result made (sym c.in_ok-outcome.ensures.told)
    (subst (λ (v : TextFilesValue). IfOk result (HasMade hosts rules (ledger_of v) (ledger_of new))) c.new-files.ensures c.merge_outcome-merged.ensures.merged) in (
      h.merged.outcome.plans,
      own_files hosts new.texts (ledger_of new) c.in_ok-outcome.ensures.read rules made.cost h.merged,
      made_parted hosts new.texts (ledger_of new) c.in_ok-outcome.ensures.read rules made h c.into_files.result.items c.into_files.ensures,
    )

pub returns : goal.returns
returns c =
    let hosts = c.args.hosts.now in
    let rules = c.args.rules.now in
    let new = c.merge_outcome-merged.new.files in
    let result = c.merge_outcome-merged.result in
    let made = c.in_ok-outcome.outcome in
    let own = c.in_ok-outcome.ensures.read in
    let h = answered_ok (HasMade hosts rules (at_start hosts) (ledger_of new)) result made (sym c.in_ok-outcome.ensures.told)
    (subst (λ (v : TextFilesValue). IfOk result (HasMade hosts rules (ledger_of v) (ledger_of new))) c.new-files.ensures c.merge_outcome-merged.ensures.merged) in
    let all = own_files hosts new.texts (ledger_of new) own rules made.cost h.merged in
    let parts = c.in_ok-site.ensures h.merged.outcome.plans all (made_parted hosts new.texts (ledger_of new) own rules made h c.into_files.result.items c.into_files.ensures) in
    made_site hosts new.texts (ledger_of new) own rules made h c.in_ok-site.site parts.0 parts.1
