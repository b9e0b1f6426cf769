use Rattle.std.proofs.Common.{◌≡◌, ap, subst, ◌∙◌, inl}
use Rattle.std.proofs.lemmas.Result.{on_err_weaker}
use Rattle.site_tables.specs.Rules.{rules_by}
use Rattle.site_tables.specs.declared.rules.SiteRules.{SiteRules}
use Rattle.unify_merge.specs.Merge.{HasMerged, Leaves}
use Rattle.unify_merge.specs.Surveyed.{LeavesFiles}
use Rattle.unify_merge.proofs.BreakingOff.{on_err}
use Rattle.unify_merge.proofs.Leaving.{files_leave}
use Rattle.unify_merge.proofs.WholeMerge.{if_ok}
use Rattle.unify_merge.proofs.merge.merge_files.Goals as goal

pub returns-in_err-unowned-clause-left : goal.returns-in_err-unowned-clause-left
returns-in_err-unowned-clause-left g c =
    let old = g.F.ReadFiles.ledger c.args.files.now in
    let new = g.F.ReadFiles.ledger c.survey_files.new.files in
    on_err c.from_residual.result (LeavesFiles c.args.hosts.now c.args.pins.now c.args.keep.now old new) (inl c.in_err-unowned.ensures.reads)

pub returns-clause-merged : goal.returns-clause-merged
returns-clause-merged g c =
    let pins = c.args.pins.now in
    let keep = c.args.keep.now in
    let unowned = c.in_ok-unowned.unowned in
    let rules : c.new-rules.result ≡ rules_by pins keep unowned = c.new-rules.ensures ∙ ap (λ keep. record { pins = pins; keep = keep }) c.new.ensures in
    let mid = g.F.ReadFiles.ledger c.survey_files.new.files in
    let new = g.F.ReadFiles.ledger c.merge_by.new.files in
    if_ok c.merge_by.result _ _ (λ cost merged. record {
      unowned = unowned;
      middle = mid;
      surveyed = c.in_ok-unowned.ensures.found;
      holds = subst (λ (r : SiteRules). HasMerged c.args.hosts.now r mid new cost) rules merged;
    }) c.merge_by.ensures.merged

pub returns-clause-left : goal.returns-clause-left
returns-clause-left g c =
    let hosts = c.args.hosts.now in
    let pins = c.args.pins.now in
    let keep = c.args.keep.now in
    let unowned = c.in_ok-unowned.unowned in
    let rules : c.new-rules.result ≡ rules_by pins keep unowned = c.new-rules.ensures ∙ ap (λ keep. record { pins = pins; keep = keep }) c.new.ensures in
    let old = g.F.ReadFiles.ledger c.args.files.now in
    let mid = g.F.ReadFiles.ledger c.survey_files.new.files in
    let new = g.F.ReadFiles.ledger c.merge_by.new.files in
    on_err_weaker c.merge_by.result
    (λ left. files_leave hosts pins keep unowned old mid new c.in_ok-unowned.ensures.found (subst (λ (r : SiteRules). Leaves hosts r mid new) rules left))
    c.merge_by.ensures.left
