use Rattle.std.proofs.Common.{◌∙◌}
use Rattle.std.proofs.lemmas.Result.{IfOk-weaker}
use Rattle.unify_texts.proofs.ReportLemmas.{reported}
use Rattle.unify_texts.proofs.report.report_text.Goals as goal

pub returns : goal.returns
returns c =
    let all = reported c.args.hosts.now c.args.site.now c.args.counts.now c.args.mappings.now c.figures_under-user_figures.result c.figures_under-group_figures.result c.deref.result.now
    (rw (c.users.ensures, c.users-2.ensures.users, c.user_files.ensures.files) at c.figures_under-user_figures.ensures)
    (rw (c.groups.ensures, c.groups-2.ensures.groups, c.group_files.ensures.files) at c.figures_under-group_figures.ensures)
    (c.deref.ensures.value ∙ c.in_ok-told.ensures) in
    IfOk-weaker c.report_lines.result _ _ (λ text is files stands. is ∙ all files stands) c.report_lines.ensures
