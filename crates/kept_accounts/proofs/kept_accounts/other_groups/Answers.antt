use Rattle.std.proofs.Common.{◌≡◌, List, ◌∙◌}
use Rattle.std.proofs.lemmas.Result.{IfOk-weaker}
use Rattle.accounts.specs.Rows.{Group}
use Rattle.accounts.specs.Selected.{those}
use Rattle.kept_accounts.specs.Keeping.{keeps}
use Rattle.kept_accounts.specs.Others.{other_rows}
use Rattle.kept_accounts.proofs.OtherLemmas.{selected-others}
use Rattle.kept_accounts.proofs.kept_accounts.other_groups.Goals as goal

pub returns : goal.returns
returns c =
    let others = selected-others (λ (row : Group). row.name) (keeps c.args.kept.now) c.args.groups.now c.deref.result.now (c.deref.ensures.value ∙ c.in_ok-flags.ensures) in
    IfOk-weaker c.selected.result (λ (table : List Group). table ≡ those c.deref.result.now c.args.groups.now) (λ (table : List Group). table ≡ other_rows (λ (row : Group). row.name) (keeps c.args.kept.now) c.args.groups.now)
    (λ table is. is ∙ others) c.selected.ensures.those
