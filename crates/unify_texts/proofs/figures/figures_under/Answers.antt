use Rattle.std.proofs.Common.{◌≡◌, ℕ, ◌+◌, ◌-◌, ◌≤◌, List, length, arith, ap, ◌∙◌}
use Rattle.hosts_join.specs.Accounts.{Accounts}
use Rattle.ownership.specs.Costs.{cost_of, changed_rows}
use Rattle.ownership.specs.Files.{File}
use Rattle.ownership.proofs.CostLemmas.{rows_and_lines}
use Rattle.unify_texts.specs.Figures.{figures_of, pinned_names, kept_names, fresh_names}
use Rattle.unify_texts.specs.Staying.{told_files}
use Rattle.unify_texts.specs.declared.figures.Figures.{Figures}
use Rattle.unify_texts.proofs.Totals.{figures_add_up, cost_told}
use Rattle.unify_texts.proofs.figures.figures_under.Goals as goal

-- the names that are pinned, and those that keep a number, are no more than all
few : (a : Accounts) (m : List ℕ) → pinned_names a + kept_names a m ≤ length a.names
few a m = omega (arith, figures_add_up a m)

same : (f g : Figures) → f.names ≡ g.names → f.pinned ≡ g.pinned → f.kept ≡ g.kept → f.fresh ≡ g.fresh → f.files ≡ g.files → f.changed_files ≡ g.changed_files → f.rows ≡ g.rows → f.changed_rows ≡ g.changed_rows → f ≡ g
same f g a b c d e h k l = λ i. record { names = a i; pinned = b i; kept = c i; fresh = d i; files = e i; changed_files = h i; rows = k i; changed_rows = l i }

pub overflow_sub-result : goal.overflow_sub-result
overflow_sub-result c = omega (arith, few c.args.names.now c.args.mapping.now)

pub overflow_sub-result-2 : goal.overflow_sub-result-2
overflow_sub-result-2 c = omega (arith, few c.args.names.now c.args.mapping.now)

pub overflow_sub-result-3 : goal.overflow_sub-result-3
overflow_sub-result-3 c = omega (arith, rows_and_lines c.args.names.now c.args.mapping.now)

pub returns : goal.returns
returns c =
    let a = c.args.names.now in
    let m = c.args.mapping.now in
    λ (added : List File) counted files.
    let kept = c.kept_names-kept.ensures in
    let all = figures_add_up a m in
    let staying : c.staying_files-staying.result ≡ told_files c.args.counts.now m (length a.names) = c.staying_files-staying.ensures ∙ ap (told_files c.args.counts.now m) c.len.ensures.len in
    let changed = cost_told a c.args.counts.now added m c.len.ensures.lawful counted in
    let rows = rows_and_lines a m in
    let fresh : (c.len-3.result - c.pinned_names-pinned.result) - c.kept_names-kept.result ≡ fresh_names a m = omega (arith, all, kept) in
    let cost : c.saturating_sub.result ≡ cost_of a added m = omega (arith, changed, staying, files) in
    let moved : c.all_lines-2.result - c.staying_rows.result ≡ changed_rows a m = omega (arith, rows) in
    same _ (figures_of a added m) c.len-2.ensures.len c.pinned_names-pinned.ensures kept fresh files cost c.all_lines.ensures.lines moved
