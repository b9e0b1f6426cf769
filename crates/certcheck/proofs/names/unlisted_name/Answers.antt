use Rattle.std.proofs.Common.{List, ℕ, Some, sym, ap, ◌∙◌, refl, not, arith}
use Rattle.std.proofs.lemmas.Bool.{cond-true, cond-false}
use Rattle.hosts_join.specs.Rules.{account}
use Rattle.certcheck.specs.Views.{rows_of}
use Rattle.certcheck.specs.Told.{text_of}
use Rattle.certcheck.specs.Check.{least_name, is_listed, row_named}
use Rattle.certcheck.proofs.Order.{lesser_both}
use Rattle.certcheck.proofs.Missing.{more_accounts, unlisted_test}
use Rattle.certcheck.proofs.names.unlisted_name.Goals as goal
use Rattle.certcheck.proofs.names.unlisted_name.Goals.{then-is_none, else-is_none}

pub loop-index-init : goal.loop-index-init
unfolding least_name
loop-index-init c = refl

pub loop-index-preserved : goal.loop-index-preserved
loop-index-preserved c =
    let e = more_accounts (λ n. not (is_listed (rows_of c.args.rows.now) n)) c.args.names.now.names c.loop-index.index (omega arith) in
    let test = unlisted_test (rows_of c.args.rows.now) (account c.args.names.now c.loop-index.index).name c.find_row.result c.is_none.result (c.find_row.ensures ∙ ap (row_named (rows_of c.args.rows.now)) c.name-name.ensures) c.is_none.ensures in
    elim c.if-is_none.branch [
      | then-is_none w ↦ ap text_of w.least-is ∙ lesser_both _ _ _ _ _ w.lesser-least.ensures c.loop-index.invariant (ap (λ (n : List ℕ). Some n) c.name-name.ensures) ∙ sym (cond-true _ _ _ (test ∙ w.if-is_none.true)) ∙ sym e
      | else-is_none w ↦ ap text_of w.least-is ∙ c.loop-index.invariant ∙ sym (cond-false _ _ _ (test ∙ w.if-is_none.false)) ∙ sym e
    ]
