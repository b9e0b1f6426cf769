use Rattle.std.proofs.Common.{◌+◌, ◌<◌, List, length, get_or, ap, ◌∙◌, arith}
use Rattle.accounts.specs.Rows.{Passwd}
use Rattle.unify.proofs.RowCosts.{all_fields, few_fields, is_changed, one_changed, one_kept}
use Rattle.unify.proofs.map_cost.user_fields.Goals as goal

pub overflow_add-fields : goal.overflow_add-fields
overflow_add-fields c =
    let here = c.requires.counted.0 in
    let names = c.args.names.now in
    let rows = c.args.host.now.users in
    let index = c.loop-index.index in
    let within : index < length rows = omega (arith, c.loop-index-test.true, ap length c.rows-row-items.ensures.rows) in
    let is = c.row-item.is ∙ ap (λ (rs : List Passwd). get_or rs index c.row-item.result) c.rows-row-items.ensures.rows in
    let said = c.is_changed.ensures ∙ (λ i. is_changed names ((c.row.view_is i).name) ((c.row.view_is i).uid)) in
    let so_far = c.loop-index.invariant here c.requires.counted.1 in
    let more = one_changed (λ r. r.uid) (λ r. r.name) names (λ e. e.uid) here rows c.args.files.now c.requires.counted.1 index c.loop-index.fields c.row-item.result c.is_changed.result within is said so_far c.if-is_changed.true in
    let few = few_fields (λ r. r.uid) (λ r. r.name) names (λ e. e.uid) here rows c.requires.lawful.users.numbers_differ (index + 1) in
    omega (arith, more, few, c.requires.counted.2)

pub loop-index-preserved : goal.loop-index-preserved
loop-index-preserved c = λ here are.
    let names = c.args.names.now in
    let rows = c.args.host.now.users in
    let index = c.loop-index.index in
    let within : index < length rows = omega (arith, c.loop-index-test.true, ap length c.rows-row-items.ensures.rows) in
    let is = c.row-item.is ∙ ap (λ (rs : List Passwd). get_or rs index c.row-item.result) c.rows-row-items.ensures.rows in
    let said = c.is_changed.ensures ∙ (λ i. is_changed names ((c.row.view_is i).name) ((c.row.view_is i).uid)) in
    let so_far = c.loop-index.invariant here are in
    elim c.if-is_changed.branch [
      | goal.then-is_changed w ↦
          w.fields-is ∙ one_changed (λ r. r.uid) (λ r. r.name) names (λ e. e.uid) here rows c.args.files.now are index c.loop-index.fields c.row-item.result c.is_changed.result within is said so_far w.if-is_changed.true
      | goal.else-is_changed w ↦
          w.fields-is ∙ one_kept (λ r. r.uid) (λ r. r.name) names (λ e. e.uid) here rows c.args.files.now are index c.loop-index.fields c.row-item.result c.is_changed.result within is said so_far w.if-is_changed.false
    ]

pub returns : goal.returns
returns c = λ here are.
    c.loop-index.invariant here are
    ∙ all_fields (λ r. r.uid) (λ r. r.name) c.args.names.now (λ e. e.uid) here c.args.host.now.users c.requires.lawful.users.numbers_differ c.loop-index.index
    (omega (arith, c.loop-index-test.false, ap length c.rows-row-items.ensures.rows))
