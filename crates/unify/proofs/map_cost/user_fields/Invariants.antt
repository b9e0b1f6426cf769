use Rattle.std.proofs.Common.{◌≡◌, List}
use Rattle.mtree_inv.specs.declared.entry.Entry.{Entry}
use Rattle.unify.specs.RowFiles.{row_files}
use Rattle.unify.proofs.RowCosts.{first_fields}
use Rattle.unify.proofs.map_cost.user_fields.Given as goal

abbrev pub invariant-loop-index : goal.invariant-loop-index
invariant-loop-index l = (here : List Entry) → l.files ≡ (row_files l.host here).users → l.fields ≡ first_fields (λ r. r.uid) (λ r. r.name) l.names (λ e. e.uid) here l.host.users l.index
