use Rattle.std.proofs.Common.{sym, ap, ◌∙◌}
use Rattle.std.specs.List.{list_any}
use Rattle.std.proofs.lemmas.Bool.{and_from}
use Rattle.std.proofs.lemmas.List.Folds.{list_all_at, list_all_more}
use Rattle.std.proofs.lemmas.Option.{get_or_from_slice_get, slice_get_within}
use Rattle.hosts_join.specs.Accounts.{Pair}
use Rattle.hosts_join.specs.Views.{pair_of}
use Rattle.site_tables.specs.Mapped.{has_group}
use Rattle.site_tables.proofs.mapped.pairs_are_groups.Goals as goal

pub returns-then-not-is_group : goal.returns-then-not-is_group
returns-then-not-is_group c =
    let q = λ (p : Pair). list_any (has_group p.name) c.args.hosts.now in
    let names = c.args.names.now in
    let i = c.loop-index.index in
    let pair : Pair = pair_of c.at-pair.result in
    sym (list_all_at q names i pair (slice_get_within names i pair c.at-pair.ensures) (ap q (get_or_from_slice_get names i pair pair c.at-pair.ensures) ∙ sym c.is_group.ensures ∙ c.if-not-is_group.true))

pub loop-index-preserved : goal.loop-index-preserved
loop-index-preserved c =
    let q = λ (p : Pair). list_any (has_group p.name) c.args.hosts.now in
    let names = c.args.names.now in
    let i = c.loop-index.index in
    let pair : Pair = pair_of c.at-pair.result in
    list_all_more q names i pair (slice_get_within names i pair c.at-pair.ensures)
    ∙ and_from _ _ c.loop-index.invariant (ap q (get_or_from_slice_get names i pair pair c.at-pair.ensures) ∙ sym c.is_group.ensures ∙ c.if-not-is_group.false)
