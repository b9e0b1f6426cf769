use Rattle.std.proofs.Common.{◌≡◌, List, length, sym, ap, subst, ◌∙◌}
use Rattle.std.proofs.lemmas.Result.{err_from_is_err_and}
use Rattle.hosts_join.specs.declared.host.Host.{Host}
use Rattle.site_tables.specs.Begun.{AreTogether}
use Rattle.unify.specs.Passes.{InventoriesValue, at_start, behind}
use Rattle.unify_merge.proofs.WholeMerge.{counted_stopped, has_solved, if_ok}
use Rattle.unify_merge.proofs.merge.solve_hosts.Goals as goal

pub count_hosts-requires : goal.count_hosts-requires
count_hosts-requires g c =
    let start = c.expect_second_reading.ensures ∙ c.in_ok-begun.ensures.begun.2.start in
    record { start = start ∙ ap (λ (v : InventoriesValue). at_start v.hosts) (sym start) }

pub returns-in_err-count_hosts-clause-stopped : goal.returns-in_err-count_hosts-clause-stopped
returns-in_err-count_hosts-clause-stopped g c =
    let p = err_from_is_err_and c.from_residual-in_err-count_hosts.result c.from_residual-in_err-count_hosts.ensures.1 in
    let begun = c.in_ok-begun.ensures.begun in
    let start = c.expect_second_reading.ensures ∙ begun.2.start in
    let now = c.count_hosts.new.files in
    rw (p.1, p.2)
    (counted_stopped c.args.hosts.now c.args.rules.now begun.0 c.expect_second_reading.new.self.hosts (g.F.ReadFiles.ledger c.args.files.now) (g.F.ReadFiles.ledger now) c.in_err-count_hosts.field-0.0 begun.1 (ap (λ (v : InventoriesValue). v.hosts) start)
    c.in_err-count_hosts.ensures.reads c.in_err-count_hosts.ensures.stopped)

pub solve-requires-clause-together : goal.solve-requires-clause-together
solve-requires-clause-together g c =
    let begun = c.in_ok-begun.ensures.begun in
    let counted = c.in_ok-count_hosts.ensures.counted in
    let hosts = ap (λ (v : InventoriesValue). v.hosts) (c.expect_second_reading.ensures ∙ begun.2.start) in
    let over : c.count_hosts.new.inventories ≡ behind begun.0.hosts counted.0 = counted.1 ∙ ap (λ hs. behind hs counted.0) hosts in
    let site = c.in_ok-begun.begun.site in
    let together = subst (AreTogether begun.0.hosts) (sym begun.2.joined) begun.2.whole in
    subst (λ (hs : List Host). AreTogether hs site) (sym (ap (λ (v : InventoriesValue). v.hosts) over)) together

pub solve-requires-clause-none_left : goal.solve-requires-clause-none_left
solve-requires-clause-none_left g c =
    let counted = c.in_ok-count_hosts.ensures.counted in
    subst (λ (v : InventoriesValue). length v.ended ≡ length v.hosts) (sym counted.1) counted.2

pub returns-clause-solved : goal.returns-clause-solved
returns-clause-solved g c =
    let begun = c.in_ok-begun.ensures.begun in
    let counted = c.in_ok-count_hosts.ensures.counted in
    let hosts = ap (λ (v : InventoriesValue). v.hosts) (c.expect_second_reading.ensures ∙ begun.2.start) in
    let over : c.count_hosts.new.inventories ≡ behind begun.0.hosts counted.0 = counted.1 ∙ ap (λ hs. behind hs counted.0) hosts in
    let site = c.in_ok-begun.begun.site in
    let together = subst (AreTogether begun.0.hosts) (sym begun.2.joined) begun.2.whole in
    let accepted = c.in_ok-count_hosts.ensures.accepted in
    if_ok c.solve.result _ _ (λ s from.
    has_solved c.args.hosts.now c.args.rules.now begun.0 c.count_hosts.new.inventories site s (g.F.ReadFiles.ledger c.args.files.now) (g.F.ReadFiles.ledger c.count_hosts.new.files) counted.0 accepted.0 over accepted.1 begun.1 begun.2.joined
    (counted.2 ∙ ap length hosts) (ap (λ (v : InventoriesValue). length v.hosts) (sym begun.2.start) ∙ c.in_ok-begun.ensures.hosts) together from counted.3 counted.4)
    c.solve.ensures.solved

pub returns-in_err-count_hosts-clause-calls : goal.returns-in_err-count_hosts-clause-calls
returns-in_err-count_hosts-clause-calls g c =
    let p = err_from_is_err_and c.from_residual-in_err-count_hosts.result c.from_residual-in_err-count_hosts.ensures.1 in
    rw (p.1, p.2) c.in_err-count_hosts.ensures.calls
