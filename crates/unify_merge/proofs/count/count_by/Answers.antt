use Rattle.std.proofs.Common.{◌≡◌, length, sym, ap, subst, ◌∙◌}
use Rattle.std.proofs.lemmas.Result.{err_from_is_err_and}
use Rattle.unify.specs.Passes.{InventoriesValue, at_start, behind}
use Rattle.unify_merge.proofs.WholeCount.{count_stopped, has_counted}
use Rattle.unify_merge.proofs.count.count_by.Goals as goal

pub returns-in_err-count_hosts-clause-stopped : goal.returns-in_err-count_hosts-clause-stopped
returns-in_err-count_hosts-clause-stopped g c =
    let p = err_from_is_err_and c.from_residual-in_err-count_hosts.result c.from_residual-in_err-count_hosts.ensures.1 in
    let begun = c.in_ok-begun.ensures.begun in
    let now = c.count_hosts.new.files in
    rw (p.1, p.2)
    (count_stopped c.args.hosts.now c.args.keep.now c.args.map.now begun.0 c.in_ok-begun.begun.inventories.hosts (g.F.ReadFiles.ledger c.args.files.now) (g.F.ReadFiles.ledger now) c.in_err-count_hosts.field-0.0 begun.1
    (ap (λ (v : InventoriesValue). v.hosts) begun.2.start) c.in_err-count_hosts.ensures.stopped)

pub count_hosts-requires : goal.count_hosts-requires
count_hosts-requires g c =
    let start = c.in_ok-begun.ensures.begun.2.start in
    record { start = start ∙ ap (λ (v : InventoriesValue). at_start v.hosts) (sym start) }

pub cost-requires : goal.cost-requires
cost-requires g c =
    let counted = c.in_ok-count_hosts.ensures.counted in
    record { none_left = subst (λ (v : InventoriesValue). length v.ended ≡ length v.hosts) (sym counted.1) counted.2 }

pub returns-clause-counted : goal.returns-clause-counted
returns-clause-counted g c =
    let begun = c.in_ok-begun.ensures.begun in
    let counted = c.in_ok-count_hosts.ensures.counted in
    let hosts = ap (λ (v : InventoriesValue). v.hosts) begun.2.start in
    let old = g.F.ReadFiles.ledger c.args.files.now in
    let new = g.F.ReadFiles.ledger c.count_hosts.new.files in
    let over = counted.1 ∙ ap (λ hs. behind hs counted.0) hosts in
    has_counted c.args.hosts.now c.args.keep.now c.args.map.now begun.0 c.count_hosts.new.inventories c.in_ok-begun.begun.names old new counted.0 _ over begun.1 begun.2.names (counted.2 ∙ ap length hosts) (ap length (sym hosts) ∙ c.in_ok-begun.ensures.hosts) counted.3 counted.4 c.cost.ensures

pub returns-in_err-count_hosts-clause-calls : goal.returns-in_err-count_hosts-clause-calls
returns-in_err-count_hosts-clause-calls g c =
    let p = err_from_is_err_and c.from_residual-in_err-count_hosts.result c.from_residual-in_err-count_hosts.ensures.1 in
    rw (p.1, p.2) c.in_err-count_hosts.ensures.calls
