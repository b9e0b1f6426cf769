use Rattle.std.proofs.Common.{◌≡◌, List, length, sym, ap, subst, ◌∙◌}
use Rattle.std.proofs.lemmas.Result.{err_from_is_err_and}
use Rattle.hosts_join.specs.declared.host.Host.{Host}
use Rattle.site_tables.specs.Begun.{AreTogether}
use Rattle.unify.specs.Passes.{InventoriesValue, at_start, behind, read_in}
use Rattle.unify_merge.proofs.WholeCheck.{check_counted_stopped, check_refused, has_checked, read_site}
use Rattle.unify_merge.proofs.check.check_by.Goals as goal

pub returns-in_err-count_hosts-clause-stopped : goal.returns-in_err-count_hosts-clause-stopped
returns-in_err-count_hosts-clause-stopped g c =
    let p = err_from_is_err_and c.from_residual-in_err-count_hosts.result c.from_residual-in_err-count_hosts.ensures.1 in
    let begun = c.in_ok-begun.ensures.begun in
    let now = c.count_hosts.new.files in
    rw (p.1, p.2)
    (check_counted_stopped c.args.hosts.now c.args.rules.now c.args.certificate.now begun.0 c.in_ok-begun.begun.inventories.hosts (g.F.ReadFiles.ledger c.args.files.now) (g.F.ReadFiles.ledger now) c.in_err-count_hosts.field-0.0 begun.1
    (ap (λ (v : InventoriesValue). v.hosts) begun.2.start) c.in_err-count_hosts.ensures.stopped)

pub count_hosts-requires : goal.count_hosts-requires
count_hosts-requires g c =
    let start = c.in_ok-begun.ensures.begun.2.start in
    record { start = start ∙ ap (λ (v : InventoriesValue). at_start v.hosts) (sym start) }

pub check-requires-clause-together : goal.check-requires-clause-together
check-requires-clause-together g c =
    let begun = c.in_ok-begun.ensures.begun in
    let counted = c.in_ok-count_hosts.ensures.counted in
    let hosts = ap (λ (v : InventoriesValue). v.hosts) begun.2.start in
    let over : c.count_hosts.new.inventories ≡ behind begun.0.hosts counted.0 = counted.1 ∙ ap (λ hs. behind hs counted.0) hosts in
    subst (λ (hs : List Host). AreTogether hs c.in_ok-begun.begun.site) (sym (ap (λ (v : InventoriesValue). v.hosts) over)) (subst (AreTogether begun.0.hosts) (sym begun.2.joined) begun.2.whole)

pub check-requires-clause-none_left : goal.check-requires-clause-none_left
check-requires-clause-none_left g c =
    let counted = c.in_ok-count_hosts.ensures.counted in
    subst (λ (v : InventoriesValue). length v.ended ≡ length v.hosts) (sym counted.1) counted.2

pub returns-in_err-check-clause-stopped : goal.returns-in_err-check-clause-stopped
returns-in_err-check-clause-stopped g c =
    let p = err_from_is_err_and c.from_residual-in_err-check.result c.from_residual-in_err-check.ensures.1 in
    let begun = c.in_ok-begun.ensures.begun in
    let counted = c.in_ok-count_hosts.ensures.counted in
    let accepted = c.in_ok-count_hosts.ensures.accepted in
    let hosts = ap (λ (v : InventoriesValue). v.hosts) begun.2.start in
    let over : c.count_hosts.new.inventories ≡ behind begun.0.hosts counted.0 = counted.1 ∙ ap (λ hs. behind hs counted.0) hosts in
    let joined = c.in_ok-begun.begun.site in
    let old = g.F.ReadFiles.ledger c.args.files.now in
    let new = g.F.ReadFiles.ledger c.count_hosts.new.files in
    let site = read_site c.args.hosts.now c.args.rules.now begun.0 joined old new counted.0 accepted.0 begun.1 begun.2.joined (counted.2 ∙ c.in_ok-begun.ensures.hosts) (sym (ap read_in over) ∙ accepted.1) counted.3 counted.4 in
    rw (p.1, p.2)
    (check_refused c.args.hosts.now c.args.rules.now c.args.certificate.now old new joined counted.0 accepted.0 site c.in_err-check.field-0.0 (c.in_err-check.ensures accepted.0 accepted.1))

pub returns-clause-checked : goal.returns-clause-checked
returns-clause-checked g c =
    let begun = c.in_ok-begun.ensures.begun in
    let counted = c.in_ok-count_hosts.ensures.counted in
    let accepted = c.in_ok-count_hosts.ensures.accepted in
    let hosts = ap (λ (v : InventoriesValue). v.hosts) begun.2.start in
    let over : c.count_hosts.new.inventories ≡ behind begun.0.hosts counted.0 = counted.1 ∙ ap (λ hs. behind hs counted.0) hosts in
    let joined = c.in_ok-begun.begun.site in
    let old = g.F.ReadFiles.ledger c.args.files.now in
    let new = g.F.ReadFiles.ledger c.count_hosts.new.files in
    let site = read_site c.args.hosts.now c.args.rules.now begun.0 joined old new counted.0 accepted.0 begun.1 begun.2.joined (counted.2 ∙ c.in_ok-begun.ensures.hosts) (sym (ap read_in over) ∙ accepted.1) counted.3 counted.4 in
    has_checked c.args.hosts.now c.args.rules.now c.args.certificate.now old new joined counted.0 accepted.0 site _ (c.in_ok-check.ensures accepted.0 accepted.1)

pub returns-in_err-check-clause-calls : goal.returns-in_err-check-clause-calls
returns-in_err-check-clause-calls g c =
    let p = err_from_is_err_and c.from_residual-in_err-check.result c.from_residual-in_err-check.ensures.1 in
    rw (p.1, p.2) c.in_ok-count_hosts.ensures.calls

pub returns-in_err-count_hosts-clause-calls : goal.returns-in_err-count_hosts-clause-calls
returns-in_err-count_hosts-clause-calls g c =
    let p = err_from_is_err_and c.from_residual-in_err-count_hosts.result c.from_residual-in_err-count_hosts.ensures.1 in
    rw (p.1, p.2) c.in_err-count_hosts.ensures.calls
