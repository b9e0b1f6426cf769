use Rattle.std.proofs.Common.{◌≡◌, ◌≤◌, List, length, arith}
use Rattle.std.specs.List.{All}
use Rattle.std.proofs.lemmas.Result.{err_from_is_err_and}
use Rattle.hosts_join.specs.Checks.{hosts_checked}
use Rattle.hosts_join.specs.Hosts.{IsLawfulHost}
use Rattle.hosts_join.specs.declared.host.Host.{Host}
use Rattle.unify_texts.specs.Told.{told}
use Rattle.site_tables.specs.declared.mapped.MappedHosts.{MappedHosts}
use Rattle.site_tables.specs.Mapped.{cost_begun}
use Rattle.site_tables.specs.Others.{others_loaded}
use Rattle.site_tables.specs.Told.{in_site}
use Rattle.site_tables.proofs.CountSteps.{list_refused, others_refused}
use Rattle.unify_texts.proofs.Faults.{passed_on}
use Rattle.site_tables.proofs.OthersHeld.{counted_held, if_hosts}
use Rattle.site_tables.proofs.mapped.map_tables.Goals as goal

pub returns-in_err-check_list-clause-begun : goal.returns-in_err-check_list-clause-begun
returns-in_err-check_list-clause-begun c =
    let p = err_from_is_err_and c.from_residual.result c.from_residual.ensures.1 in
    let texts = c.args.texts.now in
    let keep = c.args.keep.now in
    let said = c.args.map.now in
    rw (p.1, p.2) (passed_on (told c.in_err-check_list.field-0.0) (in_site (hosts_checked texts)) (cost_begun texts keep said) (list_refused texts keep said) c.in_err-check_list.ensures.exact)

pub returns-in_err-others-clause-begun : goal.returns-in_err-others-clause-begun
returns-in_err-others-clause-begun c =
    let p = err_from_is_err_and c.from_residual-in_err-others.result c.from_residual-in_err-others.ensures.1 in
    let texts = c.args.texts.now in
    let keep = c.args.keep.now in
    let said = c.args.map.now in
    rw (p.1, p.2)
    (passed_on (told c.in_err-others.field-0.0) (others_loaded texts keep) (cost_begun texts keep said) (others_refused texts keep said c.in_ok-check_list.field-0 c.in_ok-check_list.ensures.exact) c.in_err-others.ensures.read)

pub returns-clause-begun : goal.returns-clause-begun
returns-clause-begun c =
    counted_held c.args.texts.now c.in_ok-check_list.field-0 c.in_ok-check_list.ensures.exact c.in_ok-others.others c.args.keep.now c.args.map.now c.in_ok-others.ensures.read c.map_others.result c.map_others.ensures.names c.map_others.ensures.hosts

pub returns-clause-len : goal.returns-clause-len
returns-clause-len c =
    if_hosts (λ (held : MappedHosts). held.hosts.items) c.in_ok-others.others.hosts.items (λ (hs : List Host). length hs ≡ length c.args.texts.now) c.map_others.result c.map_others.ensures.hosts c.in_ok-others.ensures.len

pub returns-clause-few : goal.returns-clause-few
returns-clause-few c =
    let few : length c.in_ok-others.others.hosts.items ≤ 64 = omega (arith, c.in_ok-others.ensures.len, c.in_ok-check_list.ensures.few) in
    if_hosts (λ (held : MappedHosts). held.hosts.items) c.in_ok-others.others.hosts.items (λ (hs : List Host). length hs ≤ 64) c.map_others.result c.map_others.ensures.hosts few

pub returns-clause-lawful : goal.returns-clause-lawful
returns-clause-lawful c =
    if_hosts (λ (held : MappedHosts). held.hosts.items) c.in_ok-others.others.hosts.items (λ (hs : List Host). All IsLawfulHost hs) c.map_others.result c.map_others.ensures.hosts c.in_ok-others.ensures.lawful
