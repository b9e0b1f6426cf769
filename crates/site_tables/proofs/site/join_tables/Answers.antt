use Rattle.std.proofs.Common.{◌≡◌, List, length, Ok}
use Rattle.std.proofs.lemmas.Result.{err_from_is_err_and}
use Rattle.hosts_join.specs.Checks.{hosts_checked}
use Rattle.hosts_join.specs.declared.host.Host.{Host}
use Rattle.unify_texts.specs.Told.{told}
use Rattle.site_tables.specs.declared.site.JoinedHosts.{JoinedHosts}
use Rattle.site_tables.specs.Others.{others_loaded}
use Rattle.site_tables.specs.OthersHeld.{others_in}
use Rattle.site_tables.specs.Begun.{site_begun}
use Rattle.site_tables.specs.Told.{in_site}
use Rattle.unify_texts.proofs.Faults.{passed_on}
use Rattle.site_tables.proofs.OthersHeld.{begun_held, if_hosts}
use Rattle.site_tables.proofs.SiteSteps.{list_refused, others_refused}
use Rattle.site_tables.proofs.site.join_tables.Goals as goal

pub returns-in_err-check_list-clause-begun : goal.returns-in_err-check_list-clause-begun
returns-in_err-check_list-clause-begun c =
    let p = err_from_is_err_and c.from_residual.result c.from_residual.ensures.1 in
    let texts = c.args.host_texts.now in
    let rules = c.args.rules.now in
    rw (p.1, p.2) (passed_on (told c.in_err-check_list.field-0.0) (in_site (hosts_checked texts)) (site_begun texts rules) (list_refused texts rules) c.in_err-check_list.ensures.exact)

pub returns-in_err-others-clause-begun : goal.returns-in_err-others-clause-begun
returns-in_err-others-clause-begun c =
    let p = err_from_is_err_and c.from_residual-in_err-others.result c.from_residual-in_err-others.ensures.1 in
    let texts = c.args.host_texts.now in
    let rules = c.args.rules.now in
    rw (p.1, p.2)
    (passed_on (told c.in_err-others.field-0.0) (others_loaded texts rules.keep) (site_begun texts rules)
    (others_refused texts rules c.in_ok-check_list.field-0 c.in_ok-check_list.ensures.exact) c.in_err-others.ensures.read)

pub returns-clause-begun : goal.returns-clause-begun
returns-clause-begun c =
    let texts = c.args.host_texts.now in
    let rules = c.args.rules.now in
    let others = c.in_ok-others.others in
    let read : others_loaded texts rules.keep ≡ Ok (others_in others) = c.in_ok-others.ensures.read in
    begun_held texts c.in_ok-check_list.field-0 c.in_ok-check_list.ensures.exact others rules c.bytes.result.now c.bytes.ensures read c.join_others.result c.join_others.ensures.site c.join_others.ensures.hosts

pub returns-clause-hosts : goal.returns-clause-hosts
returns-clause-hosts c =
    if_hosts (λ (held : JoinedHosts). held.hosts.items) c.in_ok-others.others.hosts.items (λ (hs : List Host). length hs ≡ length c.args.host_texts.now) c.join_others.result c.join_others.ensures.hosts c.in_ok-others.ensures.len
