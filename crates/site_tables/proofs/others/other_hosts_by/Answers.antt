use Rattle.std.proofs.lemmas.Result.{err_from_is_err_and}
use Rattle.unify_texts.specs.Told.{told}
use Rattle.site_tables.specs.Others.{keep_read, others_read}
use Rattle.unify_texts.proofs.Faults.{passed_on}
use Rattle.site_tables.proofs.LeftHosts.{keep_refused, others_are}
use Rattle.site_tables.proofs.others.other_hosts_by.Goals as goal

pub returns-in_err-keep : goal.returns-in_err-keep
returns-in_err-keep c =
    let p = err_from_is_err_and c.from_residual.result c.from_residual.ensures.1 in
    let rules = c.args.rules.now in
    let hosts = c.args.hosts.now in
    rw (p.1, p.2) (passed_on (told c.in_err-keep.field-0.0) (keep_read rules.text) (others_read rules hosts) (keep_refused rules hosts) (rw c.bytes.ensures at c.in_err-keep.ensures))

pub returns : goal.returns
returns c = others_are c.args.rules.now c.args.hosts.now c.in_ok-keep.keep _ (rw c.bytes.ensures at c.in_ok-keep.ensures) c.in_ok-without_kept.ensures
