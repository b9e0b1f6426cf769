use Rattle.std.proofs.lemmas.Result.{err_from_is_err_and}
use Rattle.hosts_join.specs.Checks.{primary_checked}
use Rattle.unify_texts.specs.Told.{told}
use Rattle.site_tables.specs.Hosts.{host_of}
use Rattle.site_tables.specs.Told.{in_site}
use Rattle.unify_texts.proofs.Faults.{passed_on}
use Rattle.site_tables.proofs.host.load_host.Goals as goal

pub returns-in_err-primary_at-clause-exact : goal.returns-in_err-primary_at-clause-exact
returns-in_err-primary_at-clause-exact c =
    let p = err_from_is_err_and c.from_residual-in_err-primary_at.result c.from_residual-in_err-primary_at.ensures.1 in
    rw (p.1, p.2)
    (passed_on (told c.in_err-primary_at.field-0.0) (in_site (primary_checked c.in_ok-host.host)) (host_of c.args.text.now) c.in_ok-host.ensures.unchecked c.in_err-primary_at.ensures)

pub returns-clause-exact : goal.returns-clause-exact
returns-clause-exact c = rw (c.new.ensures, c.bytes.ensures) (c.in_ok-host.ensures.accepted c.in_ok-primary_at.field-0 c.in_ok-primary_at.ensures)
