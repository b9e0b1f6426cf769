use Rattle.std.proofs.Common.{arith, length-append}
use Rattle.std.proofs.lemmas.Result.{err_from_is_err_and}
use Rattle.std.proofs.lemmas.List.Elements.{All-push}
use Rattle.idtext.specs.First.{each}
use Rattle.hosts_join.specs.Hosts.{IsLawfulHost}
use Rattle.site_tables.specs.declared.host.Loaded.{Loaded}
use Rattle.idtext.proofs.FirstLemmas.{each_at, each_at_fault, each_at_end}
use Rattle.unify_texts.specs.Told.{told}
use Rattle.site_tables.specs.Hosts.{host_of}
use Rattle.unify_texts.proofs.Faults.{passed_on}
use Rattle.site_tables.proofs.host.load_hosts.Goals as goal

pub returns-in_err-load_host-clause-exact : goal.returns-in_err-load_host-clause-exact
returns-in_err-load_host-clause-exact c =
    let p = err_from_is_err_and c.from_residual.result c.from_residual.ensures.1 in
    rw (p.1, p.2)
    (passed_on (told c.in_err-load_host.field-0.0) (host_of c.text-item.result) (each host_of c.args.texts.now)
    (λ f h. each_at_fault host_of c.loop-text.hosts.items c.args.texts.now c.loop-text.text-index c.text-item.result f _ c.loop-text-test.true c.text-item.is h c.loop-text.invariant.made)
    c.in_err-load_host.ensures.exact)

pub loop-text-preserved : goal.loop-text-preserved
loop-text-preserved c = record {
  made = rw c.in_ok-push.ensures.items (each_at host_of c.loop-text.hosts.items c.args.texts.now c.loop-text.text-index c.text-item.result _ _ c.loop-text-test.true c.text-item.is c.in_ok-load_host.ensures.exact c.loop-text.invariant.made);
  len = rw (c.in_ok-push.ensures.items, length-append) (omega arith);
  lawful = rw c.in_ok-push.ensures.items (All-push (λ (loaded : Loaded). IsLawfulHost loaded.host) c.loop-text.hosts.items _ c.loop-text.invariant.lawful c.in_ok-load_host.ensures.lawful);
}

pub returns-clause-exact : goal.returns-clause-exact
returns-clause-exact c = each_at_end host_of c.loop-text.hosts.items c.args.texts.now c.loop-text.text-index _ c.loop-text-test.false c.loop-text.invariant.made
