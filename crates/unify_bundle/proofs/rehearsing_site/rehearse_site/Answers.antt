use Rattle.unify.specs.Reading.{site_read}
use Rattle.unify_laws.proofs.WholeSites.{read_sites_are_whole}
use Rattle.unify_bundle.specs.SiteRuns.{IsSiteRun}
use Rattle.unify_bundle.proofs.RunSites.{inventories_there, yielded}
use Rattle.unify_bundle.proofs.rehearsing_site.rehearse_site.Goals as goal

pub run_of-requires : goal.run_of-requires
run_of-requires c =
    let texts = c.args.hosts.now in
    let rules = c.args.rules.now in
    let read = c.in-Ok.ensures.answers in
    record {
      merged = (read.0, read_sites_are_whole texts rules read.0 read.1, inventories_there texts rules read.0 read.1, read.2);
      hosts = c.requires;
    }

pub returns-in-Ok : goal.returns-in-Ok
returns-in-Ok c =
    let texts = c.args.hosts.now in
    let rules = c.args.rules.now in
    let read = c.in-Ok.ensures.answers in
    yielded (IsSiteRun c.args.keep c.args.events.now) read.0 (site_read texts rules) c.run_of.result read.1
    (c.run_of.ensures read.0 (read_sites_are_whole texts rules read.0 read.1) (inventories_there texts rules read.0 read.1) read.2)
