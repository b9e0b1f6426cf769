use Rattle.std.proofs.Common.{rules, ◌≡◌, map}
use Rattle.site_tables.specs.declared.host.Loaded.{Loaded}
use Rattle.site_tables.proofs.SiteSteps.{all_lawful}
use Rattle.site_tables.proofs.site.load_tables.Goals as goal

pub returns-clause-lawful : goal.returns-clause-lawful
returns-clause-lawful c =
    let same : c.in_ok-collect.field-0.items ≡ map (λ (l : Loaded). l.host) c.in_ok-all.all.items = search rules in
    all_lawful c.in_ok-all.all.items c.in_ok-collect.field-0.items same c.in_ok-all.ensures.lawful
