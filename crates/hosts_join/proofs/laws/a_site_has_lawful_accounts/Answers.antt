use Rattle.hosts_join.proofs.SiteLemmas.{sites_are_lawful}
use Rattle.hosts_join.proofs.laws.a_site_has_lawful_accounts.Goals as goal

pub returns : goal.returns
returns c = sites_are_lawful
