use Rattle.unify_laws.proofs.WholeSites.{read_sites_are_whole}
use Rattle.unify_laws.proofs.laws.a_read_site_is_whole.Goals as goal

pub returns : goal.returns
returns c = read_sites_are_whole
