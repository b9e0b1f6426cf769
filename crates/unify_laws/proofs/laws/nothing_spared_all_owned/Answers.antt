use Rattle.unify_laws.proofs.Owned as owned
use Rattle.unify_laws.proofs.WholeSites as sites
use Rattle.unify_laws.proofs.laws.nothing_spared_all_owned.Goals as goal

pub returns : goal.returns
returns c = record { owned = owned.nothing_spared_all_owned; read = sites.read_hosts_spare_nothing }
