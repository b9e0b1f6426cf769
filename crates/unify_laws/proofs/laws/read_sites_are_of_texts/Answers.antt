use Rattle.unify_laws.proofs.SiteTexts.{read_sites_are_of_texts}
use Rattle.unify_laws.proofs.laws.read_sites_are_of_texts.Goals as goal

pub returns : goal.returns
returns c = read_sites_are_of_texts
