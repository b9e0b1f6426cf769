use Rattle.unify_laws.proofs.TwoPasses as passes
use Rattle.unify_laws.proofs.laws.passes_read_the_site.Goals as goal

pub returns : goal.returns
returns c = passes.passes_read_the_site
