use Rattle.unify_laws.proofs.Tellable.{reserved_numbers_are_tellable}
use Rattle.unify_laws.proofs.laws.reserved_numbers_are_tellable.Goals as goal

pub returns : goal.returns
returns c = reserved_numbers_are_tellable
