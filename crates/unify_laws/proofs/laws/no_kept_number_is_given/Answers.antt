use Rattle.unify_laws.proofs.KeptNumbers as numbers
use Rattle.unify_laws.proofs.laws.no_kept_number_is_given.Goals as goal

pub returns : goal.returns
returns c = record {
  kept = numbers.no_kept_number_is_given;
  accepted = numbers.no_unowned_number_is_given;
  surveyed = numbers.no_surveyed_number_is_given;
}
