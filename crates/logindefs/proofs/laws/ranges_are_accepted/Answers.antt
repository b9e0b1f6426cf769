use Rattle.logindefs.proofs.AcceptedLemmas.{ranges_accepted, first_wrong_told}
use Rattle.logindefs.proofs.LastLemmas.{last_counts, none_given}
use Rattle.logindefs.proofs.laws.ranges_are_accepted.Goals as goal

pub returns : goal.returns
returns c = record {
  accepted = ranges_accepted;
  refused = first_wrong_told;
  last = last_counts;
  none = none_given;
}
