use Rattle.logindefs.proofs.Examples.{letter-refused, first-told, too_great-refused, greatest-read, others-passed, uid-refused, gid-refused, kinds-share}
use Rattle.logindefs.proofs.laws.refused_ranges_by_example.Goals as goal

pub returns : goal.returns
returns c = record {
  letter = letter-refused;
  first = first-told;
  too_great = too_great-refused;
  greatest = greatest-read;
  passed_over = others-passed;
  uid = uid-refused;
  gid = gid-refused;
  kinds = kinds-share;
}
