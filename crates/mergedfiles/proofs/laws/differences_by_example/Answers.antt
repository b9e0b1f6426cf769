use Rattle.mergedfiles.proofs.DifferingExample.{differing_by_example}
use Rattle.mergedfiles.proofs.laws.differences_by_example.Goals as goal

pub returns : goal.returns
returns c = differing_by_example
