use Rattle.kept_accounts.proofs.ReservingExample.{reserving_by_example}
use Rattle.kept_accounts.proofs.laws.reserving_by_example.Goals as goal

pub returns : goal.returns
returns c = reserving_by_example
