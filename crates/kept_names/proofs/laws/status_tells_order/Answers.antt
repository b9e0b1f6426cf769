use Rattle.kept_names.proofs.InOrder.{status-else-one, status-tells}
use Rattle.kept_names.proofs.laws.status_tells_order.Goals as goal

pub returns : goal.returns
returns c = record { order = status-tells; other = status-else-one }
