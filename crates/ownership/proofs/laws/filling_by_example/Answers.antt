use Rattle.std.proofs.Common.{refl}
use Rattle.ownership.proofs.FillingExample.{filling_by_example}
use Rattle.ownership.proofs.SystemExample.{systems_by_example}
use Rattle.ownership.proofs.laws.filling_by_example.Goals as goal

pub returns : goal.returns
returns c = record { weights = (refl, refl, refl); filling = filling_by_example; systems = systems_by_example }
