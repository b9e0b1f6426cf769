-- The written map of the example.
use Rattle.std.proofs.Common.{refl}
use Rattle.std.specs.Fmt.{digits}
use Rattle.mergedfiles.specs.Order.{in_order}
use Rattle.unify_texts.specs.MapExample.{ExampleOfMap}

pub map_by_example : ExampleOfMap
unfolding digits in_order
map_by_example = refl
