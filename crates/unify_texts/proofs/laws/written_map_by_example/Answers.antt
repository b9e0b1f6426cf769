use Rattle.unify_texts.proofs.MapExample.{map_by_example}
use Rattle.unify_texts.proofs.laws.written_map_by_example.Goals as goal

pub returns : goal.returns
returns c = map_by_example
