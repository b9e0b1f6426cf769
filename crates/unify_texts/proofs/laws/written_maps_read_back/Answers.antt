use Rattle.unify_texts.proofs.MapNames.{written_map_reads_back}
use Rattle.unify_texts.proofs.laws.written_maps_read_back.Goals as goal

pub returns : goal.returns
returns c = written_map_reads_back
