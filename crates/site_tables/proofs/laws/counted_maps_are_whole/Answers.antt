use Rattle.site_tables.proofs.MapLaws.{maps_are_whole}
use Rattle.site_tables.proofs.laws.counted_maps_are_whole.Goals as goal

pub returns : goal.returns
returns c = maps_are_whole
