use Rattle.unify_apply.proofs.NearestLaw.{nearest-is}
use Rattle.unify_apply.proofs.PathLaws.{ways-seen}
use Rattle.unify_apply.proofs.SecondWay.{no_second_way, second_way_there}
use Rattle.unify_apply.proofs.laws.one_way_to_files.Goals as goal

pub returns : goal.returns
returns c = record { nearest = nearest-is; one_way = no_second_way; refused = second_way_there; seen = ways-seen }
