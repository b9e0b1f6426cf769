use Rattle.unify_texts.proofs.MapForms.{maps_are_listed}
use Rattle.unify_texts.proofs.laws.maps_are_listed.Goals as goal

pub returns : goal.returns
returns c = maps_are_listed
