use Rattle.unify_texts.proofs.MapForms.{accepted_maps_may_stand, first_bad_map_line_is_told}
use Rattle.unify_texts.proofs.laws.bad_map_lines_are_told.Goals as goal

pub returns : goal.returns
returns c = record { accepted = accepted_maps_may_stand; refused = first_bad_map_line_is_told }
