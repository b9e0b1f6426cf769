use Rattle.keep_text.proofs.KeepForms.{accepted_lines_may_stand, first_bad_line_is_told}
use Rattle.keep_text.proofs.laws.bad_lines_are_told.Goals as goal

pub returns : goal.returns
returns c = record { accepted = accepted_lines_may_stand; refused = first_bad_line_is_told }
