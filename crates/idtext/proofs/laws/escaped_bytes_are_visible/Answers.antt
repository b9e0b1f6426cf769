use Rattle.idtext.proofs.VisibleLemmas.{escaped-visible, nothing-escaped, others-octal, visible-stands}
use Rattle.idtext.proofs.laws.escaped_bytes_are_visible.Goals as goal

pub returns : goal.returns
returns c = record { visible = escaped-visible; empty = nothing-escaped; stands = visible-stands; others = others-octal }
