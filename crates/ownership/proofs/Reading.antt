-- The counters that a contract sees, read at an index.
use Rattle.std.proofs.Common.{◌≡◌, ℕ, ◌<◌, List, length, get_or, sym, ◌∙◌}
use Rattle.std.proofs.lemmas.List.{get_or_default}
use Rattle.ownership.specs.Counts.{Tally, tally_at, no_tally}

pub tally-read : (ts : List Tally) (i : ℕ) (t : Tally) → i < length ts → t ≡ get_or ts i t → tally_at ts i ≡ t
tally-read ts i t h e = get_or_default ts i no_tally t h ∙ sym e
