use Rattle.std.proofs.Common.{[], false, sym, ap}
use Rattle.std.specs.Prelude.{None}
use Rattle.mtree_inv.specs.Parts.{most_of, files_of_parts, reading_of}
use Rattle.mtree_inv.specs.Reading.{Reading}
use Rattle.mtree_inv.proofs.StandLemmas.{stands_start}
use Rattle.mtree_inv.proofs.reader.Reader.begin.Goals as goal

pub returns-clause-stands : goal.returns-clause-stands
returns-clause-stands c =
    let now = c.restart.new.self in
    stands_start (most_of now) (record { most = most_of now; files = files_of_parts now; waiting = []; fault = None; is_finished = false; reading = reading_of now }) c.restart.ensures.reading (ap (λ (r : Reading). r.kept.files) (sym c.restart.ensures.reading))
