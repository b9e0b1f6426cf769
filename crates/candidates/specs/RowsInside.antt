-- What rows stand for.
-- Words of the code and not of the subject: only private contracts, views and invariants cite them.
use Rattle.std.specs.Prelude.{map}
use Rattle.candidates.specs.Rows.{Choices}
use Rattle.candidates.specs.declared.Rows.TheInside.{Inside}

abbrev pub choices_of : Inside → Choices
choices_of r = record { accounts = r.names.now; rows = map (λ s. s.items) r.rows.items }
