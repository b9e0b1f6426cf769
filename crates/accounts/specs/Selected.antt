-- Some rows of a table.
-- Source: this project's own rule.
use Rattle.std.specs.Prelude.{Bool, List, filter, map}
use Rattle.std.specs.List.{zip}

-- those rows whose flag is set, in their order; a row beyond the flags has none
abbrev pub those : {Row : Type 0} → List Bool → List Row → List Row
those flags rows = map (λ marked. marked.0) (filter (λ marked. marked.1) (zip rows flags))
