-- Ranges of numbers, as one set.
-- Source: this project's own rule.
use Rattle.std.specs.Prelude.{ℕ, Bool, List}
use Rattle.std.specs.List.{list_any}
use Rattle.logindefs.specs.declared.ranges.IdRange.{IdRange}
use Rattle.logindefs.specs.Ranges.{in_range}

-- a number lies in one of the ranges
abbrev pub lies_in_some : List IdRange → ℕ → Bool
lies_in_some ranges number = list_any (λ range. in_range range number) ranges
