-- How large an input may be.
-- Source: this project's own rule.
use Rattle.std.specs.Prelude.{ℕ}

-- how many files an inventory may have
abbrev pub most_files : ℕ
most_files = 16777216
