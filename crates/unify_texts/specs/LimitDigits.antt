-- How large an input may be, digit by digit.
-- Source: this project's own formats.
use Rattle.std.specs.Prelude.{◌≡◌, codes, decimal}
use Rattle.idtext.specs.Words.{most_line_bytes}
use Rattle.unify_texts.specs.Limits.{most_files}

-- the files of an inventory, and the bytes of a line
pub record LimitsByDigit : Type 0 where
  pub files : decimal most_files ≡ codes "16777216"
  pub line_bytes : decimal most_line_bytes ≡ codes "65535"
