-- The example of what is reserved.
use Rattle.std.proofs.Common.{refl}
use Rattle.idtext.specs.First.{first_fault}
use Rattle.idtext.specs.Numbers.{numeral}
use Rattle.idtext.specs.Pieces.{lines, pieces}
use Rattle.idtext.specs.Spaces.{cut_at_last_space}
use Rattle.keep_text.specs.KeepLines.{keep_line_of}
use Rattle.keep_text.specs.KeepTexts.{keep_of}
use Rattle.kept_accounts.specs.ReservingExample.{ReservingByExample}

pub reserving_by_example : ReservingByExample
unfolding first_fault numeral lines pieces cut_at_last_space keep_line_of keep_of
reserving_by_example ranges = record { read = refl; users = refl; groups = refl }
