-- What the reader of keep texts has taken, with one line more.
-- Words of the code and not of the subject: only private contracts and invariants cite them.
use Rattle.std.specs.Prelude.{true, [], ◌∷◌, ◌++◌}
use Rattle.hosts_join.specs.declared.Which.TheVariants.{User, Group}
use Rattle.keep_text.specs.declared.keep_line.Said.{Said}
use Rattle.keep_text.specs.declared.keep_line.Said.TheVariants.{Name, Range, Unowned}
use Rattle.keep_text.specs.declared.keep_line.KeepLine.{KeepLine}
use Rattle.keep_text.specs.declared.keep_line.KeepLine.TheVariants.{Skipped, Wrong, Given}
use Rattle.keep_text.specs.declared.keep_text.Kept.{Kept}
use Rattle.keep_text.specs.declared.keep_text.KeepText.{KeepText}

abbrev pub with_said : Kept → Said → Kept
with_said kept (Name name) = record kept { names = kept.names ++ name ∷ [] }
with_said kept (Range range) = record kept { ranges = kept.ranges ++ range ∷ [] }
with_said kept Unowned = record kept { unowned = true }

abbrev pub with_line : KeepText → KeepLine → KeepText
with_line keep Skipped = keep
with_line keep Wrong = keep
with_line keep (Given User said) = record keep { users = with_said keep.users said }
with_line keep (Given Group said) = record keep { groups = with_said keep.groups said }
