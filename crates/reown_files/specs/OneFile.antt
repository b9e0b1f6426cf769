-- One file, seen twice.
-- Source: stat(2): a file is told by its device and its number there.
use Rattle.std.specs.Prelude.{ℕ, ◌≡◌, ◌≢◌, Option, None, Some, Result, Ok, Err}
use Rattle.reown_files.specs.declared.answers.Trouble.{Trouble}
use Rattle.reown_files.specs.declared.answers.Trouble.TheVariants.{Gone}
use Rattle.std.specs.Int.Bits.{bit_and, bit_or}
use Rattle.reown_files.specs.declared.walk.Found.{Found}
use Rattle.reown_files.specs.declared.walk.Kind.TheVariants.{Regular}

-- it is of one kind too, since a number is given anew once its file is gone
abbrev pub AreOneFile : Found → Found → Type 0
AreOneFile a b = (a.device ≡ b.device) × (a.inode ≡ b.inode) × (a.kind ≡ b.kind)

-- a look at a file that may not be there
abbrev pub seen_if_there : {T : Type 0} → Result T Trouble → Result (Option T) Trouble
seen_if_there (Ok found) = Ok (Some found)
seen_if_there (Err Gone) = Ok None
seen_if_there (Err trouble) = Err trouble

-- a regular file has lost bits of this mode that a change of its owner clears (chown(2)), and no
-- others of it: with the set-user-ID and set-group-ID bits of the mode (3072) it would have it
abbrev pub HasLost : Found → ℕ → Type 0
HasLost found mode =
    (found.kind ≡ Regular) × (found.mode ≢ mode) × (bit_or found.mode (bit_and mode 3072) ≡ mode)
