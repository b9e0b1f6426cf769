-- Words of private contracts: what a reader that has met no fault stands for.
use Rattle.std.specs.Prelude.{◌≡◌, ℕ, ◌<◌, slice_index, List, ◌++◌, Some, None, Result, Ok, Err}
use Rattle.idtext.specs.declared.faults.TextCode.{TextCode}
use Rattle.idtext.specs.declared.faults.TextFault.{TextFault}
use Rattle.idtext.specs.declared.faults.ReadError.{ReadError}
use Rattle.idtext.specs.declared.faults.ReadError.TheVariants.{Memory, Fault}
use Rattle.mtree_inv.specs.declared.entry.Entry.{Entry}
use Rattle.mtree_inv.specs.declared.parts.Parts.{Parts as ReaderParts}
use Rattle.mtree_inv.specs.Machine.{Kept}
use Rattle.mtree_inv.specs.Reading.{Reading}
use Rattle.mtree_inv.specs.Views.{listed}
use Rattle.mtree_inv.specs.Walked.{kept_of, waiting_of}
use Rattle.mtree_inv.specs.OpenLines.{open_line}

-- so many bytes at the front are no newline
abbrev pub HasNoNewline : ℕ → List ℕ → Type 0
HasNoNewline n bytes = (k : ℕ) → k < n → slice_index bytes k ≡ 10 → ⊥

abbrev pub most_of : ReaderParts → ℕ
most_of parts = parts.walk.files.most

abbrev pub files_of_parts : ReaderParts → List Entry
files_of_parts parts = listed parts.walk.files.table

abbrev pub waiting_in : ReaderParts → List Entry
waiting_in parts = waiting_of parts.walk

abbrev pub reading_of : ReaderParts → Reading
reading_of parts =
    record { kept = kept_of parts.walk; open_line = open_line parts.in_progress; fault = None }

abbrev pub at_line : ℕ → Result Kept TextCode → Result Kept TextFault
at_line number (Ok kept) = Ok kept
at_line number (Err code) = Err (record { code = code; line = number })

-- a failed call comes to the reading's fault, with its files; where memory ran out the files are
-- the first of its files
abbrev pub FailedTo : List Entry → ReadError → Reading → Type 0
FailedTo files (Fault fault) target = (target.fault ≡ Some fault) × (target.kept.files ≡ files)
FailedTo files Memory target = (more : List Entry) × (target.kept.files ≡ files ++ more)

-- what a call returned and left is what the reading comes to
abbrev pub TakenTo : List Entry → Reading → Result (Unit {0}) ReadError → Reading → Type 0
TakenTo files left (Ok u) target = target ≡ left
TakenTo files left (Err fault) target = FailedTo files fault target
