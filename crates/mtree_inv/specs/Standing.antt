-- What a reader stands for.
-- Source: this project's own rule.
use Rattle.std.specs.Prelude.{◌≡◌, ℕ, Bool, true, false, List, ◌++◌, Option, Some, None, Ok, Err}
use Rattle.std.specs.Prelude.{IfSome}
use Rattle.mtree_inv.specs.declared.entry.Entry.{Entry}
use Rattle.idtext.specs.Faults.{fault_told}
use Rattle.idtext.specs.declared.faults.ReadError.{ReadError}
use Rattle.idtext.specs.declared.faults.ReadError.TheVariants.{Memory, Fault}
use Rattle.mtree_inv.specs.Logical.{logical_lines, whole_lines}
use Rattle.mtree_inv.specs.Inventory.{accepted_files, inventory_of_lines, inventory}
use Rattle.mtree_inv.specs.Reading.{Reading, read_bytes, start}

-- the files that came are those that now wait after the others
abbrev pub GrowAlike : List Entry → List Entry → List Entry → List Entry → Type 0
GrowAlike files new_files waiting new_waiting =
    (added : List Entry) × (new_files ≡ files ++ added) × (new_waiting ≡ waiting ++ added)

-- what contracts see of a reader: the most files that it takes, the files so far, those of them
-- that wait to be handed out, the fault that ended it, and whether the text is finished; `reading`
-- is what it keeps to go on, into which no caller looks
pub record ReaderValue : Type 0 where
  pub most : ℕ
  pub files : List Entry
  pub waiting : List Entry
  pub fault : Option ReadError
  pub is_finished : Bool
  pub reading : Reading

-- all files so far, handed out or waiting
abbrev pub files : ReaderValue → List Entry
files reader = reader.files

-- a reader that keeps this can go on after this text
unfoldable pub IsMidText : ℕ → Reading → List ℕ → Type 0
IsMidText most reading text = reading ≡ read_bytes most start text

-- the files of the lines of a text before its first fault
abbrev pub files_before_fault : ℕ → List ℕ → List Entry
files_before_fault most text = accepted_files most (logical_lines text)

-- the files that are left where a call answers this error: those before the fault, or, where memory
-- ran out, the first of them
abbrev pub AreLeftBy : ReadError → List Entry → List Entry → Type 0
AreLeftBy (Fault fault) files before = before ≡ files
AreLeftBy Memory files before = (more : List Entry) × (before ≡ files ++ more)

abbrev pub StandsAt : Option ReadError → Bool → ReaderValue → List ℕ → Type 0
-- in mid-text the files are those of the whole lines, which have no fault
StandsAt None false reader text =
    IsMidText reader.most reader.reading text
    × (inventory_of_lines reader.most (whole_lines text) ≡ Ok (files reader))
-- a finished reader has the inventory of the text
StandsAt None true reader text = inventory reader.most text ≡ Ok (files reader)
-- a reader that answered an error has the files that were left then; `fed` is what had been fed,
-- and what was fed since no longer counts. Of which lines they are is told by `read` of that call
StandsAt (Some fault) finished reader text =
    (fed : List ℕ) × (rest : List ℕ) × (text ≡ fed ++ rest)
    × IfSome (fault_told fault) (λ f. inventory reader.most fed ≡ Err f)
    × AreLeftBy fault (files reader) (files_before_fault reader.most fed)

-- the reader stands for the text fed so far, however it was cut
abbrev pub StandsFor : ReaderValue → List ℕ → Type 0
StandsFor reader text = StandsAt reader.fault reader.is_finished reader text
