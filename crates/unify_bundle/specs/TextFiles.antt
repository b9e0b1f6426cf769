-- The inventories among texts, and the files that are written for them, in memory.
-- Source: this project's own rule.
use Rattle.std.specs.Prelude.{◌≡◌, ℕ, Bool, true, false, List, ◌++◌, Option, Some, None}
use Rattle.std.specs.Prelude.{slice_get}
use Rattle.std.specs.List.{All}
use Rattle.unify.specs.declared.site_files.NamedText.{NamedText}
use Rattle.unify_merge.specs.Ledger.{Ledger, Reading}
use Rattle.unify_merge.specs.FirstReading.{readings_from}
use Rattle.unify_merge.specs.declared.files.CallFailed.{CallFailed}

-- what contracts see of them: the texts of the inventories, host by host; what was read and written
-- by the calls that succeeded; and what the last call that failed answered, if one has failed
pub record TextFilesValue : Type 0 where
  pub texts : List (List ℕ)
  pub done : Ledger
  pub failure : Option CallFailed

-- all that was read and written: first each inventory, as its text came to memory, and then what
-- the calls did
abbrev pub ledger_of : TextFilesValue → Ledger
ledger_of v = record v.done { read = readings_from 0 v.texts ++ v.done.read }

-- the reading is of one of the texts: of the whole of it, or of its front
abbrev pub IsOf : List (List ℕ) → Reading → Type 0
IsOf texts r = slice_get texts r.host ≡ Some r.text

abbrev pub IsFrontOf : List (List ℕ) → List ℕ → Reading → Type 0
IsFrontOf texts rest r = slice_get texts r.host ≡ Some (r.text ++ rest)

-- every reading is of the texts, so that no inventory changes
pub record ReadsTexts (texts : List (List ℕ)) (l : Ledger) : Type 0 where
  pub whole : All (IsOf texts) l.read
  pub so_far : (r : Reading) → l.reading ≡ Some r → (rest : List ℕ) × IsFrontOf texts rest r

-- the file that is written, if one is
abbrev pub open_file : Bool → List ℕ → List ℕ → Option NamedText
open_file false name text = None
open_file true name text = Some (record { name = name; text = text })

-- What is held stands for what was done: what is left of the reading that goes on, the files that
-- were finished, and the one that is written.
pub record Holds (texts : List (List ℕ)) (left : List ℕ) (files : List NamedText)
    (writing : Option NamedText) (done : Ledger) : Type 0 where
  pub read : All (IsOf texts) done.read
  pub reading : (r : Reading) → done.reading ≡ Some r → IsFrontOf texts left r
  pub finished : done.finished ≡ files
  pub writing_is : done.writing ≡ writing
