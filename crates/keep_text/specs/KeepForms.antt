-- Which lines a keep text may have, in the words of the format.
-- Source: this project's own formats.
use Rattle.std.specs.Prelude.{◌≡◌, ◌⊎◌, ℕ, ◌≤◌, ◌++◌, ◌∷◌, true, List, length, Some, Ok, Err, codes}
use Rattle.std.specs.List.{Contains}
use Rattle.idtext.specs.Faults.{line_number}
use Rattle.idtext.specs.Names.{is_lawful_name}
use Rattle.idtext.specs.Numbers.{id_of}
use Rattle.idtext.specs.Pieces.{lines as lines_of}
use Rattle.hosts_join.specs.BadLines.{AllMayStand, IsFirstBad, SaysNothing}
use Rattle.keep_text.specs.declared.keep_text.KeepText.{KeepText}
use Rattle.keep_text.specs.declared.keep_text.KeepFault.{KeepFault}
use Rattle.keep_text.specs.declared.keep_text.KeepFault.TheVariants.{BadKeep}
use Rattle.keep_text.specs.KeepTexts.{keep_of}

-- the line is the word and a lawful name
abbrev pub ListsName : List ℕ → List ℕ → Type 0
ListsName word line = (name : List ℕ) × (is_lawful_name name ≡ true) × (line ≡ word ++ name)

-- the line is the word, an id, a space and an id that is not below the first
pub record ListsRange (word line : List ℕ) : Type 0 where
  pub low : List ℕ
  pub high : List ℕ
  pub whole : line ≡ word ++ (low ++ 32 ∷ high)
  pub from : ℕ
  pub to : ℕ
  pub begins : id_of low ≡ Some from
  pub ends : id_of high ≡ Some to
  pub in_order : from ≤ to

-- a line that stands once in a text: of a name, or of `unowned`
abbrev pub StandsOnce : List ℕ → Type 0
StandsOnce line =
    ListsName (codes "user ") line ⊎ ListsName (codes "group ") line
    ⊎ (line ≡ codes "unowned users") ⊎ (line ≡ codes "unowned groups")

-- the line says nothing, lists a range, or is a line that stands once and not before
abbrev pub MayStand : List (List ℕ) → List ℕ → Type 0
MayStand before line =
    SaysNothing line ⊎ ListsRange (codes "users ") line ⊎ ListsRange (codes "groups ") line
    ⊎ (StandsOnce line × (¬ Contains before line))

-- each line of a keep text that is accepted may stand there
abbrev pub AcceptedLinesMayStand : Type 0
AcceptedLinesMayStand =
    (text : List ℕ) (keep : KeepText) → keep_of text ≡ Ok keep
    → AllMayStand MayStand (lines_of text) (length (lines_of text))

-- of any other the first line that may not is told
abbrev pub FirstBadLineIsTold : Type 0
FirstBadLineIsTold =
    (text : List ℕ) (fault : KeepFault) → keep_of text ≡ Err fault → (before : ℕ)
    × (fault ≡ BadKeep (line_number before)) × IsFirstBad MayStand (lines_of text) before
