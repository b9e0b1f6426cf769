-- Which lines a map may have, whoever wrote it, and which numbers they give, in the words of the
-- format.
-- Source: this project's own formats.
use Rattle.std.specs.Prelude.{◌≡◌, ◌⊎◌, ◌↔◌, ℕ, List, length, Ok, Err, codes}
use Rattle.std.specs.List.{Contains}
use Rattle.idtext.specs.Faults.{line_number}
use Rattle.idtext.specs.Pieces.{lines as lines_of}
use Rattle.hosts_join.specs.Accounts.{Pair}
use Rattle.hosts_join.specs.BadLines.{AllMayStand, IsFirstBad, SaysNothing}
use Rattle.hosts_join.specs.PinLines.{GivesPair, IsListed}
use Rattle.unify_texts.specs.Maps.{map_of}
use Rattle.unify_texts.specs.declared.fault.Fault.{Fault}
use Rattle.unify_texts.specs.declared.fault.Fault.TheVariants.{BadMap}
use Rattle.unify_texts.specs.declared.map_text.MapText.{MapText}

-- the line gives a name a number, and no earlier line of the kind gives the name one
pub record IsNewName (word : List ℕ) (before : List (List ℕ)) (line : List ℕ) : Type 0 where
  pub name : List ℕ
  pub number : ℕ
  pub gives : GivesPair word line name number
  pub new_name : (earlier : List ℕ) (other : ℕ) → Contains before earlier
      → ¬ GivesPair word earlier name other

-- the line says nothing, or gives a new name
abbrev pub MayStand : List (List ℕ) → List ℕ → Type 0
MayStand before line =
    SaysNothing line ⊎ IsNewName (codes "user ") before line
    ⊎ IsNewName (codes "group ") before line

-- each line of a map that is accepted may stand there
abbrev pub AcceptedMapsMayStand : Type 0
AcceptedMapsMayStand =
    (text : List ℕ) (map : MapText) → map_of text ≡ Ok map
    → AllMayStand MayStand (lines_of text) (length (lines_of text))

-- of any other text the first line that may not is told
abbrev pub FirstBadMapLineIsTold : Type 0
FirstBadMapLineIsTold =
    (text : List ℕ) (fault : Fault) → map_of text ≡ Err fault → (before : ℕ)
    × (fault ≡ BadMap (line_number before)) × IsFirstBad MayStand (lines_of text) before

-- the names of a kind have exactly the numbers that the lines give them
abbrev pub MapsAreListed : Type 0
MapsAreListed =
    (text : List ℕ) (map : MapText) (pair : Pair) → map_of text ≡ Ok map
    → (Contains map.users pair ↔ IsListed (codes "user ") (lines_of text) pair)
    × (Contains map.groups pair ↔ IsListed (codes "group ") (lines_of text) pair)
