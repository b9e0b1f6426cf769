-- Which lines a pins text may have, and which pins they give, in the words of the format.
-- Source: this project's own formats.
use Rattle.std.specs.Prelude.{◌≡◌, ◌⊎◌, ◌↔◌, ℕ, ◌+◌, ◌<◌, ◌++◌, ◌∷◌, true, List, length, Some, Ok}
use Rattle.std.specs.Prelude.{Err, codes}
use Rattle.std.specs.List.{Contains}
use Rattle.idtext.specs.Names.{is_lawful_name}
use Rattle.idtext.specs.Numbers.{id_of}
use Rattle.idtext.specs.Pieces.{lines}
use Rattle.hosts_join.specs.Accounts.{Pair}
use Rattle.hosts_join.specs.BadLines.{AllMayStand, IsFirstBad, SaysNothing}
use Rattle.hosts_join.specs.PinPairs.{PinPairs}
use Rattle.hosts_join.specs.PinsText.{pins_of}
use Rattle.hosts_join.specs.declared.fault.PinsFault.{PinsFault}
use Rattle.hosts_join.specs.declared.fault.PinsFault.TheVariants.{BadPins}

-- the line is the word of a kind, a lawful name, a space and an id
pub record GivesPair (word line name : List ℕ) (number : ℕ) : Type 0 where
  pub lawful : is_lawful_name name ≡ true
  pub digits : List ℕ
  pub whole : line ≡ word ++ (name ++ 32 ∷ digits)
  pub value : id_of digits ≡ Some number

-- the line gives a name and a number, and no earlier line of the kind gives either of them
pub record IsNewPin (word : List ℕ) (before : List (List ℕ)) (line : List ℕ) : Type 0 where
  pub name : List ℕ
  pub number : ℕ
  pub gives : GivesPair word line name number
  pub new_name : (earlier : List ℕ) (other : ℕ) → Contains before earlier
      → ¬ GivesPair word earlier name other
  pub new_number : (earlier other : List ℕ) → Contains before earlier
      → ¬ GivesPair word earlier other number

-- the line is none past the 1048576th, and says nothing or gives a new pin
abbrev pub MayStand : List (List ℕ) → List ℕ → Type 0
MayStand before line =
    (length before < 1048576)
    × (SaysNothing line ⊎ IsNewPin (codes "user ") before line
    ⊎ IsNewPin (codes "group ") before line)

-- each line of a pins text that is accepted may stand there
abbrev pub AcceptedPinsMayStand : Type 0
AcceptedPinsMayStand =
    (text : List ℕ) (pins : PinPairs) → pins_of text ≡ Ok pins
    → AllMayStand MayStand (lines text) (length (lines text))

-- of any other the first line that may not is told, counted from 1
abbrev pub FirstBadPinIsTold : Type 0
FirstBadPinIsTold =
    (text : List ℕ) (fault : PinsFault) → pins_of text ≡ Err fault → (before : ℕ)
    × (fault ≡ BadPins (before + 1)) × IsFirstBad MayStand (lines text) before

-- some line gives the name of the pair its number
abbrev pub IsListed : List ℕ → List (List ℕ) → Pair → Type 0
IsListed word lines pair =
    (line : List ℕ) × Contains lines line × GivesPair word line pair.name pair.number

-- the pins of a kind are exactly those that the lines of the text give
abbrev pub PinsAreListed : Type 0
PinsAreListed =
    (text : List ℕ) (pins : PinPairs) (pair : Pair) → pins_of text ≡ Ok pins
    → (Contains pins.users pair ↔ IsListed (codes "user ") (lines text) pair)
    × (Contains pins.groups pair ↔ IsListed (codes "group ") (lines text) pair)
