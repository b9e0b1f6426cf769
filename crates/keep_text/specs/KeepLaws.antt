-- Laws of what a keep text says.
-- Source: this project's own formats.
use Rattle.std.specs.Prelude.{◌≡◌, ◌≤◌, ◌↔◌, ◌++◌, ◌∷◌, ℕ, true, List, Some, Ok, codes}
use Rattle.std.specs.List.{All, Contains}
use Rattle.idtext.specs.Names.{is_lawful_name}
use Rattle.idtext.specs.Numbers.{greatest_id, id_of}
use Rattle.idtext.specs.Pieces.{lines as lines_of}
use Rattle.accounts.specs.Laws.{AreDistinct}
use Rattle.keep_text.specs.declared.keep_text.Kept.{Kept}
use Rattle.keep_text.specs.declared.keep_text.KeepText.{KeepText}
use Rattle.keep_text.specs.KeepTexts.{keep_of}
use Rattle.hosts_join.specs.RangeLists.{lies_in_some}

-- The names of a kind are lawful and differ; its ranges are of ids, and none is empty.
pub record IsLawfulKept (kept : Kept) : Type 0 where
  pub names_are_lawful : All (λ name. is_lawful_name name ≡ true) kept.names
  pub names_differ : AreDistinct kept.names
  pub ranges_are_of_ids :
      All (λ range. (range.low ≤ range.high) × (range.high ≤ greatest_id)) kept.ranges

-- both kinds are so in what is read from a text
pub record IsLawfulKeep (keep : KeepText) : Type 0 where
  pub users : IsLawfulKept keep.users
  pub groups : IsLawfulKept keep.groups

abbrev pub ReadKeepsAreLawful : Type 0
ReadKeepsAreLawful = (text : List ℕ) (keep : KeepText) → keep_of text ≡ Ok keep → IsLawfulKeep keep

-- One of the lines is the word, an id, a space and an id, and the number is from the first id to
-- the second.
pub record ListsNumber (word : List ℕ) (lines : List (List ℕ)) (number : ℕ) : Type 0 where
  pub low : List ℕ
  pub high : List ℕ
  pub there : Contains lines (word ++ low ++ 32 ∷ high)
  pub from : ℕ
  pub to : ℕ
  pub begins : id_of low ≡ Some from
  pub ends : id_of high ≡ Some to
  pub has : (from ≤ number) × (number ≤ to)

-- A number lies in the ranges of a kind exactly where a line of the text lists, after the word of
-- the kind, a range that has it.
abbrev pub RangesAreListed : Type 0
RangesAreListed = (text : List ℕ) (keep : KeepText) (number : ℕ) → keep_of text ≡ Ok keep
    → ((lies_in_some keep.users.ranges number ≡ true)
    ↔ ListsNumber (codes "users ") (lines_of text) number)
    × ((lies_in_some keep.groups.ranges number ≡ true)
    ↔ ListsNumber (codes "groups ") (lines_of text) number)

-- a name is among the names of a kind exactly where a line of the text lists it for the kind
abbrev pub NamesAreListed : Type 0
NamesAreListed = (text : List ℕ) (keep : KeepText) (name : List ℕ) → keep_of text ≡ Ok keep
    → (Contains keep.users.names name ↔ Contains (lines_of text) (codes "user " ++ name))
    × (Contains keep.groups.names name ↔ Contains (lines_of text) (codes "group " ++ name))

-- numbers of a kind without an account stay exactly where a line of the text says so of the kind
abbrev pub UnownedIsSaid : Type 0
UnownedIsSaid = (text : List ℕ) (keep : KeepText) → keep_of text ≡ Ok keep
    → ((keep.users.unowned ≡ true) ↔ Contains (lines_of text) (codes "unowned users"))
    × ((keep.groups.unowned ≡ true) ↔ Contains (lines_of text) (codes "unowned groups"))
