-- What an inventory lists: what each of its lines says, and nothing else.
-- Source: this project's own rule, that no line of an inventory is passed over.
use Rattle.std.specs.Prelude.{◌≡◌, ◌≢◌, ◌≤◌, ◌⊎◌, ℕ, false, List, [], ◌∷◌, ◌++◌, length, All}
use Rattle.std.specs.Prelude.{Contains, Some, None, Ok, codes}
use Rattle.idtext.specs.Numbers.{id_of}
use Rattle.idtext.specs.Words.{most_line_bytes, words}
use Rattle.mtree_inv.specs.declared.entry.Entry.{Entry}
use Rattle.mtree_inv.specs.Inventory.{inventory, kinds, path_of, said_alone, fault_of}
use Rattle.mtree_inv.specs.Keywords.{number_in_force}
use Rattle.mtree_inv.specs.Kinds.{Kind, Begins, Counts, kind_of}
use Rattle.mtree_inv.specs.Logical.{LogicalLine, logical_lines}
use Rattle.mtree_inv.specs.Whole.{is_beginning, told_by, files_given}

-- a line that can be read: it is not too long, the text does not end while it waits for the next
-- line, and where its first word begins with a `/` this word is `/set` or `/unset`
pub record IsReadable (line : LogicalLine) : Type 0 where
  pub short : length line.text ≤ most_line_bytes
  pub whole : line.is_cut ≡ false
  pub command : (more : List ℕ) (keywords : List (List ℕ))
      → words line.text ≡ (47 ∷ more) ∷ keywords
      → (more ≡ codes "set") ⊎ (more ≡ codes "unset")

-- a text with another line has no inventory
abbrev pub NoLineIsPassedOver : Type 0
NoLineIsPassedOver =
    (most : ℕ) (text : List ℕ) (files : List Entry) → inventory most text ≡ Ok files
    → All IsReadable (logical_lines text)

-- the first word of an entry: it begins with no `#`, as a comment does, and no `/`, as a command
-- does, and is not `..`
pub record IsName (word : List ℕ) : Type 0 where
  pub no_comment : (more : List ℕ) → word ≢ 35 ∷ more
  pub no_command : (more : List ℕ) → word ≢ 47 ∷ more
  pub not_up : word ≢ codes ".."

-- an entry after these lines, with this name and these keywords, is of this file: the path is that
-- of the name there, and the owner's numbers are those in force
pub record IsFileOf (before : List LogicalLine) (name : List ℕ) (keywords : List (List ℕ))
    (file : Entry) : Type 0 where
  pub path : file.path ≡ path_of (kinds before) name
  pub uid : number_in_force (codes "uid") (kinds before) keywords ≡ Some file.uid
  pub gid : number_in_force (codes "gid") (kinds before) keywords ≡ Some file.gid

-- the file of each entry of a text is in its inventory
abbrev pub EntriesAreListed : Type 0
EntriesAreListed =
    (most : ℕ) (text : List ℕ) (files : List Entry) (before after : List LogicalLine)
    (line : LogicalLine) (name : List ℕ) (keywords : List (List ℕ))
    → inventory most text ≡ Ok files → logical_lines text ≡ before ++ line ∷ after
    → words line.text ≡ name ∷ keywords → IsName name
    → (file : Entry) × IsFileOf before name keywords file × Contains files file

-- so is each file that a line says, after the lines before it
abbrev pub SaidFilesAreListed : Type 0
SaidFilesAreListed =
    (most : ℕ) (text : List ℕ) (files : List Entry) (before after : List LogicalLine)
    (line : LogicalLine) (file : Entry)
    → inventory most text ≡ Ok files → logical_lines text ≡ before ++ line ∷ after
    → said_alone (kinds before) (kind_of line) ≡ Ok (Some file) → Contains files file

-- a text has an entry of this file
pub record HasEntry (text : List ℕ) (file : Entry) : Type 0 where
  pub before : List LogicalLine
  pub line : LogicalLine
  pub after : List LogicalLine
  pub name : List ℕ
  pub keywords : List (List ℕ)
  pub stands : logical_lines text ≡ before ++ line ∷ after
  pub has_words : words line.text ≡ name ∷ keywords
  pub is_name : IsName name
  pub is_file : IsFileOf before name keywords file

-- each file of an inventory has an entry in the text
abbrev pub FilesAreOfEntries : Type 0
FilesAreOfEntries =
    (most : ℕ) (text : List ℕ) (files : List Entry) (file : Entry)
    → inventory most text ≡ Ok files → Contains files file → HasEntry text file

-- none of these lines begins an inventory
abbrev pub BeginsNone : List Kind → Type 0
BeginsNone [] = Unit {0}
BeginsNone (line ∷ lines) = (is_beginning line ≡ false) × BeginsNone lines

-- none of them is an entry or has a count
abbrev pub CountsNone : List Kind → Type 0
CountsNone [] = Unit {0}
CountsNone (line ∷ lines) = (told_by line ≡ None) × CountsNone lines

-- they have a count, of the entries before it, and behind it no entry and no other count
pub record HasCount (lines : List Kind) : Type 0 where
  pub inside : List Kind
  pub count : List ℕ
  pub after : List Kind
  pub stands : lines ≡ inside ++ Counts count ∷ after
  pub exact : id_of count ≡ Some (files_given inside)
  pub last : CountsNone after

-- where an inventory was begun, the lines since have their count when the next one begins
abbrev pub NextFollowsCount : Type 0
NextFollowsCount = (most : ℕ) (before since : List Kind)
    → BeginsNone since → fault_of most (before ++ Begins ∷ since) Begins ≡ None → HasCount since

-- and when the text ends
abbrev pub TextEndsWithCount : Type 0
TextEndsWithCount =
    (most : ℕ) (text : List ℕ) (files : List Entry) (before since : List Kind)
    → inventory most text ≡ Ok files → kinds (logical_lines text) ≡ before ++ Begins ∷ since
    → BeginsNone since → HasCount since
