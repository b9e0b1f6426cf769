-- Inventories that are refused, and lines that are joined, by example.
-- Source: this project's profile over mtree(5): the order of faults, and which one each mistake is.
-- The texts are this project's own.
use Rattle.std.specs.Prelude.{◌≡◌, ◌<◌, ℕ, List, [], ◌∷◌, ◌++◌, length, codes, Some, Result, Ok}
use Rattle.std.specs.Prelude.{Err}
use Rattle.idtext.specs.Words.{most_line_bytes}
use Rattle.idtext.specs.declared.faults.TextCode.{TextCode}
use Rattle.idtext.specs.declared.faults.TextCode.TheVariants.{BadNumber, BadCommand, NoUid, NoGid}
use Rattle.idtext.specs.declared.faults.TextCode.TheVariants.{DotDotAbove, BadPath, OwnersDiffer}
use Rattle.idtext.specs.declared.faults.TextCode.TheVariants.{TooManyEntries, CutContinuation}
use Rattle.idtext.specs.declared.faults.TextCode.TheVariants.{CutInventory, LineTooLong}
use Rattle.idtext.specs.declared.faults.TextFault.{TextFault}
use Rattle.mtree_inv.specs.declared.entry.Entry.{Entry}
use Rattle.mtree_inv.specs.Inventory.{fault_of, inventory}
use Rattle.mtree_inv.specs.Kinds.{Kind, Names, kind_of}
use Rattle.mtree_inv.specs.Logical.{LogicalLine}

-- a file with its uid and its gid
abbrev file : List ℕ → ℕ → ℕ → Entry
file path uid gid = record { path = path; uid = uid; gid = gid }

-- what is wrong with a line
abbrev fault : TextCode → ℕ → Result (List Entry) TextFault
fault code line = Err (record { code = code; line = line })

-- ---- one mistake

-- a number that is none, on an entry and on `/set`; a command of another name; no uid, no gid; and
-- a `..` where no directory is open
abbrev pub ExampleOfBadLines : Type 0
ExampleOfBadLines =
    (inventory 3 (codes "etc uid=1 gid=x\n") ≡ fault BadNumber 1)
    × (inventory 3 (codes "/set gid=-1\n") ≡ fault BadNumber 1)
    × (inventory 3 (codes "\n" ++ codes "/sets uid=1\n") ≡ fault BadCommand 2)
    × (inventory 3 (codes "etc gid=1\n") ≡ fault NoUid 1)
    × (inventory 3 (codes "etc uid=1\n") ≡ fault NoGid 1)
    × (inventory 3 (codes "..\n") ≡ fault DotDotAbove 1)

-- a path that comes again, however it is written, is one file, where it came first; with another
-- uid or another gid it is refused
abbrev pub first_entry : List ℕ
first_entry = codes "etc uid=1 gid=2\n"

abbrev pub ExampleOfOwners : Type 0
ExampleOfOwners =
    (inventory 3 (first_entry ++ codes "tmp uid=1 gid=2\n" ++ codes "./etc uid=1 gid=2\n")
    ≡ Ok (file (codes "etc") 1 2 ∷ file (codes "tmp") 1 2 ∷ []))
    × (inventory 3 (first_entry ++ codes "etc uid=3 gid=2\n") ≡ fault OwnersDiffer 2)
    × (inventory 3 (first_entry ++ codes "./etc uid=1 gid=4\n") ≡ fault OwnersDiffer 2)

-- one file more than there may be is refused, and a file that came before is not
abbrev pub ExampleOfTooMany : Type 0
ExampleOfTooMany =
    (inventory 1 (first_entry ++ codes "tmp uid=1 gid=2\n") ≡ fault TooManyEntries 2)
    × (inventory 1 (first_entry ++ first_entry) ≡ Ok (file (codes "etc") 1 2 ∷ []))

-- an inventory that tells where it ends has to be ended before the next begins
abbrev pub begun_text : List ℕ
begun_text = codes "# unify inventory ann\n" ++ first_entry

abbrev pub next_text : List ℕ
next_text = codes "# unify inventory bob\n" ++ codes "tmp uid=1 gid=2\n" ++ codes "# end 1\n"

abbrev pub ExampleOfNextInventory : Type 0
ExampleOfNextInventory =
    (inventory 3 (begun_text ++ codes "# end 1\n" ++ next_text)
    ≡ Ok (file (codes "etc") 1 2 ∷ file (codes "tmp") 1 2 ∷ []))
    × (inventory 3 (begun_text ++ next_text) ≡ fault CutInventory 3)

-- and its end tells how many entries it has, no more and no fewer, and has none after it
abbrev pub ExampleOfCounts : Type 0
ExampleOfCounts =
    (inventory 3 (begun_text ++ codes "# end 2\n") ≡ fault CutInventory 4)
    × (inventory 3 (begun_text ++ codes "# end 0\n") ≡ fault CutInventory 4)
    × (inventory 3 (begun_text ++ codes "# end 1\n" ++ codes "tmp uid=1 gid=2\n")
    ≡ fault CutInventory 5)
    × (inventory 3 (begun_text ++ codes "# end 2\n" ++ codes "tmp uid=1 gid=2\n")
    ≡ fault CutInventory 5)

-- ---- a line that is too long, after any lines, whatever it says

abbrev pub LongLinesAreRefused : Type 0
LongLinesAreRefused = (most : ℕ) (before : List Kind) (line : LogicalLine)
    → most_line_bytes < length line.text → fault_of most before (kind_of line) ≡ Some LineTooLong

-- ---- an entry whose name has an escape that stands for a slash

abbrev pub EscapedSlashIsRefused : Type 0
EscapedSlashIsRefused = (most : ℕ) (before : List Kind) (keywords : List (List ℕ))
    → fault_of most before (Names (codes "a\\057b") keywords) ≡ Some BadPath

-- ---- two mistakes: the fault that is told is the first one

-- of one line the path is looked at first, then the numbers that it has, then whether it has a uid,
-- and a gid
abbrev pub ExampleOfOrder : Type 0
ExampleOfOrder =
    (inventory 3 (codes "a/../b uid=x\n") ≡ fault BadPath 1)
    × (inventory 3 (codes "etc uid=x\n") ≡ fault BadNumber 1)
    × (inventory 3 (codes "etc mode=1\n") ≡ fault NoUid 1)
    × (inventory 3 (codes "etc uid=1\n" ++ codes "..\n") ≡ fault NoGid 1)

-- then whether it goes with the files before it: another owner is told, where there is no room
abbrev pub ExampleOfOrderOfFiles : Type 0
ExampleOfOrderOfFiles =
    (inventory 1 (first_entry ++ codes "etc uid=3 gid=2\n") ≡ fault OwnersDiffer 2)
    × (inventory 1 (first_entry ++ codes "tmp uid=3\n") ≡ fault NoGid 2)
    × (inventory 3 (first_entry ++ codes "etc uid=3 gid=x\n") ≡ fault BadNumber 2)

-- ---- lines that are joined at a final backslash

-- within a word, and between two; a line of three
abbrev pub joined_text : List ℕ
joined_text =
    codes "/set uid=1 gid=2\n" ++ codes "etc gid=4 u\\\n" ++ codes "id=3\n" ++ codes "tmp x=1 \\\n"
    ++ codes " uid=5\n" ++ codes "v\\\n" ++ codes "a\\\n" ++ codes "r\n"

abbrev pub ExampleOfJoined : Type 0
ExampleOfJoined =
    inventory 3 joined_text
    ≡ Ok (file (codes "etc") 3 4 ∷ file (codes "tmp") 5 2 ∷ file (codes "var") 1 2 ∷ [])

-- a fault is told at the first of the lines that are joined, and a later one where it stands; and a
-- text that ends in a backslash, or after it, is cut
abbrev pub ExampleOfJoinedFault : Type 0
ExampleOfJoinedFault =
    (inventory 3 (codes "\n" ++ codes "etc \\\n" ++ codes "uid=1\n") ≡ fault NoGid 2)
    × (inventory 3 (codes "etc uid=1 \\\n" ++ codes "gid=2\n" ++ codes "..\n")
    ≡ fault DotDotAbove 3)
    × (inventory 3 (first_entry ++ codes "tmp uid=1 gid=2\\") ≡ fault CutContinuation 2)
    × (inventory 3 (first_entry ++ codes "tmp uid=1 gid=2\\\n") ≡ fault CutContinuation 2)
