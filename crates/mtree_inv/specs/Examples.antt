-- Inventories by example: what each word of mtree(5) does that is read, by its bytes.
-- Source: mtree(5) of NetBSD and libarchive; this project's profile over it. The texts are this
-- project's own.
use Rattle.std.specs.Prelude.{◌≡◌, ℕ, List, [], ◌∷◌, ◌++◌, codes, Result, Ok, Err}
use Rattle.idtext.specs.declared.faults.TextCode.{TextCode}
use Rattle.idtext.specs.declared.faults.TextCode.TheVariants.{CutInventory, NoUid, NoGid}
use Rattle.idtext.specs.declared.faults.TextFault.{TextFault}
use Rattle.mtree_inv.specs.declared.entry.Entry.{Entry}
use Rattle.mtree_inv.specs.Inventory.{inventory}

-- a file with its uid and its gid
abbrev file : List ℕ → ℕ → ℕ → Entry
file path uid gid = record { path = path; uid = uid; gid = gid }

-- what is wrong with a line
abbrev fault : TextCode → ℕ → Result (List Entry) TextFault
fault code line = Err (record { code = code; line = line })

-- a comment and an empty line; an owner that is set; a directory, and a file in it, whose own uid
-- comes twice; and one after `..`, with a gid of its own
abbrev pub set_text : List ℕ
set_text =
    codes "# people\n" ++ codes "\n" ++ codes "/set type=file uid=1 gid=2\n"
    ++ codes "etc type=file type=dir\n" ++ codes "\t hosts uid=3 gid=4 uid=5 mode=6\n"
    ++ codes "..\n" ++ codes "tmp gid=7\n"

abbrev pub ExampleOfSet : Type 0
ExampleOfSet =
    inventory 3 set_text
    ≡ Ok (file (codes "etc") 1 2 ∷ file (codes "etc/hosts") 5 4 ∷ file (codes "tmp") 1 7 ∷ [])

-- what was set is taken away by its key, with a value or without, and by `all`: neither `etc` nor
-- `var` is a directory here
abbrev pub unset_text : List ℕ
unset_text =
    codes "/set type=dir uid=1 gid=2\n" ++ codes "/unset gid type=file\n" ++ codes "etc gid=3\n"
    ++ codes "/set type=dir\n" ++ codes "/unset all\n" ++ codes "var uid=4 gid=5\n"
    ++ codes "tmp gid=6 uid=7\n"

abbrev pub ExampleOfUnset : Type 0
ExampleOfUnset =
    inventory 3 unset_text
    ≡ Ok (file (codes "etc") 1 3 ∷ file (codes "var") 4 5 ∷ file (codes "tmp") 7 6 ∷ [])

-- a type that is set counts where an entry gives none: `etc` is a directory; and one that an entry
-- gives counts in its stead: `hosts` and `motd` lie in `etc`, and `tmp` beside it
abbrev pub set_type_text : List ℕ
set_type_text =
    codes "/set type=dir uid=1 gid=2\n" ++ codes "etc\n" ++ codes "hosts type=file\n"
    ++ codes "motd type=file\n" ++ codes "..\n" ++ codes "tmp type=file\n"

abbrev pub ExampleOfSetType : Type 0
ExampleOfSetType =
    inventory 4 set_type_text
    ≡ Ok (file (codes "etc") 1 2 ∷ file (codes "etc/hosts") 1 2 ∷ file (codes "etc/motd") 1 2
    ∷ file (codes "tmp") 1 2 ∷ [])

-- a uid that was taken away is missing, and so is a gid
abbrev pub ExampleOfNoOwner : Type 0
ExampleOfNoOwner =
    (inventory 3 (codes "/set uid=1 gid=2\n" ++ codes "/unset uid\n" ++ codes "etc\n")
    ≡ fault NoUid 3)
    × (inventory 3 (codes "/set uid=1 gid=2\n" ++ codes "/unset gid\n" ++ codes "etc\n")
    ≡ fault NoGid 3)

-- an inventory that tells where it ends is refused without that line
abbrev pub begun_text : List ℕ
begun_text =
    codes "# unify inventory ann\n" ++ codes "etc uid=1 gid=2\n" ++ codes "tmp uid=3 gid=4\n"

abbrev pub ExampleOfEnd : Type 0
ExampleOfEnd =
    (inventory 3 (begun_text ++ codes "# end 2\n")
    ≡ Ok (file (codes "etc") 1 2 ∷ file (codes "tmp") 3 4 ∷ []))
    × (inventory 3 begun_text ≡ fault CutInventory 4)

-- it counts the entries since its first line, without `..`, and each time that one comes; other
-- lines may stand before that line, between, and behind
abbrev pub counted_text : List ℕ
counted_text =
    codes "var uid=3 gid=4\n" ++ codes "# unify inventory ann\n" ++ codes "/set uid=1 gid=2\n"
    ++ codes "etc type=dir\n" ++ codes "..\n" ++ codes "# people\n" ++ codes "\n"
    ++ codes "etc type=dir\n" ++ codes "..\n" ++ codes "./tmp\n" ++ codes "# end 3\n"
    ++ codes "/unset all\n"

abbrev pub ExampleOfCounted : Type 0
ExampleOfCounted =
    inventory 3 counted_text
    ≡ Ok (file (codes "var") 3 4 ∷ file (codes "etc") 1 2 ∷ file (codes "tmp") 1 2 ∷ [])
