-- The files of the mark and of the modes by example.
-- Sources: sha256sum(1), which prints a digest as two digits to the base 16 for each byte, the
-- greater first; inode(7) for the bits of a mode. The texts are this project's own.
use Rattle.std.specs.Prelude.{◌≡◌, ℕ, List, [], ◌∷◌, ◌++◌, None, Some, codes, replicate}
use Rattle.reown_plan.specs.declared.mark.PlanMark.{PlanMark}
use Rattle.reown_files.specs.MarkText.{Entry, entry, mode_in, mark_text, modes_text, lines_text}

-- the plan of a host `ann`, of 47 bytes, with a digest of 32 bytes
abbrev pub plan : PlanMark
plan = record {
  host = codes "ann" ++ replicate 61 0;
  length = 47;
  digest =
      1 ∷ 35 ∷ 69 ∷ 103 ∷ 137 ∷ 171 ∷ 205 ∷ 239 ∷ 254 ∷ 220 ∷ 186 ∷ 152 ∷ 118 ∷ 84 ∷ 50 ∷ 16
      ∷ 0 ∷ 17 ∷ 34 ∷ 51 ∷ 68 ∷ 85 ∷ 102 ∷ 119 ∷ 136 ∷ 153 ∷ 170 ∷ 187 ∷ 204 ∷ 221 ∷ 238 ∷ 255
      ∷ [];
}

abbrev pub digest_said : List ℕ
digest_said = codes "0123456789abcdeffedcba987654321000112233445566778899aabbccddeeff"

abbrev pub ExampleOfMark : Type 0
ExampleOfMark = mark_text plan ≡ codes "unify applied 1 ann 47 " ++ digest_said ++ codes "\n"

-- a program that is run as its owner, of mode 4751, and a file of mode 2640 whose name has a space
abbrev pub entries : List Entry
entries = entry (codes "bin/su") 2537 ∷ entry (codes "a b") 1440 ∷ []

abbrev pub entries_said : List ℕ
entries_said = codes "4751 bin/su\n" ++ codes "2640 a\\040b\n"

abbrev pub ExampleOfModes : Type 0
ExampleOfModes =
    modes_text plan (lines_text entries)
    ≡ codes "unify modes 1 ann 47 " ++ digest_said ++ codes "\n" ++ entries_said ++ codes "end\n"

-- the mode of a file is that of its line, and of the last where it has two
pub record ExampleOfRead : Type 0 where
  pub only : mode_in entries (codes "a b") ≡ Some 1440
  pub last : mode_in (entry (codes "bin/su") 448 ∷ entries) (codes "bin/su") ≡ Some 2537
  pub none : mode_in entries (codes "a") ≡ None
