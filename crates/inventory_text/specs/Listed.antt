-- The files of an inventory that is written, and which of them can be read back.
-- Source: this project's profile of mtree(5), as mtree_inv defines it.
use Rattle.std.specs.Prelude.{◌≡◌, ◌≢◌, ◌⊎◌, ℕ, ◌<◌, ◌≤◌, List, ◌++◌, All}
use Rattle.std.specs.Prelude.{codes, flat_map, length, map}
use Rattle.idtext.specs.Pieces.{pieces}
use Rattle.idtext.specs.Words.{most_line_bytes}
use Rattle.mtree_inv.specs.declared.entry.Entry.{Entry}
use Rattle.mtree_inv.specs.Files.{IsLawfulFile, HaveDistinctFiles}
use Rattle.inventory_text.specs.declared.kind.FileKind.{FileKind}
use Rattle.inventory_text.specs.Writing.{Head, ended, end_line, entry_line, head_line}

-- a file with its owner, and what it is
pub record Listed : Type 0 where
  pub file : Entry
  pub kind : FileKind

abbrev pub line_of : Listed → List ℕ
line_of listed = entry_line listed.file.path listed.file.uid listed.file.gid listed.kind

abbrev pub files_of : List Listed → List Entry
files_of listed = map (λ (l : Listed). l.file) listed

abbrev pub entries_text : List Listed → List ℕ
entries_text listed = flat_map (λ (l : Listed). ended (line_of l)) listed

-- the inventory of a host's files
abbrev pub inventory_text : Head → List Listed → List ℕ
inventory_text head listed =
    ended (head_line head) ++ (entries_text listed ++ ended (end_line (length listed)))

-- the same, cut after these files, without its last line
abbrev pub cut_text : Head → List Listed → List ℕ
cut_text head listed = ended (head_line head) ++ entries_text listed

-- a name of a path: not empty, neither `.` nor `..`, without a slash and a NUL byte
pub record IsName (name : List ℕ) : Type 0 where
  pub filled : 0 < length name
  pub not_dot : name ≢ codes "."
  pub not_dot_dot : name ≢ codes ".."
  pub plain : All (λ b. (b ≢ 47) × (b ≢ 0)) name

-- the starting directory itself, or names with slashes between them
abbrev pub IsPath : List ℕ → Type 0
IsPath path = (path ≡ codes ".") ⊎ All IsName (pieces 47 path)

-- a lawful file, of such a path of bytes, whose line is not too long
pub record IsListed (listed : Listed) : Type 0 where
  pub lawful : IsLawfulFile listed.file
  pub bytes : All (λ b. b < 256) listed.file.path
  pub path : IsPath listed.file.path
  pub short : length (line_of listed) ≤ most_line_bytes

-- such files, no two of one path
pub record AreListed (listed : List Listed) : Type 0 where
  pub each : All IsListed listed
  pub distinct : HaveDistinctFiles (files_of listed)
