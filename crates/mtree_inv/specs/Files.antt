-- What is known of the files of an inventory.
-- Source: this project's profile over mtree(5); chown(2) for the greatest id.
use Rattle.std.specs.Prelude.{◌≢◌, ℕ, ◌<◌, ◌≤◌, List, length, All, AllPairs}
use Rattle.idtext.specs.Numbers.{greatest_id}
use Rattle.idtext.specs.Words.{most_line_bytes}
use Rattle.mtree_inv.specs.declared.entry.Entry.{Entry}

-- a path has 1 to 65,535 bytes, and no NUL byte among them, as a path of POSIX has none
pub record IsLawfulPath (path : List ℕ) : Type 0 where
  pub filled : 0 < length path
  pub short : length path ≤ most_line_bytes
  pub no_nul : All (λ b. b ≢ 0) path

-- a file has such a path, and numbers that an account may have
pub record IsLawfulFile (file : Entry) : Type 0 where
  pub path : IsLawfulPath file.path
  pub uid : file.uid ≤ greatest_id
  pub gid : file.gid ≤ greatest_id

-- no two of them have the same path
abbrev pub HaveDistinctFiles : List Entry → Type 0
HaveDistinctFiles files = AllPairs (λ a b. a.path ≢ b.path) files

pub record AreFiles (files : List Entry) : Type 0 where
  pub distinct : HaveDistinctFiles files
  pub lawful : All IsLawfulFile files
