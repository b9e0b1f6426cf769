-- A certificate: rows of names with their numbers and their y, and the z of numbers.
-- Source: this project's own format.
use Rattle.std.specs.Prelude.{◌≡◌, ℕ, ◌<◌, ◌≤◌, ◌^◌, true, List, length, slice_index_or}
use Rattle.std.specs.declared.cmp.Ordering.TheVariants.{Less}
use Rattle.std.specs.Ordering.{nat_cmp}
use Rattle.std.specs.Cmp.Lexicographic.{slice_cmp}
use Rattle.std.specs.List.{All}
use Rattle.idtext.specs.Numbers.{greatest_id}
use Rattle.idtext.specs.Names.{is_lawful_name}
use Rattle.ownership.specs.Potentials.{AscendsByNumber, IsZ}

pub record Row : Type 0 where
  pub name : List ℕ
  pub number : ℕ
  pub y : ℕ

-- one kind
pub record Side : Type 0 where
  pub rows : List Row
  pub z : List (ℕ × ℕ)

-- byte order
abbrev pub ComesBefore : List ℕ → List ℕ → Type 0
ComesBefore n m = slice_cmp nat_cmp n m ≡ Less

abbrev pub AreAscending : List Row → Type 0
AreAscending rows =
    (i j : ℕ) (d : Row) → i < j → j < length rows
    → ComesBefore (slice_index_or rows i d).name (slice_index_or rows j d).name

pub record IsRow (r : Row) : Type 0 where
  pub lawful : is_lawful_name r.name ≡ true
  pub number : r.number ≤ greatest_id
  pub y : r.y < 2 ^ 64

abbrev pub AreAllZ : List (ℕ × ℕ) → Type 0
AreAllZ z = All IsZ z

-- names ascend, numbers with a z ascend, and each z is at least 1
pub record IsSide (s : Side) : Type 0 where
  pub names_ascend : AreAscending s.rows
  pub numbers_ascend : AscendsByNumber s.z
  pub rows_lawful : All IsRow s.rows
  pub z_lawful : AreAllZ s.z
