-- The side that a mapping and its potentials give.
-- Source: this project's own rule.
use Rattle.std.specs.Prelude.{◌≡◌, ℕ, ◌<◌, ◌≤◌, ◌^◌, List, length, map}
use Rattle.std.specs.List.{All}
use Rattle.idtext.specs.Numbers.{greatest_id}
use Rattle.hosts_join.specs.Accounts.{Accounts}
use Rattle.hosts_join.specs.Order.{AreInByteOrder}
use Rattle.hosts_join.specs.Rules.{account, is_name}
use Rattle.ownership.specs.Mappings.{number_at}
use Rattle.ownership.specs.Potentials.{potential_at, AscendsByNumber}
use Rattle.certcheck.specs.Certificate.{Row, Side, AreAllZ}
use Rattle.certcheck.specs.Check.{is_listed, mapping_of, potentials_of}

-- what a solver gives for the names: a number that an account may have and a y for each of them,
-- and z that ascend
pub record IsSolutionFor (a : Accounts) (m y : List ℕ) (z : List (ℕ × ℕ)) : Type 0 where
  pub numbers : length m ≡ length a.names
  pub ids : All (λ v. v ≤ greatest_id) m
  pub ys : length y ≡ length a.names
  pub fits : All (λ n. n < 2 ^ 64) y
  pub z_ascends : AscendsByNumber z
  pub z_lawful : AreAllZ z

-- the row of the name at an index
abbrev pub row_at : Accounts → List ℕ → List ℕ → ℕ → Row
row_at a m y i = record {
  name = (account a i).name;
  number = number_at m i;
  y = potential_at y i;
}

-- the rows of all names, by the names in byte order
pub record AreRowsInOrder (a : Accounts) (m y : List ℕ) (rows : List Row) : Type 0 where
  pub order : List ℕ
  pub ordered : AreInByteOrder a.names order
  pub are : rows ≡ map (row_at a m y) order

-- exactly the site's names, each with its number and its y, and the z
pub record IsSideOf (a : Accounts) (m y : List ℕ) (values : List (ℕ × ℕ)) (side : Side) :
    Type 0 where
  pub names : (n : List ℕ) → is_name a.names n ≡ is_listed side.rows n
  pub mapping : mapping_of a side.rows ≡ m
  pub ys : potentials_of a side.rows ≡ y
  pub z : side.z ≡ values
