-- What the tables of pins stand for.
-- Words of the code and not of the subject: only private contracts, views and invariants cite them.
use Rattle.std.specs.Prelude.{◌≡◌, ◌≤◌, [], map}
use Rattle.idtext.specs.Numbers.{greatest_id}
use Rattle.hosts_join.specs.PinPairs.{PinPairs, ArePins, ArePinPairs}
use Rattle.hosts_join.specs.declared.pair_lines.PairLine.{PairLine}
use Rattle.hosts_join.specs.declared.pair_lines.PairLine.TheVariants.{Skipped, Wrong, Given}
use Rattle.hosts_join.specs.declared.pins.PinTable.{PinTable}
use Rattle.hosts_join.specs.declared.pins.Draft.{Draft}
use Rattle.hosts_join.specs.declared.pins.Pins.TheInside.{Inside}

abbrev pub pins_in : Inside → PinPairs
pins_in p = record {
  users = p.users;
  groups = p.groups;
  reserved_users = p.reserved_users.items;
  reserved_groups = p.reserved_groups.items;
}

abbrev pub ArePinsInside : Inside → Type 0
ArePinsInside p = ArePinPairs (pins_in p)

-- the pairs are pins, and the set has their numbers
pub record IsPinTable (t : PinTable) : Type 0 where
  pub numbers_are : t.numbers.keys ≡ map (λ p. p.number) t.pairs
  pub lawful : ArePins t.pairs

pub record IsDraft (d : Draft) : Type 0 where
  pub users_table : IsPinTable d.users
  pub groups_table : IsPinTable d.groups

abbrev pub drafted : Draft → PinPairs
drafted d = record {
  users = d.users.pairs;
  groups = d.groups.pairs;
  reserved_users = [];
  reserved_groups = [];
}

-- a number on a line may be that of an account
abbrev pub IsIdLine : PairLine → Type 0
IsIdLine (Given which name number) = number ≤ greatest_id
IsIdLine Skipped = Unit {0}
IsIdLine Wrong = Unit {0}
