-- The pins: names with the numbers that they are to have, and numbers that no name is to be given.
-- Source: this project's own rule.
use Rattle.std.specs.Prelude.{◌≤◌, List, [], map}
use Rattle.std.specs.List.{All}
use Rattle.idtext.specs.Numbers.{greatest_id}
use Rattle.accounts.specs.Laws.{AreDistinct}
use Rattle.hosts_join.specs.Accounts.{Pair}
use Rattle.hosts_join.specs.declared.reserving.Reserved.{Reserved}

-- the pins of both kinds, in the order of their lines, and what is reserved of each kind
pub record PinPairs : Type 0 where
  pub users : List Pair
  pub groups : List Pair
  pub reserved_users : List Reserved
  pub reserved_groups : List Reserved

-- no pins, and nothing reserved
abbrev pub no_pins : PinPairs
no_pins = record { users = []; groups = []; reserved_users = []; reserved_groups = [] }

-- Each name has one pin, each number is one name's, and an account may have the number: 4294967295
-- is no id, as it tells chown(2) to leave an owner as it is.
pub record ArePins (pairs : List Pair) : Type 0 where
  pub names_differ : AreDistinct (map (λ p. p.name) pairs)
  pub numbers_differ : AreDistinct (map (λ p. p.number) pairs)
  pub ids : All (λ p. p.number ≤ greatest_id) pairs

pub record ArePinPairs (pins : PinPairs) : Type 0 where
  pub user_pins : ArePins pins.users
  pub group_pins : ArePins pins.groups
