-- Some name is kept on some host exactly where it reserves its number there.
-- Source: this project's own formats.
use Rattle.std.specs.Prelude.{◌≡◌, ◌⊎◌, ℕ, List, true}
use Rattle.std.specs.List.{Contains}
use Rattle.hosts_join.specs.Site.{Joined}
use Rattle.hosts_join.specs.declared.reserving.Reserved.{Reserved}
use Rattle.hosts_join.specs.declared.reserving.Reserver.TheVariants as by
use Rattle.logindefs.specs.declared.ranges.IdRange.{IdRange}
use Rattle.unify_texts.specs.ReservedLines.{keeps_a_name}

-- a name that is kept on a host reserves numbers
pub record HasKeptName (reserved : List Reserved) : Type 0 where
  pub host : List ℕ
  pub name : List ℕ
  pub numbers : IdRange
  pub there : Contains reserved (record { numbers = numbers; by = by.Name host name })

-- a user's, or a group's
abbrev pub KeepsSome : Joined → Type 0
KeepsSome site = HasKeptName site.users.reserved ⊎ HasKeptName site.groups.reserved

abbrev pub KeptNamesAreSeen : Type 0
KeptNamesAreSeen =
    (site : Joined) → (keeps_a_name site ≡ true → KeepsSome site)
    × (KeepsSome site → keeps_a_name site ≡ true)
