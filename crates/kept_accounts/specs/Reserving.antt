-- The numbers that no name is to be given, and who keeps them from it.
-- Source: this project's own rule.
use Rattle.std.specs.Prelude.{ℕ, Bool, List, [], ◌++◌, map, filter, flat_map, if◌then◌else◌}
use Rattle.logindefs.specs.declared.ranges.IdRange.{IdRange}
use Rattle.hosts_join.specs.declared.host.Host.{Host}
use Rattle.hosts_join.specs.declared.reserving.Reserved.{Reserved}
use Rattle.hosts_join.specs.declared.reserving.Reserver.TheVariants as by
use Rattle.hosts_join.specs.Kinds.{user_rows, group_rows}
use Rattle.keep_text.specs.declared.keep_text.Kept.{Kept}
use Rattle.keep_text.specs.declared.keep_text.KeepText.{KeepText}
use Rattle.kept_accounts.specs.Keeping.{is_kept_user, is_kept_group}
use Rattle.kept_accounts.specs.declared.reserving.UnownedNumber.{UnownedNumber}

-- the numbers of both kinds that files have, and no account of their host
pub record UnownedNumbers : Type 0 where
  pub users : List UnownedNumber
  pub groups : List UnownedNumber

abbrev pub no_numbers : UnownedNumbers
no_numbers = record { users = []; groups = [] }

-- that number alone
abbrev pub only : ℕ → IdRange
only number = record { low = number; high = number }

abbrev pub by_range : IdRange → Reserved
by_range range = record { numbers = range; by = by.Range }

-- a row is a name with its number on the host
abbrev pub by_name : Host → List ℕ × ℕ → Reserved
by_name host row = record { numbers = only row.1; by = by.Name host.name row.0 }

abbrev pub by_files : UnownedNumber → Reserved
by_files unowned = record { numbers = only unowned.number; by = by.Unowned unowned.host }

-- kept: whether a name is kept; listed: the rows of a host
module _ (kept : List ℕ → Bool) (listed : Host → List (List ℕ × ℕ)) where
  -- those of the kept names of a host, in the order of its rows
  abbrev pub reserved_on : Host → List Reserved
  reserved_on host = map (by_name host) (filter (λ row. kept row.0) (listed host))

  -- The listed ranges in the order of their lines; then the numbers of kept names, host by host;
  -- and, where numbers without an account stay, those that some files have.
  abbrev pub reserved_by : Kept → List Host → List UnownedNumber → List Reserved
  reserved_by keep hosts unowned =
      map by_range keep.ranges ++ flat_map reserved_on hosts
      ++ (if keep.unowned then map by_files unowned else [])

abbrev pub reserved_users : KeepText → List Host → List UnownedNumber → List Reserved
reserved_users keep hosts unowned =
    reserved_by (is_kept_user keep hosts) (λ host. user_rows host.users) keep.users hosts
    unowned

abbrev pub reserved_groups : KeepText → List Host → List UnownedNumber → List Reserved
reserved_groups keep hosts unowned =
    reserved_by (is_kept_group keep hosts) (λ host. group_rows host.groups) keep.groups hosts
    unowned
