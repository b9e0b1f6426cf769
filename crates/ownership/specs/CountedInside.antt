-- What the counters of a site stand for, and what they stand for while files are added.
-- Words of the code and not of the subject: only private contracts, views and invariants cite them.
use Rattle.ownership.specs.Counts.{Counted}
use Rattle.ownership.specs.Within.{IsWithin}
use Rattle.ownership.specs.declared.Counts.TheInside.{Inside}
use Rattle.ownership.specs.declared.counting.Counting.TheInside as counting

abbrev pub counted_of : Inside → Counted
counted_of c = record {
  users = c.users;
  groups = c.groups;
  user_files = c.user_files;
  group_files = c.group_files;
}

abbrev pub IsCounted : Inside → Type 0
IsCounted c = IsWithin (counted_of c)

abbrev pub counted_so_far : counting.Inside → Counted
counted_so_far c = record {
  users = c.users;
  groups = c.groups;
  user_files = c.user_files;
  group_files = c.group_files;
}

abbrev pub IsCounting : counting.Inside → Type 0
IsCounting c = IsWithin (counted_so_far c)
