-- What a contract sees of rows that are lent.
-- Values that are lent, without the borrow: words of the code and not of the subject.
use Rattle.std.specs.Prelude.{ℕ, List, Option, map}
use Rattle.std.specs.Borrow.{Bor}
use Rattle.std.specs.Option.{option_map}
use Rattle.mergedfiles.specs.Rows.{UserRow, GroupRow}
use Rattle.mergedfiles.specs.declared.rows.GroupOn.{GroupOn}
use Rattle.mergedfiles.specs.declared.rows.UserOn.{UserOn}

abbrev pub user_seen : UserOn → UserRow
user_seen u = record { host = u.host.now; row = u.row.now }

abbrev pub user_told : Option UserOn → Option UserRow
user_told o = option_map user_seen o

abbrev pub group_seen : GroupOn → GroupRow
group_seen g = record { host = g.host.now; row = g.row.now }

abbrev pub group_told : Option GroupOn → Option GroupRow
group_told o = option_map group_seen o

abbrev pub texts_of : List (Bor (List ℕ)) → List (List ℕ)
texts_of ts = map (λ (t : Bor (List ℕ)). t.now) ts
