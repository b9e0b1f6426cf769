-- What it means that each account of a host owns as many files of two inventories.
-- Sources: passwd(5) and group(5) (a file's owner); what the second reading of an inventory is held
-- to is this project's own rule.
use Rattle.std.specs.Prelude.{◌≡◌, ◌↔◌, ◌==◌, List, count_by}
use Rattle.std.specs.List.{Contains}
use Rattle.accounts.specs.Rows.{Passwd, Group}
use Rattle.mtree_inv.specs.declared.entry.Entry.{Entry}
use Rattle.hosts_join.specs.declared.host.Host.{Host}
use Rattle.unify.specs.SecondPass.{HaveSameCounts}

-- As many of these files as of the others have the uid of a row of passwd, whichever it is, and the
-- gid of a row of group. A file whose number has no row may come or go.
pub record OwnAsMany (host : Host) (files others : List Entry) : Type 0 where
  pub users : (row : Passwd) → Contains host.users row
      → count_by (λ file. file.uid == row.uid) files ≡ count_by (λ file. file.uid == row.uid) others
  pub groups : (row : Group) → Contains host.groups row
      → count_by (λ file. file.gid == row.gid) files ≡ count_by (λ file. file.gid == row.gid) others

abbrev pub SameCountsAreByAccount : Type 0
SameCountsAreByAccount = (host : Host) (files others : List Entry)
    → HaveSameCounts host files others ↔ OwnAsMany host files others
