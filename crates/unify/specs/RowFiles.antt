-- How many files each row of a host's tables owns. A file whose number has no row counts for none.
-- Source: this project's own rule.
use Rattle.std.specs.Prelude.{ℕ, ◌==◌, List, map, count_by}
use Rattle.mtree_inv.specs.declared.entry.Entry.{Entry}
use Rattle.hosts_join.specs.declared.host.Host.{Host}

-- for each row of passwd and of group, in their order, how many files have its number
pub record RowFiles : Type 0 where
  pub users : List ℕ
  pub groups : List ℕ

-- how many files have the number
-- number: that of a file's user, or of its group
abbrev pub files_with : (Entry → ℕ) → ℕ → List Entry → ℕ
files_with number v files = count_by (λ e. number e == v) files

-- how many of the files the rows of the host own
abbrev pub row_files : Host → List Entry → RowFiles
row_files host files =
    record {
      users = map (λ r. files_with (λ e. e.uid) r.uid files) host.users;
      groups = map (λ r. files_with (λ e. e.gid) r.gid files) host.groups;
    }
