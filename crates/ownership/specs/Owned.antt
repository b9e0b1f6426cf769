-- Files that have a user and a group.
-- Source: this project's own rule.
use Rattle.std.specs.Prelude.{◌≡◌, ℕ, true, List, All, length, is_some}
use Rattle.hosts_join.specs.Accounts.{owner}
use Rattle.hosts_join.specs.Site.{Joined}
use Rattle.ownership.specs.Files.{Added, by_group, by_user, owned_files}

-- a uid and a gid are those of a user and a group on the host, by the accounts over all hosts
pub record HaveOwners (site : Joined) (host uid gid : ℕ) : Type 0 where
  pub user : is_some (owner site.users.names host uid) ≡ true
  pub group : is_some (owner site.groups.names host gid) ≡ true

-- Where each file has both, the files with a user are all files, and so are those with a group.
abbrev pub OwnedFilesAreAll : Type 0
OwnedFilesAreAll =
    (site : Joined) (files : List Added) → All (λ f. HaveOwners site f.host f.uid f.gid) files
    → (owned_files site.users.names (by_user files) ≡ length files)
    × (owned_files site.groups.names (by_group files) ≡ length files)
