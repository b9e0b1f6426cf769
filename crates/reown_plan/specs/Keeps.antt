-- Names that files keep.
-- Source: this project's own rule.
use Rattle.std.specs.Prelude.{◌≡◌, ℕ, Some, List}
use Rattle.hosts_join.specs.Accounts.{Accounts, owner}
use Rattle.hosts_join.specs.Site.{Joined}
use Rattle.mtree_inv.specs.declared.entry.Entry.{Entry}
use Rattle.ownership.specs.Mappings.{number_at}
use Rattle.ownership.specs.declared.mapping.Mappings.{Mappings}
use Rattle.reown_plan.specs.declared.plan.Owner.{Owner}

-- the new number is that of the name, under the mapping, that had the old number on the host
abbrev pub KeepsName : Accounts → List ℕ → ℕ → ℕ → ℕ → Type 0
KeepsName a m host old new = (i : ℕ) → owner a.names host old ≡ Some i → new ≡ number_at m i

-- a file with the new owner has, under the mappings, the user name and the group name that it had
pub record KeepsNames (site : Joined) (m : Mappings) (host : ℕ) (file : Entry) (new : Owner)
    : Type 0 where
  pub user : KeepsName site.users m.users host file.uid new.uid
  pub group : KeepsName site.groups m.groups host file.gid new.gid
