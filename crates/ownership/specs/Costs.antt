-- What a mapping costs: the files, and the account rows, that it gives another number.
-- Source: the assignment problem (least cost); what is counted is this project's own rule.
use Rattle.std.specs.Prelude.{◌≡◌, ℕ, ◌+◌, ◌≤◌, Bool, false, not, ◌==◌, List, length, count_by}
use Rattle.std.specs.Prelude.{Option, Some, None}
use Rattle.hosts_join.specs.Accounts.{Accounts, owner}
use Rattle.hosts_join.specs.Rules.{account}
use Rattle.hosts_join.specs.Site.{Joined}
use Rattle.ownership.specs.Files.{File, Added, by_user, by_group}
use Rattle.ownership.specs.Mappings.{number_at, IsAdmissible, AreAdmissible}
use Rattle.ownership.specs.declared.mapping.Mappings.{Mappings}
use Rattle.ownership.specs.Sums.{sum_below}

-- a file with this number changes: the mapping gives its owner another number
abbrev pub changes : List ℕ → Option ℕ → ℕ → Bool
changes m None v = false
changes m (Some i) v = not (v == number_at m i)

-- the cost: how many files change
abbrev pub cost_of : Accounts → List File → List ℕ → ℕ
cost_of a files m = count_by (λ f. changes m (owner a.names f.host f.number) f.number) files

-- how many account rows change, over all hosts
abbrev pub changed_rows : Accounts → List ℕ → ℕ
changed_rows a m =
    sum_below (λ i. count_by (λ s. not (s.number == number_at m i)) (account a i).spots)
    (length a.names)

-- no admissible mapping costs less
abbrev pub IsLeast : Accounts → List File → List ℕ → Type 0
IsLeast a files m =
    (other : List ℕ) → IsAdmissible a other → cost_of a files m ≤ cost_of a files other

-- no admissible mapping of the same cost changes fewer account rows
abbrev pub ChangesFewestRows : Accounts → List File → List ℕ → Type 0
ChangesFewestRows a files m =
    (other : List ℕ) → IsAdmissible a other → cost_of a files other ≡ cost_of a files m
    → changed_rows a m ≤ changed_rows a other

pub record IsOptimal (a : Accounts) (files : List File) (m : List ℕ) : Type 0 where
  pub least : IsLeast a files m
  pub fewest_rows : ChangesFewestRows a files m

-- The cost for a whole site: the user fields and the group fields that change, over every file of
-- every host.
abbrev pub site_cost : Joined → List Added → Mappings → ℕ
site_cost site files m =
    cost_of site.users (by_user files) m.users + cost_of site.groups (by_group files) m.groups

-- no admissible pair of mappings costs less
pub record AreLeast (site : Joined) (files : List Added) (m : Mappings) : Type 0 where
  pub admissible : AreAdmissible site m
  pub least : (other : Mappings) → AreAdmissible site other
      → site_cost site files m ≤ site_cost site files other
