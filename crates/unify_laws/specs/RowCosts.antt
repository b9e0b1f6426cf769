-- How many account rows a map changes, by each host's own tables.
-- Source: passwd(5) and group(5) (a row has a name and a number); what is counted is this project's
-- own rule.
use Rattle.std.specs.Prelude.{◌≡◌, ◌≤◌, ℕ, List, Some, sum_by}
use Rattle.hosts_join.specs.Accounts.{Pair}
use Rattle.hosts_join.specs.declared.host.Host.{Host}
use Rattle.ownership.specs.Costs.{changed_rows}
use Rattle.ownership.specs.declared.mapping.Mappings.{Mappings}
use Rattle.certcheck.specs.declared.certificate.Certificate.{Certificate}
use Rattle.unify_texts.specs.declared.map_text.MapText.{MapText}
use Rattle.unify_texts.specs.WrittenMap.{SayMapping}
use Rattle.unify.specs.Cost.{changed, cost_of}
use Rattle.unify.specs.Outcomes.{AreAnswered, hosts_in}
use Rattle.unify.specs.Reading.{WholeSite}
use Rattle.unify.specs.Whole.{IsWhole}
use Rattle.unify_laws.specs.Headline.{HaveOneNumberEach}

-- the rows of the hosts' passwd whose uid the pairs change
abbrev pub users_rows_changed : List Pair → List Host → ℕ
users_rows_changed pairs hosts =
    sum_by (λ host. sum_by (λ row. changed pairs (Some row.name) row.uid) host.users) hosts

-- the rows of the hosts' group whose gid they change
abbrev pub groups_rows_changed : List Pair → List Host → ℕ
groups_rows_changed pairs hosts =
    sum_by (λ host. sum_by (λ row. changed pairs (Some row.name) row.gid) host.groups) hosts

-- the account rows that mappings change are those of the hosts' tables that the map changes
abbrev pub ChangedRowsAgree : Type 0
ChangedRowsAgree =
    (site : WholeSite) (m : Mappings) (printed : MapText) → IsWhole site
    → SayMapping site.joined.users m.users printed.users
    → SayMapping site.joined.groups m.groups printed.groups
    → (changed_rows site.joined.users m.users ≡ users_rows_changed printed.users (hosts_in site))
    × (changed_rows site.joined.groups m.groups
    ≡ groups_rows_changed printed.groups (hosts_in site))

-- of two maps, where they rewrite as many fields of a kind, the first changes no more rows of it
pub record ChangesNoMoreRows (site : WholeSite) (one other : MapText) : Type 0 where
  pub users : (cost_of other site.hosts).users ≡ (cost_of one site.hosts).users
      → users_rows_changed one.users (hosts_in site)
      ≤ users_rows_changed other.users (hosts_in site)
  pub groups : (cost_of other site.hosts).groups ≡ (cost_of one site.hosts).groups
      → groups_rows_changed one.groups (hosts_in site)
      ≤ groups_rows_changed other.groups (hosts_in site)

-- so it is of the map that a merge answers, and of any other that gives each name one number
abbrev pub NoMapChangesFewerRows : Type 0
NoMapChangesFewerRows =
    (site : WholeSite) (m : Mappings) (c : Certificate) (given : MapText) → IsWhole site
    → AreAnswered site m c → HaveOneNumberEach site.joined.users m.users given.users
    → HaveOneNumberEach site.joined.groups m.groups given.groups
    → (other : MapText) (n : Mappings) → HaveOneNumberEach site.joined.users n.users other.users
    → HaveOneNumberEach site.joined.groups n.groups other.groups
    → ChangesNoMoreRows site given other
