-- Which differences are told, in other words.
-- Source: this project's own rule.
use Rattle.std.specs.Prelude.{◌≡◌, ◌≢◌, ◌↔◌, ℕ, List, [], ◌∷◌, ◌++◌, map, Option, Some, None}
use Rattle.std.specs.Prelude.{All, Contains, unwrap_or}
use Rattle.hosts_join.specs.Accounts.{Accounts}
use Rattle.hosts_join.specs.Kinds.{group_at}
use Rattle.hosts_join.specs.Site.{Joined}
use Rattle.hosts_join.specs.declared.Which.{Which}
use Rattle.hosts_join.specs.declared.Which.TheVariants.{User, Group}
use Rattle.hosts_join.specs.declared.host.Host.{Host}
use Rattle.mergedfiles.specs.declared.Difference.{Difference}
use Rattle.mergedfiles.specs.declared.Field.{Field}
use Rattle.mergedfiles.specs.declared.Field.TheVariants as field
use Rattle.mergedfiles.specs.Differences.{site_differences}
use Rattle.mergedfiles.specs.Rows.{UserRow, GroupRow, user_on, group_on}

-- Of all hosts that have a row, this is the first one, and that is a later one.
-- row_on: the row of a host, if it has one
pub record AreFirstAndLater {Row : Type 0} (row_on : Host → Option Row) (hosts : List Host)
    (this that : Host) : Type 0 where
  pub before : List Host
  pub between : List Host
  pub behind : List Host
  pub order : hosts ≡ before ++ this ∷ (between ++ that ∷ behind)
  pub none_before : All (λ host. row_on host ≡ None) before

-- a name of the accounts
abbrev pub IsNamed : Accounts → List ℕ → Type 0
IsNamed a name = Contains (map (λ x. x.name) a.names) name

-- the primary group of a user, by the name that its host gives the number; where it gives none, the
-- empty name
abbrev pub primary_group : UserRow → List ℕ
primary_group user = unwrap_or (group_at user.host.groups user.row.gid) []

-- The field is another in the later row than in the first, as it stands there, byte by byte.
abbrev pub IsAnother : Field → UserRow → UserRow → Type 0
IsAnother field.Password first later = later.row.password ≢ first.row.password
IsAnother field.Comment first later = later.row.comment ≢ first.row.comment
IsAnother field.Home first later = later.row.home ≢ first.row.home
IsAnother field.Shell first later = later.row.shell ≢ first.row.shell
IsAnother field.Group first later = primary_group later ≢ primary_group first

-- A user of the site has another field on a later host than on the first host that has the user.
pub record IsOfUser (hosts : List Host) (site : Joined) (d : Difference) : Type 0 where
  pub named : IsNamed site.users d.name
  pub first : UserRow
  pub later : UserRow
  pub first_row : user_on d.name first.host ≡ Some first
  pub later_row : user_on d.name later.host ≡ Some later
  pub order : AreFirstAndLater (user_on d.name) hosts first.host later.host
  pub differ : IsAnother d.field first later
  pub told : d.host ≡ later.host.name

-- A group of the site has another password on a later host than on the first host that has the
-- group.
pub record IsOfGroup (hosts : List Host) (site : Joined) (d : Difference) : Type 0 where
  pub named : IsNamed site.groups d.name
  pub first : GroupRow
  pub later : GroupRow
  pub first_row : group_on d.name first.host ≡ Some first
  pub later_row : group_on d.name later.host ≡ Some later
  pub order : AreFirstAndLater (group_on d.name) hosts first.host later.host
  pub differ : later.row.password ≢ first.row.password
  pub field : d.field ≡ field.Password
  pub told : d.host ≡ later.host.name

abbrev pub Differs : Which → List Host → Joined → Difference → Type 0
Differs User hosts site d = IsOfUser hosts site d
Differs Group hosts site d = IsOfGroup hosts site d

-- a difference is told exactly where the hosts differ so
abbrev pub DifferencesAreTold : Type 0
DifferencesAreTold =
    (hosts : List Host) (site : Joined) (d : Difference)
    → Contains (site_differences hosts site) d ↔ Differs d.kind hosts site d
