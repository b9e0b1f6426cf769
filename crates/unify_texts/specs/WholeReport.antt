-- What differs and what is reserved, read from the lines of a whole report.
-- Source: this project's own formats.
use Rattle.std.specs.Prelude.{◌≡◌, ℕ, ◌<◌, ◌^◌, List, [], ◌∷◌, map, filter, length, codes, All}
use Rattle.std.specs.Prelude.{Option, Some, None, if◌then◌else◌, bytes_eq}
use Rattle.idtext.specs.Escapes.{unescaped}
use Rattle.idtext.specs.Pieces.{lines as lines_of}
use Rattle.idtext.specs.Words.{words}
use Rattle.hosts_join.specs.Accounts.{Account}
use Rattle.hosts_join.specs.Site.{Joined}
use Rattle.hosts_join.specs.declared.Which.{Which}
use Rattle.hosts_join.specs.declared.Which.TheVariants.{User, Group}
use Rattle.hosts_join.specs.declared.host.Host.{Host}
use Rattle.mergedfiles.specs.Differences.{site_differences}
use Rattle.mergedfiles.specs.declared.Difference.{Difference}
use Rattle.mergedfiles.specs.declared.Field.{Field}
use Rattle.mergedfiles.specs.declared.Field.TheVariants as field
use Rattle.ownership.specs.Files.{Added, by_user, by_group}
use Rattle.ownership.specs.declared.mapping.Mappings.{Mappings}
use Rattle.unify_texts.specs.Report.{report_of}
use Rattle.unify_texts.specs.ReportBack.{AreCountable, begins_so}
use Rattle.unify_texts.specs.ReservedBack.{IsShown, IsTellable, all_reserved, told_by}

-- ---- reading

-- the lines of a text that begin with a word, each as its words
abbrev pub lines_with : List ℕ → List ℕ → List (List (List ℕ))
lines_with first text = filter (begins_so first) (map words (lines_of text))

abbrev pub kind_said : List ℕ → Option Which
kind_said word =
    if bytes_eq word (codes "user") then Some User
    else if bytes_eq word (codes "group") then Some Group else None

abbrev pub field_said : List ℕ → Option Field
field_said word =
    if bytes_eq word (codes "password") then Some field.Password
    else if bytes_eq word (codes "comment") then Some field.Comment
    else if bytes_eq word (codes "home") then Some field.Home
    else if bytes_eq word (codes "shell") then Some field.Shell
    else if bytes_eq word (codes "group") then Some field.Group else None

-- the name and the host by their bytes
abbrev pub differing_in : Option Which → List ℕ → Option Field → List ℕ → Option Difference
differing_in (Some kind) name (Some what) host =
    Some (record { kind = kind; name = unescaped name; field = what; host = unescaped host })
differing_in kind name what host = None

-- `differs KIND NAME FIELD HOST`
abbrev pub difference_said : List (List ℕ) → Option Difference
difference_said (first ∷ kind ∷ name ∷ what ∷ host ∷ []) =
    differing_in (kind_said kind) name (field_said what) host
difference_said other = None

-- ---- the law

-- What differs and what is reserved is told, in order, and nothing else is: each line that begins
-- with `differs` is read as the next difference, and each that begins with `reserved` as what is
-- reserved next.
pub record TellsAll (text : List ℕ) (hosts : List Host) (site : Joined) : Type 0 where
  pub differing : map difference_said (lines_with (codes "differs") text)
      ≡ map (λ d. Some d) (site_differences hosts site)
  pub reserved : map told_by (lines_with (codes "reserved") text)
      ≡ map (λ told. Some told) (all_reserved site)

-- names of hosts, users and groups, and what is reserved, such as lines can tell
pub record AreTellable (hosts : List Host) (site : Joined) : Type 0 where
  pub named_hosts : All (λ (host : Host). IsShown host.name) hosts
  pub users : All (λ (user : Account). IsShown user.name) site.users.names
  pub groups : All (λ (group : Account). IsShown group.name) site.groups.names
  pub reserved_users : All IsTellable site.users.reserved
  pub reserved_groups : All IsTellable site.groups.reserved

abbrev pub ReportsTellAll : Type 0
ReportsTellAll =
    (hosts : List Host) (site : Joined) (files : List Added) (m : Mappings)
    → length hosts < 2 ^ 64 → AreCountable site.users (by_user files)
    → AreCountable site.groups (by_group files) → AreTellable hosts site
    → TellsAll (report_of hosts site files m) hosts site
