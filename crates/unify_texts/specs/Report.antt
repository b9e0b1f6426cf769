-- The report.
-- Source: this project's own formats.
use Rattle.std.specs.Prelude.{ℕ, List, [], ◌∷◌, ◌++◌, length, flat_map, codes, decimal}
use Rattle.hosts_join.specs.Site.{Joined}
use Rattle.hosts_join.specs.declared.host.Host.{Host}
use Rattle.hosts_join.specs.declared.reserving.Reserved.{Reserved}
use Rattle.mergedfiles.specs.Differences.{site_differences}
use Rattle.mergedfiles.specs.declared.Difference.{Difference}
use Rattle.mergedfiles.specs.declared.Field.{Field}
use Rattle.mergedfiles.specs.declared.Field.TheVariants as field
use Rattle.ownership.specs.Files.{Added, by_user, by_group}
use Rattle.ownership.specs.declared.mapping.Mappings.{Mappings}
use Rattle.unify_texts.specs.Figures.{figures_of}
use Rattle.unify_texts.specs.ReservedLines.{reserved_lines}
use Rattle.unify_texts.specs.Words.{line, shown, which_word}
use Rattle.unify_texts.specs.declared.figures.Figures.{Figures}

-- `users N pinned P kept K fresh F`, and so for groups
abbrev pub names_line : List ℕ → Figures → List ℕ
names_line kinds f =
    line kinds (decimal f.names ∷ codes "pinned" ∷ decimal f.pinned ∷ codes "kept" ∷ decimal f.kept
    ∷ codes "fresh" ∷ decimal f.fresh ∷ [])

-- how many of all change
abbrev pub change_line : List ℕ → ℕ → ℕ → List ℕ
change_line what changed all = line what (decimal changed ∷ codes "of" ∷ decimal all ∷ [])

abbrev pub field_word : Field → List ℕ
field_word field.Password = codes "password"
field_word field.Comment = codes "comment"
field_word field.Home = codes "home"
field_word field.Shell = codes "shell"
field_word field.Group = codes "group"

-- `differs KIND NAME FIELD HOST`
abbrev pub difference_line : Difference → List ℕ
difference_line d =
    line (codes "differs")
    (which_word d.kind ∷ shown d.name ∷ field_word d.field ∷ shown d.host ∷ [])

-- the version of a report: whether there are lines of what is reserved of users or of groups
abbrev pub report_version : List Reserved → List Reserved → List ℕ
report_version [] [] = codes "2"
report_version (r ∷ users) groups = codes "3"
report_version [] (r ∷ groups) = codes "3"

-- the report of a site with these figures and differences
abbrev pub report_lines : Joined → ℕ → Figures → Figures → List Difference → List ℕ
report_lines site hosts users groups told =
    line (codes "unify")
    (codes "report" ∷ report_version site.users.reserved site.groups.reserved ∷ [])
    ++ line (codes "hosts") (decimal hosts ∷ [])
    ++ names_line (codes "users") users
    ++ names_line (codes "groups") groups
    ++ change_line (codes "user-fields") users.changed_files users.files
    ++ change_line (codes "group-fields") groups.changed_files groups.files
    ++ change_line (codes "user-lines") users.changed_rows users.rows
    ++ change_line (codes "group-lines") groups.changed_rows groups.rows
    ++ reserved_lines site
    ++ flat_map difference_line told
    ++ line (codes "end") []

-- the report of mappings, for the files of all hosts
abbrev pub report_of : List Host → Joined → List Added → Mappings → List ℕ
report_of hosts site files m =
    report_lines site (length hosts) (figures_of site.users (by_user files) m.users)
    (figures_of site.groups (by_group files) m.groups) (site_differences hosts site)
