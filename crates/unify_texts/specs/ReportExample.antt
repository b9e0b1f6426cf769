-- Reports by example, byte by byte.
-- Source: this project's own formats.
use Rattle.std.specs.Prelude.{◌≡◌, ℕ, List, [], ◌∷◌, ◌++◌, codes}
use Rattle.hosts_join.specs.Accounts.{Accounts}
use Rattle.hosts_join.specs.declared.Which.{Which}
use Rattle.hosts_join.specs.declared.Which.TheVariants.{User, Group}
use Rattle.hosts_join.specs.declared.reserving.Reserved.{Reserved}
use Rattle.hosts_join.specs.declared.reserving.Reserver.TheVariants as by
use Rattle.mergedfiles.specs.declared.Difference.{Difference}
use Rattle.mergedfiles.specs.declared.Field.{Field}
use Rattle.mergedfiles.specs.declared.Field.TheVariants as field
use Rattle.unify_texts.specs.declared.figures.Figures.{Figures}
use Rattle.unify_texts.specs.Report.{report_lines}

-- accounts of which a report tells what is reserved
abbrev pub reserving : List Reserved → Accounts
reserving reserved = record { hosts = []; names = []; pins = []; reserved = reserved }

abbrev pub user_figures : Figures
user_figures = record {
  names = 9;
  pinned = 2;
  kept = 4;
  fresh = 3;
  files = 60;
  changed_files = 25;
  rows = 18;
  changed_rows = 7;
}

abbrev pub group_figures : Figures
group_figures = record {
  names = 30;
  pinned = 5;
  kept = 14;
  fresh = 11;
  files = 58;
  changed_files = 0;
  rows = 41;
  changed_rows = 13;
}

-- a report with these figures, for three hosts
-- users, groups: what is reserved of each
abbrev pub report_with : List Reserved → List Reserved → List Difference → List ℕ
report_with users groups told =
    report_lines (record { users = reserving users; groups = reserving groups; hosts = 3 }) 3
    user_figures group_figures told

-- what stands between the first line and the reserved lines
abbrev pub figures_text : List ℕ
figures_text =
    codes "hosts 3\nusers 9 pinned 2 kept 4 fresh 3\ngroups 30 pinned 5 kept 14 fresh 11\n"
    ++ codes "user-fields 25 of 60\ngroup-fields 0 of 58\n"
    ++ codes "user-lines 7 of 18\ngroup-lines 13 of 41\n"

-- ---- nothing is reserved, and nothing differs

abbrev pub ExampleOfPlain : Type 0
ExampleOfPlain =
    report_with [] [] [] ≡ codes "unify report 2\n" ++ figures_text ++ codes "end\n"

-- ---- a range of users is reserved, and the number of a user that is kept

abbrev pub range : Reserved
range = record { numbers = record { low = 0; high = 99 }; by = by.Range }

-- the name has the number on the host
abbrev pub kept : Reserved
kept = record {
  numbers = record { low = 134; high = 134 };
  by = by.Name (codes "web") (codes "b c");
}

abbrev pub ExampleOfUsers : Type 0
ExampleOfUsers =
    report_with (range ∷ kept ∷ []) [] [] ≡ codes "unify report 3\n" ++ figures_text
    ++ codes "reserved user range 0 99\nreserved user name web b\\040c 134\nend\n"

-- ---- a number of a group is reserved, and each field differs

abbrev pub unowned : Reserved
unowned = record { numbers = record { low = 70; high = 70 }; by = by.Unowned (codes "db") }

-- a field of a name is another on the host
abbrev pub other : Which → List ℕ → Field → List ℕ → Difference
other kind name what host = record { kind = kind; name = name; field = what; host = host }

abbrev pub differing : List Difference
differing =
    other User (codes "ann") field.Password (codes "db")
    ∷ other User (codes "ann") field.Comment (codes "web")
    ∷ other User (codes "ann") field.Home (codes "db")
    ∷ other User (codes "ann") field.Shell (codes "web")
    ∷ other User (codes "b c") field.Group (codes "db")
    ∷ other Group (codes "adm") field.Password (codes "web") ∷ []

abbrev pub ExampleOfDiffering : Type 0
ExampleOfDiffering =
    report_with [] (unowned ∷ []) differing ≡ codes "unify report 3\n" ++ figures_text
    ++ codes "reserved group unowned db 70\n"
    ++ codes "differs user ann password db\ndiffers user ann comment web\n"
    ++ codes "differs user ann home db\ndiffers user ann shell web\n"
    ++ codes "differs user b\\040c group db\ndiffers group adm password web\nend\n"
