-- Account files that are refused, by example: one for each code, and which of several faults is
-- told.
-- Sources: passwd(5) and group(5), DESCRIPTION; the checks, their order and the texts are this
-- project's own.
use Rattle.std.specs.Prelude.{◌≡◌, ℕ, List, [], ◌∷◌, ◌++◌, codes}
use Rattle.idtext.specs.declared.faults.TextCode.{TextCode}
use Rattle.idtext.specs.declared.faults.TextCode.TheVariants.{CompatLine, BadFields, BadName}
use Rattle.idtext.specs.declared.faults.TextCode.TheVariants.{BadNumber, NameTwice, SharedNumber}
use Rattle.idtext.specs.Faults.{refused}
use Rattle.accounts.specs.Tables.{passwd_table, group_table}

-- a line with its newline
abbrev ended : List ℕ → List ℕ
ended line = line ++ 10 ∷ []

-- the text is refused with this fault
abbrev PasswdTells : List ℕ → ℕ → TextCode → Type 0
PasswdTells text line code = passwd_table text ≡ refused line code

abbrev GroupTells : List ℕ → ℕ → TextCode → Type 0
GroupTells text line code = group_table text ≡ refused line code

-- ann is the second line, after a comment
abbrev after_ann : List ℕ → List ℕ
after_ann line = ended (codes "# people") ++ ended (codes "ann:x:7:100:::") ++ line

abbrev after_staff : List ℕ → List ℕ
after_staff line = ended [] ++ ended (codes "staff:x:100:") ++ line

-- Each code, told of the third line: in each line nothing before the told part is wrong, and all
-- after it that can be is: the name or the number is ann's.
pub record EachIsTold : Type 0 where
  pub compat : PasswdTells (after_ann (codes "+ann:x:7")) 3 CompatLine
  pub compat_minus : PasswdTells (after_ann (codes "-")) 3 CompatLine
  pub six_fields : PasswdTells (after_ann (codes ":x:7:z::")) 3 BadFields
  pub eight_fields : PasswdTells (after_ann (codes "ann:x:7:100::::")) 3 BadFields
  pub name : PasswdTells (after_ann (codes ":x:z:z:::")) 3 BadName
  pub uid : PasswdTells (after_ann (codes "ann:x:z:100:::")) 3 BadNumber
  pub gid : PasswdTells (after_ann (codes "ann:x:7:z:::")) 3 BadNumber
  pub great_uid : PasswdTells (after_ann (codes "ben:x:4294967295:100:::")) 3 BadNumber
  pub name_twice : PasswdTells (after_ann (codes "ann:x:7:100:::")) 3 NameTwice
  pub name_alone : PasswdTells (after_ann (codes "ann:x:8:100:::")) 3 NameTwice
  pub uid_shared : PasswdTells (after_ann (codes "ben:x:07:100:::")) 3 SharedNumber

-- the same of groups
pub record EachOfGroupIsTold : Type 0 where
  pub compat : GroupTells (after_staff (codes "+staff:x")) 3 CompatLine
  pub compat_minus : GroupTells (after_staff (codes "-")) 3 CompatLine
  pub three_fields : GroupTells (after_staff (codes ":x:100")) 3 BadFields
  pub five_fields : GroupTells (after_staff (codes "staff:x:100::")) 3 BadFields
  pub name : GroupTells (after_staff (codes ":x:z:")) 3 BadName
  pub gid : GroupTells (after_staff (codes "staff:x:z:")) 3 BadNumber
  pub great_gid : GroupTells (after_staff (codes "wheel:x:4294967295:")) 3 BadNumber
  pub name_twice : GroupTells (after_staff (codes "staff:x:100:")) 3 NameTwice
  pub name_alone : GroupTells (after_staff (codes "staff:x:200:")) 3 NameTwice
  pub gid_shared : GroupTells (after_staff (codes "wheel:x:0100:")) 3 SharedNumber

-- Of two bad lines the first is told: also where the second breaks a check that is made before.
pub record FirstLineIsTold : Type 0 where
  pub passwd : PasswdTells (after_ann (ended (codes "ben:x:7:100:::") ++ codes "+")) 3 SharedNumber
  pub group : GroupTells (after_staff (ended (codes "wheel:x:100:") ++ codes "+")) 3 SharedNumber
