-- Whether files have the names of their owners still, by new account files.
-- Sources: passwd(5) and group(5) (a number's name is that of its row); chown(2) (a file has a uid
-- and a gid, and no name).
-- That a number without a name has to stay as it is, is this project's own rule.
use Rattle.std.specs.Prelude.{ℕ, Bool, true, false, not, ◌==◌, ◌||◌, ◌++◌, List, Option, Some, None}
use Rattle.std.specs.Prelude.{option_map, filter_map, is_none, if◌then◌else◌}
use Rattle.std.specs.Str.{bytes_eq}
use Rattle.hosts_join.specs.Kinds.{user_at, group_at}
use Rattle.mtree_inv.specs.declared.entry.Entry.{Entry}
use Rattle.mtree_inv.specs.Inventory.{file_at}
use Rattle.kept_names.specs.declared.names.Accounts.{Accounts}
use Rattle.kept_names.specs.declared.names.Renumbering.{Renumbering}
use Rattle.kept_names.specs.declared.finding.What.{What}
use Rattle.kept_names.specs.declared.finding.What.TheVariants.{Missing, Changed, New, Unnamed, Left}

-- a file, and what is found of it
pub record Found : Type 0 where
  pub file : Entry
  pub what : What

abbrev pub told_of : Entry → Option What → Option Found
told_of file what = option_map (λ w. record { file = file; what = w }) what

-- Whether an owner has the name that it had. One without a name has its number still, and no name.
abbrev pub agree : Option (List ℕ) → Option (List ℕ) → ℕ → ℕ → Bool
agree (Some was) (Some now) old new = bytes_eq was now
agree None None old new = old == new
agree (Some was) None old new = false
agree None (Some now) old new = false

abbrev pub users_agree : Renumbering → Entry → Entry → Bool
users_agree renumbering file there =
    agree (user_at renumbering.before.users file.uid)
    (user_at renumbering.after.users there.uid) file.uid there.uid

abbrev pub groups_agree : Renumbering → Entry → Entry → Bool
groups_agree renumbering file there =
    agree (group_at renumbering.before.groups file.gid)
    (group_at renumbering.after.groups there.gid) file.gid there.gid

-- the new number of an owner that no longer has the name that it had
abbrev pub changed_to : Bool → ℕ → Option ℕ
changed_to agree new = if agree then None else Some new

abbrev pub change_by : Bool → Bool → Entry → Option What
change_by true true there = None
change_by true false there = Some (Changed None (Some there.gid))
change_by false true there = Some (Changed (Some there.uid) None)
change_by false false there = Some (Changed (Some there.uid) (Some there.gid))

-- what is found of a file of the first inventory, which is `there` in the second
abbrev pub change : Renumbering → Entry → Entry → Option What
change renumbering file there =
    change_by (users_agree renumbering file there) (groups_agree renumbering file there) there

abbrev pub change_at : Renumbering → Entry → Option Entry → Option What
change_at renumbering file None = Some Missing
change_at renumbering file (Some there) = change renumbering file there

-- what is found of a file of the first inventory: that the second does not have it, or has it with
-- other names
abbrev pub loss_of : Renumbering → List Entry → Entry → Option What
loss_of renumbering after file = change_at renumbering file (file_at after file.path)

abbrev pub loss : Renumbering → List Entry → Entry → Option Found
loss renumbering after file = told_of file (loss_of renumbering after file)

-- of a file of the second inventory: that the first does not have it
abbrev pub new_of : List Entry → Entry → Option What
new_of before file = if is_none (file_at before file.path) then Some New else None

abbrev pub new_file : List Entry → Entry → Option Found
new_file before file = told_of file (new_of before file)

-- of a file of the second inventory: that a number of its has no name
abbrev pub unnamed_by : Bool → Bool → Option What
unnamed_by user group = if user || group then Some (Unnamed user group) else None

abbrev pub unnamed_of : Accounts → Entry → Option What
unnamed_of accounts file =
    unnamed_by (is_none (user_at accounts.users file.uid))
    (is_none (group_at accounts.groups file.gid))

abbrev pub unnamed : Accounts → Entry → Option Found
unnamed accounts file = told_of file (unnamed_of accounts file)

-- Whether a number that belonged to a name no longer does.
abbrev pub is_left : Option (List ℕ) → Option (List ℕ) → Bool
is_left None now = false
is_left (Some was) None = true
is_left (Some was) (Some now) = not (bytes_eq was now)

-- of a file of the second inventory that the first does not have: that it has such a number
abbrev pub left_by : Bool → Bool → Option Entry → Option What
left_by user group earlier =
    if user || group then (if is_none earlier then Some (Left user group) else None) else None

abbrev pub left_of : Renumbering → List Entry → Entry → Option What
left_of renumbering before file =
    left_by
    (is_left (user_at renumbering.before.users file.uid)
    (user_at renumbering.after.users file.uid))
    (is_left (group_at renumbering.before.groups file.gid)
    (group_at renumbering.after.groups file.gid))
    (file_at before file.path)

abbrev pub left_file : Renumbering → List Entry → Entry → Option Found
left_file renumbering before file = told_of file (left_of renumbering before file)

-- what is found of the files of two inventories, each made under its account files
unfoldable pub findings : Renumbering → List Entry → List Entry → List Found
findings renumbering before after =
    filter_map (loss renumbering after) before ++ filter_map (new_file before) after
    ++ filter_map (unnamed renumbering.after) after
    ++ filter_map (left_file renumbering before) after
