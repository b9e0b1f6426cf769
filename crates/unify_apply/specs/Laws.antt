-- What holds of the mounts that a text tells, and of what the command prints.
-- Source: proc(5), /proc/PID/mountinfo: words with a space between them, a line for each mount; and
-- getmntent(3): of a path the system writes space, tab, newline and backslash as a backslash and
-- three octal digits.
use Rattle.std.specs.Prelude.{◌≡◌, ◌≢◌, ◌↔◌, ◌⊎◌, ℕ, ℤ, ◌==◌, ◌<◌, ◌≤◌, ◌+◌, ◌^◌}
use Rattle.std.specs.Prelude.{◌||◌, ◌&&◌, Bool, true, false, not}
use Rattle.std.specs.Prelude.{List, [], ◌∷◌, ◌++◌, map, flat_map, filter_map, length, codes, All}
use Rattle.std.specs.Prelude.{drop, find, option_map, Option, Some, None, MatchOption, Contains}
use Rattle.std.specs.Prelude.{if◌then◌else◌}
use Rattle.std.specs.List.{join_with_byte, list_all, list_any}
use Rattle.std.specs.Str.{bytes_eq}
use Rattle.std.specs.Str.Parse.{digits_value}
use Rattle.idtext.specs.Escapes.{escape}
use Rattle.idtext.specs.Pieces.{lines}
use Rattle.idtext.specs.Words.{is_filled, is_white, words}
use Rattle.reown_files.specs.declared.counting.OwnerCounts.{OwnerCounts}
use Rattle.reown_files.specs.declared.answers.Trouble.TheVariants.{BadPath, NotText, OtherMount}
use Rattle.reown_files.specs.declared.answers.Trouble.TheVariants.{LinkedElsewhere, NotMark}
use Rattle.reown_files.specs.declared.answers.Trouble.TheVariants.{LinkedOtherwise, NotModes}
use Rattle.reown_files.specs.declared.answers.Trouble.TheVariants.{OtherPlan, Gone, Exchanged}
use Rattle.reown_files.specs.declared.answers.Trouble.TheVariants.{NotDone, NotDirectory, Busy}
use Rattle.reown_files.specs.declared.answers.Trouble.TheVariants.{NoProc, System, Foreign}
use Rattle.reown_files.specs.declared.answers.Trouble.TheVariants.{OfModes, OfRoot, TooManyModes}
use Rattle.reown_plan.specs.declared.plan.Owner.{Owner}
use Rattle.unify_apply.specs.Answers.{counts_text, done_text}
use Rattle.unify_apply.specs.Mounts.{MountText, path_from, path_in, is_in, is_under, mount_of}
use Rattle.unify_apply.specs.Mounts.{mounts_in, same_file_system, is_way, second_way}
use Rattle.unify_apply.specs.Mounts.{count_below, first_below}
use Rattle.unify_apply.specs.Told.{is_of_mark, mark_at, status_of}

-- ---- paths

abbrev pub is_escaped : ℕ → Bool
is_escaped b = b == 32 || b == 9 || b == 10 || b == 92

-- a path as the system writes it
abbrev pub system_path : List ℕ → List ℕ
system_path path = flat_map (λ b. if is_escaped b then escape b else b ∷ []) path

-- it is read back, without the slash that the root of all has
abbrev pub SystemPathIsReadBack : Type 0
SystemPathIsReadBack = (path : List ℕ) → path_in (system_path path) ≡ path_from path

-- a path is that of a directory, a slash, and what is below
abbrev pub IsBelow : List ℕ → List ℕ → Type 0
IsBelow directory path = (rest : List ℕ) × (path ≡ directory ++ (codes "/" ++ rest))

-- It is below the directory exactly where it is such a path, and in it exactly where it is such a
-- path or the directory's own.
pub record PathIsTold (directory path : List ℕ) : Type 0 where
  pub below : (is_under directory path ≡ true) ↔ IsBelow directory path
  pub within : (is_in directory path ≡ true) ↔ ((path ≡ directory) ⊎ IsBelow directory path)

abbrev pub PathsAreTold : Type 0
PathsAreTold = (directory path : List ℕ) → PathIsTold directory path

-- one slash at the end of a path is left out, and any other byte there stays
pub record SlashIsTaken : Type 0 where
  pub slash : (path : List ℕ) → path_from (path ++ codes "/") ≡ path
  pub other : (path : List ℕ) (b : ℕ) → b ≢ 47 → path_from (path ++ b ∷ []) ≡ path ++ b ∷ []
  pub none : path_from [] ≡ []

-- ---- the mounts below a directory

-- Of no mounts none is below it. One before others that is below it is the first, and is one more
-- to be counted; any other changes nothing.
pub record BelowIsTold (directory : List ℕ) (mount : MountText) (mounts : List MountText)
    : Type 0 where
  pub none : (count_below [] directory ≡ 0) × (first_below [] directory ≡ None)
  pub below : IsBelow directory mount.point
      → (count_below (mount ∷ mounts) directory ≡ count_below mounts directory + 1)
      × (first_below (mount ∷ mounts) directory ≡ Some mount)
  pub other : ¬ IsBelow directory mount.point
      → (count_below (mount ∷ mounts) directory ≡ count_below mounts directory)
      × (first_below (mount ∷ mounts) directory ≡ first_below mounts directory)

abbrev pub BelowAreTold : Type 0
BelowAreTold = (directory : List ℕ) (mount : MountText) (mounts : List MountText)
    → BelowIsTold directory mount mounts

-- ---- lines of words

-- a byte that is none between words or lines
abbrev pub is_inside : ℕ → Bool
is_inside b = not (is_white b) && not (b == 10)

abbrev pub is_word : List ℕ → Bool
is_word word = is_filled word && list_all is_inside word

abbrev pub line_of : List (List ℕ) → List ℕ
line_of words = join_with_byte 32 words ++ 10 ∷ []

-- ---- mounts

-- a line of the system for a mount; options are all words before `-`
pub record MountLine : Type 0 where
  pub number : List ℕ
  pub parent : List ℕ
  pub device : List ℕ
  pub root : List ℕ
  pub point : List ℕ
  pub options : List (List ℕ)
  pub kind : List ℕ
  pub more : List (List ℕ)

abbrev pub words_of : MountLine → List (List ℕ)
words_of line =
    line.number ∷ line.parent ∷ line.device ∷ line.root ∷ system_path line.point ∷ line.options
    ++ codes "-" ∷ line.kind ∷ line.more

-- its path is not empty, the others are words, and no option is `-`
abbrev pub is_lawful : MountLine → Bool
is_lawful line =
    is_filled line.point
    && list_all is_word (line.number ∷ line.parent ∷ line.device ∷ line.root ∷ line.options)
    && list_all is_word (line.kind ∷ line.more)
    && not (list_any (λ word. bytes_eq word (codes "-")) line.options)

abbrev pub mount_on : MountLine → MountText
mount_on line =
    record { device = line.device; point = path_from line.point; kind = line.kind }

abbrev pub MountsAreReadBack : Type 0
MountsAreReadBack = (mounts : List MountLine) → list_all is_lawful mounts ≡ true
    → mounts_in (flat_map (λ line. line_of (words_of line)) mounts) ≡ map mount_on mounts

-- ---- the mount that a directory is in

-- It is one of the mounts, the directory is in it, it is as near as any other that the directory
-- is in, and nearer than those after it.
pub record IsNearest (mounts : List MountText) (directory : List ℕ) (mount : MountText)
    : Type 0 where
  pub before : List MountText
  pub after : List MountText
  pub listed : mounts ≡ before ++ mount ∷ after
  pub holds : is_in mount.point directory ≡ true
  pub near : All (λ (other : MountText). is_in other.point directory ≡ true
      → length other.point ≤ length mount.point) before
  pub last : All (λ (other : MountText). is_in other.point directory ≡ true
      → length other.point < length mount.point) after

-- none is found only where the directory is in none
abbrev pub MountIsNearest : Type 0
MountIsNearest = (mounts : List MountText) (directory : List ℕ)
    → MatchOption (mount_of mounts directory)
    (All (λ (other : MountText). is_in other.point directory ≡ false) mounts)
    (IsNearest mounts directory)

-- ---- what is refused

-- look: the device number that is seen at a path, if any
-- Where no second way is found to the files with a device number below a directory, each mount
-- below it that is of the file system of the mount that it is in was looked at, and has another
-- number; and so has each below it, of whatever file system, where the mount that it is in is not
-- told.
abbrev pub NoSecondWay : Type 0
NoSecondWay = (text path : List ℕ) (device : ℕ) (look : List ℕ → Option ℕ)
    → second_way device (map (λ point. (point, look point)) (same_file_system text path)) ≡ None
    → MatchOption (mount_of (mounts_in text) (path_from path))
    (list_any (λ other. is_under (path_from path) other.point
    && is_way device (look other.point)) (mounts_in text) ≡ false)
    (λ mount. list_any (λ other. is_under (path_from path) other.point
    && bytes_eq other.device mount.device && is_way device (look other.point)) (mounts_in text)
    ≡ false)

-- It is the path of a mount that the text tells, and that is below the directory; the mount is a
-- second way to its files by what was seen there; and it is of the file system of the mount that
-- the directory is in, if one is told.
pub record IsOneSecondWay (text path : List ℕ) (device : ℕ) (look : List ℕ → Option ℕ)
    (point : List ℕ) : Type 0 where
  pub mount : MountText
  pub told : Contains (mounts_in text) mount
  pub at : mount.point ≡ point
  pub below : IsBelow (path_from path) point
  pub way : is_way device (look point) ≡ true
  pub same : (own : MountText) → mount_of (mounts_in text) (path_from path) ≡ Some own
      → mount.device ≡ own.device

-- where a second way is found, it is one
abbrev pub SecondWayIsThere : Type 0
SecondWayIsThere = (text path : List ℕ) (device : ℕ) (look : List ℕ → Option ℕ)
    (point : List ℕ)
    → second_way device (map (λ p. (p, look p)) (same_file_system text path)) ≡ Some point
    → IsOneSecondWay text path device look point

-- a mount is a second way exactly where no device number was seen there, or this one
abbrev pub WaysAreSeen : Type 0
WaysAreSeen = (device : ℕ) (seen : Option ℕ)
    → (is_way device seen ≡ true) ↔ ((seen ≡ None) ⊎ (seen ≡ Some device))

-- ---- the mark

-- a mark that is named is there, and any other beside its plan
pub record MarksStandBesidePlans : Type 0 where
  pub named : (path plan : List ℕ) → mark_at (Some path) plan ≡ path
  pub beside : (plan : List ℕ) → mark_at None plan ≡ plan ++ codes ".done"
  pub example : mark_at None (codes "site/plan.web") ≡ codes "site/plan.web.done"

-- A plan has a name of the mark's exactly where its path is one of four. In the example the last
-- four are other files.
pub record MarksTakeFourNames : Type 0 where
  pub taken : (mark plan : List ℕ) → is_of_mark mark plan ≡ true
      → (plan ≡ mark) ⊎ ((plan ≡ mark ++ codes ".new") ⊎ ((plan ≡ mark ++ codes ".modes")
      ⊎ (plan ≡ mark ++ codes ".modes.new")))
  pub same : (mark : List ℕ) → is_of_mark mark mark ≡ true
  pub new : (mark : List ℕ) → is_of_mark mark (mark ++ codes ".new") ≡ true
  pub modes : (mark : List ℕ) → is_of_mark mark (mark ++ codes ".modes") ≡ true
  pub new_modes : (mark : List ℕ) → is_of_mark mark (mark ++ codes ".modes.new") ≡ true
  pub example : map (is_of_mark (codes "a.done"))
      (codes "a.done" ∷ codes "a.done.new" ∷ codes "a.done.modes" ∷ codes "a.done.modes.new"
      ∷ codes "a" ∷ codes "a.new" ∷ codes "a.done.new.modes" ∷ codes "b.done.new" ∷ [])
      ≡ (true ∷ true ∷ true ∷ true ∷ false ∷ false ∷ false ∷ false ∷ [])

-- ---- statuses

-- Before anything was changed the status is 1 where what was found may not be changed by the plan,
-- or is of another one; and 3 where a call of the system failed, or found another file than before.
pub record StatusesAreTold : Type 0 where
  pub found : All (λ t. status_of t ≡ 1)
      (BadPath ∷ NotText ∷ OtherMount ∷ LinkedElsewhere ∷ LinkedOtherwise
      ∷ NotMark ∷ NotModes ∷ OtherPlan ∷ [])
  pub failed : All (λ t. status_of t ≡ 3)
      (Gone ∷ Exchanged ∷ NotDone ∷ NotDirectory ∷ Busy ∷ NoProc ∷ TooManyModes ∷ [])
  pub call : (number : ℤ) → status_of (System number) ≡ 3
  pub root : (number : ℤ) → status_of (OfRoot number) ≡ 3
  pub modes : (number : ℤ) → status_of (OfModes number) ≡ 3
  pub owner : (owner : Owner) → status_of (Foreign owner) ≡ 3

-- ---- what the command prints

-- a word and a number, as two words of a line tell them
abbrev pub row_of : List (List ℕ) → Option (List ℕ × ℕ)
row_of (word ∷ number ∷ []) = Some (word, digits_value 10 number)
row_of _ = None

abbrev pub rows_in : List ℕ → List (List ℕ × ℕ)
rows_in text = filter_map (λ line. row_of (words line)) (lines text)

-- the number that stands after a word, in the first line of these two that begins with it
abbrev pub number_told : List ℕ → List ℕ → Option ℕ
number_told word text =
    option_map (λ (row : List ℕ × ℕ). row.1) (find (λ row. bytes_eq row.0 word) (rows_in text))

-- each of seven words has its number after it, and there are seven lines; below: how many mounts
-- there are below the files
pub record TellsCounts (text : List ℕ) (counts : OwnerCounts) (below : ℕ) : Type 0 where
  pub before : number_told (codes "before") text ≡ Some counts.before
  pub after : number_told (codes "after") text ≡ Some counts.after
  pub missing : number_told (codes "missing") text ≡ Some counts.missing
  pub foreign : number_told (codes "foreign") text ≡ Some counts.foreign
  pub set_id : number_told (codes "set-id") text ≡ Some counts.set_id
  pub linked : number_told (codes "linked") text ≡ Some counts.linked
  pub mounts : number_told (codes "mounts") text ≡ Some below
  pub seven : length (lines text) ≡ 7

-- numbers that a machine of 64 bits counts to
pub record AreOf64Bits (counts : OwnerCounts) : Type 0 where
  pub before : counts.before < 2 ^ 64
  pub after : counts.after < 2 ^ 64
  pub missing : counts.missing < 2 ^ 64
  pub foreign : counts.foreign < 2 ^ 64
  pub set_id : counts.set_id < 2 ^ 64
  pub linked : counts.linked < 2 ^ 64

-- the counts that are printed are read back, each after its word
abbrev pub CountsAreReadBack : Type 0
CountsAreReadBack = (counts : OwnerCounts) (mounts : ℕ) → AreOf64Bits counts → mounts < 2 ^ 64
    → TellsCounts (counts_text counts mounts) counts mounts

-- after the row of the records stands the line `done`, and no other
abbrev pub DoneIsReadBack : Type 0
DoneIsReadBack = (records : ℕ) → records < 2 ^ 64
    → (rows_in (done_text records) ≡ (codes "records", records) ∷ [])
    × (drop 1 (lines (done_text records)) ≡ codes "done" ∷ [])
