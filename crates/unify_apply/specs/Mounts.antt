-- The mounts that a process sees.
-- Source: proc(5), /proc/PID/mountinfo: a line for each mount, those mounted later after the
-- others. Of a line the third word is the number of the file system, the fifth the path that it is
-- mounted at, with escapes, and the first after the word `-`, before which some words may be left
-- out, what kind it is of.
use Rattle.std.specs.Prelude.{ℕ, ◌==◌, ◌||◌, ◌&&◌, Bool, true, false, List, [], ◌∷◌, map}
use Rattle.std.specs.Prelude.{Option, None, Some, option_map, codes, length, drop, Vec}
use Rattle.std.specs.Prelude.{nat_lt, slice_get, if◌then◌else◌, filter, filter_map, find, count_by}
use Rattle.std.specs.Option.{option_map_or}
use Rattle.std.specs.Str.{bytes_eq}
use Rattle.std.specs.declared.alloc.Global.{Global}
use Rattle.idtext.specs.Escapes.{characters}
use Rattle.idtext.specs.Pieces.{begins_with, lines}
use Rattle.idtext.specs.Words.{words}
use Rattle.idtext.specs.declared.escapes.Character.{Character}
use Rattle.idtext.specs.declared.escapes.Character.TheVariants.{Plain, Escape, Bad}
use Rattle.unify_apply.specs.Ends.{without_end}
use Rattle.unify_apply.specs.declared.mountinfo.Mount.{Mount}
use Rattle.unify_apply.specs.declared.mountinfo.MountWords.{MountWords}
use Rattle.unify_apply.specs.declared.mountinfo.Point.{Point}

-- a mount: its file system, where it is, and what kind of file system that is
pub record MountText : Type 0 where
  pub device : List ℕ
  pub point : List ℕ
  pub kind : List ℕ

-- ---- reading

-- the words that are looked at, without the line that they lie in
abbrev pub text_of : MountWords → MountText
text_of words =
    record { device = words.device.now; point = words.point.now; kind = words.kind.now }

-- the first word after `-`
abbrev pub kind_in : List (List ℕ) → Option (List ℕ)
kind_in [] = None
kind_in (word ∷ more) = if bytes_eq word (codes "-") then slice_get more 0 else kind_in more

abbrev pub mount_in : List (List ℕ) → Option MountText
mount_in (number ∷ parent ∷ device ∷ root ∷ point ∷ more) =
    option_map (λ kind. record { device = device; point = point; kind = kind }) (kind_in more)
mount_in _ = None

-- the byte that a character of a path stands for: a backslash that begins no escape is itself
abbrev pub path_byte : Character → ℕ
path_byte (Plain b) = b
path_byte (Escape b) = b
path_byte Bad = 92

-- paths have no slash at their end: that of the root of all is empty
abbrev pub path_from : List ℕ → List ℕ
path_from path = without_end (codes "/") path

-- the path that a word stands for
abbrev pub path_in : List ℕ → List ℕ
path_in word = map path_byte (characters (path_from word))

abbrev pub mount_told : List ℕ → Option MountText
mount_told line =
    option_map (λ (mount : MountText). record mount { point = path_in mount.point })
    (mount_in (words line))

-- the mounts that a text tells, in its order
abbrev pub mounts_in : List ℕ → List MountText
mounts_in text = filter_map mount_told (lines text)

abbrev pub mount_text : Mount → MountText
mount_text mount =
    record { device = mount.device.now; point = mount.point.items; kind = mount.kind.now }

abbrev pub mount_texts : List Mount → List MountText
mount_texts mounts = map mount_text mounts

-- ---- paths

-- what is at the front of a path after that of a directory: nothing, or a slash
abbrev pub is_rest : List ℕ → Bool
is_rest [] = true
is_rest (b ∷ more) = b == 47

-- a path is that of a directory, or of something below it
abbrev pub is_in : List ℕ → List ℕ → Bool
is_in directory path =
    begins_with directory path && is_rest (drop (length directory) path)

-- it is of something below it
abbrev pub is_under : List ℕ → List ℕ → Bool
is_under directory path = nat_lt (length directory) (length path) && is_in directory path

-- ---- the mount that a directory is in

-- a mount before others, of which the nearest is known: it is nearer if its path is longer
abbrev pub or_nearer : MountText → Option MountText → Option MountText
or_nearer mount None = Some mount
or_nearer mount (Some later) =
    if nat_lt (length later.point) (length mount.point) then Some mount else Some later

-- the nearest of mounts, and of those that are equally near the last
abbrev pub nearest : List MountText → Option MountText
nearest [] = None
nearest (mount ∷ later) = or_nearer mount (nearest later)

abbrev pub mount_of : List MountText → List ℕ → Option MountText
mount_of mounts directory = nearest (filter (λ mount. is_in mount.point directory) mounts)

-- ---- the mounts below a directory

abbrev pub first_below : List MountText → List ℕ → Option MountText
first_below mounts directory = find (λ mount. is_under directory mount.point) mounts

abbrev pub count_below : List MountText → List ℕ → ℕ
count_below mounts directory = count_by (λ mount. is_under directory mount.point) mounts

-- a mount may be of the file system with this number, and of one whose number is not known
abbrev pub may_be_of : Option (List ℕ) → List ℕ → Bool
may_be_of None number = true
may_be_of (Some device) number = bytes_eq number device

-- the paths of those that may be of this file system
abbrev pub same_below : List MountText → List ℕ → Option (List ℕ) → List (List ℕ)
same_below mounts directory device =
    map (λ (mount : MountText). mount.point)
    (filter (λ mount. is_under directory mount.point && may_be_of device mount.device) mounts)

abbrev pub path_items : List (Vec ℕ Global) → List (List ℕ)
path_items paths = map (λ path. path.items) paths

-- ---- what is asked before a plan is carried out

-- a sync of one file keeps all that was changed before
abbrev pub has_one_journal : List ℕ → Bool
has_one_journal kind =
    bytes_eq kind (codes "ext3") || bytes_eq kind (codes "ext4") || bytes_eq kind (codes "xfs")

-- whether the file system of a directory is of a kind with one journal
abbrev pub one_journal : List ℕ → List ℕ → Bool
one_journal text path =
    option_map_or (λ (mount : MountText). has_one_journal mount.kind)
    (mount_of (mounts_in text) (path_from path)) false

-- The paths of the mounts below a directory that are of its file system. A line is there only for
-- what can be reached from the root of the process, so that the mount of a root that is a directory
-- of it (chroot(2)) is not told: then these are all mounts below the directory.
abbrev pub same_file_system : List ℕ → List ℕ → List (List ℕ)
same_file_system text path =
    option_map_or
    (λ (mount : MountText). same_below (mounts_in text) (path_from path) (Some mount.device))
    (mount_of (mounts_in text) (path_from path)) (same_below (mounts_in text) (path_from path) None)

-- ---- a second way to the files of a directory

-- Source: stat(2). A file system may give its parts device numbers of their own, as btrfs does its
-- subvolumes. Which files are those of a directory goes by their device number, so a mount of its
-- file system is a way to them where the file at its path has that number, or cannot be looked at.

-- a path and the device number that was seen there, if any
abbrev pub point_seen : Point → List ℕ × Option ℕ
point_seen point = (point.path.items, point.device)

abbrev pub is_way : ℕ → Option ℕ → Bool
is_way device None = true
is_way device (Some seen) = seen == device

-- the path of the first of mounts that is such a way
abbrev pub second_way : ℕ → List (List ℕ × Option ℕ) → Option (List ℕ)
second_way device points =
    option_map (λ (point : List ℕ × Option ℕ). point.0)
    (find (λ (point : List ℕ × Option ℕ). is_way device point.1) points)
