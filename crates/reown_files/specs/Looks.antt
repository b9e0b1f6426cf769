-- A file, as a look tells of it.
-- Sources: stat(2); inode(7) for the bits of a mode: 3072 is set-user-ID and set-group-ID.
use Rattle.std.specs.Prelude.{ℕ, ◌==◌, Bool, true, false, ◌&&◌, not, nat_lt, bit_and}
use Rattle.reown_files.specs.declared.answers.Seen.{Seen}
use Rattle.reown_files.specs.declared.walk.Found.{Found}
use Rattle.reown_files.specs.declared.walk.Kind.{Kind}
use Rattle.reown_files.specs.declared.walk.Kind.TheVariants.{Regular, Directory, Other}

abbrev pub is_regular : Kind → Bool
is_regular Regular = true
is_regular Directory = false
is_regular Other = false

abbrev pub is_directory : Kind → Bool
is_directory Regular = false
is_directory Directory = true
is_directory Other = false

abbrev pub is_other : Kind → Bool
is_other Regular = false
is_other Directory = false
is_other Other = true

-- a regular one with the set-user-ID or the set-group-ID bit
abbrev pub has_set_id : Found → Bool
has_set_id found = is_regular found.kind && not (bit_and found.mode 3072 == 0)

-- one that may have several names in a plan: those of a directory are in it and in what is below it
abbrev pub has_several_names : Found → Bool
has_several_names found = not (is_directory found.kind) && nat_lt 1 found.links

abbrev pub seen_of : Found → Seen
seen_of found =
    record {
      owner = found.owner;
      has_set_id = has_set_id found;
      has_several_names = has_several_names found;
    }

-- a file is known by its device and its number there
abbrev pub FileId : Type 0
FileId = ℕ × ℕ

abbrev pub is_file : FileId → Found → Bool
is_file id found = (found.device == id.0) && (found.inode == id.1)

abbrev pub id_of : Found → FileId
id_of found = (found.device, found.inode)
