-- What the reader of bundles keeps of the lines so far.
-- Words of the code and not of the subject: only private contracts, views and invariants cite them.
use Rattle.std.specs.Prelude.{ℕ, Bool, true, false, not, ◌&&◌, List, [], ◌∷◌, ◌++◌, Option, Some}
use Rattle.std.specs.Prelude.{None, is_some, if◌then◌else◌, option_to_list}
use Rattle.std.specs.List.{list_any}
use Rattle.unify_texts.specs.declared.bundle_line.Command.{Command}
use Rattle.unify_texts.specs.declared.bundle_line.FileName.{FileName}
use Rattle.unify_texts.specs.declared.bundle_line.BundleLine.{BundleLine}
use Rattle.unify_texts.specs.declared.bundle_line.BundleLine.TheVariants.{Run, File, Host, Content}
use Rattle.unify_texts.specs.declared.bundle_line.BundleLine.TheVariants.{Wrong}
use Rattle.unify_texts.specs.declared.places.NamedFile.{NamedFile}
use Rattle.unify_texts.specs.declared.places.Place.{Place}
use Rattle.unify_texts.specs.declared.bundle.Draft.{Draft}
use Rattle.unify_texts.specs.declared.bundle.Bundle.{Bundle}
use Rattle.unify_texts.specs.BundleLines.{same_file}
use Rattle.unify_texts.specs.Bundles.{is_among, head_files, host_files, is_rehearsal}

abbrev pub has_file : List NamedFile → FileName → Bool
has_file files file = list_any (λ named. same_file file named.file) files

abbrev pub is_listed : Command → Bool → FileName → Bool
is_listed command in_head file = is_among file (if in_head then head_files command else host_files)

-- the place begun last, with the file begun last
abbrev pub closed : Draft → Place
closed d = record { name = d.place.name; files = d.place.files ++ option_to_list d.opened }

-- what the draft says if no line follows
abbrev pub bundle_so_far : Draft → Bundle
bundle_so_far d = record { command = d.command; places = d.done ++ closed d ∷ [] }

-- whether the draft takes a line
abbrev pub takes : Draft → BundleLine → Bool
takes d (Run command) = false
takes d (File file) = is_listed d.command d.in_head file && not (has_file (closed d).files file)
takes d (Host name) = not (is_rehearsal d.command)
takes d (Content bytes) = is_some d.opened
takes d Wrong = false

abbrev pub with_content : Option NamedFile → List ℕ → Option NamedFile
with_content None bytes = None
with_content (Some named) bytes =
    Some (record { file = named.file; text = named.text ++ (bytes ++ 10 ∷ []) })

-- the draft with one more line
abbrev pub with_line : Draft → BundleLine → Draft
with_line d (Run command) = d
with_line d (File file) =
    record {
      command = d.command;
      done = d.done;
      place = closed d;
      opened = Some (record { file = file; text = [] });
      in_head = d.in_head;
    }
with_line d (Host name) =
    record {
      command = d.command;
      done = d.done ++ closed d ∷ [];
      place = record { name = name; files = [] };
      opened = None;
      in_head = false;
    }
with_line d (Content bytes) =
    record {
      command = d.command;
      done = d.done;
      place = d.place;
      opened = with_content d.opened bytes;
      in_head = d.in_head;
    }
with_line d Wrong = d

-- the draft of the first line alone
abbrev pub start_of : Command → Draft
start_of command =
    record {
      command = command;
      done = [];
      place = record { name = []; files = [] };
      opened = None;
      in_head = true;
    }
