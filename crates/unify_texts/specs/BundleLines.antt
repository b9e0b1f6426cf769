-- The lines of a bundle.
-- Source: this project's own formats.
use Rattle.std.specs.Prelude.{ℕ, Bool, List, ◌==◌, drop, if◌then◌else◌, bytes_eq, codes}
use Rattle.idtext.specs.Pieces.{begins_with}
use Rattle.unify_texts.specs.declared.bundle_line.Command.{Command}
use Rattle.unify_texts.specs.declared.bundle_line.Command.TheVariants.{Count, Merge, MergeHosts}
use Rattle.unify_texts.specs.declared.bundle_line.Command.TheVariants.{Check, Rehearse}
use Rattle.unify_texts.specs.declared.bundle_line.FileName.{FileName}
use Rattle.unify_texts.specs.declared.bundle_line.FileName.TheVariants as file
use Rattle.unify_texts.specs.declared.bundle_line.BundleLine.{BundleLine}
use Rattle.unify_texts.specs.declared.bundle_line.BundleLine.TheVariants.{Run, File, Host, Content}
use Rattle.unify_texts.specs.declared.bundle_line.BundleLine.TheVariants.{Wrong}

-- the words of the files, in bundles and in fault lines
abbrev pub file_word : FileName → List ℕ
file_word file.Map = codes "map"
file_word file.Certificate = codes "certificate"
file_word file.Plan = codes "plan"
file_word file.Pins = codes "pins"
file_word file.Keep = codes "keep"
file_word file.Mtree = codes "mtree"
file_word file.Passwd = codes "passwd"
file_word file.Group = codes "group"
file_word file.LoginDefs = codes "login.defs"

abbrev pub command_word : Command → List ℕ
command_word Count = codes "count"
command_word Merge = codes "merge"
command_word MergeHosts = codes "merge hosts"
command_word Check = codes "check"
command_word Rehearse = codes "rehearse"

abbrev pub file_index : FileName → ℕ
file_index file.Map = 0
file_index file.Certificate = 1
file_index file.Plan = 2
file_index file.Pins = 3
file_index file.Keep = 4
file_index file.Mtree = 5
file_index file.Passwd = 6
file_index file.Group = 7
file_index file.LoginDefs = 8

abbrev pub same_file : FileName → FileName → Bool
same_file a b = file_index a == file_index b

-- ---- what a line says

abbrev pub file_named : List ℕ → BundleLine
file_named name =
    if bytes_eq name (codes "map") then File file.Map
    else if bytes_eq name (codes "certificate") then File file.Certificate
    else if bytes_eq name (codes "plan") then File file.Plan
    else if bytes_eq name (codes "pins") then File file.Pins
    else if bytes_eq name (codes "keep") then File file.Keep
    else if bytes_eq name (codes "mtree") then File file.Mtree
    else if bytes_eq name (codes "passwd") then File file.Passwd
    else if bytes_eq name (codes "group") then File file.Group
    else if bytes_eq name (codes "login.defs") then File file.LoginDefs
    else Wrong

unfoldable pub bundle_line_of : List ℕ → BundleLine
bundle_line_of line =
    if begins_with (codes "|") line then Content (drop 1 line)
    else if begins_with (codes "file ") line then file_named (drop 5 line)
    else if begins_with (codes "host ") line then Host (drop 5 line)
    else if bytes_eq line (codes "run count") then Run Count
    else if bytes_eq line (codes "run merge") then Run Merge
    else if bytes_eq line (codes "run merge hosts") then Run MergeHosts
    else if bytes_eq line (codes "run check") then Run Check
    else if bytes_eq line (codes "run rehearse") then Run Rehearse
    else Wrong
