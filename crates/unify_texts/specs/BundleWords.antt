-- The words of bundles, letter by letter, which files stand where, and which are told apart.
-- Source: this project's own formats.
use Rattle.std.specs.Prelude.{◌≡◌, ◌↔◌, ◌++◌, [], ◌∷◌, ℕ, true, List, codes, map}
use Rattle.unify_texts.specs.declared.bundle_line.Command.TheVariants.{Count, Merge, MergeHosts}
use Rattle.unify_texts.specs.declared.bundle_line.Command.TheVariants.{Check, Rehearse}
use Rattle.unify_texts.specs.declared.bundle_line.FileName.{FileName}
use Rattle.unify_texts.specs.declared.bundle_line.FileName.TheVariants as file
use Rattle.unify_texts.specs.declared.bundle_line.BundleLine.TheVariants.{Run, File, Host, Content}
use Rattle.unify_texts.specs.BundleLines.{bundle_line_of, file_word, same_file}
use Rattle.unify_texts.specs.Bundles.{head_files, host_files}

-- what each line says: the command, a file by its name, a host by its name, and a line of a file
-- after a bar
pub record WordsAreRead : Type 0 where
  pub count : bundle_line_of (codes "run count") ≡ Run Count
  pub merge : bundle_line_of (codes "run merge") ≡ Run Merge
  pub merge_hosts : bundle_line_of (codes "run merge hosts") ≡ Run MergeHosts
  pub check : bundle_line_of (codes "run check") ≡ Run Check
  pub rehearse : bundle_line_of (codes "run rehearse") ≡ Run Rehearse
  pub map : bundle_line_of (codes "file map") ≡ File file.Map
  pub certificate : bundle_line_of (codes "file certificate") ≡ File file.Certificate
  pub plan : bundle_line_of (codes "file plan") ≡ File file.Plan
  pub pins : bundle_line_of (codes "file pins") ≡ File file.Pins
  pub keep : bundle_line_of (codes "file keep") ≡ File file.Keep
  pub mtree : bundle_line_of (codes "file mtree") ≡ File file.Mtree
  pub passwd : bundle_line_of (codes "file passwd") ≡ File file.Passwd
  pub group : bundle_line_of (codes "file group") ≡ File file.Group
  pub login_defs : bundle_line_of (codes "file login.defs") ≡ File file.LoginDefs
  pub host : (name : List ℕ) → bundle_line_of (codes "host " ++ name) ≡ Host name
  pub content : (line : List ℕ) → bundle_line_of (124 ∷ line) ≡ Content line

-- which files may stand before the first host, by the command, and which with a host
pub record FilesHaveTheirPlaces : Type 0 where
  pub count : map file_word (head_files Count) ≡ codes "map" ∷ codes "keep" ∷ []
  pub merge : map file_word (head_files Merge) ≡ codes "pins" ∷ codes "keep" ∷ []
  pub merge_hosts : map file_word (head_files MergeHosts) ≡ codes "pins" ∷ codes "keep" ∷ []
  pub check : map file_word (head_files Check)
      ≡ codes "certificate" ∷ codes "pins" ∷ codes "keep" ∷ []
  pub rehearse : map file_word (head_files Rehearse) ≡ codes "plan" ∷ codes "mtree" ∷ []
  pub host : map file_word host_files
      ≡ codes "passwd" ∷ codes "group" ∷ codes "login.defs" ∷ codes "mtree" ∷ []

-- where a bundle asks whether two files are the same, no file is taken for another
abbrev pub FilesAreToldApart : Type 0
FilesAreToldApart = (a b : FileName) → (same_file a b ≡ true) ↔ (a ≡ b)
