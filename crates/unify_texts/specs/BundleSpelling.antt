-- How a bundle is spelled, apart from any reader.
-- Source: this project's own formats.
use Rattle.std.specs.Prelude.{◌≡◌, ℕ, ◌+◌, ◌<◌, List, [], ◌∷◌, ◌++◌, map, take, IsTrue, codes, Ok}
use Rattle.std.specs.Prelude.{Err}
use Rattle.std.specs.List.{flat_map, list_all, IsDistinct}
use Rattle.idtext.specs.Faults.{line_number}
use Rattle.idtext.specs.Pieces.{lines as lines_of}
use Rattle.unify_texts.specs.declared.bundle_line.FileName.{FileName}
use Rattle.unify_texts.specs.declared.bundle_line.Command.TheVariants.{Rehearse}
use Rattle.unify_texts.specs.declared.places.NamedFile.{NamedFile}
use Rattle.unify_texts.specs.declared.places.Place.{Place}
use Rattle.unify_texts.specs.declared.bundle.Bundle.{Bundle}
use Rattle.unify_texts.specs.declared.fault.Fault.{Fault}
use Rattle.unify_texts.specs.declared.fault.Fault.TheVariants.{BadBundle}
use Rattle.unify_texts.specs.BundleLines.{file_word, command_word, same_file}
use Rattle.unify_texts.specs.Bundles.{is_among, head_files, host_files, bundle_of}

-- things spelled one after another
abbrev pub InTurn : {X : Type 0} → (X → List (List ℕ) → Type 0) → List X → List (List ℕ) → Type 0
InTurn Spells [] lines = lines ≡ []
InTurn Spells (x ∷ xs) lines =
    (first : List (List ℕ)) × (rest : List (List ℕ)) × (lines ≡ first ++ rest) × Spells x first
    × InTurn Spells xs rest

-- A file: a line with its name, and then its lines, each after a bar. A newline ends each line of
-- its text.
pub record SpellsFile (named : NamedFile) (lines : List (List ℕ)) : Type 0 where
  pub contents : List (List ℕ)
  pub text : named.text ≡ flat_map (λ content. content ++ 10 ∷ []) contents
  pub spelled : lines ≡ (codes "file " ++ file_word named.file)
      ∷ map (λ content. 124 ∷ content) contents

-- the files of one place: each is one of those listed, and none stands there twice
pub record SpellsFiles (listed : List FileName) (files : List NamedFile) (lines : List (List ℕ)) :
    Type 0 where
  pub spelled : InTurn SpellsFile files lines
  pub allowed : IsTrue (list_all (λ named. is_among named.file listed) files)
  pub once : IsDistinct same_file (map (λ named. named.file) files)

-- a host: a line with its name, and then its files
pub record SpellsHost (host : Place) (lines : List (List ℕ)) : Type 0 where
  pub rest : List (List ℕ)
  pub spelled : lines ≡ (codes "host " ++ host.name) ∷ rest
  pub files : SpellsFiles host_files host.files rest

-- A bundle: the line of its command, the files of the command, and then the hosts, of which a
-- rehearsal has none. The first place holds the files of the command, and has no name.
pub record SpellsBundle (bundle : Bundle) (lines : List (List ℕ)) : Type 0 where
  pub head : List NamedFile
  pub hosts : List Place
  pub places : bundle.places ≡ record { name = []; files = head } ∷ hosts
  pub head_lines : List (List ℕ)
  pub host_lines : List (List ℕ)
  pub spelled : lines ≡ (codes "run " ++ command_word bundle.command) ∷ head_lines ++ host_lines
  pub files : SpellsFiles (head_files bundle.command) head head_lines
  pub each_host : InTurn SpellsHost hosts host_lines
  pub no_hosts : bundle.command ≡ Rehearse → hosts ≡ []

-- ---- laws

abbrev pub IsSpelling : List (List ℕ) → Type 0
IsSpelling lines = (bundle : Bundle) × SpellsBundle bundle lines

-- The first bad line has so many lines before it: these spell a bundle, if there are any, and with
-- it they spell none.
pub record IsFirstBad (lines : List (List ℕ)) (before : ℕ) : Type 0 where
  pub good : 0 < before → IsSpelling (take before lines)
  pub bad : ¬ IsSpelling (take (before + 1) lines)

-- what is read from a text is spelled by its lines
abbrev pub ReadsWhatIsSpelled : Type 0
ReadsWhatIsSpelled =
    (text : List ℕ) (bundle : Bundle) → bundle_of text ≡ Ok bundle
    → SpellsBundle bundle (lines_of text)

-- and what a text's lines spell is read from it
abbrev pub SpelledIsRead : Type 0
SpelledIsRead =
    (text : List ℕ) (bundle : Bundle) → SpellsBundle bundle (lines_of text)
    → bundle_of text ≡ Ok bundle

-- where they spell none, the first bad line is told
abbrev pub FirstBadIsTold : Type 0
FirstBadIsTold =
    (text : List ℕ) (fault : Fault) → bundle_of text ≡ Err fault → (before : ℕ)
    × (fault ≡ BadBundle (line_number before)) × IsFirstBad (lines_of text) before
