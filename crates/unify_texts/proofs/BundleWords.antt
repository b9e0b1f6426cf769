-- The words of bundles, letter by letter, and that no file is taken for another.
use Rattle.std.proofs.Common.{◌≡◌, ℕ, zero, suc, refl, sym, ap, ◌∙◌}
use Rattle.std.proofs.lemmas.Bool.{eq-eqb, eqb-true}
use Rattle.unify_texts.specs.declared.bundle_line.FileName.{FileName}
use Rattle.unify_texts.specs.declared.bundle_line.FileName.TheVariants as file
use Rattle.unify_texts.specs.BundleLines.{bundle_line_of, file_index}
use Rattle.unify_texts.specs.BundleWords.{FilesAreToldApart, FilesHaveTheirPlaces, WordsAreRead}

pub words_are_read : WordsAreRead
unfolding bundle_line_of
words_are_read = record {
  count = refl;
  merge = refl;
  merge_hosts = refl;
  check = refl;
  rehearse = refl;
  map = refl;
  certificate = refl;
  plan = refl;
  pins = refl;
  keep = refl;
  mtree = refl;
  passwd = refl;
  group = refl;
  login_defs = refl;
  host = λ name. refl;
  content = λ line. refl;
}

pub files_have_their_places : FilesHaveTheirPlaces
files_have_their_places = record {
  count = refl;
  merge = refl;
  merge_hosts = refl;
  check = refl;
  rehearse = refl;
  host = refl;
}

-- the file of an index
abbrev file_at : ℕ → FileName
file_at zero = file.Map
file_at (suc zero) = file.Certificate
file_at (suc (suc zero)) = file.Plan
file_at (suc (suc (suc zero))) = file.Pins
file_at (suc (suc (suc (suc zero)))) = file.Keep
file_at (suc (suc (suc (suc (suc zero))))) = file.Mtree
file_at (suc (suc (suc (suc (suc (suc zero)))))) = file.Passwd
file_at (suc (suc (suc (suc (suc (suc (suc zero))))))) = file.Group
file_at (suc (suc (suc (suc (suc (suc (suc (suc n)))))))) = file.LoginDefs

at_index : (file : FileName) → file_at (file_index file) ≡ file
at_index file.Map = refl
at_index file.Certificate = refl
at_index file.Plan = refl
at_index file.Pins = refl
at_index file.Keep = refl
at_index file.Mtree = refl
at_index file.Passwd = refl
at_index file.Group = refl
at_index file.LoginDefs = refl

pub files_are_told_apart : FilesAreToldApart
files_are_told_apart a b = (
  λ same. sym (at_index a) ∙ ap file_at (eqb-true (file_index a) (file_index b) same) ∙ at_index b,
  λ is. eq-eqb (file_index a) (file_index b) (ap file_index is),
)
