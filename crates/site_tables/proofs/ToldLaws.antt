-- The words by which the faults of a site's texts are told.
use Rattle.std.proofs.Common.{◌≡◌, [], ◌∷◌, ◌++◌, refl, ap}
use Rattle.std.specs.Fmt.{digits}
use Rattle.std.specs.Prelude.{codes, decimal}
use Rattle.idtext.specs.Codes.{code_number, code_title}
use Rattle.idtext.specs.declared.faults.TextCode.{TextCode}
use Rattle.idtext.specs.declared.faults.TextCode.TheVariants as code
use Rattle.hosts_join.specs.declared.fault.PinsFault.{PinsFault}
use Rattle.hosts_join.specs.declared.fault.PinsFault.TheVariants as pins
use Rattle.hosts_join.specs.declared.fault.SiteFault.{SiteFault}
use Rattle.hosts_join.specs.declared.fault.SiteFault.TheVariants as site
use Rattle.keep_text.specs.declared.keep_text.KeepFault.{KeepFault}
use Rattle.keep_text.specs.declared.keep_text.KeepFault.TheVariants as keep
use Rattle.unify_texts.specs.BundleLines.{file_word}
use Rattle.unify_texts.specs.Faults.{number_word, words_of}
use Rattle.unify_texts.specs.Words.{shown}
use Rattle.site_tables.specs.Told.{keep_fault_told, pins_fault_told, site_told}
use Rattle.site_tables.specs.ToldLaws.{TextsTellTheirFaults, keep_words, pins_words, site_words}

has_number : (c : TextCode) → number_word (code_number c) ≡ decimal (code_number c) ∷ []
has_number code.BadFields = refl
has_number code.BadName = refl
has_number code.BadNumber = refl
has_number code.CompatLine = refl
has_number code.NameTwice = refl
has_number code.SharedNumber = refl
has_number code.TooManyLines = refl
has_number code.LineTooLong = refl
has_number code.RangesOverlap = refl
has_number code.BadCommand = refl
has_number code.NoUid = refl
has_number code.NoGid = refl
has_number code.DotDotAbove = refl
has_number code.BadPath = refl
has_number code.OwnersDiffer = refl
has_number code.TooManyEntries = refl
has_number code.CutContinuation = refl
has_number code.CutInventory = refl

site_is : (f : SiteFault) → words_of (site_told f) ≡ site_words f
unfolding digits
site_is (site.BadHostName name) = refl
site_is (site.HostTwice name) = refl
site_is (site.HostCount n) = refl
site_is (site.NoPrimaryGroup host user) = refl
site_is (site.PinDisagrees kind name first second) = refl
site_is (site.PinReserved kind number name by) = refl
site_is (site.PinClash kind number first second) = refl
site_is (site.PoolTooSmall kind class names numbers) = refl
site_is site.Memory = refl

pins_is : (f : PinsFault) → words_of (pins_fault_told f) ≡ pins_words f
unfolding digits
pins_is (pins.BadPins line) = refl
pins_is pins.Memory = refl

keep_is : (f : KeepFault) → words_of (keep_fault_told f) ≡ keep_words f
unfolding digits
keep_is (keep.BadKeep line) = refl
keep_is keep.Memory = refl

pub texts_tell_their_faults : TextsTellTheirFaults
texts_tell_their_faults = record {
  files = λ host name. record { given = λ x. refl; told = λ f. ap (λ number. number ++ code_title f.code ∷ codes "host" ∷ shown host ∷ file_word name ∷ codes "line" ∷ decimal f.line ∷ []) (has_number f.code) };
  checks_of_hosts = record { given = λ x. refl; told = site_is };
  joins = record { given = λ x. refl; told = site_is };
  pins_texts = record { given = λ x. refl; told = pins_is };
  keep_texts = record { given = λ x. refl; told = keep_is };
}
