-- The words by which the faults of a site's texts are told, each with its own number.
-- Source: this project's own formats.
use Rattle.std.specs.Prelude.{◌≡◌, ℕ, List, [], ◌∷◌, codes, decimal, Result, Ok, Err, unwrap_or}
use Rattle.idtext.specs.Codes.{code_number, code_title}
use Rattle.idtext.specs.declared.faults.TextFault.{TextFault}
use Rattle.mtree_inv.specs.declared.entry.Entry.{Entry}
use Rattle.hosts_join.specs.PinPairs.{PinPairs}
use Rattle.hosts_join.specs.Site.{Joined}
use Rattle.hosts_join.specs.declared.fault.PinsFault.{PinsFault}
use Rattle.hosts_join.specs.declared.fault.PinsFault.TheVariants as pins
use Rattle.hosts_join.specs.declared.fault.SiteFault.{SiteFault}
use Rattle.hosts_join.specs.declared.fault.SiteFault.TheVariants as site
use Rattle.keep_text.specs.declared.keep_text.KeepFault.{KeepFault}
use Rattle.keep_text.specs.declared.keep_text.KeepFault.TheVariants as keep
use Rattle.keep_text.specs.declared.keep_text.KeepText.{KeepText}
use Rattle.unify_texts.specs.BundleLines.{file_word}
use Rattle.unify_texts.specs.Faults.{class_word, place_shown, reserver_words, words_of}
use Rattle.unify_texts.specs.Words.{shown, which_word}
use Rattle.unify_texts.specs.declared.bundle_line.FileName.{FileName}
use Rattle.unify_texts.specs.declared.fault.Fault.{Fault}
use Rattle.unify_texts.specs.Told.{in_file}
use Rattle.site_tables.specs.Told.{in_keep, in_pins, in_site}

-- want of memory has no number
abbrev pub memory_words : List (List ℕ)
memory_words = codes "memory" ∷ []

-- why hosts cannot be joined
-- second: of a name that is pinned to two numbers, the host of the second
abbrev pub site_words : SiteFault → List (List ℕ)
site_words (site.BadHostName name) = codes "18" ∷ codes "BadHostName" ∷ shown name ∷ []
site_words (site.HostTwice name) = codes "19" ∷ codes "HostTwice" ∷ shown name ∷ []
site_words (site.HostCount n) = codes "20" ∷ codes "HostCount" ∷ decimal n ∷ []
site_words (site.NoPrimaryGroup host user) =
    codes "21" ∷ codes "NoPrimaryGroup" ∷ codes "host" ∷ shown host ∷ codes "user" ∷ shown user ∷ []
site_words (site.PinDisagrees kind name first second) =
    codes "22" ∷ codes "PinDisagrees" ∷ which_word kind ∷ shown name ∷ place_shown first
    ∷ shown (unwrap_or second []) ∷ []
site_words (site.PinReserved kind number name r) =
    codes "47" ∷ codes "PinReserved" ∷ which_word kind ∷ decimal number ∷ shown name
    ∷ reserver_words r.numbers r.by
site_words (site.PinClash kind number first second) =
    codes "23" ∷ codes "PinClash" ∷ which_word kind ∷ decimal number ∷ shown first ∷ shown second
    ∷ []
site_words (site.PoolTooSmall kind class names numbers) =
    codes "24" ∷ codes "PoolTooSmall" ∷ which_word kind ∷ class_word class ∷ decimal names
    ∷ decimal numbers ∷ []
site_words site.Memory = memory_words

-- the line of a text that may not stand there
abbrev pub line_words : List ℕ → List ℕ → ℕ → List (List ℕ)
line_words number title line = number ∷ title ∷ codes "line" ∷ decimal line ∷ []

abbrev pub pins_words : PinsFault → List (List ℕ)
pins_words (pins.BadPins line) = line_words (codes "43") (codes "BadPins") line
pins_words pins.Memory = memory_words

abbrev pub keep_words : KeepFault → List (List ℕ)
keep_words (keep.BadKeep line) = line_words (codes "46") (codes "BadKeep") line
keep_words keep.Memory = memory_words

-- a line of a file of a host
abbrev pub file_words : List ℕ → FileName → TextFault → List (List ℕ)
file_words host name f =
    decimal (code_number f.code) ∷ code_title f.code ∷ codes "host" ∷ shown host ∷ file_word name
    ∷ codes "line" ∷ decimal f.line ∷ []

-- a fault is told, by these words
abbrev pub IsToldIn : {X : Type 0} → Result X Fault → List (List ℕ) → Type 0
IsToldIn (Ok x) words = ⊥
IsToldIn (Err f) words = words_of f ≡ words

-- what a part gives goes on, and each fault of it is told by its words
-- in_part: what becomes of what the part gives
pub record TellsItsFaults {X F : Type 0} (in_part : Result X F → Result X Fault)
    (words : F → List (List ℕ)) : Type 0 where
  pub given : (x : X) → in_part (Ok x) ≡ Ok x
  pub told : (f : F) → IsToldIn (in_part (Err f)) (words f)

-- so it is of each text, of the host list, of the primary groups and of the join
pub record TextsTellTheirFaults : Type 0 where
  pub files : (host : List ℕ) (name : FileName)
      → TellsItsFaults {X = List Entry} (in_file host name) (file_words host name)
  pub checks_of_hosts : TellsItsFaults {X = Unit {0}} in_site site_words
  pub joins : TellsItsFaults {X = Joined} in_site site_words
  pub pins_texts : TellsItsFaults {X = PinPairs} in_pins pins_words
  pub keep_texts : TellsItsFaults {X = KeepText} in_keep keep_words
