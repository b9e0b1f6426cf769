-- Laws of certificates and their texts.
-- Source: this project's own format.
use Rattle.std.specs.Prelude.{◌≡◌, ℕ, ◌+◌, ◌==◌, List, [], ◌∷◌, ◌++◌, take}
use Rattle.std.specs.Prelude.{if◌then◌else◌, Ok, Err}
use Rattle.std.specs.List.{onto_first}
use Rattle.idtext.specs.Faults.{line_number}
use Rattle.certcheck.specs.Certificate.{IsSide}
use Rattle.certcheck.specs.declared.certificate.Certificate.{Certificate}
use Rattle.certcheck.specs.Reading.{certificate_in}
use Rattle.certcheck.specs.Spelling.{spelling}

-- a certificate whose sides keep their orders
pub record IsCertificate (c : Certificate) : Type 0 where
  pub users : IsSide c.users
  pub groups : IsSide c.groups

-- what is read from a text is spelled by it
abbrev pub ReadsWhatIsSpelled : Type 0
ReadsWhatIsSpelled =
    (text : List ℕ) (c : Certificate) → certificate_in text ≡ Ok c → IsCertificate c
    × (text ≡ spelling c)

-- and what is spelled is read
abbrev pub SpelledIsRead : Type 0
SpelledIsRead = (c : Certificate) → IsCertificate c → certificate_in (spelling c) ≡ Ok c

-- no certificate begins another
abbrev pub NoneBeginsAnother : Type 0
NoneBeginsAnother =
    (one other : Certificate) (rest : List ℕ) → IsCertificate one → IsCertificate other
    → spelling other ≡ spelling one ++ rest → (one ≡ other) × (rest ≡ [])

-- ---- the first bad line

-- the lines of a text, each with the newline that ends it, which only the last may lack
-- (split_inclusive of the Rust library)
abbrev pub lines_with_newlines : List ℕ → List (List ℕ)
lines_with_newlines [] = []
lines_with_newlines (b ∷ bytes) =
    if b == 10 then (10 ∷ []) ∷ lines_with_newlines bytes
    else onto_first b (lines_with_newlines bytes)

-- The first lines of the text, so many, are those of some certificate. A text that has fewer is
-- that certificate.
abbrev pub BeginsAsCertificate : List ℕ → ℕ → Type 0
BeginsAsCertificate text count =
    (c : Certificate) × IsCertificate c
    × (take count (lines_with_newlines text) ≡ take count (lines_with_newlines (spelling c)))

-- The first bad line has so many lines before it: up to them the text begins as some certificate
-- does, and with that line as none. It may be wrong, lack its newline, or not be there.
pub record IsFirstBad (text : List ℕ) (before : ℕ) : Type 0 where
  pub good : BeginsAsCertificate text before
  pub bad : ¬ BeginsAsCertificate text (before + 1)

-- where a text is no certificate, its first bad line is told
abbrev pub FirstBadIsTold : Type 0
FirstBadIsTold =
    (text : List ℕ) (line : ℕ) → certificate_in text ≡ Err line → (before : ℕ)
    × (line ≡ line_number before) × IsFirstBad text before
