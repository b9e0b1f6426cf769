-- What a ledger notes, and what it says after a merge.
-- Source: this project's own rule.
use Rattle.std.specs.Prelude.{◌≡◌, ◌≢◌, ℕ, List, [], ◌∷◌, ◌++◌, map, Some, None}
use Rattle.hosts_join.specs.declared.texts.HostText.{HostText}
use Rattle.unify.specs.declared.counting.Cost.{Cost}
use Rattle.site_tables.specs.declared.rules.SiteRules.{SiteRules}
use Rattle.unify.specs.declared.site_files.NamedText.{NamedText}
use Rattle.unify_merge.specs.Ledger.{Ledger, cleared, reading_so_far, with_begun, with_bytes}
use Rattle.unify_merge.specs.Ledger.{with_finished, with_piece, with_sealed}
use Rattle.unify_merge.specs.Merge.{HasMerged, merged_files}

-- these files were begun, and no other; and all of them, and no other, are finished and settled
pub record AreSettled (files : List NamedText) (l : Ledger) : Type 0 where
  pub begun : l.begun ≡ map (λ file. file.name) files
  pub finished : l.finished ≡ files
  pub settled : l.settled ≡ files

-- ---- a merge

-- after a merge its files are settled, and nothing else was begun since the clearing away
abbrev pub MergesAreSettled : Type 0
MergesAreSettled = (texts : List HostText) (rules : SiteRules) (old new : Ledger) (cost : Cost)
    (merged : HasMerged texts rules old new cost)
    → AreSettled (merged_files texts merged.begun merged.is_correct.mappings merged.outcome) new

-- ---- one call after another

-- After a clearing away there is no file. One that is begun and finished stands after those before
-- it, with the bytes that were appended to it, and is not settled. With one that is sealed all are.
pub record FilesAreNoted (l : Ledger) : Type 0 where
  pub cleared : AreSettled [] (cleared l)
  pub begun : (name : List ℕ) → (with_begun name l).begun ≡ l.begun ++ name ∷ []
  pub finished : (name front back : List ℕ)
      → (with_finished (with_bytes back (with_bytes front (with_begun name l)))).finished
      ≡ l.finished ++ record { name = name; text = front ++ back } ∷ []
  pub unsettled : (name front back : List ℕ)
      → (with_finished (with_bytes back (with_bytes front (with_begun name l)))).settled
      ≡ l.settled
  pub last : (file : NamedText) → (with_sealed file l).begun ≡ l.begun ++ file.name ∷ []
  pub sealed : (file : NamedText) → (with_sealed file l).finished ≡ l.finished ++ file ∷ []
  pub settled : (file : NamedText) → (with_sealed file l).settled ≡ l.finished ++ file ∷ []

abbrev pub LedgersNoteFiles : Type 0
LedgersNoteFiles = (l : Ledger) → FilesAreNoted l

-- A reading that was begun and went on with two pieces has the bytes of both. When it has come to
-- its end, which a piece without a byte tells, it stands so after those before it, and none goes
-- on. Nothing else of the ledger changes.
-- host: the index of the host
pub record ReadingsAreNoted (l : Ledger) (host : ℕ) (front back : List ℕ) : Type 0 where
  pub so_far : with_piece back (with_piece front (reading_so_far host [] l))
      ≡ record l { reading = Some (record { host = host; text = front ++ back }) }
  pub whole : with_piece [] (with_piece back (with_piece front (reading_so_far host [] l)))
      ≡ record l {
        read = l.read ++ record { host = host; text = front ++ back } ∷ [];
        reading = None;
      }

abbrev pub LedgersNoteReadings : Type 0
LedgersNoteReadings = (l : Ledger) (host : ℕ) (front back : List ℕ) → front ≢ [] → back ≢ []
    → ReadingsAreNoted l host front back
