-- What was read and written, as the calls tell it that succeeded.
-- Source: this project's own rule.
use Rattle.std.specs.Prelude.{◌≡◌, ◌≤◌, ℕ, Bool, true, false, List, [], ◌∷◌, ◌++◌, length, map}
use Rattle.std.specs.Prelude.{Option, Some, None}
use Rattle.unify.specs.declared.site_files.NamedText.{NamedText}

-- a reading of the inventory of the host with the index, as far as it went
pub record Reading : Type 0 where
  pub host : ℕ
  pub text : List ℕ

pub record Ledger : Type 0 where
  -- the readings that came to their ends, in order, and the one that goes on
  pub read : List Reading
  pub reading : Option Reading
  -- whether what stood there before was cleared away, as far as that went
  pub is_clear : Bool
  -- since then: the names of the files that were begun, in order; the files that were finished, in
  -- order; those of them that are settled where they stand; and the one that is written, as far as
  -- it was
  pub begun : List (List ℕ)
  pub finished : List NamedText
  pub settled : List NamedText
  pub writing : Option NamedText

-- nothing was read or written as yet
abbrev pub nothing : Ledger
nothing =
    record {
      read = [];
      reading = None;
      is_clear = false;
      begun = [];
      finished = [];
      settled = [];
      writing = None;
    }

-- ---- reading

-- after the first bytes of a reading
abbrev pub reading_so_far : ℕ → List ℕ → Ledger → Ledger
reading_so_far host text l = record l { reading = Some (record { host = host; text = text }) }

-- after a whole reading
abbrev pub after_reading : ℕ → List ℕ → Ledger → Ledger
after_reading host text l =
    record l { read = l.read ++ record { host = host; text = text } ∷ []; reading = None }

-- the reading goes on with these bytes, and ends with none
abbrev pub read_on : List ℕ → Option Reading → Ledger → Ledger
read_on bytes None l = l
read_on [] (Some r) l = after_reading r.host r.text l
read_on (byte ∷ bytes) (Some r) l = reading_so_far r.host (r.text ++ byte ∷ bytes) l

abbrev pub with_piece : List ℕ → Ledger → Ledger
with_piece bytes l = read_on bytes l.reading l

-- ---- writing

-- what was written before is gone, too
abbrev pub cleared : Ledger → Ledger
cleared l = record l { is_clear = true; begun = []; finished = []; settled = []; writing = None }

-- after the first bytes of a file that was begun
abbrev pub writing_so_far : List ℕ → List ℕ → Ledger → Ledger
writing_so_far name text l = record l { writing = Some (record { name = name; text = text }) }

abbrev pub with_begun : List ℕ → Ledger → Ledger
with_begun name l = writing_so_far name [] (record l { begun = l.begun ++ name ∷ [] })

-- the file goes on with these bytes
abbrev pub written_on : List ℕ → Option NamedText → Ledger → Ledger
written_on bytes None l = l
written_on bytes (Some file) l = writing_so_far file.name (file.text ++ bytes) l

abbrev pub with_bytes : List ℕ → Ledger → Ledger
with_bytes bytes l = written_on bytes l.writing l

-- the file is whole
abbrev pub finished_on : Option NamedText → Ledger → Ledger
finished_on None l = l
finished_on (Some file) l = record l { finished = l.finished ++ file ∷ []; writing = None }

abbrev pub with_finished : Ledger → Ledger
with_finished l = finished_on l.writing l

-- after whole files
abbrev pub after_files : List NamedText → Ledger → Ledger
after_files files l =
    record l {
      begun = l.begun ++ map (λ file. file.name) files;
      finished = l.finished ++ files;
      writing = None;
    }

-- all files that were finished are settled
abbrev pub all_settled : Ledger → Ledger
all_settled l = record l { settled = l.finished }

-- after the last file, with which all are settled
abbrev pub with_sealed : NamedText → Ledger → Ledger
with_sealed file l = all_settled (after_files (file ∷ []) l)

-- ---- an early end

-- The first of the files with these names were begun, in order, and no other.
pub record HasBegun (names : List (List ℕ)) (old new : Ledger) : Type 0 where
  pub first : List (List ℕ)
  pub left : List (List ℕ)
  pub are : names ≡ first ++ left
  pub begun : new.begun ≡ old.begun ++ first

-- The writing of these files broke off: the first of them are whole, in order; at most the next was
-- begun and is not; and nothing else was done.
pub record BrokeOff (files : List NamedText) (old new : Ledger) : Type 0 where
  pub whole : List NamedText
  pub next : List NamedText
  pub left : List NamedText
  pub are : files ≡ whole ++ (next ++ left)
  pub one_at_most : length next ≤ 1
  pub stands : new
      ≡ record (after_files whole old) {
        begun = old.begun ++ map (λ file. file.name) (whole ++ next);
        writing = new.writing;
      }
