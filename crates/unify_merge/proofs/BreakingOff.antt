-- Files whose writing broke off, in their order.
use Rattle.std.proofs.Common.{◌≡◌, ◌++◌, ◌∷◌, [], ℕ, List, map, Option, Result, Ok, Err, refl, sym, ap, ◌∙◌, arith, append_assoc, append-nil}
use Rattle.std.specs.Prelude.{OnErr}
use Rattle.std.proofs.lemmas.List.{map-append}
use Rattle.unify.specs.declared.site_files.NamedText.{NamedText}
use Rattle.unify_merge.specs.Ledger.{BrokeOff, HasBegun, Ledger, Reading, after_files}
use Rattle.unify_merge.specs.HostFiles.{HasFiles}
use Rattle.unify_merge.specs.SecondReading.{FinishesNone, HasReadOneAtMost}

abbrev name_of : NamedText → List ℕ
name_of file = file.name

-- after another reading
abbrev pub reading_as : Ledger → Ledger → Ledger
reading_as new l = record l { read = new.read; reading = new.reading }

-- an error, and what follows from one
pub on_err : {T E : Type 0} (r : Result T E) (P : Type 0) → P → OnErr r P
on_err (Ok x) P p = tt
on_err (Err e) P p = p

-- ---- the parts of a ledger

pub stands_by : (whole next : List NamedText) (old new : Ledger) → new.read ≡ old.read → new.reading ≡ old.reading → new.is_clear ≡ old.is_clear → new.begun ≡ old.begun ++ map name_of (whole ++ next) → new.finished ≡ old.finished ++ whole → new.settled ≡ old.settled
    → new ≡ record (after_files whole old) { begun = old.begun ++ map name_of (whole ++ next); writing = new.writing }
stands_by whole next old new read reading clear begun finished settled = λ j. record { read = read j; reading = reading j; is_clear = clear j; begun = begun j; finished = finished j; settled = settled j; writing = new.writing }

-- ---- one file

-- no file was begun or finished
broken_before : (files : List NamedText) (old new : Ledger) → new ≡ record old { writing = new.writing } → BrokeOff files old new
broken_before files old new same = record {
  whole = [];
  next = [];
  left = files;
  are = refl;
  one_at_most = omega arith;
  stands = stands_by [] [] old new (ap (λ (l : Ledger). l.read) same) (ap (λ (l : Ledger). l.reading) same) (ap (λ (l : Ledger). l.is_clear) same)
      (ap (λ (l : Ledger). l.begun) same ∙ sym (append-nil old.begun)) (ap (λ (l : Ledger). l.finished) same ∙ sym (append-nil old.finished)) (ap (λ (l : Ledger). l.settled) same);
}

-- nothing was done
pub broken_none : (files : List NamedText) (old new : Ledger) → new ≡ old → BrokeOff files old new
broken_none files old new same = broken_before files old new (λ j. record (same j) { writing = new.writing })

-- a file was begun
-- writing: what was written since
pub broken_open : (name text : List ℕ) (writing : Option NamedText) (old new : Ledger) → new ≡ record old { begun = old.begun ++ name ∷ []; writing = writing } → BrokeOff (record { name = name; text = text } ∷ []) old new
broken_open name text writing old new begun =
    let file : NamedText = record { name = name; text = text } in
    record {
      whole = [];
      next = file ∷ [];
      left = [];
      are = refl;
      one_at_most = omega arith;
      stands = stands_by [] (file ∷ []) old new (ap (λ (l : Ledger). l.read) begun) (ap (λ (l : Ledger). l.reading) begun) (ap (λ (l : Ledger). l.is_clear) begun)
          (ap (λ (l : Ledger). l.begun) begun) (ap (λ (l : Ledger). l.finished) begun ∙ sym (append-nil old.finished)) (ap (λ (l : Ledger). l.settled) begun);
    }

-- all were written
pub broken_all : (files : List NamedText) (old new : Ledger) → HasFiles files old new → BrokeOff files old new
broken_all files old new has = record {
  whole = files;
  next = [];
  left = [];
  are = sym (append-nil files);
  one_at_most = omega arith;
  stands = stands_by files [] old new (ap (λ (l : Ledger). l.read) has) (ap (λ (l : Ledger). l.reading) has) (ap (λ (l : Ledger). l.is_clear) has)
      (ap (λ (l : Ledger). l.begun) has ∙ ap (λ fs. old.begun ++ map name_of fs) (sym (append-nil files))) (ap (λ (l : Ledger). l.finished) has) (ap (λ (l : Ledger). l.settled) has);
}

-- ---- more files

-- more were to come
unfoldable pub broken_front : (files more : List NamedText) (old new : Ledger) → BrokeOff files old new → BrokeOff (files ++ more) old new
broken_front files more old new b = record {
  whole = b.whole;
  next = b.next;
  left = b.left ++ more;
  are = ap (λ fs. fs ++ more) b.are ∙ append_assoc b.whole (b.next ++ b.left) more ∙ ap (λ fs. b.whole ++ fs) (append_assoc b.next b.left more);
  one_at_most = b.one_at_most;
  stands = b.stands;
}

-- these came before
unfoldable pub broken_behind : (before files : List NamedText) (old mid new : Ledger) → HasFiles before old mid → BrokeOff files mid new → BrokeOff (before ++ files) old new
broken_behind before files old mid new has b =
    let stands = b.stands in
    let begun : new.begun ≡ old.begun ++ map name_of ((before ++ b.whole) ++ b.next) =
    ap (λ (l : Ledger). l.begun) stands ∙ ap (λ (l : Ledger). l.begun ++ map name_of (b.whole ++ b.next)) has ∙ append_assoc old.begun (map name_of before) (map name_of (b.whole ++ b.next))
    ∙ ap (λ ns. old.begun ++ ns) (sym (map-append name_of before (b.whole ++ b.next)) ∙ ap (map name_of) (sym (append_assoc before b.whole b.next))) in
    record {
      whole = before ++ b.whole;
      next = b.next;
      left = b.left;
      are = ap (λ fs. before ++ fs) b.are ∙ sym (append_assoc before b.whole (b.next ++ b.left));
      one_at_most = b.one_at_most;
      stands = stands_by (before ++ b.whole) b.next old new (ap (λ (l : Ledger). l.read) stands ∙ ap (λ (l : Ledger). l.read) has) (ap (λ (l : Ledger). l.reading) stands ∙ ap (λ (l : Ledger). l.reading) has)
          (ap (λ (l : Ledger). l.is_clear) stands ∙ ap (λ (l : Ledger). l.is_clear) has) begun (ap (λ (l : Ledger). l.finished) stands ∙ ap (λ (l : Ledger). l.finished ++ b.whole) has ∙ append_assoc old.finished before b.whole) (ap (λ (l : Ledger). l.settled) stands ∙ ap (λ (l : Ledger). l.settled) has);
    }

-- the same files and the same ledger, told by other words
unfoldable pub broken_as : (files others : List NamedText) (old other new : Ledger) → files ≡ others → old ≡ other → BrokeOff files old new → BrokeOff others other new
broken_as files others old other new same equal b = record {
  whole = b.whole;
  next = b.next;
  left = b.left;
  are = sym same ∙ b.are;
  one_at_most = b.one_at_most;
  stands = b.stands ∙ (λ j. record (after_files b.whole (equal j)) { begun = (equal j).begun ++ map name_of (b.whole ++ b.next); writing = new.writing });
}

-- files that were written, and nothing else was done
pub wrote : (files : List NamedText) (old new : Ledger) → new ≡ after_files files old → HasFiles files old new
wrote files old new is = is ∙ (λ j. record (after_files files old) { writing = (sym is j).writing })

-- ---- after readings

-- nothing was read while it was written
pub reads_same : (files : List NamedText) (mid new : Ledger) → BrokeOff files mid new → mid ≡ reading_as new mid
reads_same files mid new b =
    let stands = b.stands in
    λ j. record mid { read = sym (ap (λ (l : Ledger). l.read) stands) j; reading = sym (ap (λ (l : Ledger). l.reading) stands) j }

-- files after which more was read
pub files_reading : (files : List NamedText) (old mid new : Ledger) → mid ≡ record (after_files files old) { read = mid.read; reading = mid.reading; writing = mid.writing } → HasFiles files (reading_as new old) (reading_as new mid)
files_reading files old mid new has = ap (reading_as new) has

-- no reading came to its end, or one did
pub has_read_none : (before : List Reading) (l : Ledger) → l.read ≡ before → HasReadOneAtMost before l
has_read_none before l same = record { more = []; one_at_most = omega arith; readings = same ∙ sym (append-nil before) }

pub has_read_one : (before : List Reading) (r : Reading) (l : Ledger) → l.read ≡ before ++ r ∷ [] → HasReadOneAtMost before l
has_read_one before r l one = record { more = r ∷ []; one_at_most = omega arith; readings = one }

-- ---- a plan

-- no file became whole
pub finishes_none : (old new : Ledger) → new.is_clear ≡ old.is_clear → new.finished ≡ old.finished → new.settled ≡ old.settled → FinishesNone old new
finishes_none old new clear finished settled = λ j. record { read = new.read; reading = new.reading; is_clear = clear j; begun = new.begun; finished = finished j; settled = settled j; writing = new.writing }

-- a file of any text broke off, which at most was begun
pub broken_plan : (name text : List ℕ) (old new : Ledger) → HasBegun (name ∷ []) old new → FinishesNone old new → (b : BrokeOff (record { name = name; text = text } ∷ []) (reading_as new old) new) × (b.whole ≡ [])
unfolding broken_before broken_open
broken_plan name text old new begun none = by begun.first begun.left begun.are begun.begun
  where
    by : (first left : List (List ℕ)) → name ∷ [] ≡ first ++ left → new.begun ≡ old.begun ++ first → (b : BrokeOff (record { name = name; text = text } ∷ []) (reading_as new old) new) × (b.whole ≡ [])
    by [] left are is = (broken_before (record { name = name; text = text } ∷ []) (reading_as new old) new (none ∙ (λ j. record (reading_as new old) { begun = (is ∙ append-nil old.begun) j; writing = new.writing })), refl)
    by (n ∷ []) left are is =
        let same : name ≡ n = (cc) in
        (broken_open name text new.writing (reading_as new old) new (none ∙ (λ j. record (reading_as new old) { begun = (is ∙ ap (λ m. old.begun ++ m ∷ []) (sym same)) j; writing = new.writing })), refl)
    by (n ∷ m ∷ ns) left are is = absurd (cc)
