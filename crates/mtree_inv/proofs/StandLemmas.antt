-- A reader stands for the text so far.
use Rattle.std.proofs.Common.{◌≡◌, ℕ, Bool, true, false, List, [], ◌∷◌, ◌++◌, refl, sym, ap, ◌∙◌, append-nil, append_assoc, subst}
use Rattle.std.specs.Prelude.{Option, Some, None, Result, Ok, Err, IfSome, IfNone}
use Rattle.idtext.specs.First.{first_fault, unless, or_else, ◌>>=◌}
use Rattle.idtext.specs.declared.faults.TextFault.{TextFault}
use Rattle.idtext.proofs.OkLemmas.{unless_ok}
use Rattle.idtext.specs.declared.faults.ReadError.{ReadError}
use Rattle.idtext.specs.declared.faults.ReadError.TheVariants.{Memory, Fault}
use Rattle.mtree_inv.specs.declared.entry.Entry.{Entry}
use Rattle.mtree_inv.specs.declared.open_line.Ends.{Ends}
use Rattle.mtree_inv.specs.declared.open_line.Ends.TheVariants.{Nothing, Joined, Byte, Backslash}
use Rattle.idtext.specs.Pieces.{pieces}
use Rattle.mtree_inv.specs.Logical.{LogicalLine, logical_lines, whole_lines}
use Rattle.mtree_inv.specs.Inventory.{kinds, files_of, named, first_appearances, accepted_files, inventory_of_lines, inventory, end_fault}
use Rattle.mtree_inv.specs.Machine.{Kept, step}
use Rattle.mtree_inv.specs.Reading.{Reading, clipped_kind, read_byte, read_bytes, at_end, unless_ended_at_end, last_read, finished, end_lacking, with_end_seen, start}
use Rattle.mtree_inv.specs.Standing.{ReaderValue, AreLeftBy, GrowAlike, files, files_before_fault, IsMidText, StandsAt, StandsFor}
use Rattle.idtext.specs.Faults.{fault_told}
use Rattle.mtree_inv.specs.Parts.{FailedTo}
use Rattle.mtree_inv.proofs.StepLemmas.{Follows}
use Rattle.mtree_inv.proofs.RunLemmas.{RunIs, run_is}
use Rattle.mtree_inv.proofs.RestLemmas.{read_whole_lines, read_all_lines}
use Rattle.mtree_inv.proofs.EndLemmas.{end-lacking}
use Rattle.mtree_inv.proofs.ReadLemmas.{Grows, grows-not, grows-twice, step-grows, after-grows, failed-more}

follows_start : Follows start.kept []
unfolding files_of named first_appearances
follows_start = record { begun = refl; uid = refl; gid = refl; is_dir = refl; path = refl; starts = refl; files = refl }

inventory_of_run : (most : ℕ) (lines : List LogicalLine) (k : Kept) (f : Option TextFault) → RunIs most [] lines (k, f) → inventory_of_lines most lines ≡ unless f k.files
unfolding inventory_of_lines
inventory_of_run most lines k None run = ap (λ (o : Option TextFault). unless o (files_of (kinds lines))) (sym run.fault) ∙ ap Ok (sym (run.follows refl).files)
inventory_of_run most lines k (Some f) run = ap (λ (o : Option TextFault). unless o (files_of (kinds lines))) (sym run.fault)

run_whole : (most : ℕ) (text : List ℕ) → RunIs most [] (whole_lines text) ((read_bytes most start text).kept, (read_bytes most start text).fault)
run_whole most text = subst (RunIs most [] (whole_lines text)) (sym (read_whole_lines most text)) (run_is most start.kept [] (whole_lines text) follows_start)

pub whole_inventory : (most : ℕ) (text : List ℕ) → inventory_of_lines most (whole_lines text) ≡ unless (read_bytes most start text).fault (read_bytes most start text).kept.files
whole_inventory most text = inventory_of_run most (whole_lines text) (read_bytes most start text).kept (read_bytes most start text).fault (run_whole most text)

whole_files : (most : ℕ) (text : List ℕ) → accepted_files most (whole_lines text) ≡ (read_bytes most start text).kept.files
whole_files most text = sym (run_whole most text).files

abbrev at_finish : ℕ → List ℕ → Reading
at_finish most text = finished most (read_bytes most start text)

abbrev at_last : ℕ → List ℕ → Reading
at_last most text = last_read most (read_bytes most start text)

run_all : (most : ℕ) (text : List ℕ) → RunIs most [] (logical_lines text) ((at_last most text).kept, (at_last most text).fault)
run_all most text = subst (RunIs most [] (logical_lines text)) (sym (read_all_lines most text)) (run_is most start.kept [] (logical_lines text) follows_start)

pub all_inventory : (most : ℕ) (text : List ℕ) → inventory most text ≡ unless (at_finish most text).fault (at_finish most text).kept.files
unfolding inventory finished
all_inventory most text = by last.fault refl
  where
    last : Reading
    last = at_last most text

    lines_are : inventory_of_lines most (logical_lines text) ≡ unless last.fault last.kept.files
    lines_are = inventory_of_run most (logical_lines text) last.kept last.fault (run_all most text)

    by : (o : Option TextFault) → last.fault ≡ o
        → (inventory_of_lines most (logical_lines text) >>= λ files. unless (end_fault text) files) ≡ unless (or_else last.fault (end_lacking last)) last.kept.files
    by None e =
        ap (λ (r : Result (List Entry) TextFault). r >>= λ files. unless (end_fault text) files) (lines_are ∙ ap (λ (o : Option TextFault). unless o last.kept.files) e)
        ∙ ap (λ (o : Option TextFault). unless o last.kept.files) (sym (end-lacking most text e ((run_all most text).follows e)))
        ∙ ap (λ (o : Option TextFault). unless (or_else o (end_lacking last)) last.kept.files) (sym e)
    by (Some f) e =
        ap (λ (r : Result (List Entry) TextFault). r >>= λ files. unless (end_fault text) files) (lines_are ∙ ap (λ (o : Option TextFault). unless o last.kept.files) e)
        ∙ ap (λ (o : Option TextFault). unless (or_else o (end_lacking last)) last.kept.files) (sym e)

pub files_at_finish : (most : ℕ) (text : List ℕ) → files_before_fault most text ≡ (at_finish most text).kept.files
unfolding finished
files_at_finish most text = sym (run_all most text).files

pub read-append : (most : ℕ) (reading : Reading) (a b : List ℕ) → read_bytes most (read_bytes most reading a) b ≡ read_bytes most reading (a ++ b)
unfolding read_bytes
read-append most reading [] b = refl
read-append most reading (x ∷ a) b = read-append most (read_byte most reading x) a b

finished-failed : (most : ℕ) (reading : Reading) (f : TextFault) → reading.fault ≡ Some f → finished most reading ≡ reading
unfolding finished last_read
finished-failed most reading f e =
    ap (λ (o : Option TextFault). with_end_seen (unless_ended_at_end o most reading)) e
    ∙ ap (λ (o : Option TextFault). record reading { fault = or_else o (end_lacking reading) }) e
    ∙ ap (λ (o : Option TextFault). record reading { fault = o }) (sym e)

pub finished-grows : (most : ℕ) (reading : Reading) → Grows reading.kept.files (finished most reading).kept.files
unfolding finished last_read
finished-grows most reading = by reading.fault
  where
    ended : (ends : Ends) → Grows reading.kept.files (at_end ends most reading).kept.files
    ended Nothing = grows-not reading.kept.files
    ended Byte = after-grows (step most reading.kept (clipped_kind reading.open_line.joined false)) reading reading.open_line.first reading.open_line (step-grows most reading.kept (clipped_kind reading.open_line.joined false))
    ended Joined = after-grows (step most reading.kept (clipped_kind reading.open_line.joined true)) reading reading.open_line.first reading.open_line (step-grows most reading.kept (clipped_kind reading.open_line.joined true))
    ended Backslash = after-grows (step most reading.kept (clipped_kind reading.open_line.joined true)) reading reading.open_line.first reading.open_line (step-grows most reading.kept (clipped_kind reading.open_line.joined true))

    by : (fault : Option TextFault) → Grows reading.kept.files (unless_ended_at_end fault most reading).kept.files
    by None = ended reading.open_line.ends
    by (Some f) = grows-not reading.kept.files

-- ---- a reader

pub none_then : {A P : Type 0} (o : Option A) → P → IfNone o P
none_then None p = p
none_then (Some x) p = tt

pub at_none : {A P : Type 0} (o : Option A) → o ≡ None → IfNone o P → P
at_none None e p = p
at_none (Some x) e p = absurd (cc)

-- what grew alike from two equal lists is equal
pub grown_same : (fs new_fs waiting new_waiting : List Entry) → fs ≡ waiting → GrowAlike fs new_fs waiting new_waiting → new_fs ≡ new_waiting
grown_same fs new_fs waiting new_waiting e h = h.1 ∙ ap (λ (l : List Entry). l ++ h.0) e ∙ sym h.2

pub going_at : (reader : ReaderValue) (text : List ℕ) → reader.fault ≡ None → reader.is_finished ≡ false → StandsFor reader text → StandsAt None false reader text
going_at reader text e f h =
    subst (λ (b : Bool). StandsAt None b reader text) f (subst (λ (o : Option ReadError). StandsAt o reader.is_finished reader text) e h)

pub stands_by : (reader : ReaderValue) (text : List ℕ) (o : Option ReadError) (b : Bool) → reader.fault ≡ o → reader.is_finished ≡ b → StandsAt o b reader text → StandsFor reader text
stands_by reader text o b e f h =
    subst (λ (p : Option ReadError). StandsAt p reader.is_finished reader text) (sym e) (subst (λ (c : Bool). StandsAt o c reader text) (sym f) h)

-- a reader that met a fault stands for each longer text too
still_failed : (o : ReadError) (finished : Bool) (reader : ReaderValue) (text piece : List ℕ) → StandsAt (Some o) finished reader text → StandsAt (Some o) finished reader (text ++ piece)
still_failed o finished reader text piece h = (h.0, h.1 ++ piece, ap (λ t. t ++ piece) h.2 ∙ append_assoc h.0 h.1 piece, h.3, h.4)

pub stands_still : (reader : ReaderValue) (text piece : List ℕ) (fault : ReadError) → reader.fault ≡ Some fault → StandsFor reader text → StandsFor reader (text ++ piece)
stands_still reader text piece fault e h =
    stands_by reader (text ++ piece) (Some fault) reader.is_finished e refl
    (still_failed fault reader.is_finished reader text piece (subst (λ (o : Option ReadError). StandsAt o reader.is_finished reader text) e h))

mid_text : (most : ℕ) (reading : Reading) (text : List ℕ) → IsMidText most reading text → reading ≡ read_bytes most start text
unfolding IsMidText
mid_text most reading text h = h

is_mid_text : (most : ℕ) (reading : Reading) (text : List ℕ) → reading ≡ read_bytes most start text → IsMidText most reading text
unfolding IsMidText
is_mid_text most reading text e = e

-- what a reader in mid-text keeps
kept_at : (reader : ReaderValue) (text : List ℕ) → StandsAt None false reader text → reader.reading ≡ read_bytes reader.most start text
kept_at reader text h = mid_text reader.most reader.reading text h.0

fed_to : (reader : ReaderValue) (text piece : List ℕ) → StandsAt None false reader text → read_bytes reader.most reader.reading piece ≡ read_bytes reader.most start (text ++ piece)
fed_to reader text piece h = ap (λ (m : Reading). read_bytes reader.most m piece) (kept_at reader text h) ∙ read-append reader.most start text piece

pub fed_whole : (reader new : ReaderValue) (text piece : List ℕ) → StandsAt None false reader text → new.most ≡ reader.most → read_bytes reader.most reader.reading piece ≡ new.reading → new.reading.fault ≡ None → new.reading.kept.files ≡ new.files
    → inventory_of_lines reader.most (whole_lines (text ++ piece)) ≡ Ok (files new)
fed_whole reader new text piece h same e none listed =
    whole_inventory reader.most (text ++ piece)
    ∙ ap (λ (m : Reading). unless m.fault m.kept.files) (sym (fed_to reader text piece h) ∙ e)
    ∙ ap (λ (o : Option TextFault). unless o new.reading.kept.files) none
    ∙ ap Ok listed

pub fed_going : (reader new : ReaderValue) (text piece : List ℕ) → StandsAt None false reader text → new.most ≡ reader.most → read_bytes reader.most reader.reading piece ≡ new.reading → new.reading.fault ≡ None → new.reading.kept.files ≡ new.files
    → StandsAt None false new (text ++ piece)
fed_going reader new text piece h same e none listed = (
  is_mid_text new.most new.reading (text ++ piece) (sym e ∙ fed_to reader text piece h ∙ ap (λ (n : ℕ). read_bytes n start (text ++ piece)) (sym same)),
  ap (λ (n : ℕ). inventory_of_lines n (whole_lines (text ++ piece))) same ∙ fed_whole reader new text piece h same e none listed,
)

failed_inventory : (most : ℕ) (text : List ℕ) (f : TextFault) → (at_finish most text).fault ≡ Some f → inventory most text ≡ Err f
failed_inventory most text f e = all_inventory most text ∙ ap (λ (o : Option TextFault). unless o (at_finish most text).kept.files) e

failed_finish : (most : ℕ) (text : List ℕ) (f : TextFault) → (read_bytes most start text).fault ≡ Some f → at_finish most text ≡ read_bytes most start text
failed_finish most text f e = finished-failed most (read_bytes most start text) f e

failed_told : (most : ℕ) (fs : List Entry) (text : List ℕ) (fault : ReadError) → FailedTo fs fault (at_finish most text) → IfSome (fault_told fault) (λ f. inventory most text ≡ Err f)
failed_told most fs text Memory h = tt
failed_told most fs text (Fault f) h = failed_inventory most text f h.0

-- the files of a call that failed, where those before the fault are the reading's
left_by : (fs before : List Entry) (fault : ReadError) (target : Reading) → before ≡ target.kept.files → FailedTo fs fault target → AreLeftBy fault fs before
left_by fs before Memory target e h = (h.0, e ∙ h.1)
left_by fs before (Fault f) target e h = e ∙ h.1

-- a reader that failed on this text
failed_at : (new : ReaderValue) (most : ℕ) (text : List ℕ) (fin : Bool) (fault : ReadError) → new.most ≡ most → FailedTo (files new) fault (at_finish most text) → StandsAt (Some fault) fin new text
failed_at new most text fin fault same h = (
  text,
  [],
  sym (append-nil text),
  subst (λ (n : ℕ). IfSome (fault_told fault) (λ f. inventory n text ≡ Err f)) (sym same) (failed_told most (files new) text fault h),
  left_by (files new) (files_before_fault new.most text) fault (at_finish most text) (ap (λ (n : ℕ). files_before_fault n text) same ∙ files_at_finish most text) h,
)

finish_failed : (most : ℕ) (text : List ℕ) (fs : List Entry) (fault : ReadError) → FailedTo fs fault (read_bytes most start text) → FailedTo fs fault (at_finish most text)
finish_failed most text fs Memory h = grows-twice fs (read_bytes most start text).kept.files (at_finish most text).kept.files h (finished-grows most (read_bytes most start text))
finish_failed most text fs (Fault f) h = subst (FailedTo fs (Fault f)) (sym (failed_finish most text f h.0)) h

pub fed_failed : (reader new : ReaderValue) (text piece : List ℕ) (fin : Bool) (fault : ReadError) → StandsAt None false reader text → new.most ≡ reader.most
    → FailedTo (files new) fault (read_bytes reader.most reader.reading piece) → StandsAt (Some fault) fin new (text ++ piece)
fed_failed reader new text piece fin fault h same e =
    failed_at new reader.most (text ++ piece) fin fault same
    (finish_failed reader.most (text ++ piece) (files new) fault (subst (FailedTo (files new) fault) (fed_to reader text piece h) e))

pub fed_told : (reader : ReaderValue) (fs : List Entry) (text piece : List ℕ) (fault : ReadError) → StandsAt None false reader text
    → FailedTo fs fault (read_bytes reader.most reader.reading piece) → IfSome (fault_told fault) (λ f. inventory_of_lines reader.most (whole_lines (text ++ piece)) ≡ Err f)
fed_told reader fs text piece Memory h e = tt
fed_told reader fs text piece (Fault f) h e =
    whole_inventory reader.most (text ++ piece)
    ∙ ap (λ (m : Reading). unless m.fault m.kept.files) (sym (fed_to reader text piece h))
    ∙ ap (λ (o : Option TextFault). unless o (read_bytes reader.most reader.reading piece).kept.files) e.0

-- the files are left of the whole lines, though the text may go on
pub fed_left : (reader : ReaderValue) (fs : List Entry) (text piece : List ℕ) (fault : ReadError) → StandsAt None false reader text
    → FailedTo fs fault (read_bytes reader.most reader.reading piece) → AreLeftBy fault fs (accepted_files reader.most (whole_lines (text ++ piece)))
fed_left reader fs text piece fault h e =
    left_by fs (accepted_files reader.most (whole_lines (text ++ piece))) fault (read_bytes reader.most reader.reading piece)
    (whole_files reader.most (text ++ piece) ∙ ap (λ (m : Reading). m.kept.files) (sym (fed_to reader text piece h))) e

pub fed_ended : (reader : ReaderValue) (fs : List Entry) (text piece : List ℕ) (fault : ReadError) → StandsAt None false reader text
    → FailedTo fs fault (read_bytes reader.most reader.reading piece) → IfSome (fault_told fault) (λ f. (more : List ℕ) → inventory reader.most ((text ++ piece) ++ more) ≡ Err f)
fed_ended reader fs text piece Memory h e = tt
fed_ended reader fs text piece (Fault f) h e = λ more.
    let here = failed-more reader.most fs (Fault f) (read_bytes reader.most reader.reading piece) more e in
    let there = subst (FailedTo fs (Fault f)) (ap (λ (m : Reading). read_bytes reader.most m more) (fed_to reader text piece h) ∙ read-append reader.most start (text ++ piece) more) here in
    failed_inventory reader.most ((text ++ piece) ++ more) f (finish_failed reader.most ((text ++ piece) ++ more) fs (Fault f) there).0

pub finished_whole : (reader new : ReaderValue) (text : List ℕ) → StandsAt None false reader text → finished reader.most reader.reading ≡ new.reading → new.reading.fault ≡ None → new.reading.kept.files ≡ new.files
    → inventory reader.most text ≡ Ok (files new)
finished_whole reader new text h e none listed =
    all_inventory reader.most text
    ∙ ap (λ (m : Reading). unless m.fault m.kept.files) (ap (finished reader.most) (sym (kept_at reader text h)) ∙ e)
    ∙ ap (λ (o : Option TextFault). unless o new.reading.kept.files) none
    ∙ ap Ok listed

pub finished_failed : (reader new : ReaderValue) (text : List ℕ) (fin : Bool) (fault : ReadError) → StandsAt None false reader text → new.most ≡ reader.most
    → FailedTo (files new) fault (finished reader.most reader.reading) → StandsAt (Some fault) fin new text
finished_failed reader new text fin fault h same e =
    failed_at new reader.most text fin fault same (subst (FailedTo (files new) fault) (ap (finished reader.most) (kept_at reader text h)) e)

pub finished_told : (reader : ReaderValue) (fs : List Entry) (text : List ℕ) (fault : ReadError) → StandsAt None false reader text
    → FailedTo fs fault (finished reader.most reader.reading) → IfSome (fault_told fault) (λ f. inventory reader.most text ≡ Err f)
finished_told reader fs text fault h e = failed_told reader.most fs text fault (subst (FailedTo fs fault) (ap (finished reader.most) (kept_at reader text h)) e)

pub finished_left : (reader : ReaderValue) (fs : List Entry) (text : List ℕ) (fault : ReadError) → StandsAt None false reader text
    → FailedTo fs fault (finished reader.most reader.reading) → AreLeftBy fault fs (files_before_fault reader.most text)
finished_left reader fs text fault h e =
    left_by fs (files_before_fault reader.most text) fault (finished reader.most reader.reading)
    (files_at_finish reader.most text ∙ ap (λ (m : Reading). (finished reader.most m).kept.files) (sym (kept_at reader text h))) e

pub stands_start : (most : ℕ) (reader : ReaderValue) → reader.reading ≡ start → [] ≡ reader.files → StandsAt None false reader []
unfolding read_bytes inventory_of_lines first_fault files_of named first_appearances pieces
stands_start most reader e none = (is_mid_text reader.most reader.reading [] e, ap Ok none)

pub whole_refused : (o : Option ReadError) (most : ℕ) (text : List ℕ) (fault : ReadError) → o ≡ None
    → IfNone o (IfSome (fault_told fault) (λ f. (more : List ℕ) → inventory most (text ++ more) ≡ Err f)) → IfSome (fault_told fault) (λ f. inventory most text ≡ Err f)
whole_refused (Some x) most text fault e h = absurd (cc)
whole_refused None most text Memory e h = tt
whole_refused None most text (Fault f) e h = ap (inventory most) (sym (append-nil text)) ∙ h []

-- ---- the whole lines of a text, beside all of it

-- a fault of the whole lines is that of the text
pub whole_lines_refused : (most : ℕ) (text : List ℕ) (f : TextFault) → inventory_of_lines most (whole_lines text) ≡ Err f → inventory most text ≡ Err f
whole_lines_refused most text f h = by (read_bytes most start text).fault refl
  where
    by : (o : Option TextFault) → (read_bytes most start text).fault ≡ o → inventory most text ≡ Err f
    by None e =
        let files = (read_bytes most start text).kept.files in
        absurd (let no : ◌≡◌ {A = Result (List Entry) TextFault} (Ok files) (Err f) = ap (λ (o : Option TextFault). unless o files) (sym e) ∙ sym (whole_inventory most text) ∙ h in cc)
    by (Some g) e =
        all_inventory most text
        ∙ ap (λ (m : Reading). unless m.fault m.kept.files) (failed_finish most text g e)
        ∙ sym (whole_inventory most text) ∙ h

-- the whole lines of a text that is accepted have the first of its files
pub whole_lines_accepted : (most : ℕ) (text : List ℕ) (files : List Entry) → inventory most text ≡ Ok files → (front : List Entry) × (inventory_of_lines most (whole_lines text) ≡ Ok front) × Grows front files
whole_lines_accepted most text files h = by (read_bytes most start text).fault refl
  where
    by : (o : Option TextFault) → (read_bytes most start text).fault ≡ o → (front : List Entry) × (inventory_of_lines most (whole_lines text) ≡ Ok front) × Grows front files
    by None e =
        let m = read_bytes most start text in
        let last = finished most m in
        let is = unless_ok last.fault last.kept.files files (sym (all_inventory most text) ∙ h) in
        (m.kept.files, whole_inventory most text ∙ ap (λ (o : Option TextFault). unless o m.kept.files) e, subst (Grows m.kept.files) is.1 (finished-grows most m))
    by (Some g) e =
        let m = read_bytes most start text in
        absurd (let no : ◌≡◌ {A = Result (List Entry) TextFault} (Err g) (Ok files) = ap (λ (o : Option TextFault). unless o m.kept.files) (sym e) ∙ ap (λ (r : Reading). unless r.fault r.kept.files) (sym (failed_finish most text g e)) ∙ sym (all_inventory most text) ∙ h in cc)
