-- Bytes read by a reader.
use Rattle.std.proofs.Common.{◌≡◌, ℕ, zero, suc, ◌<◌, ◌+◌, Bool, true, false, cond, List, [], ◌∷◌, ◌++◌, length, take, drop, get_or, refl, sym, ap, ◌∙◌, append-nil, append_assoc, subst, arith}
use Rattle.std.proofs.lemmas.Bool.{false≢true, ne_eqb}
use Rattle.std.specs.Prelude.{Option, Some, None, Result, Ok, Err, MatchResult, fold, if◌then◌else◌, ◌==◌, is_none, is_ok, OnErr}
use Rattle.idtext.specs.First.{◌>>=◌, Gives, or_else, unless}
use Rattle.idtext.specs.declared.faults.TextCode.{TextCode}
use Rattle.idtext.specs.declared.faults.TextCode.TheVariants.{BadPath, CutInventory}
use Rattle.idtext.specs.declared.faults.TextFault.{TextFault}
use Rattle.mtree_inv.specs.declared.entry.Entry.{Entry}
use Rattle.mtree_inv.specs.declared.defaults.Defaults.{Defaults}
use Rattle.mtree_inv.specs.declared.open_line.Ends.{Ends}
use Rattle.mtree_inv.specs.declared.open_line.Ends.TheVariants.{Nothing, Joined, Byte, Backslash}
use Rattle.mtree_inv.specs.Kinds.{Kind, TooLong, Cut, Ignored, Begins, Counts, Sets, Unsets, Unknown, Up, Names}
use Rattle.mtree_inv.specs.Inventory.{file_at, clash}
use Rattle.mtree_inv.specs.Machine.{Kept, effective, owned, or_dot, path_below, is_bad_entry, with_file, with_new_file, entry_kept, with_opened, opens_directory, entry_step, closed, step, with_file_given, is_unended, begun_now}
use Rattle.mtree_inv.specs.Reading.{Open, with_plain, with_backslash, with_join, with_bytes, with_run, is_joining, fresh, clipped_kind, Reading, after_step, with_line, with_newline, unless_ended, read_byte, read_bytes, at_end, last_read, finished, end_lacking, with_end_seen}
use Rattle.idtext.specs.Faults.{fault_told}
use Rattle.mtree_inv.specs.Parts.{HasNoNewline, at_line, TakenTo, FailedTo}
use Rattle.idtext.specs.declared.faults.ReadError.{ReadError}
use Rattle.idtext.specs.declared.faults.ReadError.TheVariants.{Memory, Fault}

-- ---- files only come

abbrev pub Grows : List Entry → List Entry → Type 0
Grows files new = (more : List Entry) × (new ≡ files ++ more)

pub grows-not : (files : List Entry) → Grows files files
grows-not files = ([], sym (append-nil files))

pub grows-twice : (a b c : List Entry) → Grows a b → Grows b c → Grows a c
grows-twice a b c g h = (g.0 ++ h.0, h.1 ∙ ap (λ (l : List Entry). l ++ h.0) g.1 ∙ append_assoc a g.0 h.0)

abbrev pub StepGrows : Kept → Result Kept TextCode → Type 0
StepGrows kept found = MatchResult found (λ new. Grows kept.files new.files) (λ _. Unit {0})

bind-grows : {A : Type 0} (kept : Kept) (r : Result A TextCode) (f : A → Result Kept TextCode) → ((x : A) → StepGrows kept (f x)) → StepGrows kept (r >>= f)
bind-grows kept (Ok x) f h = h x
bind-grows kept (Err code) f h = tt

new_file-grows : (b : Bool) (files : List Entry) (file : Entry) → Grows files (cond b (files ++ file ∷ []) files)
new_file-grows true files file = (file ∷ [], refl)
new_file-grows false files file = grows-not files

entry-grows : (most : ℕ) (kept : Kept) (word : List ℕ) (keywords : List (List ℕ)) → StepGrows kept (entry_step most kept word keywords)
unfolding entry_step
entry-grows most kept word keywords = bad (is_bad_entry kept.path word)
  where
    opened : (now : Defaults) (b : Bool) (files : List Entry) → Grows kept.files files → Grows kept.files (with_opened b (record kept { files = files }) (path_below kept.path word)).files
    opened now true files g = g
    opened now false files g = g

    added : (now : Defaults) (file : Entry) (c : Option TextCode) → StepGrows kept (unless c (with_new_file kept.files file) >>= λ files. Ok (entry_kept kept word now files))
    added now file None = opened now (opens_directory word now) (with_new_file kept.files file) (new_file-grows (is_none (file_at kept.files file.path)) kept.files file)
    added now file (Some code) = tt

    body : StepGrows kept (effective kept.defaults keywords >>= λ now. (owned (or_dot (path_below kept.path word)) now.uid now.gid >>= λ file. (with_file most kept.files file >>= λ files. Ok (entry_kept kept word now files))))
    body = bind-grows kept (effective kept.defaults keywords) (λ now. owned (or_dot (path_below kept.path word)) now.uid now.gid >>= λ file. (with_file most kept.files file >>= λ files. Ok (entry_kept kept word now files)))
        (λ now. bind-grows kept (owned (or_dot (path_below kept.path word)) now.uid now.gid) (λ file. with_file most kept.files file >>= λ files. Ok (entry_kept kept word now files))
        (λ file. added now file (clash most kept.files file)))

    bad : (b : Bool) → StepGrows kept (cond b (Err BadPath) (effective kept.defaults keywords >>= λ now. (owned (or_dot (path_below kept.path word)) now.uid now.gid >>= λ file. (with_file most kept.files file >>= λ files. Ok (entry_kept kept word now files)))))
    bad true = tt
    bad false = body

pub step-grows : (most : ℕ) (kept : Kept) (line : Kind) → StepGrows kept (step most kept line)
unfolding step
step-grows most kept TooLong = tt
step-grows most kept Cut = tt
step-grows most kept Ignored = grows-not kept.files
step-grows most kept Begins = by (is_unended kept.begun)
  where
    by : (b : Bool) → StepGrows kept (cond b (Err CutInventory) (Ok (record kept { begun = Some begun_now })))
    by true = tt
    by false = grows-not kept.files
step-grows most kept (Counts text) = grows-not kept.files
step-grows most kept (Sets keywords) = bind-grows kept (effective kept.defaults keywords) (λ now. Ok (record kept { defaults = now })) (λ now. grows-not kept.files)
step-grows most kept (Unsets keywords) = grows-not kept.files
step-grows most kept Unknown = tt
step-grows most kept Up = by kept.starts
  where
    by : (starts : List ℕ) → StepGrows kept (closed kept starts)
    by [] = tt
    by (s ∷ starts) = grows-not kept.files
step-grows most kept (Names word keywords) = entry-grows most (record kept { begun = with_file_given kept.begun }) word keywords

pub after-grows : (found : Result Kept TextCode) (reading : Reading) (number : ℕ) (next : Open) → StepGrows reading.kept found → Grows reading.kept.files (after_step found reading number next).kept.files
after-grows (Ok new) reading number next g = g
after-grows (Err code) reading number next g = grows-not reading.kept.files

pub newline-grows : (most : ℕ) (reading : Reading) → Grows reading.kept.files (with_newline most reading).kept.files
newline-grows most reading = by (is_joining reading.open_line.ends)
  where
    by : (b : Bool) → Grows reading.kept.files (cond b (record reading { open_line = with_join reading.open_line }) (with_line most reading)).kept.files
    by true = grows-not reading.kept.files
    by false = after-grows (step most reading.kept (clipped_kind reading.open_line.joined false)) reading reading.open_line.first (fresh _) (step-grows most reading.kept (clipped_kind reading.open_line.joined false))

byte-grows : (most : ℕ) (reading : Reading) (b : ℕ) → Grows reading.kept.files (read_byte most reading b).kept.files
byte-grows most reading b = by reading.fault
  where
    plain : (ends : Bool) → Grows reading.kept.files (cond ends (with_newline most reading) (record reading { open_line = if b == 92 then with_backslash reading.open_line else with_plain reading.open_line (b ∷ []) })).kept.files
    plain true = newline-grows most reading
    plain false = grows-not reading.kept.files

    by : (fault : Option TextFault) → Grows reading.kept.files (unless_ended fault most reading b).kept.files
    by None = plain (b == 10)
    by (Some f) = grows-not reading.kept.files

pub read-grows : (most : ℕ) (bytes : List ℕ) (reading : Reading) → Grows reading.kept.files (read_bytes most reading bytes).kept.files
unfolding read_bytes
read-grows most [] reading = grows-not reading.kept.files
read-grows most (b ∷ bytes) reading =
    grows-twice reading.kept.files (read_byte most reading b).kept.files (fold (read_byte most) (read_byte most reading b) bytes).kept.files
    (byte-grows most reading b) (read-grows most bytes (read_byte most reading b))

-- ---- what a call comes to

abbrev pub reading_at : Kept → Open → Reading
reading_at kept line = record { kept = kept; open_line = line; fault = None }

pub line-result : (kept new : Kept) (line next : Open) (number : ℕ) (found : Result Kept TextCode) → StepGrows kept found → (result : Result (Unit {0}) ReadError)
    → Gives (λ _. new) fault_told result (at_line number found) → OnErr result (new.files ≡ kept.files)
    → TakenTo new.files (reading_at new next) result (after_step found (reading_at kept line) number next)
line-result kept new line next number (Ok k) g (Ok u) e same = ap (λ (r : Result Kept TextFault). kept_in r) e
  where
    kept_in : Result Kept TextFault → Reading
    kept_in (Ok q) = reading_at q next
    kept_in (Err f) = reading_at kept next
line-result kept new line next number (Err code) g (Ok u) e same = absurd (cc)
line-result kept new line next number (Ok k) g (Err Memory) e same = (g.0, g.1 ∙ ap (λ (l : List Entry). l ++ g.0) (sym same))
line-result kept new line next number (Err code) g (Err Memory) e same = ([], sym same ∙ sym (append-nil new.files))
line-result kept new line next number (Ok k) g (Err (Fault f)) e same = absurd (cc)
line-result kept new line next number (Err code) g (Err (Fault f)) e same = (ap Some (fault_in_eq e), sym same)
  where
    fault_in : Result Kept TextFault → TextFault
    fault_in (Ok q) = f
    fault_in (Err h) = h

    fault_in_eq : at_line number (Err code) ≡ Err f → (let h : TextFault = record { code = code; line = number } in h) ≡ f
    fault_in_eq e = ap fault_in e

pub failed-more : (most : ℕ) (files : List Entry) (fault : ReadError) (reading : Reading) (bytes : List ℕ) → FailedTo files fault reading → FailedTo files fault (read_bytes most reading bytes)
unfolding read_bytes
failed-more most files Memory reading bytes h = grows-twice files reading.kept.files (read_bytes most reading bytes).kept.files h (read-grows most bytes reading)
failed-more most files (Fault f) reading bytes h = (ap (λ (r : Reading). r.fault) (stays bytes) ∙ h.0, ap (λ (r : Reading). r.kept.files) (stays bytes) ∙ h.1)
  where
    stays : (bs : List ℕ) → fold (read_byte most) reading bs ≡ reading
    stays [] = refl
    stays (b ∷ bs) = ap (λ (o : Option TextFault). fold (read_byte most) (unless_ended o most reading b) bs) h.0 ∙ stays bs

-- ---- bytes up to a newline, and bytes without one

one_byte : (most : ℕ) (kept : Kept) (line : Open) (b : ℕ) → (b ≡ 10 → ⊥) → read_byte most (reading_at kept line) b ≡ reading_at kept (with_bytes line (b ∷ []))
one_byte most kept line b other = ap (λ (t : Bool). cond t (with_newline most (reading_at kept line)) (reading_at kept (with_bytes line (b ∷ [])))) (ne_eqb b 10 other)

pub read-line : (most at : ℕ) (kept : Kept) (line : Open) (bytes : List ℕ) → at < length bytes → HasNoNewline at bytes → get_or bytes at 0 ≡ 10
    → read_bytes most (reading_at kept line) bytes ≡ read_bytes most (with_newline most (with_run (reading_at kept line) (take at bytes))) (drop (at + 1) bytes)
unfolding read_bytes
read-line most at kept line bytes within none newline =
    let more : suc at ≡ at + 1 = omega arith in
    by at line bytes within none newline
    ∙ ap (λ (n : ℕ). read_bytes most (with_newline most (with_run (reading_at kept line) (take at bytes))) (drop n bytes)) more
  where
    by : (n : ℕ) (line : Open) (bytes : List ℕ) → n < length bytes → HasNoNewline n bytes → get_or bytes n 0 ≡ 10
        → read_bytes most (reading_at kept line) bytes ≡ read_bytes most (with_newline most (with_run (reading_at kept line) (take n bytes))) (drop (suc n) bytes)
    by n line [] within none newline = absurd (omega (arith, within))
    by zero line (b ∷ bytes) within none newline = ap (λ (x : ℕ). fold (read_byte most) (reading_at kept line) (x ∷ bytes)) newline
    by (suc n) line (b ∷ bytes) within none newline =
        ap (λ (m : Reading). fold (read_byte most) m bytes) (one_byte most kept line b (none 0 (omega arith)))
        ∙ by n (with_bytes line (b ∷ [])) bytes (omega (arith, within)) (λ k less. none (suc k) (omega (arith, less))) newline

-- a line and its newline, as the reader took them
module _ (most at : ℕ) (kept : Kept) (begun : Open) (rest line : List ℕ) (within : at < length rest) (none : HasNoNewline at rest) (newline : get_or rest at 0 ≡ 10) (is : line ≡ take at rest) where
  line_taken : read_bytes most (reading_at kept begun) rest ≡ read_bytes most (with_newline most (with_run (reading_at kept begun) line)) (drop (at + 1) rest)
  line_taken =
      read-line most at kept begun rest within none newline
      ∙ ap (λ (l : List ℕ). read_bytes most (with_newline most (with_run (reading_at kept begun) l)) (drop (at + 1) rest)) (sym is)

  pub line-taken : (new : Reading) → with_newline most (with_run (reading_at kept begun) line) ≡ new → read_bytes most (reading_at kept begun) rest ≡ read_bytes most new (drop (at + 1) rest)
  line-taken new e = line_taken ∙ ap (λ (m : Reading). read_bytes most m (drop (at + 1) rest)) e

  pub line-failed : (files : List Entry) (fault : ReadError) → FailedTo files fault (with_newline most (with_run (reading_at kept begun) line)) → FailedTo files fault (read_bytes most (reading_at kept begun) rest)
  line-failed files fault h =
      subst (FailedTo files fault) (sym line_taken) (failed-more most files fault (with_newline most (with_run (reading_at kept begun) line)) (drop (at + 1) rest) h)

pub read-rest : (most : ℕ) (kept : Kept) (line : Open) (bytes : List ℕ) → HasNoNewline (length bytes) bytes
    → read_bytes most (reading_at kept line) bytes ≡ reading_at kept (with_bytes line bytes)
unfolding read_bytes
read-rest most kept line [] none = refl
read-rest most kept line (b ∷ bytes) none =
    ap (λ (m : Reading). fold (read_byte most) m bytes) (one_byte most kept line b (none 0 (omega arith)))
    ∙ read-rest most kept (with_bytes line (b ∷ [])) bytes (λ k less. none (suc k) (omega (arith, less)))

pub newline-line : (most : ℕ) (reading : Reading) → is_joining reading.open_line.ends ≡ false → with_newline most reading ≡ with_line most reading
newline-line most reading e = ap (λ (b : Bool). cond b (record reading { open_line = with_join reading.open_line }) (with_line most reading)) e

pub taken-err : (files : List Entry) (left other target : Reading) (result : Result (Unit {0}) ReadError) → is_ok result ≡ false → TakenTo files left result target → TakenTo files other result target
taken-err files left other target (Ok u) e h = absurd (false≢true (sym e))
taken-err files left other target (Err f) e h = h

pub end-nothing : (most : ℕ) (kept : Kept) (line : Open) → line.ends ≡ Nothing → last_read most (reading_at kept line) ≡ reading_at kept line
unfolding last_read
end-nothing most kept line e = ap (λ (x : Ends). at_end x most (reading_at kept line)) e

pub end-byte : (most : ℕ) (kept : Kept) (line : Open) → line.ends ≡ Byte → last_read most (reading_at kept line) ≡ after_step (step most kept (clipped_kind line.joined false)) (reading_at kept line) line.first line
unfolding last_read
end-byte most kept line e = ap (λ (x : Ends). at_end x most (reading_at kept line)) e

pub end-joined : (most : ℕ) (kept : Kept) (line : Open) → line.ends ≡ Joined → last_read most (reading_at kept line) ≡ after_step (step most kept (clipped_kind line.joined true)) (reading_at kept line) line.first line
unfolding last_read
end-joined most kept line e = ap (λ (x : Ends). at_end x most (reading_at kept line)) e

pub end-backslash : (most : ℕ) (kept : Kept) (line : Open) → line.ends ≡ Backslash → last_read most (reading_at kept line) ≡ after_step (step most kept (clipped_kind line.joined true)) (reading_at kept line) line.first line
unfolding last_read
end-backslash most kept line e = ap (λ (x : Ends). at_end x most (reading_at kept line)) e

-- the last line, where one is taken
pub end-result : (most : ℕ) (kept new : Kept) (line after : Open) (cut : Bool) (result : Result (Unit {0}) ReadError)
    → last_read most (reading_at kept line) ≡ after_step (step most kept (clipped_kind line.joined cut)) (reading_at kept line) line.first line
    → Gives (λ _. new) fault_told result (at_line line.first (step most kept (clipped_kind line.joined cut))) → OnErr result (new.files ≡ kept.files) → after ≡ line
    → TakenTo new.files (reading_at new after) result (last_read most (reading_at kept line))
end-result most kept new line after cut result e h same stays =
    subst (TakenTo new.files (reading_at new after) result) (sym e)
    (subst (λ (o : Open). TakenTo new.files (reading_at new o) result (after_step (step most kept (clipped_kind line.joined cut)) (reading_at kept line) line.first line)) (sym stays)
    (line-result kept new line line line.first (step most kept (clipped_kind line.joined cut)) (step-grows most kept (clipped_kind line.joined cut)) result h same))

-- ---- whether the inventory that was begun last is ended

pub end-whole : (most : ℕ) (reading : Reading) (kept : Kept) (line : Open) → last_read most reading ≡ reading_at kept line → is_unended kept.begun ≡ false → finished most reading ≡ reading_at kept line
unfolding finished
end-whole most reading kept line e ended =
    ap with_end_seen e ∙ ap (λ (b : Bool). (let m : Reading = record { kept = kept; open_line = line; fault = cond b (Some (record { code = CutInventory; line = line.current })) None } in m)) ended

pub end-lacks : (most : ℕ) (reading : Reading) (kept : Kept) (line : Open) → last_read most reading ≡ reading_at kept line → is_unended kept.begun ≡ true
    → FailedTo kept.files (Fault (record { code = CutInventory; line = line.current })) (finished most reading)
unfolding finished
end-lacks most reading kept line e unended = (
  ap (λ (m : Reading). (with_end_seen m).fault) e ∙ ap (λ (b : Bool). cond b (Some (record { code = CutInventory; line = line.current })) None) unended,
  ap (λ (m : Reading). m.kept.files) e,
)

pub end-failed : (most : ℕ) (reading : Reading) (files : List Entry) (fault : ReadError) → FailedTo files fault (last_read most reading) → FailedTo files fault (finished most reading)
unfolding finished
end-failed most reading files Memory h = h
end-failed most reading files (Fault f) h = (ap (λ (o : Option TextFault). or_else o (end_lacking (last_read most reading))) h.0, h.1)
