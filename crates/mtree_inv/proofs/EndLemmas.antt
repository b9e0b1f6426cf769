-- The end of a text: in which line it comes, and that the last line is read before it.
use Rattle.std.proofs.Common.{◌≡◌, ℕ, ◌+◌, ◌-◌, ◌≤◌, Bool, true, false, cond, min, List, [], ◌∷◌, length, refl, sym, ap, ◌∙◌, subst, arith}
use Rattle.std.specs.Prelude.{Option, Some, None, Result, Ok, Err, count_by, if◌then◌else◌, ◌==◌}
use Rattle.std.proofs.lemmas.List.Splits.{length-slice_split}
use Rattle.std.proofs.lemmas.List.Sums.{sum_by-cons}
use Rattle.idtext.specs.Faults.{line_number}
use Rattle.idtext.specs.Pieces.{pieces}
use Rattle.idtext.specs.declared.faults.TextCode.{TextCode}
use Rattle.idtext.specs.declared.faults.TextCode.TheVariants.{CutInventory}
use Rattle.idtext.specs.declared.faults.TextFault.{TextFault}
use Rattle.idtext.specs.declared.faults.ReadError.TheVariants.{Fault}
use Rattle.mtree_inv.specs.declared.open_line.Ends.{Ends}
use Rattle.mtree_inv.specs.declared.open_line.Ends.TheVariants.{Nothing, Joined, Byte, Backslash}
use Rattle.mtree_inv.specs.Looking.{all_but_last}
use Rattle.mtree_inv.specs.Logical.{next_number, ended_lines, logical_lines}
use Rattle.mtree_inv.specs.Inventory.{kinds, end_fault}
use Rattle.mtree_inv.specs.Machine.{Kept, step}
use Rattle.mtree_inv.specs.Reading.{Open, with_plain, with_backslash, with_join, is_joining, fresh, clipped_kind, Reading, after_step, with_line, with_newline, unless_ended, read_byte, read_bytes, at_end, unless_ended_at_end, last_read, end_lacking, start}
use Rattle.mtree_inv.specs.Whole.{is_cut}
use Rattle.mtree_inv.proofs.ReadLemmas.{failed-more}
use Rattle.mtree_inv.proofs.StepLemmas.{Follows}
use Rattle.mtree_inv.proofs.WholeLemmas.{unended-is}

abbrev pub is_newline : ℕ → Bool
is_newline b = b == 10

length-but_last : (xs : List (List ℕ)) → length (all_but_last xs) ≡ length xs - 1
length-but_last [] = refl
length-but_last (x ∷ []) = refl
length-but_last (x ∷ y ∷ xs) = omega (arith, length-but_last (y ∷ xs))

-- as many lines are ended as there are newlines
pub ended-newlines : (text : List ℕ) → length (ended_lines text) ≡ count_by is_newline text
unfolding pieces
ended-newlines text = omega (arith, length-but_last (pieces 10 text), length-slice_split is_newline text)

-- ---- the number of the present line

-- a reading without a fault had none before
sound_before : (most : ℕ) (reading : Reading) (bytes : List ℕ) → (read_bytes most reading bytes).fault ≡ None → reading.fault ≡ None
sound_before most reading bytes none = by reading.fault refl
  where
    by : (o : Option TextFault) → reading.fault ≡ o → o ≡ None
    by None e = refl
    by (Some f) e =
        let stays : (read_bytes most reading bytes).fault ≡ Some f = (failed-more most reading.kept.files (Fault f) reading bytes (e, refl)).0 in
        absurd (let no : Some f ≡ None = sym stays ∙ none in cc)

abbrev after_byte : ℕ → ℕ → ℕ
after_byte b n = cond (b == 10) (next_number n) n

byte_current : (most : ℕ) (reading : Reading) (b : ℕ) → (read_byte most reading b).fault ≡ None → (read_byte most reading b).open_line.current ≡ after_byte b reading.open_line.current
byte_current most reading b none = by reading.fault refl none
  where
    line : Open
    line = reading.open_line

    stepped : (found : Result Kept TextCode) → (after_step found reading line.first (fresh (next_number line.current))).fault ≡ None
        → (after_step found reading line.first (fresh (next_number line.current))).open_line.current ≡ next_number line.current
    stepped (Ok kept) h = refl
    stepped (Err code) h = absurd (cc)

    newline : (joins : Bool) → (cond joins (record reading { open_line = with_join line }) (with_line most reading)).fault ≡ None
        → (cond joins (record reading { open_line = with_join line }) (with_line most reading)).open_line.current ≡ next_number line.current
    newline true h = refl
    newline false h = stepped (step most reading.kept (clipped_kind line.joined false)) h

    other : (slash : Bool) → (cond slash (with_backslash line) (with_plain line (b ∷ []))).current ≡ line.current
    other true = refl
    other false = refl

    byte : (ends : Bool) → (cond ends (with_newline most reading) (record reading { open_line = if b == 92 then with_backslash line else with_plain line (b ∷ []) })).fault ≡ None
        → (cond ends (with_newline most reading) (record reading { open_line = if b == 92 then with_backslash line else with_plain line (b ∷ []) })).open_line.current ≡ cond ends (next_number line.current) line.current
    byte true h = newline (is_joining line.ends) h
    byte false h = other (b == 92)

    by : (o : Option TextFault) → reading.fault ≡ o → (unless_ended o most reading b).fault ≡ None → (unless_ended o most reading b).open_line.current ≡ after_byte b line.current
    by None e h = byte (b == 10) h
    by (Some f) e h = absurd (let no : Some f ≡ None = sym e ∙ h in cc)

within : (t : Bool) (n : ℕ) → n ≤ 18446744073709551615 → cond t (next_number n) n ≤ 18446744073709551615
within true n small = omega arith
within false n small = small

moved : (t : Bool) (from to more last : ℕ) → from ≤ 18446744073709551615 → to ≡ cond t (next_number from) from → last ≡ min (to + more) 18446744073709551615
    → last ≡ min (from + (cond t 1 0 + more)) 18446744073709551615
moved true from to more last small e f = omega arith
moved false from to more last small e f = omega arith

one_byte : (most : ℕ) (reading : Reading) (b : ℕ) (bytes : List ℕ) → reading.open_line.current ≤ 18446744073709551615 → (read_bytes most (read_byte most reading b) bytes).fault ≡ None
    → ((read_byte most reading b).open_line.current ≤ 18446744073709551615
    → (read_bytes most (read_byte most reading b) bytes).open_line.current ≡ min ((read_byte most reading b).open_line.current + count_by is_newline bytes) 18446744073709551615)
    → (read_bytes most (read_byte most reading b) bytes).open_line.current ≡ min (reading.open_line.current + count_by is_newline (b ∷ bytes)) 18446744073709551615
one_byte most reading b bytes small none rest =
    let next = read_byte most reading b in
    let here : next.open_line.current ≡ after_byte b reading.open_line.current = byte_current most reading b (sound_before most next bytes none) in
    let small_next : next.open_line.current ≤ 18446744073709551615 = subst (λ (n : ℕ). n ≤ 18446744073709551615) (sym here) (within (b == 10) reading.open_line.current small) in
    moved (b == 10) reading.open_line.current next.open_line.current (count_by is_newline bytes) (read_bytes most next bytes).open_line.current small here (rest small_next)
    ∙ ap (λ (n : ℕ). min (reading.open_line.current + n) 18446744073709551615) (sym (sum_by-cons (λ (c : ℕ). cond (is_newline c) 1 0) b bytes))

current_after : (most : ℕ) (bytes : List ℕ) (reading : Reading) → reading.open_line.current ≤ 18446744073709551615 → (read_bytes most reading bytes).fault ≡ None
    → (read_bytes most reading bytes).open_line.current ≡ min (reading.open_line.current + count_by is_newline bytes) 18446744073709551615
unfolding read_bytes
current_after most [] reading small none = omega (arith, small)
current_after most (b ∷ bytes) reading small none = one_byte most reading b bytes small none (λ small_next. current_after most bytes (read_byte most reading b) small_next none)

-- reading the last line stays in it
last-line : (most : ℕ) (reading : Reading) → (last_read most reading).open_line ≡ reading.open_line
unfolding last_read
last-line most reading = by reading.fault
  where
    stepped : (found : Result Kept TextCode) → (after_step found reading reading.open_line.first reading.open_line).open_line ≡ reading.open_line
    stepped (Ok kept) = refl
    stepped (Err code) = refl

    ended : (ends : Ends) → (at_end ends most reading).open_line ≡ reading.open_line
    ended Nothing = refl
    ended Byte = stepped (step most reading.kept (clipped_kind reading.open_line.joined false))
    ended Joined = stepped (step most reading.kept (clipped_kind reading.open_line.joined true))
    ended Backslash = stepped (step most reading.kept (clipped_kind reading.open_line.joined true))

    by : (o : Option TextFault) → (unless_ended_at_end o most reading).open_line ≡ reading.open_line
    by None = ended reading.open_line.ends
    by (Some f) = refl

last-sound : (most : ℕ) (reading : Reading) → (last_read most reading).fault ≡ None → reading.fault ≡ None
unfolding last_read
last-sound most reading none = by reading.fault refl none
  where
    by : (o : Option TextFault) → reading.fault ≡ o → (unless_ended_at_end o most reading).fault ≡ None → o ≡ None
    by None e h = refl
    by (Some f) e h = absurd (let no : Some f ≡ None = sym e ∙ h in cc)

-- ---- what lacks at the end

end_line : (most : ℕ) (text : List ℕ) → (last_read most (read_bytes most start text)).fault ≡ None
    → (last_read most (read_bytes most start text)).open_line.current ≡ line_number (length (ended_lines text))
end_line most text none =
    let reading = read_bytes most start text in
    ap (λ (line : Open). line.current) (last-line most reading)
    ∙ current_after most text start (omega arith) (last-sound most reading none)
    ∙ omega (arith, ended-newlines text)

pub end-lacking : (most : ℕ) (text : List ℕ) → (let last = last_read most (read_bytes most start text) in last.fault ≡ None → Follows last.kept (kinds (logical_lines text)) → end_lacking last ≡ end_fault text)
end-lacking most text none follows =
    let last = last_read most (read_bytes most start text) in
    ap (λ (b : Bool). cond b (Some (record { code = CutInventory; line = last.open_line.current })) None) (unended-is last.kept.begun (kinds (logical_lines text)) follows.begun)
    ∙ ap (λ (n : ℕ). cond (is_cut (kinds (logical_lines text))) (Some (let f : TextFault = record { code = CutInventory; line = n } in f)) None) (end_line most text none)
