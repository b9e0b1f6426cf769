-- An inventory is refused wherever it is cut.
use Rattle.std.proofs.Common.{◌≡◌, ℕ, zero, suc, ◌+◌, ◌-◌, ◌*◌, ◌<◌, ◌≤◌, ◌^◌, Bool, true, false, cond, not, ◌==◌, All, List, [], ◌∷◌, ◌++◌, length, take, get_or, refl, sym, ap, ◌∙◌, subst, arith, append-nil, append_assoc, length-append, codes, inl, inr, ◌⊎◌}
use Rattle.std.specs.Prelude.{nat_lt, decimal, Option, Some, None, Result, Ok, Err, option_map}
use Rattle.std.specs.Char.{digit_value}
use Rattle.std.specs.Option.{option_or, option_flatten}
use Rattle.std.specs.Str.{bytes_eq}
use Rattle.std.specs.Str.Parse.{digits_value}
use Rattle.std.proofs.Math.Seq.{take-append-add}
use Rattle.std.proofs.lemmas.Bool.{cond_both, eqb-true, false_from_ne_true, ltb-false, ltb-true}
use Rattle.std.proofs.lemmas.Fmt.{decimal_digit, decimal_is_IsNumeral}
use Rattle.std.proofs.lemmas.Int.Digits.{digits_value_more}
use Rattle.std.proofs.lemmas.List.{length-take-le, map-append, take-append-le}
use Rattle.std.proofs.lemmas.List.Elements.{All-head, All-nil, All-cons, All-tail, All-take}
use Rattle.std.proofs.lemmas.List.Splits.{slice_split_none}
use Rattle.std.proofs.lemmas.Str.Parse.{digits_value-take-le}
use Rattle.idtext.specs.Faults.{line_number}
use Rattle.idtext.specs.First.{first_fault, or_else, unless, ◌>>=◌}
use Rattle.idtext.specs.Numbers.{greatest_id, id_of, is_numeral, numeral}
use Rattle.idtext.specs.Pieces.{lines, pieces, unless_empty}
use Rattle.idtext.specs.Words.{most_line_bytes, words}
use Rattle.idtext.specs.declared.faults.TextCode.{TextCode}
use Rattle.idtext.specs.declared.faults.TextCode.TheVariants.{CutContinuation, CutInventory, LineTooLong}
use Rattle.idtext.specs.declared.faults.TextFault.{TextFault}
use Rattle.idtext.proofs.PieceLemmas.{lines-empty, lines-last}
use Rattle.mtree_inv.specs.declared.entry.Entry.{Entry}
use Rattle.mtree_inv.specs.Inventory.{end_fault, fault_of, fault_said, files_of as files_in, inventory, inventory_of_lines, kinds, numbered_fault, said_alone}
use Rattle.mtree_inv.specs.Kinds.{Kind, TooLong, Cut, Ignored, Begins, Counts, Sets, Unsets, Unknown, Up, Names, first_byte_is, kind_of, kind_of_command, kind_of_name, kind_of_text, kind_of_words}
use Rattle.mtree_inv.specs.Logical.{LogicalLine, continued, ended_lines, ends_in_backslash, joined_from, logical_lines, next_number}
use Rattle.mtree_inv.specs.Looking.{all_but_last, last_said}
use Rattle.mtree_inv.specs.Whole.{files_given, is_cut, is_ended, is_number, lacks_end, lines_since, told, told_by}
use Rattle.mtree_inv.proofs.LookingLemmas.{option_or-none}
use Rattle.inventory_text.specs.Writing.{Head, ended, end_line, head_line, words_text}
use Rattle.inventory_text.specs.Listed.{Listed, IsListed, entries_text, line_of}
use Rattle.inventory_text.specs.ReadBack.{CutAnywhereIsRefused}
use Rattle.inventory_text.proofs.Texts.{AllRead, Item, all-read, end-says, entries-say, entries-text, entry-says, entry_items, entry_kind, head-reads-as, item_kinds, item_lines, kinds-numbered, line-first, no_newline, numbered, text_of}

-- ---- a number that is cut

number-is : (text : List ℕ) (m : ℕ) → numeral 10 text ≡ Some m → (0 < length text) × (digits_value 10 text ≡ m)
unfolding numeral
number-is [] m e = absurd (cc)
number-is (c ∷ cs) m e = (omega arith, by (is_numeral 10 (c ∷ cs)) e)
  where
    by : (b : Bool) → cond b (Some (digits_value 10 (c ∷ cs))) None ≡ Some m → digits_value 10 (c ∷ cs) ≡ m
    by true e = cc
    by false e = absurd (cc)

-- the first digits of a number are another one
fewer-digits : (count j : ℕ) → count ≤ greatest_id → j < length (decimal count) → is_number (id_of (take j (decimal count))) count ≡ false
fewer-digits count j small fewer = by (id_of (take j (decimal count))) refl
  where
    other : (m : ℕ) → numeral 10 (take j (decimal count)) ≡ Some m → m ≡ count → ⊥
    other m e same =
        let digits = decimal count in
        let little : count < 2 ^ 64 = omega (arith, small) in
        let read = number-is (take j digits) m e in
        let value : digits_value 10 digits ≡ count = (decimal_is_IsNumeral count little).1 in
        let more : digits_value 10 (take (j + 1) digits) ≡ digits_value 10 (take j digits) * 10 + digit_value (get_or digits j 0) = digits_value_more 10 digits j fewer in
        let within : digits_value 10 (take (j + 1) digits) ≤ digits_value 10 digits = digits_value-take-le 10 digits (j + 1) (omega arith) in
        let long : length (take j digits) ≡ j = length-take-le j digits (omega (arith, fewer)) in
        let none : count ≡ 0 = omega (arith, read.1, same, value, more, within) in
        let one : length digits ≡ 1 = ap (λ (n : ℕ). length (decimal n)) none ∙ ap length (decimal_digit 0 (omega arith)) in
        omega (arith, read.0, long, one, fewer)

    by : (o : Option ℕ) → id_of (take j (decimal count)) ≡ o → is_number o count ≡ false
    by None e = refl
    by (Some m) e = false_from_ne_true (m == count) (λ t. other m e (eqb-true m count t))

-- ---- the last line that is there

-- it does not tell that so many files are there
abbrev Quiet : ℕ → Kind → Type 0
Quiet given (Counts text) = is_number (id_of text) given ≡ false
Quiet given _ = Unit {0}

record IsPart (part : List ℕ) (given : ℕ) : Type 0 where
  bare : All (λ b. (b == 10) ≡ false) part
  quiet : Quiet given (kind_of_text part)

quiet-words : (given : ℕ) (ws : List (List ℕ)) → Quiet given (kind_of_words ws)
quiet-words given [] = tt
quiet-words given (w ∷ ws) =
    cond_both (first_byte_is 35 w) Ignored (cond (first_byte_is 47 w) (kind_of_command w ws) (kind_of_name w ws)) (Quiet given) (λ e. tt)
    (λ e. cond_both (first_byte_is 47 w) (kind_of_command w ws) (kind_of_name w ws) (Quiet given)
    (λ f. cond_both (bytes_eq w (codes "/set")) (Sets ws) (cond (bytes_eq w (codes "/unset")) (Unsets ws) Unknown) (Quiet given) (λ g. tt)
    (λ g. cond_both (bytes_eq w (codes "/unset")) (Unsets ws) Unknown (Quiet given) (λ h. tt) (λ h. tt)))
    (λ f. cond_both (bytes_eq w (codes "..")) Up (Names w ws) (Quiet given) (λ g. tt) (λ g. tt)))

-- of the line of a file
quiet-entry : (given : ℕ) (k : ℕ) (rest : List ℕ) → Quiet given (kind_of_text (take k (46 ∷ rest)))
quiet-entry given zero rest = quiet-words given (words [])
quiet-entry given (suc k) rest = quiet-words given (words (46 ∷ take k rest))

-- of the last one
quiet-end : (count k : ℕ) → count ≤ greatest_id → k < length (end_line count) → Quiet count (kind_of_text (take k (end_line count)))
quiet-end count zero small cut = quiet-words count (words [])
quiet-end count (suc zero) small cut = quiet-words count (words (codes "#"))
quiet-end count (suc (suc zero)) small cut = quiet-words count (words (codes "# "))
quiet-end count (suc (suc (suc zero))) small cut = quiet-words count (words (codes "# e"))
quiet-end count (suc (suc (suc (suc zero)))) small cut = quiet-words count (words (codes "# en"))
quiet-end count (suc (suc (suc (suc (suc zero))))) small cut = quiet-words count (words (codes "# end"))
quiet-end count (suc (suc (suc (suc (suc (suc j)))))) small cut = fewer-digits count j small (omega (arith, cut))

reached : (n m : ℕ) → (n ≤ m) ⊎ (m < n)
reached n m = by (nat_lt m n) refl
  where
    by : (b : Bool) → nat_lt m n ≡ b → (n ≤ m) ⊎ (m < n)
    by true e = inr (ltb-true m n e)
    by false e = inl (ltb-false m n e)

-- ---- where the lines of files and the last line are cut

record IsCutAt (text : List ℕ) (before : ℕ) : Type 0 where
  front : List Listed
  part : List ℕ
  each : All IsListed front
  text_is : text ≡ entries_text front ++ part
  is_part : IsPart part (before + length front)

cut-within : (line rest : List ℕ) (n : ℕ) → n ≤ length line → take n (ended line ++ rest) ≡ take n line
cut-within line rest n within = ap (take n) (append_assoc line (10 ∷ []) rest) ∙ take-append-le n line (10 ∷ rest) within

cut-behind : (line rest front part : List ℕ) (n m : ℕ) → n ≡ length line + m → take m rest ≡ front ++ part → take n (line ++ rest) ≡ (line ++ front) ++ part
cut-behind line rest front part n m place is =
    ap (λ (k : ℕ). take k (line ++ rest)) place ∙ take-append-add line rest m ∙ ap (λ (t : List ℕ). line ++ t) is ∙ sym (append_assoc line front part)

part-more : (part : List ℕ) (before : ℕ) (l : Listed) (front : List Listed) → IsPart part (before + 1 + length front) → IsPart part (before + length (l ∷ front))
part-more part before l front is = subst (IsPart part) (omega arith) is

cut-at : (count before : ℕ) (listed : List Listed) (n : ℕ) → All IsListed listed → count ≡ before + length listed → count ≤ greatest_id
    → n + 1 < length (entries_text listed ++ ended (end_line count)) → IsCutAt (take n (entries_text listed ++ ended (end_line count))) before
cut-at count before [] n all is small cut =
    let line = end_line count in
    let shorter : n < length line = omega (arith, cut, length-append line (10 ∷ [])) in
    record {
      front = [];
      part = take n line;
      each = All-nil IsListed;
      text_is = take-append-le n line (10 ∷ []) (omega (arith, shorter));
      is_part = record {
        bare = All-take (λ b. (b == 10) ≡ false) n line (no_newline line (end-says count (omega (arith, small))).reads.printed);
        quiet = subst (λ (m : ℕ). Quiet m (kind_of_text (take n line))) is (quiet-end count n small shorter);
      };
    }
cut-at count before (l ∷ ls) n all is small cut =
    subst (λ (t : List ℕ). IsCutAt (take n t) before) whole (by (reached n (length line)) (λ m. cut-at count (before + 1) ls m (All-tail IsListed l ls all) (omega (arith, is)) small))
  where
    line : List ℕ
    line = line_of l

    rest : List ℕ
    rest = entries_text ls ++ ended (end_line count)

    whole : ended line ++ rest ≡ entries_text (l ∷ ls) ++ ended (end_line count)
    whole = sym (append_assoc (ended line) (entries_text ls) (ended (end_line count)))

    by : (n ≤ length line) ⊎ (length line < n) → ((m : ℕ) → m + 1 < length rest → IsCutAt (take m rest) (before + 1))
        → IsCutAt (take n (ended line ++ rest)) before
    by (inl within) behind-it = record {
      front = [];
      part = take n line;
      each = All-nil IsListed;
      text_is = cut-within line rest n within;
      is_part = record {
        bare = All-take (λ b. (b == 10) ≡ false) n line (no_newline line (entry-says l (All-head IsListed l ls all)).reads.printed);
        quiet = quiet-entry (before + 0) n _;
      };
    }
    by (inr behind) behind-it =
        let m : ℕ = n - (length line + 1) in
        let long : length (ended line) ≡ length line + 1 = length-append line (10 ∷ []) in
        let place : n ≡ length (ended line) + m = omega (arith, behind, long) in
        let left : m + 1 < length rest = omega (arith, cut, behind, long, ap (λ (t : List ℕ). length t) whole, length-append (ended line) rest) in
        let later = behind-it m left in
        record {
          front = l ∷ later.front;
          part = later.part;
          each = All-cons IsListed l later.front (All-head IsListed l ls all) later.each;
          text_is = cut-behind (ended line) rest (entries_text later.front) later.part n m place later.text_is;
          is_part = part-more later.part before l later.front later.is_part;
        }

-- ---- the kinds of the lines

lines-part : (items : List Item) (part : List ℕ) → AllRead items → All (λ b. (b == 10) ≡ false) part → lines (text_of items ++ part) ≡ item_lines items ++ unless_empty part
unfolding pieces
lines-part [] [] all bare = lines-empty
lines-part [] (b ∷ part) all bare = lines-last (b ∷ part) (omega arith) (slice_split_none (λ b. b == 10) (b ∷ part) bare)
lines-part (i ∷ is) part all bare =
    ap lines (append_assoc (ended i.line) (text_of is) part)
    ∙ line-first i.line (text_of is ++ part) all.0.printed
    ∙ ap (λ (ls : List (List ℕ)). i.line ∷ ls) (lines-part is part all.1 bare)

abbrev number_after : ℕ → List Item → ℕ
number_after n [] = n
number_after n (i ∷ is) = number_after (next_number n) is

joined-part : (n : ℕ) (items : List Item) (last : List (List ℕ)) → AllRead items
    → joined_from n (item_lines items ++ last) ≡ numbered n (item_lines items) ++ joined_from (number_after n items) last
joined-part n [] last all = refl
joined-part n (i ∷ is) last all =
    ap (λ (ends : Bool). cond ends (continued n (all_but_last i.line) (joined_from (next_number n) (item_lines is ++ last))) (record { number = n; text = i.line; is_cut = false } ∷ joined_from (next_number n) (item_lines is ++ last))) all.0.ends
    ∙ ap (λ (ls : List LogicalLine). record { number = n; text = i.line; is_cut = false } ∷ ls) (joined-part (next_number n) is last all.1)

part-kinds : (items : List Item) (part : List ℕ) → AllRead items → All (λ b. (b == 10) ≡ false) part
    → kinds (logical_lines (text_of items ++ part)) ≡ item_kinds items ++ kinds (joined_from (number_after 1 items) (unless_empty part))
part-kinds items part all bare =
    ap (λ (ls : List (List ℕ)). kinds (joined_from 1 ls)) (lines-part items part all bare)
    ∙ ap kinds (joined-part 1 items (unless_empty part) all)
    ∙ map-append kind_of (numbered 1 (item_lines items)) (joined_from (number_after 1 items) (unless_empty part))
    ∙ ap (λ (ks : List Kind). ks ++ kinds (joined_from (number_after 1 items) (unless_empty part))) (kinds-numbered 1 items all)

-- no kind, or a quiet one
abbrev LastQuiet : ℕ → List Kind → Type 0
LastQuiet given [] = Unit {0}
LastQuiet given (k ∷ []) = Quiet given k
LastQuiet given (k ∷ l ∷ ks) = ⊥

last-quiet : (n : ℕ) (part : List ℕ) (given : ℕ) → Quiet given (kind_of_text part) → LastQuiet given (kinds (joined_from n (unless_empty part)))
unfolding kind_of
last-quiet n [] given quiet = tt
last-quiet n (b ∷ part) given quiet =
    cond_both (ends_in_backslash (b ∷ part)) (continued n (all_but_last (b ∷ part)) []) (record { number = n; text = b ∷ part; is_cut = false } ∷ []) (λ (ls : List LogicalLine). LastQuiet given (kinds ls))
    (λ e. cond_both (nat_lt most_line_bytes (length (all_but_last (b ∷ part)))) TooLong Cut (Quiet given) (λ f. tt) (λ f. tt))
    (λ e. cond_both (nat_lt most_line_bytes (length (b ∷ part))) TooLong (kind_of_text (b ∷ part)) (Quiet given) (λ f. tt) (λ f. quiet))

-- ---- that no end is told

abbrev entry_kinds : List Listed → List Kind → List Kind
entry_kinds [] rest = rest
entry_kinds (l ∷ ls) rest = entry_kind l ∷ entry_kinds ls rest

kinds-of-entries : (front : List Listed) (rest : List Kind) → item_kinds (entry_items front []) ++ rest ≡ entry_kinds front rest
kinds-of-entries [] rest = refl
kinds-of-entries (l ∷ ls) rest = ap (λ (ks : List Kind). entry_kind l ∷ ks) (kinds-of-entries ls rest)

kinds-given : (front : List Listed) (rest : List Kind) → files_given (entry_kinds front rest) ≡ length front + files_given rest
kinds-given [] rest = omega arith
kinds-given (l ∷ ls) rest = omega (arith, kinds-given ls rest)

kinds-since : (front : List Listed) (rest : List Kind) → lines_since (entry_kinds front rest) ≡ lines_since rest
kinds-since [] rest = refl
kinds-since (l ∷ ls) rest = option_or-none (lines_since (entry_kinds ls rest)) ∙ kinds-since ls rest

kinds-told : (front : List Listed) (rest : List Kind) (number : Option ℕ) → last_said told_by rest ≡ Some number → last_said told_by (entry_kinds front rest) ≡ Some number
kinds-told [] rest number h = h
kinds-told (l ∷ ls) rest number h = ap (λ (o : Option (Option ℕ)). option_or o (Some None)) (kinds-told ls rest number h)

kinds-untold : (front : List Listed) (rest : List Kind) → told rest ≡ None → told (entry_kinds front rest) ≡ None
kinds-untold [] rest h = h
kinds-untold (l ∷ ls) rest h = by (last_said told_by (entry_kinds ls rest)) (kinds-untold ls rest h)
  where
    by : (o : Option (Option ℕ)) → option_flatten o ≡ None → option_flatten (option_or o (Some None)) ≡ None
    by None e = refl
    by (Some x) e = e

since-cut : (front : List Listed) (rest : List Kind) → lines_since rest ≡ None → is_ended (entry_kinds front rest) ≡ false → is_cut (Begins ∷ entry_kinds front rest) ≡ true
since-cut front rest none unended =
    ap (λ (o : Option (List Kind)). lacks_end (option_or o (Some (entry_kinds front rest)))) (kinds-since front rest ∙ none) ∙ ap not unended

untold-cut : (front : List Listed) (rest : List Kind) → lines_since rest ≡ None → told rest ≡ None → is_cut (Begins ∷ entry_kinds front rest) ≡ true
untold-cut front rest none untold = since-cut front rest none (ap (λ (o : Option ℕ). is_number o (files_given (entry_kinds front rest))) (kinds-untold front rest untold))

cut-kinds : (front : List Listed) (rest : List Kind) → LastQuiet (length front) rest → is_cut (Begins ∷ entry_kinds front rest) ≡ true
cut-kinds front [] quiet = untold-cut front [] refl refl
cut-kinds front (TooLong ∷ []) quiet = untold-cut front (TooLong ∷ []) refl refl
cut-kinds front (Cut ∷ []) quiet = untold-cut front (Cut ∷ []) refl refl
cut-kinds front (Ignored ∷ []) quiet = untold-cut front (Ignored ∷ []) refl refl
cut-kinds front (Begins ∷ []) quiet = ap (λ (o : Option (List Kind)). lacks_end (option_or o (Some (entry_kinds front (Begins ∷ []))))) (kinds-since front (Begins ∷ []))
cut-kinds front (Counts text ∷ []) quiet =
    since-cut front (Counts text ∷ []) refl
    (ap (λ (o : Option (Option ℕ)). is_number (option_flatten o) (files_given (entry_kinds front (Counts text ∷ [])))) (kinds-told front (Counts text ∷ []) (id_of text) refl)
    ∙ ap (is_number (id_of text)) (kinds-given front (Counts text ∷ []) ∙ omega arith) ∙ quiet)
cut-kinds front (Sets keywords ∷ []) quiet = untold-cut front (Sets keywords ∷ []) refl refl
cut-kinds front (Unsets keywords ∷ []) quiet = untold-cut front (Unsets keywords ∷ []) refl refl
cut-kinds front (Unknown ∷ []) quiet = untold-cut front (Unknown ∷ []) refl refl
cut-kinds front (Up ∷ []) quiet = untold-cut front (Up ∷ []) refl refl
cut-kinds front (Names word keywords ∷ []) quiet = untold-cut front (Names word keywords ∷ []) refl refl
cut-kinds front (k ∷ l ∷ ks) quiet = absurd quiet

-- ---- what is refused

abbrev IsRefused : ℕ → List ℕ → Type 0
IsRefused most text = (fault : TextFault) × (inventory most text ≡ Err fault)

refused-cut : (most : ℕ) (text : List ℕ) → is_cut (kinds (logical_lines text)) ≡ true → IsRefused most text
unfolding inventory
refused-cut most text cut = by (inventory_of_lines most (logical_lines text))
  where
    by : (r : Result (List Entry) TextFault) → (fault : TextFault) × ((r >>= λ files. unless (end_fault text) files) ≡ Err fault)
    by (Err fault) = (fault, refl)
    by (Ok files) = (
      record { code = CutInventory; line = line_number (length (ended_lines text)) },
      ap (λ (b : Bool). unless (cond b (Some (record { code = CutInventory; line = line_number (length (ended_lines text)) })) None) files) cut,
    )

-- the first line is refused
refused-first : (most : ℕ) (text : List ℕ) (kind : Kind) (rest : List Kind) (code : TextCode) → kinds (logical_lines text) ≡ kind ∷ rest → said_alone [] kind ≡ Err code → IsRefused most text
unfolding inventory inventory_of_lines first_fault fault_of
refused-first most text kind rest code is says = by (logical_lines text) is
  where
    by : (ls : List LogicalLine) → kinds ls ≡ kind ∷ rest → (fault : TextFault) × ((inventory_of_lines most ls >>= λ files. unless (end_fault text) files) ≡ Err fault)
    by [] e = absurd (cc)
    by (line ∷ more) e =
        let same : kind_of line ≡ kind = cc in (
          record { code = code; line = line.number },
          ap (λ (said : Result (Option Entry) TextCode). unless (or_else (option_map (λ c. (let f : TextFault = record { code = c; line = line.number } in f)) (fault_said most (files_in []) said)) (first_fault (numbered_fault most) (line ∷ []) more)) (files_in (kinds (line ∷ more))) >>= λ files. unless (end_fault text) files) (ap (said_alone []) same ∙ says),
        )

-- ---- a cut after the first line

abbrev head-item : Head → Kind → Item
head-item head kind = record { line = head_line head; kind = kind; said = None }

head-kind : (head : Head) → (kind : Kind) × ((number : ℕ) → kind_of (record { number = number; text = head_line head; is_cut = false }) ≡ kind) × ((kind ≡ Begins) ⊎ (kind ≡ TooLong))
unfolding kind_of
head-kind head = by (nat_lt most_line_bytes (length (head_line head)))
  where
    by : (long : Bool) → (kind : Kind) × ((number : ℕ) → cond long TooLong Begins ≡ kind) × ((kind ≡ Begins) ⊎ (kind ≡ TooLong))
    by true = (TooLong, λ number. refl, inr refl)
    by false = (Begins, λ number. refl, inl refl)

behind-head : (most : ℕ) (head : Head) (text : List ℕ) → IsCutAt text 0 → IsRefused most (ended (head_line head) ++ text)
behind-head most head text cut =
    let front = cut.front in
    let is = head-kind head in
    let items : List Item = head-item head is.0 ∷ entry_items front [] in
    let all : AllRead items = (head-reads-as head is.0 is.1, all-read (entry_items front []) (entries-say front [] cut.each tt)) in
    let last : List Kind = kinds (joined_from (number_after 1 items) (unless_empty cut.part)) in
    let whole : text_of items ++ cut.part ≡ ended (head_line head) ++ text =
    append_assoc (ended (head_line head)) (text_of (entry_items front [])) cut.part
    ∙ ap (λ (t : List ℕ). ended (head_line head) ++ (t ++ cut.part)) (entries-text front [] ∙ append-nil (entries_text front))
    ∙ ap (λ (t : List ℕ). ended (head_line head) ++ t) (sym cut.text_is) in
    let found : kinds (logical_lines (text_of items ++ cut.part)) ≡ is.0 ∷ entry_kinds front last = part-kinds items cut.part all cut.is_part.bare ∙ ap (λ (ks : List Kind). is.0 ∷ ks) (kinds-of-entries front last) in
    let quiet : Quiet (length front) (kind_of_text cut.part) = subst (λ (n : ℕ). Quiet n (kind_of_text cut.part)) (omega arith) cut.is_part.quiet in
    subst (IsRefused most) whole (by is.0 is.2 (text_of items ++ cut.part) (entry_kinds front last) found (cut-kinds front last (last-quiet (number_after 1 items) cut.part (length front) quiet)))
  where
    by : (kind : Kind) → (kind ≡ Begins) ⊎ (kind ≡ TooLong) → (text : List ℕ) (rest : List Kind) → kinds (logical_lines text) ≡ kind ∷ rest → is_cut (Begins ∷ rest) ≡ true → IsRefused most text
    by kind (inl begins) text rest found cut = refused-cut most text (ap is_cut found ∙ ap (λ (k : Kind). is_cut (k ∷ rest)) begins ∙ cut)
    by kind (inr long) text rest found cut = refused-first most text kind rest LineTooLong found (ap (said_alone []) long)

-- ---- a cut in the first line

abbrev IsFirst : List Kind → Type 0
IsFirst ks = (kind : Kind) × (ks ≡ kind ∷ []) × ((kind ≡ Begins) ⊎ ((code : TextCode) × (said_alone [] kind ≡ Err code)))

first-refused : (most : ℕ) (text : List ℕ) → IsFirst (kinds (logical_lines text)) → IsRefused most text
first-refused most text is = by is.2
  where
    by : (is.0 ≡ Begins) ⊎ ((code : TextCode) × (said_alone [] is.0 ≡ Err code)) → IsRefused most text
    by (inl begins) = refused-cut most text (ap is_cut is.1 ∙ ap (λ (k : Kind). is_cut (k ∷ [])) begins)
    by (inr refused) = refused-first most text is.0 [] refused.0 is.1 refused.1

first-kinds : (rest : List ℕ) → IsFirst (kinds (joined_from 1 (unless_empty (codes "# unify inventory " ++ rest))))
unfolding kind_of
first-kinds rest =
    let part : List ℕ = codes "# unify inventory " ++ rest in
    cond_both (ends_in_backslash part) (continued 1 (all_but_last part) []) (record { number = 1; text = part; is_cut = false } ∷ []) (λ (ls : List LogicalLine). IsFirst (kinds ls))
    (λ e. cond_both (nat_lt most_line_bytes (length (all_but_last part))) TooLong Cut (λ (k : Kind). IsFirst (k ∷ [])) (λ f. (TooLong, refl, inr (LineTooLong, refl))) (λ f. (Cut, refl, inr (CutContinuation, refl))))
    (λ e. cond_both (nat_lt most_line_bytes (length part)) TooLong Begins (λ (k : Kind). IsFirst (k ∷ [])) (λ f. (TooLong, refl, inr (LineTooLong, refl))) (λ f. (Begins, refl, inl refl)))

within-head : (most : ℕ) (head : Head) (n : ℕ) → 18 ≤ n → IsRefused most (take n (head_line head))
within-head most head n some =
    let front : List ℕ = codes "# unify inventory " in
    let rest : List ℕ = 49 ∷ words_text (head.host ∷ head.time ∷ head.roots) in
    let j : ℕ = n - 18 in
    let place : n ≡ 18 + j = omega (arith, some) in
    let part : take n (head_line head) ≡ front ++ take j rest = ap (λ (k : ℕ). take k (front ++ rest)) place ∙ take-append-add front rest j in
    let is = head-kind head in
    let bare : All (λ b. (b == 10) ≡ false) (take n (head_line head)) = All-take (λ b. (b == 10) ≡ false) n (head_line head) (no_newline (head_line head) (head-reads-as head is.0 is.1).printed) in
    let found = part-kinds [] (front ++ take j rest) tt (subst (λ (t : List ℕ). All (λ b. (b == 10) ≡ false) t) part bare) in
    subst (IsRefused most) (sym part) (first-refused most (front ++ take j rest) (subst IsFirst (sym found) (first-kinds (take j rest))))

-- ---- anywhere

pub cut-anywhere : CutAnywhereIsRefused
cut-anywhere most head listed n all small first cut = by (reached n (length line))
  where
    line : List ℕ
    line = head_line head

    rest : List ℕ
    rest = entries_text listed ++ ended (end_line (length listed))

    by : (n ≤ length line) ⊎ (length line < n) → IsRefused most (take n (ended line ++ rest))
    by (inl within) = subst (IsRefused most) (sym (cut-within line rest n within)) (within-head most head n first)
    by (inr behind) =
        let m : ℕ = n - (length line + 1) in
        let long : length (ended line) ≡ length line + 1 = length-append line (10 ∷ []) in
        let place : n ≡ length (ended line) + m = omega (arith, behind, long) in
        let left : m + 1 < length rest = omega (arith, cut, behind, long, length-append (ended line) rest) in
        subst (IsRefused most) (sym (ap (λ (k : ℕ). take k (ended line ++ rest)) place ∙ take-append-add (ended line) rest m))
        (behind-head most head (take m rest) (cut-at (length listed) 0 listed m all (omega arith) small left))
