-- A whole inventory is read as the files that were listed, and one that was cut is refused.
use Rattle.std.proofs.Common.{◌≡◌, ◌≢◌, ℕ, suc, ◌+◌, ◌<◌, ◌≤◌, ◌^◌, Bool, true, false, not, cond, ◌==◌, All, List, [], ◌∷◌, ◌++◌, length, get_or, refl, sym, ap, ◌∙◌, subst, arith, append-nil, append_assoc, length-append}
use Rattle.std.specs.Prelude.{nat_le, nat_lt, codes, count_by, decimal, map, flat_map, Option, Some, None, Result, Ok, Err, option_map, is_none}
use Rattle.std.specs.Option.{option_or, option_flatten}
use Rattle.std.specs.Str.{bytes_eq}
use Rattle.std.proofs.Math.Seq.{get_or-append_seam}
use Rattle.std.proofs.lemmas.Bool.{and_parts, eq-eqb, false_from_ne_true, le-ltb, lt-ltb, leb-true, eqb-true}
use Rattle.std.proofs.lemmas.List.{get_or_append_left}
use Rattle.std.proofs.lemmas.List.Elements.{All-head, All-tail, All-nil, All-cons}
use Rattle.std.proofs.lemmas.List.Splits.{slice_split_at}
use Rattle.std.proofs.lemmas.List.Sums.{sum_by-append, sum_by-cons}
use Rattle.std.proofs.lemmas.Slice.Eq.{bytes_eq-Decides}
use Rattle.idtext.specs.Faults.{line_number}
use Rattle.idtext.specs.First.{first_fault, or_else, unless, ◌>>=◌}
use Rattle.idtext.specs.Numbers.{greatest_id, id_of}
use Rattle.idtext.specs.Pieces.{lines, pieces}
use Rattle.idtext.specs.Words.{most_line_bytes}
use Rattle.idtext.proofs.NumberLemmas.{decimal-back}
use Rattle.idtext.proofs.PieceLemmas.{lines-cut, lines-empty}
use Rattle.idtext.specs.declared.faults.TextCode.{TextCode}
use Rattle.idtext.specs.declared.faults.TextCode.TheVariants.{CutInventory}
use Rattle.idtext.specs.declared.faults.TextFault.{TextFault}
use Rattle.mtree_inv.specs.declared.entry.Entry.{Entry}
use Rattle.mtree_inv.specs.Files.{HaveDistinctFiles}
use Rattle.mtree_inv.specs.Inventory.{clash_with, end_fault, fault_of, fault_said, file_at, file_said, files_of as files_in, inventory, inventory_of_lines, kinds, named, first_appearances, numbered_fault, said_alone}
use Rattle.mtree_inv.specs.Kinds.{Kind, TooLong, Begins, Counts, Names, kind_of, kind_of_text}
use Rattle.mtree_inv.specs.Logical.{LogicalLine, continued, ended_lines, ends_in_backslash, joined_from, logical_lines, next_number}
use Rattle.mtree_inv.specs.Looking.{all_but_last, last_said}
use Rattle.mtree_inv.specs.Whole.{files_given, is_beginning, is_cut, is_ended, is_number, lacks_end, lines_since, told, told_by}
use Rattle.mtree_inv.proofs.EndLemmas.{ended-newlines}
use Rattle.mtree_inv.proofs.FileLemmas.{after_said, files_of-snoc}
use Rattle.mtree_inv.proofs.RunLemmas.{kinds-snoc}
use Rattle.inventory_text.specs.Writing.{Head, ended, end_line, gid_word, head_line, name_word, spaced, type_word, uid_word, words_text}
use Rattle.inventory_text.specs.Listed.{Listed, IsListed, cut_text, entries_text, files_of, inventory_text, line_of}
use Rattle.inventory_text.specs.ReadBack.{CutInventoriesAreRefused, InventoriesReadBack}
use Rattle.inventory_text.proofs.Heads.{words-end, words-printed}
use Rattle.inventory_text.proofs.Entries.{entry-named, keywords, kind-visible, line-kind}
use Rattle.inventory_text.proofs.Visible.{decimal-end, decimal-short, decimal-visible, ends-append, ends-either, escaped-visible, is_printed, is_visible, printed-append, visible-printed}

-- ---- a line by itself

-- a line that is a logical line by itself, of this kind
pub record Reads (line : List ℕ) (kind : Kind) : Type 0 where
  pub printed : is_printed line ≡ true
  pub ends : ends_in_backslash line ≡ false
  pub kind_is : (number : ℕ) → kind_of (record { number = number; text = line; is_cut = false }) ≡ kind

-- what it says, whatever stands before it; it begins no inventory
pub record Says (line : List ℕ) (kind : Kind) (said : Option Entry) : Type 0 where
  pub reads : Reads line kind
  pub within : is_beginning kind ≡ false
  pub says : (before : List Kind) → said_alone before kind ≡ Ok said

short-kind : (line : List ℕ) (kind : Kind) → kind_of_text line ≡ kind → length line ≤ most_line_bytes → (number : ℕ) → kind_of (record { number = number; text = line; is_cut = false }) ≡ kind
unfolding kind_of
short-kind line kind is short number = ap (λ (long : Bool). cond long TooLong (kind_of_text line)) (le-ltb most_line_bytes (length line) short) ∙ is

-- a first line, of whatever kind its length makes it
pub head-reads-as : (head : Head) (kind : Kind) → ((number : ℕ) → kind_of (record { number = number; text = head_line head; is_cut = false }) ≡ kind) → Reads (head_line head) kind
head-reads-as head kind is =
    let words : List (List ℕ) = head.host ∷ head.time ∷ head.roots in
    record {
      printed = printed-append (codes "# unify inventory 1") (words_text words) refl (words-printed words);
      ends = ends-either (codes "# unify inventory 1") (words_text words) refl (words-end words);
      kind_is = is;
    }

head-reads : (head : Head) → length (head_line head) ≤ most_line_bytes → Reads (head_line head) Begins
head-reads head short = head-reads-as head Begins (short-kind (head_line head) Begins refl short)

pub end-says : (count : ℕ) → count < 2 ^ 64 → Says (end_line count) (Counts (decimal count)) None
end-says count small = record {
  reads = record {
    printed = printed-append (codes "# end ") (decimal count) refl (visible-printed (decimal count) (decimal-visible count small));
    ends = ends-either (codes "# end ") (decimal count) refl (decimal-end count small);
    kind_is = short-kind (end_line count) (Counts (decimal count)) refl (omega (arith, decimal-short count small));
  };
  within = refl;
  says = λ before. refl;
}

pub spaced-printed : (word rest : List ℕ) → is_visible word ≡ true → is_printed rest ≡ true → is_printed (spaced word rest) ≡ true
spaced-printed word rest w r = printed-append word (32 ∷ rest) (visible-printed word w) r

abbrev pub entry_kind : Listed → Kind
entry_kind listed = Names (name_word listed.file.path) (keywords listed.file.uid listed.file.gid listed.kind)

pub entry-says : (listed : Listed) → IsListed listed → Says (line_of listed) (entry_kind listed) (Some listed.file)
entry-says listed is =
    let path = listed.file.path in
    let uid : listed.file.uid < 2 ^ 64 = omega (arith, is.lawful.uid) in
    let gid : listed.file.gid < 2 ^ 64 = omega (arith, is.lawful.gid) in
    record {
      reads = record {
        printed = spaced-printed (name_word path) (spaced (type_word listed.kind) (spaced (uid_word listed.file.uid) (gid_word listed.file.gid))) (escaped-visible path)
            (spaced-printed (type_word listed.kind) (spaced (uid_word listed.file.uid) (gid_word listed.file.gid)) (kind-visible listed.kind)
            (spaced-printed (uid_word listed.file.uid) (gid_word listed.file.gid) (decimal-visible listed.file.uid uid)
            (visible-printed (gid_word listed.file.gid) (decimal-visible listed.file.gid gid))));
        ends = ends-append (name_word path) 32 (spaced (type_word listed.kind) (spaced (uid_word listed.file.uid) (gid_word listed.file.gid)))
            ∙ ends-append (32 ∷ type_word listed.kind) 32 (spaced (uid_word listed.file.uid) (gid_word listed.file.gid))
            ∙ ends-append (32 ∷ uid_word listed.file.uid) 32 (gid_word listed.file.gid)
            ∙ ends-either (32 ∷ codes "gid=") (decimal listed.file.gid) refl (decimal-end listed.file.gid gid);
        kind_is = λ number. line-kind number path listed.file.uid listed.file.gid listed.kind is.lawful.uid is.lawful.gid is.short;
      };
      within = refl;
      says = λ before. entry-named before listed.file listed.kind is.lawful is.bytes is.path;
    }

-- ---- lines and what they say

pub record Item : Type 0 where
  pub line : List ℕ
  pub kind : Kind
  pub said : Option Entry

abbrev pub AllRead : List Item → Type 0
AllRead [] = Unit {0}
AllRead (i ∷ is) = Reads i.line i.kind × AllRead is

abbrev pub AllSay : List Item → Type 0
AllSay [] = Unit {0}
AllSay (i ∷ is) = Says i.line i.kind i.said × AllSay is

pub all-read : (items : List Item) → AllSay items → AllRead items
all-read [] all = tt
all-read (i ∷ is) all = (all.0.reads, all-read is all.1)

abbrev with_said : Option Entry → List Entry → List Entry
with_said None files = files
with_said (Some file) files = file ∷ files

abbrev all_said : List Item → List Entry
all_said [] = []
all_said (i ∷ is) = with_said i.said (all_said is)

abbrev pub item_lines : List Item → List (List ℕ)
item_lines items = map (λ (i : Item). i.line) items

abbrev pub text_of : List Item → List ℕ
text_of items = flat_map (λ (i : Item). ended i.line) items

-- ---- the lines of the text

pub no_newline : (line : List ℕ) → is_printed line ≡ true → All (λ b. (b == 10) ≡ false) line
no_newline [] h = All-nil (λ (b : ℕ). (b == 10) ≡ false)
no_newline (b ∷ line) h =
    let parts = and_parts (nat_le 32 b) (is_printed line) h in
    All-cons (λ (b : ℕ). (b == 10) ≡ false) b line (other (b == 10) refl parts.0) (no_newline line parts.1)
  where
    other : (t : Bool) → (b == 10) ≡ t → nat_le 32 b ≡ true → t ≡ false
    other true e h = absurd (omega (arith, eqb-true b 10 e, leb-true 32 b h))
    other false e h = refl

pub line-first : (line rest : List ℕ) → is_printed line ≡ true → lines (ended line ++ rest) ≡ line ∷ lines rest
unfolding pieces
line-first line rest printed =
    ap lines (append_assoc line (10 ∷ []) rest)
    ∙ lines-cut (line ++ 10 ∷ rest) line rest (slice_split_at (λ b. b == 10) line 10 rest (no_newline line printed) refl)

text-lines : (items : List Item) → AllRead items → lines (text_of items) ≡ item_lines items
text-lines [] all = lines-empty
text-lines (i ∷ is) all = line-first i.line (text_of is) all.0.printed ∙ ap (λ (ls : List (List ℕ)). i.line ∷ ls) (text-lines is all.1)

-- the lines with their numbers
abbrev pub numbered : ℕ → List (List ℕ) → List LogicalLine
numbered n [] = []
numbered n (line ∷ rest) = record { number = n; text = line; is_cut = false } ∷ numbered (next_number n) rest

not_joined : (n : ℕ) (items : List Item) → AllRead items → joined_from n (item_lines items) ≡ numbered n (item_lines items)
not_joined n [] all = refl
not_joined n (i ∷ is) all =
    ap (λ (ends : Bool). cond ends (continued n (all_but_last i.line) (joined_from (next_number n) (item_lines is))) (record { number = n; text = i.line; is_cut = false } ∷ joined_from (next_number n) (item_lines is))) all.0.ends
    ∙ ap (λ (ls : List LogicalLine). record { number = n; text = i.line; is_cut = false } ∷ ls) (not_joined (next_number n) is all.1)

-- the logical lines of the text, and their kinds
text-logical : (items : List Item) → AllRead items → logical_lines (text_of items) ≡ numbered 1 (item_lines items)
text-logical items all = ap (joined_from 1) (text-lines items all) ∙ not_joined 1 items all

abbrev pub item_kinds : List Item → List Kind
item_kinds items = map (λ (i : Item). i.kind) items

pub kinds-numbered : (n : ℕ) (items : List Item) → AllRead items → kinds (numbered n (item_lines items)) ≡ item_kinds items
kinds-numbered n [] all = refl
kinds-numbered n (i ∷ is) all =
    ap (λ (k : Kind). k ∷ kinds (numbered (next_number n) (item_lines is))) (all.0.kind_is n)
    ∙ ap (λ (ks : List Kind). i.kind ∷ ks) (kinds-numbered (next_number n) is all.1)

-- each line is ended
no_newline-count : (line : List ℕ) → is_printed line ≡ true → count_by (λ b. b == 10) line ≡ 0
no_newline-count line printed = none line (no_newline line printed)
  where
    none : (bytes : List ℕ) → All (λ b. (b == 10) ≡ false) bytes → count_by (λ b. b == 10) bytes ≡ 0
    none [] all = refl
    none (b ∷ bytes) all =
        sum_by-cons (λ (c : ℕ). cond (c == 10) 1 0) b bytes
        ∙ ap (λ (t : Bool). cond t 1 0 + count_by (λ b. b == 10) bytes) (All-head (λ (b : ℕ). (b == 10) ≡ false) b bytes all)
        ∙ omega (arith, none bytes (All-tail (λ (b : ℕ). (b == 10) ≡ false) b bytes all))

pub text-newlines : (items : List Item) → AllRead items → count_by (λ b. b == 10) (text_of items) ≡ length items
text-newlines [] all = refl
text-newlines (i ∷ is) all =
    let one : ℕ → ℕ = λ b. cond (b == 10) 1 0 in
    omega (arith, sum_by-append one (i.line ++ 10 ∷ []) (text_of is), sum_by-append one i.line (10 ∷ []), no_newline-count i.line all.0.printed, text-newlines is all.1)

-- ---- the files of the lines

-- a path that is not among those before it
apart : (before : List Entry) (file : Entry) (rest : List Entry) → HaveDistinctFiles (before ++ file ∷ rest) → All (λ f. f.path ≢ file.path) before
apart before file rest distinct = λ k d within.
    let long : length before < length (before ++ file ∷ rest) = omega (arith, length-append before (file ∷ rest)) in
    let here : (get_or (before ++ file ∷ rest) k d).path ≢ (get_or (before ++ file ∷ rest) (length before) d).path = distinct k (length before) d within long in
    rw (get_or_append_left before (file ∷ rest) d k within, get_or-append_seam before file rest d) at here

not_there : (before : List Entry) (path : List ℕ) → All (λ f. f.path ≢ path) before → file_at before path ≡ None
not_there [] path all = refl
not_there (f ∷ fs) path all =
    let other : bytes_eq path f.path ≡ false = false_from_ne_true (bytes_eq path f.path) (λ same. All-head (λ (f : Entry). f.path ≢ path) f fs all (sym ((bytes_eq-Decides path f.path).0 same))) in
    ap (λ (b : Bool). cond b (Some f) (file_at fs path)) other ∙ not_there fs path (All-tail (λ (f : Entry). f.path ≢ path) f fs all)

-- what lines say is taken as it is: no fault, and these files
record AreTaken (most : ℕ) (before rest : List LogicalLine) (files : List Entry) : Type 0 where
  fault : first_fault (numbered_fault most) before rest ≡ None
  found : files_in (kinds (before ++ rest)) ≡ files

-- one line more
line-taken : (most : ℕ) (before : List LogicalLine) (line : LogicalLine) (rest : List LogicalLine) (said : Option Entry) (more files : List Entry)
    → said_alone (kinds before) (kind_of line) ≡ Ok said
    → HaveDistinctFiles (files_in (kinds before) ++ with_said said more) → length (files_in (kinds before) ++ with_said said more) ≤ most
    → (files_in (kinds (before ++ line ∷ [])) ≡ after_said (files_in (kinds before)) said → AreTaken most (before ++ line ∷ []) rest files)
    → AreTaken most before (line ∷ rest) files
unfolding first_fault fault_of
line-taken most before line rest said more files says distinct few later =
    let fine : fault_of most (kinds before) (kind_of line) ≡ None = ap (fault_said most (files_in (kinds before))) says ∙ no-fault said distinct few in
    let grown : files_in (kinds (before ++ line ∷ [])) ≡ after_said (files_in (kinds before)) said = ap files_in (kinds-snoc before line) ∙ files_of-snoc (kinds before) (kind_of line) ∙ ap (λ r. after_said (files_in (kinds before)) (file_said r)) says in
    let taken = later grown in
    record {
      fault = ap (λ (o : Option TextCode). or_else (option_map (λ code. (let f : TextFault = record { code = code; line = line.number } in f)) o) (first_fault (numbered_fault most) (before ++ line ∷ []) rest)) fine ∙ taken.fault;
      found = ap (λ (ls : List LogicalLine). files_in (kinds ls)) (sym (append_assoc before (line ∷ []) rest)) ∙ taken.found;
    }
  where
    no-fault : (said : Option Entry) → HaveDistinctFiles (files_in (kinds before) ++ with_said said more) → length (files_in (kinds before) ++ with_said said more) ≤ most → fault_said most (files_in (kinds before)) (Ok said) ≡ None
    no-fault None distinct few = refl
    no-fault (Some file) distinct few =
        let known = files_in (kinds before) in
        ap (λ (o : Option Entry). clash_with o (nat_lt (length known) most) file) (not_there known file.path (apart known file more distinct))
        ∙ ap (λ (room : Bool). clash_with None room file) (lt-ltb (length known) most (omega (arith, few, length-append known (file ∷ more))))

-- what lines say, taken after what was said before
said-after : (known : List Entry) (said : Option Entry) (more : List Entry) → HaveDistinctFiles (known ++ with_said said more) → after_said known said ++ more ≡ known ++ with_said said more
said-after known None more distinct = refl
said-after known (Some file) more distinct =
    ap (λ (o : Option Entry). cond (is_none o) (known ++ file ∷ []) known ++ more) (not_there known file.path (apart known file more distinct))
    ∙ append_assoc known (file ∷ []) more

items-taken : (most n : ℕ) (before : List LogicalLine) (items : List Item) → AllSay items
    → HaveDistinctFiles (files_in (kinds before) ++ all_said items) → length (files_in (kinds before) ++ all_said items) ≤ most
    → AreTaken most before (numbered n (item_lines items)) (files_in (kinds before) ++ all_said items)
unfolding first_fault
items-taken most n before [] all distinct few = record {
  fault = refl;
  found = ap (λ (ls : List LogicalLine). files_in (kinds ls)) (append-nil before) ∙ sym (append-nil (files_in (kinds before)));
}
items-taken most n before (i ∷ is) all distinct few =
    let line : LogicalLine = record { number = n; text = i.line; is_cut = false } in
    let known = files_in (kinds before) in
    let same : after_said known i.said ++ all_said is ≡ known ++ with_said i.said (all_said is) = said-after known i.said (all_said is) distinct in
    line-taken most before line (numbered (next_number n) (item_lines is)) i.said (all_said is) (known ++ with_said i.said (all_said is)) (ap (said_alone (kinds before)) (all.0.reads.kind_is n) ∙ all.0.says (kinds before)) distinct few
    (λ grown.
    let whole : files_in (kinds (before ++ line ∷ [])) ++ all_said is ≡ known ++ with_said i.said (all_said is) = ap (λ (fs : List Entry). fs ++ all_said is) grown ∙ same in
    subst (λ (fs : List Entry). AreTaken most (before ++ line ∷ []) (numbered (next_number n) (item_lines is)) fs) whole
    (items-taken most (next_number n) (before ++ line ∷ []) is all.1 (subst HaveDistinctFiles (sym whole) distinct) (subst (λ (fs : List Entry). length fs ≤ most) (sym whole) few)))

-- ---- the whole text

empty-known : files_in (kinds []) ≡ []
unfolding files_in named first_appearances
empty-known = refl

-- a first line, and lines that say something after it
text-taken : (most : ℕ) (head : List ℕ) (items : List Item) → Reads head Begins → AllSay items → HaveDistinctFiles (all_said items) → length (all_said items) ≤ most
    → inventory_of_lines most (logical_lines (text_of (record { line = head; kind = Begins; said = None } ∷ items))) ≡ Ok (all_said items)
unfolding inventory_of_lines
text-taken most head items first all distinct few =
    let whole : List Item = record { line = head; kind = Begins; said = None } ∷ items in
    let line : LogicalLine = record { number = 1; text = head; is_cut = false } in
    let known : files_in (kinds []) ++ all_said items ≡ all_said items = ap (λ (fs : List Entry). fs ++ all_said items) empty-known in
    let taken : AreTaken most [] (numbered 1 (item_lines whole)) (files_in (kinds []) ++ all_said items) =
    line-taken most [] line (numbered (next_number 1) (item_lines items)) None (all_said items) (files_in (kinds []) ++ all_said items) (ap (said_alone []) (first.kind_is 1))
    (subst HaveDistinctFiles (sym known) distinct) (subst (λ (fs : List Entry). length fs ≤ most) (sym known) few)
    (λ grown.
    let same : files_in (kinds (line ∷ [])) ++ all_said items ≡ files_in (kinds []) ++ all_said items = ap (λ (fs : List Entry). fs ++ all_said items) grown in
    subst (λ (fs : List Entry). AreTaken most (line ∷ []) (numbered (next_number 1) (item_lines items)) fs) same
    (items-taken most (next_number 1) (line ∷ []) items all (subst HaveDistinctFiles (sym (same ∙ known)) distinct) (subst (λ (fs : List Entry). length fs ≤ most) (sym (same ∙ known)) few))) in
    ap (inventory_of_lines most) (text-logical whole (first, all-read items all))
    ∙ ap (λ (o : Option TextFault). unless o (files_in (kinds (numbered 1 (item_lines whole))))) taken.fault
    ∙ ap (λ (fs : List Entry). (let r : Result (List Entry) TextFault = Ok fs in r)) (taken.found ∙ known)

-- ---- whether its end is there

none-begun : (items : List Item) → AllSay items → lines_since (item_kinds items) ≡ None
none-begun [] all = refl
none-begun (i ∷ is) all =
    ap (λ (o : Option (List Kind)). option_or o (cond (is_beginning i.kind) (Some (item_kinds is)) None)) (none-begun is all.1)
    ∙ ap (λ (b : Bool). cond b (Some (item_kinds is)) None) all.0.within

cut-is : (head : List ℕ) (items : List Item) → Reads head Begins → AllSay items
    → is_cut (kinds (logical_lines (text_of (record { line = head; kind = Begins; said = None } ∷ items)))) ≡ not (is_ended (item_kinds items))
cut-is head items first all =
    let whole : List Item = record { line = head; kind = Begins; said = None } ∷ items in
    ap (λ (ls : List LogicalLine). is_cut (kinds ls)) (text-logical whole (first, all-read items all))
    ∙ ap is_cut (kinds-numbered 1 whole (first, all-read items all))
    ∙ ap (λ (o : Option (List Kind)). lacks_end (option_or o (Some (item_kinds items)))) (none-begun items all)

-- ---- head, entries and end

abbrev pub entry_items : List Listed → List Item → List Item
entry_items [] rest = rest
entry_items (l ∷ ls) rest = record { line = line_of l; kind = entry_kind l; said = Some l.file } ∷ entry_items ls rest

pub entries-say : (listed : List Listed) (rest : List Item) → All IsListed listed → AllSay rest → AllSay (entry_items listed rest)
entries-say [] rest all r = r
entries-say (l ∷ ls) rest all r = (entry-says l (All-head IsListed l ls all), entries-say ls rest (All-tail IsListed l ls all) r)

entries-said : (listed : List Listed) (rest : List Item) → all_said (entry_items listed rest) ≡ files_of listed ++ all_said rest
entries-said [] rest = refl
entries-said (l ∷ ls) rest = ap (λ (fs : List Entry). l.file ∷ fs) (entries-said ls rest)

pub entries-text : (listed : List Listed) (rest : List Item) → text_of (entry_items listed rest) ≡ entries_text listed ++ text_of rest
entries-text [] rest = refl
entries-text (l ∷ ls) rest =
    ap (λ (t : List ℕ). ended (line_of l) ++ t) (entries-text ls rest)
    ∙ sym (append_assoc (ended (line_of l)) (entries_text ls) (text_of rest))

entries-count : (listed : List Listed) (rest : List Item) → length (entry_items listed rest) ≡ length listed + length rest
entries-count [] rest = omega arith
entries-count (l ∷ ls) rest = omega (arith, entries-count ls rest)

entries-given : (listed : List Listed) (rest : List Item) → files_given (item_kinds (entry_items listed rest)) ≡ length listed + files_given (item_kinds rest)
entries-given [] rest = omega arith
entries-given (l ∷ ls) rest = omega (arith, entries-given ls rest)

files-count : (listed : List Listed) → length (files_of listed) ≡ length listed
files-count [] = refl
files-count (l ∷ ls) = ap (λ n. suc n) (files-count ls)

-- the number that a last line tells stays told, whatever files stand before it
told-last : (listed : List Listed) (rest : List Item) (number : Option ℕ) → last_said told_by (item_kinds rest) ≡ Some number → last_said told_by (item_kinds (entry_items listed rest)) ≡ Some number
told-last [] rest number h = h
told-last (l ∷ ls) rest number h = ap (λ (o : Option (Option ℕ)). option_or o (Some None)) (told-last ls rest number h)

none-told : (listed : List Listed) → told (item_kinds (entry_items listed [])) ≡ None
none-told [] = refl
none-told (l ∷ ls) = by (last_said told_by (item_kinds (entry_items ls []))) (none-told ls)
  where
    by : (o : Option (Option ℕ)) → option_flatten o ≡ None → option_flatten (option_or o (Some None)) ≡ None
    by None h = refl
    by (Some x) h = h

abbrev end_item : List Listed → Item
end_item listed = record { line = end_line (length listed); kind = Counts (decimal (length listed)); said = None }

is-ended : (listed : List Listed) → length listed ≤ greatest_id → is_ended (item_kinds (entry_items listed (end_item listed ∷ []))) ≡ true
is-ended listed few =
    let items = entry_items listed (end_item listed ∷ []) in
    ap (λ (o : Option (Option ℕ)). is_number (option_flatten o) (files_given (item_kinds items))) (told-last listed (end_item listed ∷ []) (id_of (decimal (length listed))) refl)
    ∙ ap (λ (o : Option ℕ). is_number o (files_given (item_kinds items))) (decimal-back (length listed) few)
    ∙ eq-eqb (length listed) (files_given (item_kinds items)) (omega (arith, entries-given listed (end_item listed ∷ [])))

-- ---- the whole text, and one that is cut

pub text-back : InventoriesReadBack
unfolding inventory
text-back most head listed are few small short =
    let items : List Item = entry_items listed (end_item listed ∷ []) in
    let whole : List Item = record { line = head_line head; kind = Begins; said = None } ∷ items in
    let first = head-reads head short in
    let all : AllSay items = entries-say listed (end_item listed ∷ []) are.each (end-says (length listed) (omega (arith, small)), tt) in
    let said : all_said items ≡ files_of listed = entries-said listed (end_item listed ∷ []) ∙ append-nil (files_of listed) in
    let text : text_of whole ≡ inventory_text head listed = ap (λ (t : List ℕ). ended (head_line head) ++ t) (entries-text listed (end_item listed ∷ []) ∙ ap (λ (t : List ℕ). entries_text listed ++ t) (append-nil (ended (end_line (length listed))))) in
    let read = text-taken most (head_line head) items first all (subst HaveDistinctFiles (sym said) are.distinct) (omega (arith, few, ap length said, files-count listed)) in
    let ended_there : is_cut (kinds (logical_lines (text_of whole))) ≡ false = cut-is (head_line head) items first all ∙ ap not (is-ended listed small) in
    ap (inventory most) (sym text)
    ∙ ap (λ (r : Result (List Entry) TextFault). r >>= λ files. unless (end_fault (text_of whole)) files) read
    ∙ ap (λ (b : Bool). unless (cond b (Some (record { code = CutInventory; line = line_number (length (ended_lines (text_of whole))) })) None) (all_said items)) ended_there
    ∙ ap (λ (fs : List Entry). (let r : Result (List Entry) TextFault = Ok fs in r)) said

pub cut-refused : CutInventoriesAreRefused
unfolding inventory
cut-refused most head listed are few short =
    let items : List Item = entry_items listed [] in
    let whole : List Item = record { line = head_line head; kind = Begins; said = None } ∷ items in
    let first = head-reads head short in
    let all : AllSay items = entries-say listed [] are.each tt in
    let said : all_said items ≡ files_of listed = entries-said listed [] ∙ append-nil (files_of listed) in
    let text : text_of whole ≡ cut_text head listed = ap (λ (t : List ℕ). ended (head_line head) ++ t) (entries-text listed [] ∙ append-nil (entries_text listed)) in
    let read = text-taken most (head_line head) items first all (subst HaveDistinctFiles (sym said) are.distinct) (omega (arith, few, ap length said, files-count listed)) in
    let cut : is_cut (kinds (logical_lines (text_of whole))) ≡ true = cut-is (head_line head) items first all ∙ ap (λ (o : Option ℕ). not (is_number o (files_given (item_kinds items)))) (none-told listed) in
    let lines : length (ended_lines (text_of whole)) ≡ length listed + 1 = omega (arith, ended-newlines (text_of whole), text-newlines whole (first, all-read items all), entries-count listed []) in
    ap (inventory most) (sym text)
    ∙ ap (λ (r : Result (List Entry) TextFault). r >>= λ files. unless (end_fault (text_of whole)) files) read
    ∙ ap (λ (b : Bool). unless (cond b (Some (record { code = CutInventory; line = line_number (length (ended_lines (text_of whole))) })) None) (all_said items)) cut
    ∙ ap (λ (n : ℕ). (let r : Result (List Entry) TextFault = Err (record { code = CutInventory; line = line_number n }) in r)) lines
