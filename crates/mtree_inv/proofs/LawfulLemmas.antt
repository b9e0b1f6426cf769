-- The files of an inventory are lawful, and each has a path of its own.
use Rattle.std.proofs.Common.{◌≡◌, ◌≢◌, ℕ, ◌<◌, ◌≤◌, Bool, true, false, cond, not, List, [], ◌∷◌, ◌++◌, length, get_or, All, nat_lt, ◌==◌, ◌||◌, refl, sym, ap, ◌∙◌, arith, codes, ◌⊎◌, inl, inr, subst, append-nil, append_assoc, length-append}
use Rattle.std.specs.Prelude.{Option, Some, None, Result, Ok, Err, IfSome, is_none, option_and_then}
use Rattle.std.proofs.lemmas.Bool.{or_parts, or_left, or_right, cond_both, ltb-false, eq-eqb, true≢false}
use Rattle.std.proofs.lemmas.List.Folds.{list_any_at}
use Rattle.std.proofs.lemmas.List.{get_or_append_left}
use Rattle.std.proofs.lemmas.List.Elements.{All-nil, All-cons, All-push}
use Rattle.std.proofs.lemmas.List.Quantifiers.{all_pairs_push}
use Rattle.std.proofs.lemmas.Slice.Eq.{bytes_eq-Decides}
use Rattle.std.specs.List.{list_any}
use Rattle.std.specs.Str.{bytes_eq}
use Rattle.idtext.specs.Numbers.{id_of, greatest_id}
use Rattle.idtext.specs.First.{first_fault, unless}
use Rattle.idtext.proofs.FirstLemmas.{none_of_both}
use Rattle.idtext.proofs.OkLemmas.{bind_ok, unless_ok}
use Rattle.idtext.specs.declared.faults.TextCode.{TextCode}
use Rattle.idtext.specs.declared.faults.TextCode.TheVariants.{BadPath, BadNumber, CutInventory, DotDotAbove}
use Rattle.idtext.specs.declared.faults.ReadError.{ReadError}
use Rattle.idtext.specs.declared.faults.ReadError.TheVariants.{Memory, Fault}
use Rattle.mtree_inv.specs.declared.entry.Entry.{Entry}
use Rattle.mtree_inv.specs.Files.{IsLawfulPath, IsLawfulFile, AreFiles}
use Rattle.mtree_inv.specs.Laws.{BadEscapesAreRefused, SeparatorsAreRefused, InventoriesAreFiles, ReadersHaveFiles}
use Rattle.mtree_inv.specs.Logical.{LogicalLine, logical_lines}
use Rattle.mtree_inv.specs.Kinds.{Kind, TooLong, Cut, Ignored, Begins, Counts, Sets, Unsets, Unknown, Up, Names, kind_of}
use Rattle.mtree_inv.specs.Keywords.{has_lawful_numbers, number_in_force, in_force, is_directory}
use Rattle.mtree_inv.specs.Open.{Mark, Opens, Stays, is_full, mark_of, marks, open_names}
use Rattle.idtext.specs.Escapes.{has_bad_escape}
use Rattle.mtree_inv.specs.Paths.{parts, components, is_bad_component, has_bad_component}
use Rattle.mtree_inv.specs.Inventory.{kinds, files_of, named, first_appearances, fault_of, fault_said, file_said, file_at, said_alone, owned_file, named_file, is_bad_path, path_of, numbered_fault, inventory_of_lines, inventory, accepted_from, accepted_files, end_fault}
use Rattle.mtree_inv.specs.Machine.{with_new_file}
use Rattle.mtree_inv.specs.Whole.{is_cut}
use Rattle.mtree_inv.specs.Standing.{ReaderValue, AreLeftBy, StandsAt, files}
use Rattle.mtree_inv.proofs.LookingLemmas.{looking_back-snoc}
use Rattle.mtree_inv.proofs.WholeLemmas.{id_small}
use Rattle.mtree_inv.proofs.FileLemmas.{after_said, files_of-snoc}
use Rattle.mtree_inv.proofs.RunLemmas.{kinds-snoc}
use Rattle.mtree_inv.proofs.CleanLemmas.{IsClean, OpensClean, components_clean, entry_clean}
use Rattle.mtree_inv.proofs.RoomLemmas.{one_more, no_fault, told_ok}

-- ---- one line

value_small : (value : Option (List ℕ)) → IfSome (option_and_then id_of value) (λ n. n ≤ greatest_id)
value_small None = tt
value_small (Some text) = id_small text

abbrev Says : (Entry → Type 0) → Result (Option Entry) TextCode → Type 0
Says P (Err code) = Unit {0}
Says P (Ok None) = Unit {0}
Says P (Ok (Some file)) = P file

owned_lawful : (path : List ℕ) (uid gid : Option ℕ) → IsLawfulPath path → IfSome uid (λ n. n ≤ greatest_id) → IfSome gid (λ n. n ≤ greatest_id) → Says IsLawfulFile (owned_file path uid gid)
owned_lawful path None gid h u g = tt
owned_lawful path (Some uid) None h u g = tt
owned_lawful path (Some uid) (Some gid) h u g = record { path = h; uid = u; gid = g }

path_lawful : (before : List Kind) (word : List ℕ) → All OpensClean (marks before) → is_bad_path before word ≡ false → IsLawfulPath (path_of before word)
path_lawful before word h e =
    let both = or_parts (has_bad_component word) (nat_lt 65535 (length (path_of before word))) e in
    let clean : IsClean (path_of before word) = entry_clean before word h both.0 in
    record { filled = clean.filled; short = ltb-false 65535 (length (path_of before word)) both.1; no_nul = clean.no_nul }

named_lawful : (before : List Kind) (word : List ℕ) (keywords : List (List ℕ)) → All OpensClean (marks before) → Says IsLawfulFile (named_file before word keywords)
named_lawful before word keywords h =
    let uid = number_in_force (codes "uid") before keywords in
    let gid = number_in_force (codes "gid") before keywords in
    cond_both (is_bad_path before word) _ _ (Says IsLawfulFile) (λ e. tt)
    (λ good. cond_both (not (has_lawful_numbers keywords)) _ _ (Says IsLawfulFile) (λ e. tt)
    (λ e. owned_lawful (path_of before word) uid gid (path_lawful before word h good) (value_small (in_force (codes "uid") before keywords)) (value_small (in_force (codes "gid") before keywords))))

said_lawful : (before : List Kind) (line : Kind) → All OpensClean (marks before) → Says IsLawfulFile (said_alone before line)
said_lawful before TooLong h = tt
said_lawful before Cut h = tt
said_lawful before Ignored h = tt
said_lawful before Begins h = cond_both (is_cut before) (Err CutInventory) (Ok None) (Says IsLawfulFile) (λ e. tt) (λ e. tt)
said_lawful before (Counts text) h = tt
said_lawful before (Sets keywords) h = cond_both (has_lawful_numbers keywords) _ _ (Says IsLawfulFile) (λ e. tt) (λ e. tt)
said_lawful before (Unsets keywords) h = tt
said_lawful before Unknown h = tt
said_lawful before Up h = cond_both (length (open_names (marks before)) == 0) (Err DotDotAbove) (Ok None) (Says IsLawfulFile) (λ e. tt) (λ e. tt)
said_lawful before (Names word keywords) h = named_lawful before word keywords h

-- a line that says no fault opens a clean directory
bad_word : (before : List Kind) (most : ℕ) (fs : List Entry) (word : List ℕ) (keywords : List (List ℕ)) → fault_said most fs (named_file before word keywords) ≡ None → has_bad_component word ≡ false
bad_word before most fs word keywords e = by (is_bad_path before word) refl e
  where
    by : (b : Bool) → is_bad_path before word ≡ b
        → fault_said most fs (cond b (Err BadPath) (cond (not (has_lawful_numbers keywords)) (Err BadNumber) (owned_file (path_of before word) (number_in_force (codes "uid") before keywords) (number_in_force (codes "gid") before keywords)))) ≡ None
        → has_bad_component word ≡ false
    by true is e = absurd (cc)
    by false is e = (or_parts (has_bad_component word) (nat_lt 65535 (length (path_of before word))) is).0

opens_clean : (before : List Kind) (most : ℕ) (fs : List Entry) (line : Kind) → fault_said most fs (said_alone before line) ≡ None → OpensClean (mark_of before line)
opens_clean before most fs TooLong e = tt
opens_clean before most fs Cut e = tt
opens_clean before most fs Ignored e = tt
opens_clean before most fs Begins e = tt
opens_clean before most fs (Counts text) e = tt
opens_clean before most fs (Sets keywords) e = tt
opens_clean before most fs (Unsets keywords) e = tt
opens_clean before most fs Unknown e = tt
opens_clean before most fs Up e = tt
opens_clean before most fs (Names word keywords) e =
    cond_both (is_full word) Stays (cond (is_directory before keywords) (Opens (components word)) Stays) OpensClean (λ full. tt)
    (λ relative. cond_both (is_directory before keywords) (Opens (components word)) Stays OpensClean
    (λ dir. components_clean word (bad_word before most fs word keywords e)) (λ plain. tt))

-- ---- one file more

not_there : (fs : List Entry) (path : List ℕ) → file_at fs path ≡ None → All (λ f. f.path ≢ path) fs
not_there [] path e = All-nil (λ (f : Entry). f.path ≢ path)
not_there (f ∷ fs) path e = by (bytes_eq path f.path) refl e (not_there fs path)
  where
    by : (b : Bool) → bytes_eq path f.path ≡ b → cond b (Some f) (file_at fs path) ≡ None → (file_at fs path ≡ None → All (λ g. g.path ≢ path) fs) → All (λ g. g.path ≢ path) (f ∷ fs)
    by true is e rest = absurd (cc)
    by false is e rest = All-cons (λ (g : Entry). g.path ≢ path) f fs (λ same. true≢false (sym ((bytes_eq-Decides path f.path).1 (sym same)) ∙ is)) (rest e)

one_file : (fs : List Entry) (file : Entry) → AreFiles fs → IsLawfulFile file → AreFiles (with_new_file fs file)
one_file fs file h new = by (file_at fs file.path) refl
  where
    by : (o : Option Entry) → file_at fs file.path ≡ o → AreFiles (cond (is_none o) (fs ++ file ∷ []) fs)
    by None e =
        let apart : All (λ f. f.path ≢ file.path) fs = not_there fs file.path e in
        record {
          distinct = all_pairs_push (λ (a b : Entry). a.path ≢ b.path) fs file h.distinct (λ k d within. apart k d within);
          lawful = All-push IsLawfulFile fs file h.lawful new;
        }
    by (Some known) e = h

said_files : (fs : List Entry) (said : Result (Option Entry) TextCode) → AreFiles fs → Says IsLawfulFile said → AreFiles (after_said fs (file_said said))
said_files fs (Err code) h s = h
said_files fs (Ok None) h s = h
said_files fs (Ok (Some file)) h s = one_file fs file h s

-- ---- lines

-- files that may be found in lines
abbrev AreFound : ℕ → List Entry → Type 0
AreFound most fs = AreFiles fs × (length fs ≤ most)

-- what lines without a fault say is lawful, and not too much, and what they open is clean
record IsSound (most : ℕ) (lines : List LogicalLine) : Type 0 where
  files : AreFiles (files_of (kinds lines))
  few : length (files_of (kinds lines)) ≤ most
  opens : All OpensClean (marks (kinds lines))

none_sound : (most : ℕ) → IsSound most []
unfolding files_of named first_appearances
none_sound most = record {
  few = omega arith;
  files = record { distinct = λ i j d before within. absurd (omega (arith, within)); lawful = All-nil IsLawfulFile };
  opens = All-nil OpensClean;
}

line_sound : (most : ℕ) (before : List LogicalLine) (line : LogicalLine) → IsSound most before → fault_of most (kinds before) (kind_of line) ≡ None → IsSound most (before ++ line ∷ [])
unfolding fault_of
line_sound most before line h fine =
    let ks = kinds before in
    let said = said_alone ks (kind_of line) in
    let more : AreFiles (after_said (files_of ks) (file_said said)) = said_files (files_of ks) said h.files (said_lawful ks (kind_of line) h.opens) in
    let open_more : All OpensClean (marks ks ++ mark_of ks (kind_of line) ∷ []) = All-push OpensClean (marks ks) (mark_of ks (kind_of line)) h.opens (opens_clean ks most (files_of ks) (kind_of line) fine) in
    record {
      few = one_more most before line h.few fine;
      files = subst AreFiles (sym (ap files_of (kinds-snoc before line) ∙ files_of-snoc ks (kind_of line))) more;
      opens = subst (λ (ms : List Mark). All OpensClean ms) (sym (ap marks (kinds-snoc before line) ∙ looking_back-snoc mark_of ks (kind_of line))) open_more;
    }

accepted_sound : (most : ℕ) (before rest : List LogicalLine) → IsSound most before → IsSound most (before ++ accepted_from most before rest)
accepted_sound most before [] h = subst (IsSound most) (sym (append-nil before)) h
accepted_sound most before (line ∷ rest) h = by (fault_of most (kinds before) (kind_of line)) refl (accepted_sound most (before ++ line ∷ []) rest)
  where
    by : (o : Option TextCode) → fault_of most (kinds before) (kind_of line) ≡ o
        → (IsSound most (before ++ line ∷ []) → IsSound most ((before ++ line ∷ []) ++ accepted_from most (before ++ line ∷ []) rest))
        → IsSound most (before ++ cond (is_none o) (line ∷ accepted_from most (before ++ line ∷ []) rest) [])
    by None e later = subst (IsSound most) (append_assoc before (line ∷ []) (accepted_from most (before ++ line ∷ []) rest)) (later (line_sound most before line h e))
    by (Some code) e later = subst (IsSound most) (sym (append-nil before)) h

all_accepted : (most : ℕ) (before rest : List LogicalLine) → first_fault (numbered_fault most) before rest ≡ None → accepted_from most before rest ≡ rest
unfolding first_fault
all_accepted most before [] e = refl
all_accepted most before (line ∷ rest) e =
    let both = none_of_both (numbered_fault most before line) (first_fault (numbered_fault most) (before ++ line ∷ []) rest) e in
    ap (λ (o : Option TextCode). cond (is_none o) (line ∷ accepted_from most (before ++ line ∷ []) rest) []) (no_fault line.number (fault_of most (kinds before) (kind_of line)) both.0)
    ∙ ap (λ (ls : List LogicalLine). line ∷ ls) (all_accepted most (before ++ line ∷ []) rest both.1)

-- ---- texts

accepted_found : (most : ℕ) (lines : List LogicalLine) → AreFound most (accepted_files most lines)
accepted_found most lines =
    let sound = accepted_sound most [] lines (none_sound most) in
    (sound.files, sound.few)

-- the files of lines
lines-files : (most : ℕ) (lines : List LogicalLine) (fs : List Entry) → inventory_of_lines most lines ≡ Ok fs → AreFound most fs
unfolding inventory_of_lines
lines-files most lines fs e =
    let told = told_ok (first_fault (numbered_fault most) [] lines) (files_of (kinds lines)) fs e in
    subst (AreFound most) (ap (λ (ls : List LogicalLine). files_of (kinds ls)) (all_accepted most [] lines told.0) ∙ told.1) (accepted_found most lines)

-- the files of an inventory
pub inventory-files : InventoriesAreFiles
unfolding inventory
inventory-files most text fs e =
    let read = bind_ok (inventory_of_lines most (logical_lines text)) (λ files. unless (end_fault text) files) fs e in
    lines-files most (logical_lines text) fs (read.1 ∙ ap (λ files. Ok files) (unless_ok (end_fault text) read.0 fs read.2).1)

-- the first of some files
front_files : (most : ℕ) (fs more : List Entry) → AreFound most (fs ++ more) → AreFound most fs
front_files most fs more found = (front_lawful found.0, omega (arith, found.1, length-append fs more))
  where
    front_lawful : AreFiles (fs ++ more) → AreFiles fs
    front_lawful h = record {
      distinct = λ i j d before within.
          let long : j < length (fs ++ more) = omega (arith, within, length-append fs more) in
          let here : (get_or (fs ++ more) i d).path ≢ (get_or (fs ++ more) j d).path = h.distinct i j d before long in
          rw (get_or_append_left fs more d i (omega (arith, before, within)), get_or_append_left fs more d j within) at here;
      lawful = λ k d within.
          let long : k < length (fs ++ more) = omega (arith, within, length-append fs more) in
          subst IsLawfulFile (get_or_append_left fs more d k within) (h.lawful k d long);
    }

left_files : (most : ℕ) (fault : ReadError) (fs before : List Entry) → AreLeftBy fault fs before → AreFound most before → AreFound most fs
left_files most (Fault fault) fs before h found = subst (AreFound most) h found
left_files most Memory fs before h found = front_files most fs h.0 (subst (AreFound most) h.1 found)

standing_files : (fault : Option ReadError) (finished : Bool) (reader : ReaderValue) (text : List ℕ) → StandsAt fault finished reader text → AreFound reader.most (files reader)
standing_files None false reader text h = lines-files reader.most _ (files reader) h.1
standing_files None true reader text h = inventory-files reader.most text (files reader) h
standing_files (Some fault) finished reader text h = left_files reader.most fault (files reader) _ h.4 (accepted_found reader.most (logical_lines h.0))

-- the files of a reader that stands for a text
pub reader-files : ReadersHaveFiles
reader-files reader text h = standing_files reader.fault reader.is_finished reader text h

separator : (b : ℕ) → (b ≡ 47) ⊎ (b ≡ 0) → ((b == 47) || (b == 0)) ≡ true
separator b (inl e) = or_left (b == 47) (b == 0) (eq-eqb b 47 e)
separator b (inr e) = or_right (b == 47) (b == 0) (eq-eqb b 0 e)

bad_refused : (most : ℕ) (before : List Kind) (word : List ℕ) (keywords : List (List ℕ)) → has_bad_component word ≡ true → fault_of most before (Names word keywords) ≡ Some BadPath
unfolding fault_of
bad_refused most before word keywords bad =
    ap (λ (o : Bool). fault_said most (files_of before) (cond o (Err BadPath) (cond (not (has_lawful_numbers keywords)) (Err BadNumber) (owned_file (path_of before word) (number_in_force (codes "uid") before keywords) (number_in_force (codes "gid") before keywords)))))
    (or_left (has_bad_component word) (nat_lt 65535 (length (path_of before word))) bad)

-- a component with a separator is in no path
pub separator_refused : SeparatorsAreRefused
separator_refused most before word keywords component b there has is =
    let slash_or_nul : ℕ → Bool = λ c. (c == 47) || (c == 0) in
    let any = list_any_at slash_or_nul component has.0 b has.1 (ap slash_or_nul has.2 ∙ separator b is) in
    let bad = or_right (bytes_eq component (codes "..")) (list_any slash_or_nul component) any in
    let bad_word = list_any_at is_bad_component (parts word) there.0 component there.1 (ap is_bad_component there.2 ∙ bad) in
    bad_refused most before word keywords (or_right (has_bad_escape word) (list_any is_bad_component (parts word)) bad_word)

-- and a word with a bad escape names no file
pub bad_escape_refused : BadEscapesAreRefused
bad_escape_refused most before word keywords e =
    bad_refused most before word keywords (or_left (has_bad_escape word) (list_any is_bad_component (parts word)) e)
