-- The paths of an inventory are of names.
use Rattle.std.proofs.Common.{◌≡◌, ◌≢◌, ℕ, Bool, true, false, cond, not, inl, inr, ◌==◌, All, List, [], ◌∷◌, ◌++◌, length, refl, sym, ap, ◌∙◌, subst, append-nil, append_assoc, codes}
use Rattle.std.specs.Prelude.{nat_lt, Option, Some, None, Result, Ok, Err, is_none}
use Rattle.std.specs.List.{list_any, join_with_byte}
use Rattle.std.proofs.lemmas.Bool.{cond_both, eqb-true, false_from_ne_true, or_left, or_parts, or_right}
use Rattle.std.proofs.lemmas.List.Elements.{All-nil, All-head, All-tail, All-append, All-filter, All-push, All-weaker, filter_passes}
use Rattle.std.proofs.lemmas.List.Folds.{list_any_at}
use Rattle.std.proofs.lemmas.List.Splits.{slice_split_at, slice_split_none}
use Rattle.idtext.specs.Escapes.{has_bad_escape}
use Rattle.idtext.specs.First.{first_fault, unless}
use Rattle.idtext.specs.Pieces.{pieces}
use Rattle.idtext.specs.Words.{most_line_bytes}
use Rattle.idtext.proofs.FirstLemmas.{none_of_both}
use Rattle.idtext.proofs.OkLemmas.{bind_ok, unless_ok}
use Rattle.idtext.specs.declared.faults.TextCode.{TextCode}
use Rattle.idtext.specs.declared.faults.TextCode.TheVariants.{BadNumber, BadPath, CutInventory, DotDotAbove}
use Rattle.mtree_inv.specs.declared.entry.Entry.{Entry}
use Rattle.mtree_inv.specs.Inventory.{end_fault, fault_of, fault_said, file_at, file_said, files_of, first_appearances, flattened, inventory, inventory_of_lines, is_bad_path, kinds, named, named_file, numbered_fault, owned_file, path_of, said_alone}
use Rattle.mtree_inv.specs.Keywords.{has_lawful_numbers, is_directory, number_in_force}
use Rattle.mtree_inv.specs.Kinds.{Kind, TooLong, Cut, Ignored, Begins, Counts, Sets, Unsets, Unknown, Up, Names, kind_of}
use Rattle.mtree_inv.specs.Logical.{LogicalLine, logical_lines}
use Rattle.mtree_inv.specs.Open.{Mark, Opens, Stays, is_full, mark_of, marks, open_names}
use Rattle.mtree_inv.specs.Paths.{components, has_bad_component, is_bad_component, is_kept, parts, path_of_components}
use Rattle.mtree_inv.specs.Whole.{is_cut}
use Rattle.mtree_inv.proofs.FileLemmas.{after_said, files_of-snoc}
use Rattle.mtree_inv.proofs.LookingLemmas.{looking_back-snoc}
use Rattle.mtree_inv.proofs.RoomLemmas.{no_fault, told_ok}
use Rattle.mtree_inv.proofs.RunLemmas.{kinds-snoc}
use Rattle.inventory_text.specs.EntryPaths.{DotDotIsRefused, PathsAreOfNames}
use Rattle.inventory_text.specs.Listed.{IsName, IsPath}
use Rattle.inventory_text.proofs.EntryPaths.{OpensAll, Says, open-all}
use Rattle.inventory_text.proofs.Names.{name-is, none-passes}

pub dot-dot-refused : DotDotIsRefused
unfolding fault_of
dot-dot-refused most before word keywords there =
    let bad = list_any_at is_bad_component (parts word) there.0 (codes "..") there.1 (ap is_bad_component there.2) in
    ap (λ (o : Bool). fault_said most (files_of before) (cond o (Err BadPath) (cond (not (has_lawful_numbers keywords)) (Err BadNumber) (owned_file (path_of before word) (number_in_force (codes "uid") before keywords) (number_in_force (codes "gid") before keywords)))))
    (or_left (has_bad_component word) (nat_lt most_line_bytes (length (path_of before word))) (or_right (has_bad_escape word) (list_any is_bad_component (parts word)) bad))

-- ---- components and paths

word-names : (word : List ℕ) → has_bad_component word ≡ false → All IsName (components word)
word-names word e = λ k d within.
    let kept : All (λ c. is_kept c ≡ true) (components word) = filter_passes is_kept (parts word) in
    let bare : All (λ c. is_bad_component c ≡ false) (components word) = All-filter is_kept (λ c. is_bad_component c ≡ false) (parts word) (none-passes is_bad_component (parts word) (or_parts (has_bad_escape word) (list_any is_bad_component (parts word)) e).1) in
    name-is _ (kept k d within) (bare k d within)

no-slash : (name : List ℕ) → IsName name → All (λ b. (b == 47) ≡ false) name
no-slash name is = All-weaker (λ b. (b ≢ 47) × (b ≢ 0)) (λ b. (b == 47) ≡ false) (λ b h. false_from_ne_true (b == 47) (λ e. h.0 (eqb-true b 47 e))) name is.plain

joined-pieces : (c : List ℕ) (cs : List (List ℕ)) → All IsName (c ∷ cs) → pieces 47 (join_with_byte 47 (c ∷ cs)) ≡ c ∷ cs
unfolding pieces
joined-pieces c [] all = slice_split_none (λ b. b == 47) c (no-slash c (All-head IsName c [] all))
joined-pieces c (d ∷ cs) all =
    slice_split_at (λ b. b == 47) c 47 (join_with_byte 47 (d ∷ cs)) (no-slash c (All-head IsName c (d ∷ cs) all)) refl
    ∙ ap (λ (ps : List (List ℕ)). c ∷ ps) (joined-pieces d cs (All-tail IsName c (d ∷ cs) all))

path-is : (cs : List (List ℕ)) → All IsName cs → IsPath (path_of_components cs)
path-is [] all = inl refl
path-is (c ∷ cs) all = inr (subst (λ (ps : List (List ℕ)). All IsName ps) (sym (joined-pieces c cs all)) all)

-- ---- one line

entry-path : (before : List Kind) (word : List ℕ) → All (OpensAll IsName) (marks before) → has_bad_component word ≡ false → IsPath (path_of before word)
entry-path before word opened e =
    let own = word-names word e in
    cond_both (is_full word) (components word) (flattened (open_names (marks before)) ++ components word) (λ cs. IsPath (path_of_components cs))
    (λ full. path-is (components word) own)
    (λ relative. path-is (flattened (open_names (marks before)) ++ components word) (All-append IsName (flattened (open_names (marks before))) (components word) (open-all IsName (marks before) opened) own))

abbrev HasPath : Entry → Type 0
HasPath file = IsPath file.path

owned-at : (path : List ℕ) (uid gid : Option ℕ) → IsPath path → Says HasPath (owned_file path uid gid)
owned-at path None gid is = tt
owned-at path (Some uid) None is = tt
owned-at path (Some uid) (Some gid) is = is

line-says : (before : List Kind) (line : Kind) → All (OpensAll IsName) (marks before) → Says HasPath (said_alone before line)
line-says before TooLong h = tt
line-says before Cut h = tt
line-says before Ignored h = tt
line-says before Begins h = cond_both (is_cut before) (Err CutInventory) (Ok None) (Says HasPath) (λ e. tt) (λ e. tt)
line-says before (Counts text) h = tt
line-says before (Sets keywords) h = cond_both (has_lawful_numbers keywords) _ _ (Says HasPath) (λ e. tt) (λ e. tt)
line-says before (Unsets keywords) h = tt
line-says before Unknown h = tt
line-says before Up h = cond_both (length (open_names (marks before)) == 0) (Err DotDotAbove) (Ok None) (Says HasPath) (λ e. tt) (λ e. tt)
line-says before (Names word keywords) h =
    cond_both (is_bad_path before word) _ _ (Says HasPath) (λ e. tt)
    (λ good. cond_both (not (has_lawful_numbers keywords)) _ _ (Says HasPath) (λ e. tt)
    (λ e. owned-at (path_of before word) (number_in_force (codes "uid") before keywords) (number_in_force (codes "gid") before keywords)
    (entry-path before word h (or_parts (has_bad_component word) (nat_lt most_line_bytes (length (path_of before word))) good).0)))

good-word : (before : List Kind) (most : ℕ) (fs : List Entry) (word : List ℕ) (keywords : List (List ℕ)) → fault_said most fs (named_file before word keywords) ≡ None → has_bad_component word ≡ false
good-word before most fs word keywords e = by (is_bad_path before word) refl e
  where
    by : (b : Bool) → is_bad_path before word ≡ b
        → fault_said most fs (cond b (Err BadPath) (cond (not (has_lawful_numbers keywords)) (Err BadNumber) (owned_file (path_of before word) (number_in_force (codes "uid") before keywords) (number_in_force (codes "gid") before keywords)))) ≡ None
        → has_bad_component word ≡ false
    by true is e = absurd (cc)
    by false is e = (or_parts (has_bad_component word) (nat_lt most_line_bytes (length (path_of before word))) is).0

line-opens : (before : List Kind) (most : ℕ) (fs : List Entry) (line : Kind) → fault_said most fs (said_alone before line) ≡ None → OpensAll IsName (mark_of before line)
line-opens before most fs TooLong e = tt
line-opens before most fs Cut e = tt
line-opens before most fs Ignored e = tt
line-opens before most fs Begins e = tt
line-opens before most fs (Counts text) e = tt
line-opens before most fs (Sets keywords) e = tt
line-opens before most fs (Unsets keywords) e = tt
line-opens before most fs Unknown e = tt
line-opens before most fs Up e = tt
line-opens before most fs (Names word keywords) e =
    cond_both (is_full word) Stays (cond (is_directory before keywords) (Opens (components word)) Stays) (OpensAll IsName) (λ full. tt)
    (λ relative. cond_both (is_directory before keywords) (Opens (components word)) Stays (OpensAll IsName)
    (λ dir. word-names word (good-word before most fs word keywords e)) (λ plain. tt))

-- ---- lines

record AreOfNames (lines : List LogicalLine) : Type 0 where
  files : All HasPath (files_of (kinds lines))
  opens : All (OpensAll IsName) (marks (kinds lines))

none-of-names : AreOfNames []
unfolding files_of named first_appearances
none-of-names = record { files = All-nil HasPath; opens = All-nil (OpensAll IsName) }

file-more : (fs : List Entry) (said : Result (Option Entry) TextCode) → All HasPath fs → Says HasPath said → All HasPath (after_said fs (file_said said))
file-more fs (Err code) all says = all
file-more fs (Ok None) all says = all
file-more fs (Ok (Some file)) all says =
    cond_both (is_none (file_at fs file.path)) (fs ++ file ∷ []) fs (All HasPath) (λ new. All-push HasPath fs file all says) (λ known. all)

line-more : (most : ℕ) (before : List LogicalLine) (line : LogicalLine) → AreOfNames before → fault_of most (kinds before) (kind_of line) ≡ None → AreOfNames (before ++ line ∷ [])
unfolding fault_of
line-more most before line h fine =
    let ks = kinds before in
    let more : All HasPath (after_said (files_of ks) (file_said (said_alone ks (kind_of line)))) = file-more (files_of ks) (said_alone ks (kind_of line)) h.files (line-says ks (kind_of line) h.opens) in
    let opened : All (OpensAll IsName) (marks ks ++ mark_of ks (kind_of line) ∷ []) = All-push (OpensAll IsName) (marks ks) (mark_of ks (kind_of line)) h.opens (line-opens ks most (files_of ks) (kind_of line) fine) in
    record {
      files = subst (λ (fs : List Entry). All HasPath fs) (sym (ap files_of (kinds-snoc before line) ∙ files_of-snoc ks (kind_of line))) more;
      opens = subst (λ (ms : List Mark). All (OpensAll IsName) ms) (sym (ap marks (kinds-snoc before line) ∙ looking_back-snoc mark_of ks (kind_of line))) opened;
    }

lines-more : (most : ℕ) (before rest : List LogicalLine) → AreOfNames before → first_fault (numbered_fault most) before rest ≡ None → AreOfNames (before ++ rest)
unfolding first_fault
lines-more most before [] h e = subst AreOfNames (sym (append-nil before)) h
lines-more most before (line ∷ rest) h e =
    let both = none_of_both (numbered_fault most before line) (first_fault (numbered_fault most) (before ++ line ∷ []) rest) e in
    let here = line-more most before line h (no_fault line.number (fault_of most (kinds before) (kind_of line)) both.0) in
    subst AreOfNames (append_assoc before (line ∷ []) rest) (lines-more most (before ++ line ∷ []) rest here both.1)

lines-paths : (most : ℕ) (lines : List LogicalLine) (fs : List Entry) → inventory_of_lines most lines ≡ Ok fs → All HasPath fs
unfolding inventory_of_lines
lines-paths most lines fs e =
    let told = told_ok (first_fault (numbered_fault most) [] lines) (files_of (kinds lines)) fs e in
    subst (λ (gs : List Entry). All HasPath gs) told.1 (lines-more most [] lines none-of-names told.0).files

pub paths-of-names : PathsAreOfNames
unfolding inventory
paths-of-names most text fs e =
    let read = bind_ok (inventory_of_lines most (logical_lines text)) (λ files. unless (end_fault text) files) fs e in
    lines-paths most (logical_lines text) fs (read.1 ∙ ap (λ files. Ok files) (unless_ok (end_fault text) read.0 fs read.2).1)
