-- A line that is written is read as the entry of its file.
use Rattle.std.proofs.Common.{◌≡◌, ℕ, ◌<◌, ◌≤◌, ◌^◌, Bool, true, false, cond, not, ◌||◌, inl, inr, All, List, [], ◌∷◌, ◌++◌, length, refl, sym, ap, ◌∙◌, subst, arith}
use Rattle.std.specs.Prelude.{nat_lt, codes, decimal, filter, Option, Some, Ok, Err, is_some}
use Rattle.std.specs.List.{list_any, join_with_byte}
use Rattle.std.proofs.lemmas.Bool.{le-ltb}
use Rattle.std.proofs.lemmas.List.Elements.{All-head, All-tail}
use Rattle.std.proofs.lemmas.List.Splits.{join_with_byte-slice_split}
use Rattle.idtext.specs.Escapes.{escaped, is_bad}
use Rattle.idtext.specs.Numbers.{greatest_id}
use Rattle.idtext.specs.Pieces.{pieces}
use Rattle.idtext.specs.Words.{most_line_bytes, words}
use Rattle.idtext.proofs.NumberLemmas.{decimal-back}
use Rattle.idtext.proofs.PieceLemmas.{pieces-length}
use Rattle.idtext.specs.declared.faults.TextCode.TheVariants.{BadNumber, BadPath}
use Rattle.idtext.specs.declared.escapes.Character.{Character}
use Rattle.mtree_inv.specs.declared.entry.Entry.{Entry}
use Rattle.mtree_inv.specs.Files.{IsLawfulFile}
use Rattle.mtree_inv.specs.Inventory.{named_file, owned_file, path_of, said_alone, flattened}
use Rattle.mtree_inv.specs.Keywords.{has_lawful_numbers, is_number_or_absent, number_in_force}
use Rattle.mtree_inv.specs.Kinds.{Kind, TooLong, Names, kind_of, kind_of_text, kind_of_words}
use Rattle.mtree_inv.specs.Open.{is_full, marks, open_names}
use Rattle.mtree_inv.specs.Paths.{components, has_bad_component, is_bad_component, is_kept, is_slash, parts, path_of_components}
use Rattle.inventory_text.specs.declared.kind.FileKind.{FileKind}
use Rattle.inventory_text.specs.declared.kind.FileKind.TheVariants.{Block, Character as CharacterDevice, Directory, Fifo, Regular, Link, Socket}
use Rattle.inventory_text.specs.Writing.{entry_line, gid_word, kind_word, name_word, type_word, uid_word}
use Rattle.inventory_text.specs.Listed.{IsName, IsPath}
use Rattle.inventory_text.specs.ReadBack.{EntriesReadBack}
use Rattle.inventory_text.proofs.Escaped.{name-characters, name-parts, written-good}
use Rattle.inventory_text.proofs.Names.{name-good, name-kept}
use Rattle.inventory_text.proofs.Visible.{decimal-visible, escaped-visible, four-words, is_visible}

-- ---- the words of a line

pub kind-visible : (kind : FileKind) → is_visible (kind_word kind) ≡ true
kind-visible Block = refl
kind-visible CharacterDevice = refl
kind-visible Directory = refl
kind-visible Fifo = refl
kind-visible Regular = refl
kind-visible Link = refl
kind-visible Socket = refl

abbrev pub keywords : ℕ → ℕ → FileKind → List (List ℕ)
keywords uid gid kind = type_word kind ∷ uid_word uid ∷ gid_word gid ∷ []

id-small : (id : ℕ) → id ≤ greatest_id → id < 2 ^ 64
id-small id h = omega (arith, h)

pub line-words : (path : List ℕ) (uid gid : ℕ) (kind : FileKind) → uid ≤ greatest_id → gid ≤ greatest_id → words (entry_line path uid gid kind) ≡ name_word path ∷ keywords uid gid kind
line-words path uid gid kind u g =
    four-words 46 (47 ∷ escaped path) 116 (codes "ype=" ++ kind_word kind) 117 (codes "id=" ++ decimal uid) 103 (codes "id=" ++ decimal gid)
    (escaped-visible path) (kind-visible kind) (decimal-visible uid (id-small uid u)) (decimal-visible gid (id-small gid g))

pub line-kind : (number : ℕ) (path : List ℕ) (uid gid : ℕ) (kind : FileKind) → uid ≤ greatest_id → gid ≤ greatest_id → length (entry_line path uid gid kind) ≤ most_line_bytes
    → kind_of (record { number = number; text = entry_line path uid gid kind; is_cut = false }) ≡ Names (name_word path) (keywords uid gid kind)
unfolding kind_of
line-kind number path uid gid kind u g short =
    ap (λ (long : Bool). cond long TooLong (kind_of_text (entry_line path uid gid kind))) (le-ltb most_line_bytes (length (entry_line path uid gid kind)) short)
    ∙ ap kind_of_words (line-words path uid gid kind u g)

-- ---- its path

names-kept : (names : List (List ℕ)) → All IsName names → filter is_kept names ≡ names
names-kept [] all = refl
names-kept (n ∷ ns) all =
    ap (λ (k : Bool). cond k (n ∷ filter is_kept ns) (filter is_kept ns)) (name-kept n (All-head IsName n ns all))
    ∙ ap (λ (rest : List (List ℕ)). n ∷ rest) (names-kept ns (All-tail IsName n ns all))

names-good : (names : List (List ℕ)) → All IsName names → list_any is_bad_component names ≡ false
names-good [] all = refl
names-good (n ∷ ns) all =
    ap (λ (b : Bool). b || list_any is_bad_component ns) (name-good n (All-head IsName n ns all)) ∙ names-good ns (All-tail IsName n ns all)

joined : (names : List (List ℕ)) → 0 < length names → path_of_components names ≡ join_with_byte 47 names
joined [] some = absurd (omega arith)
joined (n ∷ ns) some = refl

-- what is read of the parts of a path
record IsRead (path : List ℕ) : Type 0 where
  good : list_any is_bad_component (pieces 47 path) ≡ false
  back : path_of_components (filter is_kept (pieces 47 path)) ≡ path

path-read : (path : List ℕ) → IsPath path → IsRead path
unfolding pieces
path-read path (inl e) = subst IsRead (sym e) (record { good = refl; back = refl })
path-read path (inr names) = record {
  good = names-good (pieces 47 path) names;
  back = ap path_of_components (names-kept (pieces 47 path) names)
      ∙ joined (pieces 47 path) (omega (arith, pieces-length 47 path))
      ∙ join_with_byte-slice_split 47 path;
}

pub word-full : (path : List ℕ) → All (λ b. b < 256) path → is_full (name_word path) ≡ true
word-full path bytes = ap (list_any is_slash) (name-characters path bytes)

word-good : (path : List ℕ) → All (λ b. b < 256) path → IsPath path → has_bad_component (name_word path) ≡ false
word-good path bytes is =
    ap (λ (cs : List Character). list_any is_bad cs || list_any is_bad_component (parts (name_word path))) (name-characters path bytes)
    ∙ ap (λ (b : Bool). b || list_any is_bad_component (parts (name_word path))) (written-good path)
    ∙ ap (list_any is_bad_component) (name-parts path bytes)
    ∙ (path-read path is).good

word-path : (before : List Kind) (path : List ℕ) → All (λ b. b < 256) path → IsPath path → path_of before (name_word path) ≡ path
word-path before path bytes is =
    ap (λ (full : Bool). path_of_components (cond full (components (name_word path)) (flattened (open_names (marks before)) ++ components (name_word path)))) (word-full path bytes)
    ∙ ap (λ (ps : List (List ℕ)). path_of_components (filter is_kept ps)) (name-parts path bytes)
    ∙ (path-read path is).back

-- ---- its numbers

uid-read : (before : List Kind) (uid gid : ℕ) (kind : FileKind) → uid ≤ greatest_id → number_in_force (codes "uid") before (keywords uid gid kind) ≡ Some uid
uid-read before uid gid kind h = decimal-back uid h

gid-read : (before : List Kind) (uid gid : ℕ) (kind : FileKind) → gid ≤ greatest_id → number_in_force (codes "gid") before (keywords uid gid kind) ≡ Some gid
gid-read before uid gid kind h = decimal-back gid h

numbers-lawful : (uid gid : ℕ) (kind : FileKind) → uid ≤ greatest_id → gid ≤ greatest_id → has_lawful_numbers (keywords uid gid kind) ≡ true
numbers-lawful uid gid kind u g =
    ap (λ (found : Option ℕ). cond (is_some found) (is_number_or_absent (Some (decimal gid))) false) (decimal-back uid u)
    ∙ ap (λ (found : Option ℕ). is_some found) (decimal-back gid g)

-- ---- the entry

pub entry-named : (before : List Kind) (file : Entry) (kind : FileKind) → IsLawfulFile file → All (λ b. b < 256) file.path → IsPath file.path
    → named_file before (name_word file.path) (keywords file.uid file.gid kind) ≡ Ok (Some file)
entry-named before file kind lawful bytes is =
    let word = name_word file.path in
    let words = keywords file.uid file.gid kind in
    let path = word-path before file.path bytes is in
    let owned = owned_file (path_of before word) (number_in_force (codes "uid") before words) (number_in_force (codes "gid") before words) in
    ap (λ (bad : Bool). cond (bad || nat_lt most_line_bytes (length (path_of before word))) (Err BadPath) (cond (not (has_lawful_numbers words)) (Err BadNumber) owned)) (word-good file.path bytes is)
    ∙ ap (λ (p : List ℕ). cond (nat_lt most_line_bytes (length p)) (Err BadPath) (cond (not (has_lawful_numbers words)) (Err BadNumber) owned)) path
    ∙ ap (λ (long : Bool). cond long (Err BadPath) (cond (not (has_lawful_numbers words)) (Err BadNumber) owned)) (le-ltb most_line_bytes (length file.path) lawful.path.short)
    ∙ ap (λ (good : Bool). cond (not good) (Err BadNumber) owned) (numbers-lawful file.uid file.gid kind lawful.uid lawful.gid)
    ∙ ap (λ (p : List ℕ). owned_file p (number_in_force (codes "uid") before words) (number_in_force (codes "gid") before words)) path
    ∙ ap (λ (u : Option ℕ). owned_file file.path u (number_in_force (codes "gid") before words)) (uid-read before file.uid file.gid kind lawful.uid)
    ∙ ap (λ (g : Option ℕ). owned_file file.path (Some file.uid) g) (gid-read before file.uid file.gid kind lawful.gid)

pub entry-back : EntriesReadBack
entry-back before number listed is =
    ap (said_alone before) (line-kind number listed.file.path listed.file.uid listed.file.gid listed.kind is.lawful.uid is.lawful.gid is.short)
    ∙ entry-named before listed.file listed.kind is.lawful is.bytes is.path
