-- Which path an entry gives its file.
use Rattle.std.proofs.Common.{◌≡◌, ℕ, Bool, true, false, cond, not, ◌==◌, All, List, [], ◌∷◌, ◌++◌, length, refl, sym, ap, ◌∙◌, subst, append-nil, append_assoc, codes}
use Rattle.std.specs.Prelude.{nat_lt, filter, map, Option, Some, None, Result, Ok, Err}
use Rattle.std.specs.List.{list_any, join_with_byte}
use Rattle.std.specs.Str.{bytes_eq}
use Rattle.std.proofs.lemmas.Bool.{and_right, cond_both, le-ltb, or_from}
use Rattle.std.proofs.lemmas.List.Elements.{All-nil, All-cons, All-head, All-tail, All-append, filter_passes}
use Rattle.std.proofs.lemmas.List.Splits.{slice_split_none}
use Rattle.idtext.specs.Escapes.{bytes_of, characters, has_bad_escape, unescaped}
use Rattle.idtext.specs.Words.{most_line_bytes}
use Rattle.idtext.specs.declared.faults.TextCode.{TextCode}
use Rattle.idtext.specs.declared.faults.TextCode.TheVariants.{BadNumber, BadPath}
use Rattle.mtree_inv.specs.declared.entry.Entry.{Entry}
use Rattle.mtree_inv.specs.Inventory.{flattened, is_bad_path, named_file, owned_file, path_of, said_alone}
use Rattle.mtree_inv.specs.Keywords.{has_lawful_numbers, is_directory, number_in_force}
use Rattle.mtree_inv.specs.Kinds.{Kind, TooLong, Cut, Ignored, Begins, Counts, Sets, Unsets, Unknown, Up, Names}
use Rattle.mtree_inv.specs.Looking.{looking_back_from}
use Rattle.mtree_inv.specs.Open.{Mark, Opens, Closes, Stays, is_full, is_open_after, mark_of, marks, open_names}
use Rattle.mtree_inv.specs.Paths.{components, has_bad_component, is_bad_component, is_kept, is_slash, parts, path_of_components}
use Rattle.mtree_inv.proofs.LawLemmas.{opens}
use Rattle.mtree_inv.proofs.LookingLemmas.{looking_back-snoc}
use Rattle.mtree_inv.proofs.PathLemmas.{flattened-snoc}
use Rattle.mtree_inv.proofs.StackLemmas.{open_names-stays}
use Rattle.inventory_text.specs.EntryPaths.{FullEntryStandsByItself, IsNoMove, OthersOpenNothing, RelativeEntriesAreRead, StandsAtTheStart, StandsInItsDirectory, path_in}
use Rattle.inventory_text.proofs.Names.{name-good, none-passes}

-- ---- the path that an entry says

abbrev pub Says : (Entry → Type 0) → Result (Option Entry) TextCode → Type 0
Says P (Err code) = Unit {0}
Says P (Ok None) = Unit {0}
Says P (Ok (Some file)) = P file

abbrev HasPath : List ℕ → Entry → Type 0
HasPath path file = file.path ≡ path

owned-says : (path : List ℕ) (uid gid : Option ℕ) → Says (HasPath path) (owned_file path uid gid)
owned-says path None gid = tt
owned-says path (Some uid) None = tt
owned-says path (Some uid) (Some gid) = refl

named-says : (before : List Kind) (word : List ℕ) (keywords : List (List ℕ)) → Says (HasPath (path_of before word)) (named_file before word keywords)
named-says before word keywords =
    let uid = number_in_force (codes "uid") before keywords in
    let gid = number_in_force (codes "gid") before keywords in
    cond_both (is_bad_path before word) _ _ (Says (HasPath (path_of before word))) (λ e. tt)
    (λ good. cond_both (not (has_lawful_numbers keywords)) _ _ (Says (HasPath (path_of before word))) (λ e. tt)
    (λ e. owned-says (path_of before word) uid gid))

pub said-path : (before : List Kind) (word : List ℕ) (keywords : List (List ℕ)) (file : Entry) → said_alone before (Names word keywords) ≡ Ok (Some file) → file.path ≡ path_of before word
said-path before word keywords file e = subst (Says (HasPath (path_of before word))) e (named-says before word keywords)

pub full-itself : FullEntryStandsByItself
full-itself before word keywords file full says =
    said-path before word keywords file says
    ∙ ap (λ (f : Bool). path_of_components (cond f (components word) (flattened (open_names (marks before)) ++ components word))) full

-- ---- lines that open and close nothing

no-mark : (before : List Kind) (line : Kind) → IsNoMove before line → mark_of before line ≡ Stays
no-mark before TooLong h = refl
no-mark before Cut h = refl
no-mark before Ignored h = refl
no-mark before Begins h = refl
no-mark before (Counts text) h = refl
no-mark before (Sets keywords) h = refl
no-mark before (Unsets keywords) h = refl
no-mark before Unknown h = refl
no-mark before Up h = absurd h
no-mark before (Names word keywords) h = by (is_full word)
  where
    by : (full : Bool) → cond full Stays (cond (is_directory before keywords) (Opens (components word)) Stays) ≡ Stays
    by true = refl
    by false = ap (λ (d : Bool). cond d (Opens (components word)) Stays) h

pub others-open-nothing : OthersOpenNothing
others-open-nothing before line h =
    ap open_names (looking_back-snoc mark_of before line ∙ ap (λ (m : Mark). marks before ++ m ∷ []) (no-mark before line h))
    ∙ open_names-stays (marks before)

-- ---- the open directories

-- what holds of the components of each directory entry holds of those of the open directories
abbrev pub OpensAll : (List ℕ → Type 0) → Mark → Type 0
OpensAll P (Opens name) = All P name
OpensAll P Closes = Unit {0}
OpensAll P Stays = Unit {0}

pub open-all : (P : List ℕ → Type 0) (ms : List Mark) → All (OpensAll P) ms → All P (flattened (open_names ms))
open-all P [] h = All-nil P
open-all P (Opens name ∷ after) h =
    let rest = open-all P after (All-tail (OpensAll P) (Opens name) after h) in
    cond_both (is_open_after after) (name ∷ open_names after) (open_names after) (λ names. All P (flattened names))
    (λ e. All-append P name (flattened (open_names after)) (All-head (OpensAll P) (Opens name) after h) rest)
    (λ e. rest)
open-all P (Closes ∷ after) h = open-all P after (All-tail (OpensAll P) Closes after h)
open-all P (Stays ∷ after) h = open-all P after (All-tail (OpensAll P) Stays after h)

abbrev IsKept : List ℕ → Type 0
IsKept component = is_kept component ≡ true

mark-kept : (before : List Kind) (line : Kind) → OpensAll IsKept (mark_of before line)
mark-kept before TooLong = tt
mark-kept before Cut = tt
mark-kept before Ignored = tt
mark-kept before Begins = tt
mark-kept before (Counts text) = tt
mark-kept before (Sets keywords) = tt
mark-kept before (Unsets keywords) = tt
mark-kept before Unknown = tt
mark-kept before Up = tt
mark-kept before (Names word keywords) = by (is_full word) (is_directory before keywords)
  where
    by : (full dir : Bool) → OpensAll IsKept (cond full Stays (cond dir (Opens (components word)) Stays))
    by true dir = tt
    by false true = filter_passes is_kept (parts word)
    by false false = tt

marks-kept : (before lines : List Kind) → All (OpensAll IsKept) (looking_back_from mark_of before lines)
marks-kept before [] = All-nil (OpensAll IsKept)
marks-kept before (l ∷ ls) = All-cons (OpensAll IsKept) (mark_of before l) (looking_back_from mark_of (before ++ l ∷ []) ls) (mark-kept before l) (marks-kept (before ++ l ∷ []) ls)

-- ---- a name in a directory

join-snoc : (c : List ℕ) (cs : List (List ℕ)) (name : List ℕ) → join_with_byte 47 (c ∷ (cs ++ name ∷ [])) ≡ join_with_byte 47 (c ∷ cs) ++ 47 ∷ name
join-snoc c [] name = refl
join-snoc c (d ∷ cs) name = ap (λ (t : List ℕ). c ++ 47 ∷ t) (join-snoc d cs name) ∙ sym (append_assoc c (47 ∷ join_with_byte 47 (d ∷ cs)) (47 ∷ name))

-- components make no path `.`
not-start : (c : List ℕ) (cs : List (List ℕ)) → IsKept c → bytes_eq (join_with_byte 47 (c ∷ cs)) (codes ".") ≡ false
not-start [] cs kept = absurd (cc)
not-start (b ∷ c) [] kept = by (bytes_eq (b ∷ c) (codes ".")) kept
  where
    by : (t : Bool) → not t ≡ true → t ≡ false
    by true e = absurd (cc)
    by false e = refl
not-start (b ∷ []) (d ∷ cs) kept = and_right (b == 46) false refl
not-start (b ∷ x ∷ c) (d ∷ cs) kept = and_right (b == 46) false refl

in-directory : (cs : List (List ℕ)) (name : List ℕ) → All IsKept cs → path_of_components (cs ++ filter is_kept (name ∷ [])) ≡ path_in (path_of_components cs) name
in-directory cs [] all = ap path_of_components (append-nil cs)
in-directory cs (b ∷ name) all = by (bytes_eq (b ∷ name) (codes ".")) cs all
  where
    by : (dot : Bool) (cs : List (List ℕ)) → All IsKept cs
        → path_of_components (cs ++ cond (not dot) ((b ∷ name) ∷ []) []) ≡ cond dot (path_of_components cs) (cond (bytes_eq (path_of_components cs) (codes ".")) (b ∷ name) (path_of_components cs ++ 47 ∷ b ∷ name))
    by true cs all = ap path_of_components (append-nil cs)
    by false [] all = refl
    by false (c ∷ cs) all =
        join-snoc c cs (b ∷ name)
        ∙ sym (ap (λ (t : Bool). cond t (b ∷ name) (join_with_byte 47 (c ∷ cs) ++ 47 ∷ b ∷ name)) (not-start c cs (All-head IsKept c cs all)))

-- a relative name is one part
one-part : (word : List ℕ) → is_full word ≡ false → parts word ≡ unescaped word ∷ []
one-part word e = ap (map bytes_of) (slice_split_none is_slash (characters word) (none-passes is_slash (characters word) e))

open-relative : (after : List Kind) (word : List ℕ) (names : List (List (List ℕ))) → open_names (marks after) ≡ names → All IsKept (flattened names) → is_full word ≡ false
    → path_of after word ≡ path_in (path_of_components (flattened names)) (unescaped word)
open-relative after word names there all relative =
    ap (λ (f : Bool). path_of_components (cond f (components word) (flattened (open_names (marks after)) ++ components word))) relative
    ∙ ap (λ (os : List (List (List ℕ))). path_of_components (flattened os ++ components word)) there
    ∙ ap (λ (cs : List (List ℕ)). path_of_components (flattened names ++ cs)) (ap (filter is_kept) (one-part word relative))
    ∙ in-directory (flattened names) (unescaped word) all

pub at-the-start : StandsAtTheStart
at-the-start before word keywords file there relative says =
    said-path before word keywords file says ∙ open-relative before word [] there (All-nil IsKept) relative

pub in-its-directory : StandsInItsDirectory
in-its-directory before between dir word of_dir keywords directory file dir-relative is-dir dir-says there relative says =
    let known = open_names (marks before) in
    let after = before ++ Names dir of_dir ∷ between in
    let names = known ++ components dir ∷ [] in
    let all : All IsKept (flattened known ++ components dir) = All-append IsKept (flattened known) (components dir) (open-all IsKept (marks before) (marks-kept [] before)) (filter_passes is_kept (parts dir)) in
    let dir-path : directory.path ≡ path_of_components (flattened known ++ components dir) =
    said-path before dir of_dir directory dir-says
    ∙ ap (λ (f : Bool). path_of_components (cond f (components dir) (flattened known ++ components dir))) dir-relative in
    said-path after word keywords file says
    ∙ open-relative after word names (there ∙ opens before dir of_dir dir-relative is-dir) (subst (λ cs. All IsKept cs) (sym (flattened-snoc known (components dir))) all) relative
    ∙ ap (λ cs. path_in (path_of_components cs) (unescaped word)) (flattened-snoc known (components dir))
    ∙ sym (ap (λ (p : List ℕ). path_in p (unescaped word)) dir-path)

pub relative-read : RelativeEntriesAreRead
relative-read before word keywords uid gid relative escapes name short lawful uid-is gid-is =
    let path = path_of before word in
    let owned = owned_file path (number_in_force (codes "uid") before keywords) (number_in_force (codes "gid") before keywords) in
    let parts-good : list_any is_bad_component (parts word) ≡ false = ap (list_any is_bad_component) (one-part word relative) ∙ or_from (is_bad_component (unescaped word)) false (name-good (unescaped word) name) refl in
    let good : is_bad_path before word ≡ false =
    or_from (has_bad_component word) (nat_lt most_line_bytes (length path)) (or_from (has_bad_escape word) (list_any is_bad_component (parts word)) escapes parts-good) (le-ltb most_line_bytes (length path) short) in
    ap (λ (bad : Bool). cond bad (Err BadPath) (cond (not (has_lawful_numbers keywords)) (Err BadNumber) owned)) good
    ∙ ap (λ (fine : Bool). cond (not fine) (Err BadNumber) owned) lawful
    ∙ ap (λ (u : Option ℕ). owned_file path u (number_in_force (codes "gid") before keywords)) uid-is
    ∙ ap (λ (g : Option ℕ). owned_file path (Some uid) g) gid-is
