-- What lines without a fault say stands in the inventory, and nothing else.
use Rattle.std.proofs.Common.{◌≡◌, ◌≢◌, ℕ, suc, ◌≤◌, Bool, true, false, cond, not, List, [], ◌∷◌, ◌++◌, length, All, Contains, nat_lt, ◌==◌, drop, refl, sym, ap, ◌∙◌, codes, arith, ◌⊎◌, inl, inr, subst, append-nil, append_assoc}
use Rattle.std.specs.Prelude.{Option, Some, None, Result, Ok, Err, is_none, option_map}
use Rattle.std.specs.Str.{bytes_eq}
use Rattle.std.proofs.lemmas.Bool.{and_parts, cond_both, ltb-false, eqb-true, true≢false}
use Rattle.std.proofs.lemmas.List.{map-append}
use Rattle.std.proofs.lemmas.List.Elements.{All-nil, All-cons, Contains-append_left, Contains-push, Contains-push_cases}
use Rattle.std.proofs.lemmas.Slice.Eq.{bytes_eq-Decides}
use Rattle.idtext.specs.First.{first_fault, unless}
use Rattle.idtext.specs.Pieces.{begins_with}
use Rattle.idtext.specs.Words.{words}
use Rattle.idtext.proofs.FirstLemmas.{none_of_both}
use Rattle.idtext.proofs.OkLemmas.{bind_ok, unless_ok}
use Rattle.idtext.specs.declared.faults.TextCode.{TextCode}
use Rattle.idtext.specs.declared.faults.TextCode.TheVariants.{BadPath, BadNumber, CutInventory, DotDotAbove, OwnersDiffer}
use Rattle.idtext.specs.declared.faults.TextFault.{TextFault}
use Rattle.mtree_inv.specs.declared.entry.Entry.{Entry}
use Rattle.mtree_inv.specs.Listed.{IsReadable, NoLineIsPassedOver, IsName, IsFileOf, EntriesAreListed, SaidFilesAreListed, HasEntry, FilesAreOfEntries}
use Rattle.mtree_inv.specs.Logical.{LogicalLine, logical_lines}
use Rattle.mtree_inv.specs.Kinds.{Kind, TooLong, Cut, Ignored, Begins, Counts, Sets, Unsets, Unknown, Up, Names, first_byte_is, kind_of, kind_of_text, kind_of_words, kind_of_command, kind_of_name}
use Rattle.mtree_inv.specs.Keywords.{has_lawful_numbers, number_in_force}
use Rattle.mtree_inv.specs.Open.{marks, open_names}
use Rattle.mtree_inv.specs.Whole.{is_cut}
use Rattle.mtree_inv.specs.Inventory.{kinds, named, first_appearances, files_of, fault_of, fault_said, file_said, file_at, said_alone, owned_file, named_file, is_bad_path, path_of, same_owner, clash_with, numbered_fault, inventory_of_lines, inventory, end_fault}
use Rattle.mtree_inv.proofs.CommentLemmas.{kind-by-words}
use Rattle.mtree_inv.proofs.FileLemmas.{after_said, files_of-snoc}

-- ---- lines without a fault

kinds_of_both : (before after : List LogicalLine) → kinds (before ++ after) ≡ kinds before ++ kinds after
kinds_of_both before after = map-append kind_of before after

no_code : (n : ℕ) (code : Option TextCode) → option_map (λ c. (let f : TextFault = record { code = c; line = n } in f)) code ≡ None → code ≡ None
no_code n None e = refl
no_code n (Some c) e = absurd (cc)

-- where lines have no first fault none of them has one
fine_at : (most : ℕ) (seen before after : List LogicalLine) (line : LogicalLine) → first_fault (numbered_fault most) seen (before ++ line ∷ after) ≡ None → fault_of most (kinds (seen ++ before)) (kind_of line) ≡ None
unfolding first_fault
fine_at most seen [] after line e =
    let both = none_of_both (numbered_fault most seen line) (first_fault (numbered_fault most) (seen ++ line ∷ []) after) e in
    ap (λ (ls : List LogicalLine). fault_of most (kinds ls) (kind_of line)) (append-nil seen) ∙ no_code line.number (fault_of most (kinds seen) (kind_of line)) both.0
fine_at most seen (b ∷ before) after line e =
    let both = none_of_both (numbered_fault most seen b) (first_fault (numbered_fault most) (seen ++ b ∷ []) (before ++ line ∷ after)) e in
    subst (λ (ls : List LogicalLine). fault_of most (kinds ls) (kind_of line) ≡ None) (append_assoc seen (b ∷ []) before) (fine_at most (seen ++ b ∷ []) before after line both.1)

-- an inventory is that of lines without a fault
of_lines : (most : ℕ) (text : List ℕ) (files : List Entry) → inventory most text ≡ Ok files → (first_fault (numbered_fault most) [] (logical_lines text) ≡ None) × (files_of (kinds (logical_lines text)) ≡ files)
unfolding inventory inventory_of_lines
of_lines most text files e =
    let read = bind_ok (inventory_of_lines most (logical_lines text)) (λ fs. unless (end_fault text) fs) files e in
    let told = unless_ok (first_fault (numbered_fault most) [] (logical_lines text)) (files_of (kinds (logical_lines text))) read.0 read.1 in
    (told.0, told.1 ∙ (unless_ok (end_fault text) read.0 files read.2).1)

-- ---- what kind a line is

no_kind : (most : ℕ) (fs : List Entry) (code : TextCode) → fault_said most fs (Err code) ≡ None → ⊥
no_kind most fs code e = absurd (cc)

-- a line without a fault is not too long and not cut
record IsWhole (line : LogicalLine) : Type 0 where
  short : length line.text ≤ 65535
  whole : line.is_cut ≡ false
  kind : kind_of line ≡ kind_of_text line.text

whole_line : (most : ℕ) (before : List Kind) (line : LogicalLine) → fault_of most before (kind_of line) ≡ None → IsWhole line
unfolding fault_of kind_of
whole_line most before line e = by (nat_lt 65535 (length line.text)) line.is_cut refl refl e
  where
    by : (long ends : Bool) → nat_lt 65535 (length line.text) ≡ long → line.is_cut ≡ ends
        → fault_said most (files_of before) (said_alone before (cond long TooLong (cond ends Cut (kind_of_text line.text)))) ≡ None → IsWhole line
    by true ends l c e = absurd (cc)
    by false true l c e = absurd (cc)
    by false false l c e = record {
      short = ltb-false 65535 (length line.text) l;
      whole = c;
      kind = ap (λ (b : Bool). cond b TooLong (cond line.is_cut Cut (kind_of_text line.text))) l ∙ ap (λ (b : Bool). cond b Cut (kind_of_text line.text)) c;
    }

-- a word that begins with a slash
command_is : (text : List ℕ) (more : List ℕ) (keywords : List (List ℕ)) → words text ≡ (47 ∷ more) ∷ keywords → kind_of_text text ≡ kind_of_command (47 ∷ more) keywords
command_is text more keywords e =
    kind-by-words text (kind_of_command (47 ∷ more) keywords) (ap kind_of_words e)
    (cond_both (bytes_eq (47 ∷ more) (codes "/set")) (Sets keywords) (cond (bytes_eq (47 ∷ more) (codes "/unset")) (Unsets keywords) Unknown) (λ (k : Kind). Ignored ≡ k → ⊥) (λ e same. cc)
    (λ e. cond_both (bytes_eq (47 ∷ more) (codes "/unset")) (Unsets keywords) Unknown (λ (k : Kind). Ignored ≡ k → ⊥) (λ e same. cc) (λ e same. cc)))

behind_first : (b : ℕ) (xs ys : List ℕ) → b ∷ xs ≡ b ∷ ys → xs ≡ ys
behind_first b xs ys e = cc

known_command : (most : ℕ) (before : List Kind) (more : List ℕ) (keywords : List (List ℕ)) → fault_said most (files_of before) (said_alone before (kind_of_command (47 ∷ more) keywords)) ≡ None → (more ≡ codes "set") ⊎ (more ≡ codes "unset")
known_command most before more keywords e = by (bytes_eq (47 ∷ more) (codes "/set")) (bytes_eq (47 ∷ more) (codes "/unset")) refl refl e
  where
    by : (set unset : Bool) → bytes_eq (47 ∷ more) (codes "/set") ≡ set → bytes_eq (47 ∷ more) (codes "/unset") ≡ unset
        → fault_said most (files_of before) (said_alone before (cond set (Sets keywords) (cond unset (Unsets keywords) Unknown))) ≡ None → (more ≡ codes "set") ⊎ (more ≡ codes "unset")
    by true unset s u e = inl (behind_first 47 more (codes "set") ((bytes_eq-Decides (47 ∷ more) (codes "/set")).0 s))
    by false true s u e = inr (behind_first 47 more (codes "unset") ((bytes_eq-Decides (47 ∷ more) (codes "/unset")).0 u))
    by false false s u e = absurd (cc)

readable : (most : ℕ) (before : List Kind) (line : LogicalLine) → fault_of most before (kind_of line) ≡ None → IsReadable line
unfolding fault_of
readable most before line e =
    let is = whole_line most before line e in
    record {
      short = is.short;
      whole = is.whole;
      command = λ more keywords has.
          known_command most before more keywords (subst (λ (k : Kind). fault_said most (files_of before) (said_alone before k) ≡ None) (is.kind ∙ command_is line.text more keywords has) e);
    }

all_readable : (most : ℕ) (seen lines : List LogicalLine) → first_fault (numbered_fault most) seen lines ≡ None → All IsReadable lines
unfolding first_fault
all_readable most seen [] e = All-nil IsReadable
all_readable most seen (line ∷ lines) e =
    let both = none_of_both (numbered_fault most seen line) (first_fault (numbered_fault most) (seen ++ line ∷ []) lines) e in
    All-cons IsReadable line lines (readable most (kinds seen) line (no_code line.number (fault_of most (kinds seen) (kind_of line)) both.0)) (all_readable most (seen ++ line ∷ []) lines both.1)

pub no_line_passed : NoLineIsPassedOver
no_line_passed most text files e = all_readable most [] (logical_lines text) (of_lines most text files e).0

-- ---- a file that came stays

at_found : (fs : List Entry) (path : List ℕ) (known : Entry) → file_at fs path ≡ Some known → Contains fs known × (bytes_eq path known.path ≡ true)
at_found [] path known e = absurd (cc)
at_found (f ∷ fs) path known e = by (bytes_eq path f.path) refl e (at_found fs path known)
  where
    later : Contains fs known → Contains (f ∷ fs) known
    later h = (suc h.0, omega (arith, h.1), h.2)

    here : f ≡ known → Contains (f ∷ fs) known
    here e = (0, omega arith, e)

    by : (b : Bool) → bytes_eq path f.path ≡ b → cond b (Some f) (file_at fs path) ≡ Some known → (file_at fs path ≡ Some known → Contains fs known × (bytes_eq path known.path ≡ true)) → Contains (f ∷ fs) known × (bytes_eq path known.path ≡ true)
    by true is e rest =
        let same : f ≡ known = cc in
        (here same, ap (λ (g : Entry). bytes_eq path g.path) (sym same) ∙ is)
    by false is e rest = let found = rest e in (later found.0, found.1)

same_entry : (a b : Entry) → bytes_eq b.path a.path ≡ true → same_owner a b ≡ true → a ≡ b
same_entry a b path owner =
    let both = and_parts (a.uid == b.uid) (a.gid == b.gid) owner in
    let p : a.path ≡ b.path = sym ((bytes_eq-Decides b.path a.path).0 path) in
    let u : a.uid ≡ b.uid = eqb-true a.uid b.uid both.0 in
    let g : a.gid ≡ b.gid = eqb-true a.gid b.gid both.1 in
    λ i. record { path = p i; uid = u i; gid = g i }

-- a file that goes with those before it is among them, once it has come
comes : (most : ℕ) (fs : List Entry) (file : Entry) → fault_said most fs (Ok (Some file)) ≡ None → Contains (after_said fs (Some file)) file
comes most fs file e = by (file_at fs file.path) refl e
  where
    owned : (known : Entry) (b : Bool) → same_owner known file ≡ b → cond b None (Some OwnersDiffer) ≡ None → same_owner known file ≡ true
    owned known true is e = is
    owned known false is e = absurd (cc)

    by : (o : Option Entry) → file_at fs file.path ≡ o → clash_with o (nat_lt (length fs) most) file ≡ None → Contains (cond (is_none o) (fs ++ file ∷ []) fs) file
    by None is e = Contains-push fs file
    by (Some known) is e =
        let found = at_found fs file.path known is in
        subst (Contains fs) (same_entry known file found.1 (owned known (same_owner known file) refl e)) found.0

stays : (fs : List Entry) (more : Option Entry) (file : Entry) → Contains fs file → Contains (after_said fs more) file
stays fs None file h = h
stays fs (Some new) file h = cond_both (is_none (file_at fs new.path)) (fs ++ new ∷ []) fs (λ (xs : List Entry). Contains xs file) (λ e. Contains-append_left fs (new ∷ []) file h) (λ e. h)

stays_after : (before after : List Kind) (file : Entry) → Contains (files_of before) file → Contains (files_of (before ++ after)) file
stays_after before [] file h = subst (λ (ks : List Kind). Contains (files_of ks) file) (sym (append-nil before)) h
stays_after before (k ∷ after) file h =
    subst (λ (ks : List Kind). Contains (files_of ks) file) (append_assoc before (k ∷ []) after)
    (stays_after (before ++ k ∷ []) after file (subst (λ (fs : List Entry). Contains fs file) (sym (files_of-snoc before k)) (stays (files_of before) (file_said (said_alone before k)) file h)))

said_comes : (most : ℕ) (before after : List Kind) (line : Kind) (file : Entry) → fault_of most before line ≡ None → said_alone before line ≡ Ok (Some file) → Contains (files_of (before ++ line ∷ after)) file
unfolding fault_of
said_comes most before after line file e said =
    let here : Contains (after_said (files_of before) (file_said (said_alone before line))) file =
    subst (λ (r : Result (Option Entry) TextCode). Contains (after_said (files_of before) (file_said r)) file) (sym said)
    (comes most (files_of before) file (subst (λ (r : Result (Option Entry) TextCode). fault_said most (files_of before) r ≡ None) said e)) in
    subst (λ (ks : List Kind). Contains (files_of ks) file) (append_assoc before (line ∷ []) after)
    (stays_after (before ++ line ∷ []) after file (subst (λ (fs : List Entry). Contains fs file) (sym (files_of-snoc before line)) here))

-- the line stands among those of the text
fine_in : (most : ℕ) (text : List ℕ) (files : List Entry) (before after : List LogicalLine) (line : LogicalLine) → inventory most text ≡ Ok files → logical_lines text ≡ before ++ line ∷ after → fault_of most (kinds before) (kind_of line) ≡ None
fine_in most text files before after line e stands =
    fine_at most [] before after line (ap (first_fault (numbered_fault most) []) (sym stands) ∙ (of_lines most text files e).0)

pub said_listed : SaidFilesAreListed
said_listed most text files before after line file e stands said =
    let comes_so = said_comes most (kinds before) (kinds after) (kind_of line) file (fine_in most text files before after line e stands) said in
    subst (λ (fs : List Entry). Contains fs file) (ap files_of (sym (ap kinds stands ∙ kinds_of_both before (line ∷ after))) ∙ (of_lines most text files e).1) comes_so

-- ---- an entry

owned_is : (path : List ℕ) (uid gid : Option ℕ) (file : Entry) → owned_file path uid gid ≡ Ok (Some file) → (file.path ≡ path) × (uid ≡ Some file.uid) × (gid ≡ Some file.gid)
owned_is path None gid file e = absurd (cc)
owned_is path (Some uid) None file e = absurd (cc)
owned_is path (Some uid) (Some gid) file e =
    let made : Entry = record { path = path; uid = uid; gid = gid } in
    let same : made ≡ file = cc in
    (ap (λ (f : Entry). f.path) (sym same), ap (λ (f : Entry). Some f.uid) same, ap (λ (f : Entry). Some f.gid) same)

named_is : (before : List LogicalLine) (word : List ℕ) (keywords : List (List ℕ)) (file : Entry) → named_file (kinds before) word keywords ≡ Ok (Some file) → IsFileOf before word keywords file
named_is before word keywords file e = by (is_bad_path ks word) (has_lawful_numbers keywords) e
  where
    ks : List Kind
    ks = kinds before

    uid : Option ℕ
    uid = number_in_force (codes "uid") ks keywords

    gid : Option ℕ
    gid = number_in_force (codes "gid") ks keywords

    by : (bad lawful : Bool) → cond bad (Err BadPath) (cond (not lawful) (Err BadNumber) (owned_file (path_of ks word) uid gid)) ≡ Ok (Some file) → IsFileOf before word keywords file
    by true lawful e = absurd (cc)
    by false false e = absurd (cc)
    by false true e = let is = owned_is (path_of ks word) uid gid file e in record { path = is.0; uid = is.1; gid = is.2 }

owned_said : (most : ℕ) (fs : List Entry) (path : List ℕ) (uid gid : Option ℕ) → fault_said most fs (owned_file path uid gid) ≡ None → (file : Entry) × (owned_file path uid gid ≡ Ok (Some file))
owned_said most fs path None gid e = absurd (cc)
owned_said most fs path (Some uid) None e = absurd (cc)
owned_said most fs path (Some uid) (Some gid) e = (record { path = path; uid = uid; gid = gid }, refl)

-- an entry without a fault says a file
named_said : (most : ℕ) (fs : List Entry) (ks : List Kind) (word : List ℕ) (keywords : List (List ℕ)) → fault_said most fs (named_file ks word keywords) ≡ None → (file : Entry) × (named_file ks word keywords ≡ Ok (Some file))
named_said most fs ks word keywords e = by (is_bad_path ks word) (has_lawful_numbers keywords) e
  where
    uid : Option ℕ
    uid = number_in_force (codes "uid") ks keywords

    gid : Option ℕ
    gid = number_in_force (codes "gid") ks keywords

    by : (bad lawful : Bool) → fault_said most fs (cond bad (Err BadPath) (cond (not lawful) (Err BadNumber) (owned_file (path_of ks word) uid gid))) ≡ None
        → (file : Entry) × (cond bad (Err BadPath) (cond (not lawful) (Err BadNumber) (owned_file (path_of ks word) uid gid)) ≡ Ok (Some file))
    by true lawful e = absurd (cc)
    by false false e = absurd (cc)
    by false true e = owned_said most fs (path_of ks word) uid gid e

first_byte_other : (b : ℕ) (word : List ℕ) → (0 == b) ≡ false → ((more : List ℕ) → word ≢ b ∷ more) → first_byte_is b word ≡ false
first_byte_other b [] z other = z
first_byte_other b (x ∷ word) z other = by (x == b) refl
  where
    by : (t : Bool) → (x == b) ≡ t → t ≡ false
    by true e = absurd (other word (ap (λ (y : ℕ). y ∷ word) (eqb-true x b e)))
    by false e = refl

name_is : (name : List ℕ) (keywords : List (List ℕ)) → IsName name → kind_of_words (name ∷ keywords) ≡ Names name keywords
name_is name keywords is =
    ap (λ (b : Bool). cond b Ignored (cond (first_byte_is 47 name) (kind_of_command name keywords) (kind_of_name name keywords))) (first_byte_other 35 name refl is.no_comment)
    ∙ ap (λ (b : Bool). cond b (kind_of_command name keywords) (kind_of_name name keywords)) (first_byte_other 47 name refl is.no_command)
    ∙ by (bytes_eq name (codes "..")) refl
  where
    by : (b : Bool) → bytes_eq name (codes "..") ≡ b → cond b Up (Names name keywords) ≡ Names name keywords
    by true e = absurd (is.not_up ((bytes_eq-Decides name (codes "..")).0 e))
    by false e = refl

pub entries_listed : EntriesAreListed
unfolding fault_of
entries_listed most text files before after line name keywords e stands has is =
    let fine = fine_in most text files before after line e stands in
    let kind : kind_of line ≡ Names name keywords = (whole_line most (kinds before) line fine).kind ∙ kind-by-words line.text (Names name keywords) (ap kind_of_words has ∙ name_is name keywords is) (λ same. cc) in
    let fine_name = subst (λ (k : Kind). fault_said most (files_of (kinds before)) (said_alone (kinds before) k) ≡ None) kind fine in
    let said = named_said most (files_of (kinds before)) (kinds before) name keywords fine_name in
    (said.0, named_is before name keywords said.0 said.1, said_listed most text files before after line said.0 e stands (ap (said_alone (kinds before)) kind ∙ said.1))

-- ---- a line that says a file is an entry

-- a line that says no file
abbrev SaysNone : Entry → Result (Option Entry) TextCode → Type 0
SaysNone file said = said ≡ Ok (Some file) → ⊥

pub record IsNamed (kind : Kind) (before : List Kind) (file : Entry) : Type 0 where
  word : List ℕ
  keywords : List (List ℕ)
  kind_is : kind ≡ Names word keywords
  file_is : named_file before word keywords ≡ Ok (Some file)

says_name : (before : List Kind) (kind : Kind) (file : Entry) → said_alone before kind ≡ Ok (Some file) → IsNamed kind before file
says_name before TooLong file e = absurd (cc)
says_name before Cut file e = absurd (cc)
says_name before Ignored file e = absurd (cc)
says_name before Begins file e = absurd (cond_both (is_cut before) (Err CutInventory) (Ok None) (SaysNone file) (λ b e. cc) (λ b e. cc) e)
says_name before (Counts text) file e = absurd (cc)
says_name before (Sets keywords) file e = absurd (cond_both (has_lawful_numbers keywords) (Ok None) (Err BadNumber) (SaysNone file) (λ b e. cc) (λ b e. cc) e)
says_name before (Unsets keywords) file e = absurd (cc)
says_name before Unknown file e = absurd (cc)
says_name before Up file e = absurd (cond_both (length (open_names (marks before)) == 0) (Err DotDotAbove) (Ok None) (SaysNone file) (λ b e. cc) (λ b e. cc) e)
says_name before (Names word keywords) file e = record { word = word; keywords = keywords; kind_is = refl; file_is = e }

other_first : (b : ℕ) (word : List ℕ) → first_byte_is b word ≡ false → (b == b) ≡ true → (more : List ℕ) → word ≢ b ∷ more
other_first b word e is more same = true≢false (sym is ∙ ap (first_byte_is b) (sym same) ∙ e)

command_names_none : (word : List ℕ) (rest : List (List ℕ)) (name : List ℕ) (keywords : List (List ℕ)) → kind_of_command word rest ≡ Names name keywords → ⊥
command_names_none word rest name keywords =
    cond_both (bytes_eq word (codes "/set")) (Sets rest) (cond (bytes_eq word (codes "/unset")) (Unsets rest) Unknown) (λ (k : Kind). k ≡ Names name keywords → ⊥) (λ b e. cc)
    (λ b. cond_both (bytes_eq word (codes "/unset")) (Unsets rest) Unknown (λ (k : Kind). k ≡ Names name keywords → ⊥) (λ b e. cc) (λ b e. cc))

words_named : (ws : List (List ℕ)) (name : List ℕ) (keywords : List (List ℕ)) → kind_of_words ws ≡ Names name keywords → (ws ≡ name ∷ keywords) × IsName name
words_named [] name keywords e = absurd (cc)
words_named (w ∷ ks) name keywords e = by (first_byte_is 35 w) (first_byte_is 47 w) (bytes_eq w (codes "..")) refl refl refl e
  where
    by : (comment command up : Bool) → first_byte_is 35 w ≡ comment → first_byte_is 47 w ≡ command → bytes_eq w (codes "..") ≡ up
        → cond comment Ignored (cond command (kind_of_command w ks) (cond up Up (Names w ks))) ≡ Names name keywords → ((w ∷ ks) ≡ name ∷ keywords) × IsName name
    by true command up a b c e = absurd (cc)
    by false true up a b c e = absurd (command_names_none w ks name keywords e)
    by false false true a b c e = absurd (cc)
    by false false false a b c e =
        let word : w ≡ name = cc in
        let rest : ks ≡ keywords = cc in (
          (λ i. word i ∷ rest i),
          subst IsName word (record {
            no_comment = other_first 35 w a refl;
            no_command = other_first 47 w b refl;
            not_up = λ same. true≢false (sym ((bytes_eq-Decides w (codes "..")).1 same) ∙ c);
          }),
        )

line_named : (line : LogicalLine) (name : List ℕ) (keywords : List (List ℕ)) → kind_of line ≡ Names name keywords → (words line.text ≡ name ∷ keywords) × IsName name
unfolding kind_of
line_named line name keywords e = by (nat_lt 65535 (length line.text)) line.is_cut (begins_with (codes "# unify inventory ") line.text) (begins_with (codes "# end ") line.text) e
  where
    counts : Kind
    counts = Counts (drop 6 line.text)

    by : (long ends begins count : Bool) → cond long TooLong (cond ends Cut (cond begins Begins (cond count counts (kind_of_words (words line.text))))) ≡ Names name keywords → (words line.text ≡ name ∷ keywords) × IsName name
    by true ends begins count e = absurd (cc)
    by false true begins count e = absurd (cc)
    by false false true count e = absurd (cc)
    by false false false true e = absurd (cc)
    by false false false false e = words_named (words line.text) name keywords e

-- ---- a file of lines is said by one of them

record IsSaid (seen rest : List LogicalLine) (file : Entry) : Type 0 where
  before : List LogicalLine
  line : LogicalLine
  after : List LogicalLine
  stands : rest ≡ before ++ line ∷ after
  said : said_alone (kinds (seen ++ before)) (kind_of line) ≡ Ok (Some file)

abbrev says : Entry → Result (Option Entry) TextCode
says file = Ok (Some file)

came : (fs : List Entry) (said : Result (Option Entry) TextCode) (file : Entry) → Contains (after_said fs (file_said said)) file → Contains fs file ⊎ (said ≡ Ok (Some file))
came fs (Err code) file h = inl h
came fs (Ok None) file h = inl h
came fs (Ok (Some new)) file h = by (is_none (file_at fs new.path)) h
  where
    pushed : Contains fs file ⊎ (new ≡ file) → Contains fs file ⊎ (says new ≡ says file)
    pushed (inl before) = inl before
    pushed (inr same) = inr (ap says same)

    by : (b : Bool) → Contains (cond b (fs ++ new ∷ []) fs) file → Contains fs file ⊎ (says new ≡ says file)
    by true h = pushed (Contains-push_cases fs new file h)
    by false h = inl h

is_said : (seen rest : List LogicalLine) (file : Entry) → Contains (files_of (kinds (seen ++ rest))) file → Contains (files_of (kinds seen)) file ⊎ IsSaid seen rest file
is_said seen [] file h = inl (subst (λ (ls : List LogicalLine). Contains (files_of (kinds ls)) file) (append-nil seen) h)
is_said seen (line ∷ rest) file h =
    by (is_said (seen ++ line ∷ []) rest file (subst (λ (ls : List LogicalLine). Contains (files_of (kinds ls)) file) (sym (append_assoc seen (line ∷ []) rest)) h))
  where
    here : Contains (files_of (kinds seen)) file ⊎ (said_alone (kinds seen) (kind_of line) ≡ Ok (Some file)) → Contains (files_of (kinds seen)) file ⊎ IsSaid seen (line ∷ rest) file
    here (inl before) = inl before
    here (inr said) = inr (record {
      before = [];
      line = line;
      after = rest;
      stands = refl;
      said = ap (λ (ls : List LogicalLine). said_alone (kinds ls) (kind_of line)) (append-nil seen) ∙ said;
    })

    by : Contains (files_of (kinds (seen ++ line ∷ []))) file ⊎ IsSaid (seen ++ line ∷ []) rest file → Contains (files_of (kinds seen)) file ⊎ IsSaid seen (line ∷ rest) file
    by (inl before) =
        here (came (files_of (kinds seen)) (said_alone (kinds seen) (kind_of line)) file
        (subst (λ (fs : List Entry). Contains fs file) (ap files_of (kinds_of_both seen (line ∷ [])) ∙ files_of-snoc (kinds seen) (kind_of line)) before))
    by (inr later) = inr (record {
      before = line ∷ later.before;
      line = later.line;
      after = later.after;
      stands = ap (λ (ls : List LogicalLine). line ∷ ls) later.stands;
      said = ap (λ (ls : List LogicalLine). said_alone (kinds ls) (kind_of later.line)) (sym (append_assoc seen (line ∷ []) later.before)) ∙ later.said;
    })

has_entry : (text : List ℕ) (file : Entry) → IsSaid [] (logical_lines text) file → HasEntry text file
has_entry text file is =
    let named = says_name (kinds is.before) (kind_of is.line) file is.said in
    let words_are = line_named is.line named.word named.keywords named.kind_is in
    record {
      before = is.before;
      line = is.line;
      after = is.after;
      name = named.word;
      keywords = named.keywords;
      stands = is.stands;
      has_words = words_are.0;
      is_name = words_are.1;
      is_file = named_is is.before named.word named.keywords file named.file_is;
    }

none_at_first : (file : Entry) → Contains (files_of (kinds [])) file → ⊥
unfolding files_of named first_appearances
none_at_first file h = omega (arith, h.1)

pub files_of_entries : FilesAreOfEntries
files_of_entries most text files file e has =
    by (is_said [] (logical_lines text) file (subst (λ (fs : List Entry). Contains fs file) (sym (of_lines most text files e).1) has))
  where
    by : Contains (files_of (kinds [])) file ⊎ IsSaid [] (logical_lines text) file → HasEntry text file
    by (inl before) = absurd (none_at_first file before)
    by (inr is) = has_entry text file is
