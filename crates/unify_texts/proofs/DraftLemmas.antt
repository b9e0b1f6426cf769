-- The reader's draft against looking back over the lines.
use Rattle.std.proofs.Common.{◌≡◌, ℕ, ◌+◌, min, Bool, true, false, not, ◌||◌, ◌&&◌, List, [], ◌∷◌, ◌++◌, map, reverse, length, Option, Some, None, is_some, Result, Ok, Err, refl, sym, ap, ◌∙◌, append_assoc, append-nil, arith, length-append}
use Rattle.std.specs.Prelude.{option_to_list, if◌then◌else◌}
use Rattle.std.specs.List.{list_any}
use Rattle.std.proofs.lemmas.List.{reverse-append}
use Rattle.std.proofs.lemmas.List.Folds.{list_any-append}
use Rattle.idtext.specs.First.{first_fault}
use Rattle.idtext.specs.Faults.{line_number}
use Rattle.unify_texts.specs.declared.bundle_line.Command.{Command}
use Rattle.unify_texts.specs.declared.bundle_line.FileName.{FileName}
use Rattle.unify_texts.specs.declared.bundle_line.BundleLine.{BundleLine}
use Rattle.unify_texts.specs.declared.bundle_line.BundleLine.TheVariants.{Run, File, Host, Content, Wrong}
use Rattle.unify_texts.specs.declared.places.NamedFile.{NamedFile}
use Rattle.unify_texts.specs.declared.bundle.Draft.{Draft}
use Rattle.unify_texts.specs.declared.bundle.Bundle.{Bundle}
use Rattle.unify_texts.specs.declared.fault.Fault.{Fault}
use Rattle.unify_texts.specs.declared.fault.Fault.TheVariants.{BadBundle}
use Rattle.unify_texts.specs.BundleLines.{bundle_line_of, same_file}
use Rattle.unify_texts.specs.Bundles.{is_among, head_files, host_files, is_host_line, is_rehearsal, begun_here, is_in_file, listed_here, may_follow, bundle_fault, text_behind, files_behind, hosts_behind, commanded}
use Rattle.unify_texts.specs.Drafts.{has_file, closed, bundle_so_far, takes, with_content, with_line, start_of}

-- the draft after more lines, where it takes each of them; so many lines stand before them
unfoldable pub taken_from : ℕ → Draft → List BundleLine → Result Draft Fault
taken_from before d [] = Ok d
taken_from before d (line ∷ lines) =
    if takes d line then taken_from (before + 1) (with_line d line) lines
    else Err (BadBundle (line_number before))

-- ---- which lines the draft takes

-- the draft tells of the lines so far, the nearest first, what looking back over them tells
record Tracks (command : Command) (d : Draft) (back : List BundleLine) : Type 0 where
  command_is : d.command ≡ command
  head : d.in_head ≡ not (list_any is_host_line back)
  had : (file : FileName) → has_file (closed d).files file ≡ is_among file (begun_here back)
  in_file : is_some d.opened ≡ is_in_file back

if_not : (b : Bool) (xs ys : List FileName) → (if not b then xs else ys) ≡ (if b then ys else xs)
if_not true xs ys = refl
if_not false xs ys = refl

takes_is : (command : Command) (d : Draft) (back : List BundleLine) (line : BundleLine) → Tracks command d back → takes d line ≡ may_follow command back line
takes_is command d back (Run other) t = refl
takes_is command d back (File file) t =
    let lists : (if d.in_head then head_files d.command else host_files) ≡ listed_here command back =
    rw (t.head, t.command_is) (if_not (list_any is_host_line back) (head_files command) host_files) in
    ap (λ fs. is_among file fs && not (has_file (closed d).files file)) lists
    ∙ ap (λ b. is_among file (listed_here command back) && not b) (t.had file)
takes_is command d back (Host name) t = ap (λ c. not (is_rehearsal c)) t.command_is
takes_is command d back (Content bytes) t = t.in_file
takes_is command d back Wrong t = refl

or_last : (a b : Bool) → (a || (b || false)) ≡ (b || a)
or_last true true = refl
or_last true false = refl
or_last false true = refl
or_last false false = refl

had_content : (files : List NamedFile) (opened : Option NamedFile) (bytes : List ℕ) (file : FileName) → has_file (files ++ option_to_list (with_content opened bytes)) file ≡ has_file (files ++ option_to_list opened) file
had_content files None bytes file = refl
had_content files (Some named) bytes file =
    list_any-append (λ n. same_file file n.file) files (record { file = named.file; text = named.text ++ (bytes ++ 10 ∷ []) } ∷ [])
    ∙ sym (list_any-append (λ n. same_file file n.file) files (named ∷ []))

still_opened : (opened : Option NamedFile) (bytes : List ℕ) → is_some opened ≡ true → is_some (with_content opened bytes) ≡ true
still_opened None bytes h = h
still_opened (Some named) bytes h = refl

tracks_line : (command : Command) (d : Draft) (back : List BundleLine) (line : BundleLine) → Tracks command d back → takes d line ≡ true → Tracks command (with_line d line) (line ∷ back)
tracks_line command d back (Run other) t h = absurd cc
tracks_line command d back (File file) t h = record {
  command_is = t.command_is;
  head = t.head;
  had = λ other.
      list_any-append (λ n. same_file other n.file) (closed d).files (record { file = file; text = [] } ∷ [])
      ∙ or_last (has_file (closed d).files other) (same_file other file)
      ∙ ap (λ b. same_file other file || b) (t.had other);
  in_file = refl;
}
tracks_line command d back (Host name) t h = record { command_is = t.command_is; head = refl; had = λ other. refl; in_file = refl }
tracks_line command d back (Content bytes) t h = record {
  command_is = t.command_is;
  head = t.head;
  had = λ other. had_content d.place.files d.opened bytes other ∙ t.had other;
  in_file = still_opened d.opened bytes h;
}
tracks_line command d back Wrong t h = absurd cc

abbrev fault_in : Result Draft Fault → Option Fault
fault_in (Ok d) = None
fault_in (Err e) = Some e

taken_fault : (command : Command) (lines : List BundleLine) (before : List BundleLine) (d : Draft) (n : ℕ) → Tracks command d (reverse before) → n ≡ length before + 1 → fault_in (taken_from n d lines) ≡ first_fault (bundle_fault command) before lines
unfolding taken_from first_fault
taken_fault command [] before d n t counts = refl
taken_fault command (line ∷ lines) before d n t counts = by (takes d line) refl (λ next more. taken_fault command lines (before ++ line ∷ []) (with_line d line) (n + 1) next more)
  where
    by : (b : Bool) → takes d line ≡ b → (Tracks command (with_line d line) (reverse (before ++ line ∷ [])) → n + 1 ≡ length (before ++ line ∷ []) + 1 → fault_in (taken_from (n + 1) (with_line d line) lines) ≡ first_fault (bundle_fault command) (before ++ line ∷ []) lines) → fault_in (taken_from n d (line ∷ lines)) ≡ first_fault (bundle_fault command) before (line ∷ lines)
    by true e again =
        let follows : may_follow command (reverse before) line ≡ true = sym (takes_is command d (reverse before) line t) ∙ e in
        let next : Tracks command (with_line d line) (reverse (before ++ line ∷ [])) = rw reverse-append (tracks_line command d (reverse before) line t e) in
        rw (e, follows) (again next (rw length-append (omega arith)))
    by false e again =
        let follows : may_follow command (reverse before) line ≡ false = sym (takes_is command d (reverse before) line t) ∙ e in
        rw (e, follows, counts) refl

-- ---- what the draft says in the end

abbrev opened_with : Option NamedFile → List ℕ → List NamedFile
opened_with None text = []
opened_with (Some named) text = record { file = named.file; text = named.text ++ text } ∷ []

-- what the draft says if these lines follow
abbrev extended : Draft → List BundleLine → Bundle
extended d lines = record {
  command = d.command;
  places = d.done ++ record { name = d.place.name; files = d.place.files ++ (opened_with d.opened (text_behind lines) ++ files_behind lines) } ∷ hosts_behind lines;
}

opened_alone : (opened : Option NamedFile) → opened_with opened [] ≡ option_to_list opened
opened_alone None = refl
opened_alone (Some named) = ap (λ text. record { file = named.file; text = text } ∷ []) (append-nil named.text)

opened_more : (opened : Option NamedFile) (bytes text : List ℕ) → opened_with (with_content opened bytes) text ≡ opened_with opened (bytes ++ 10 ∷ text)
opened_more None bytes text = refl
opened_more (Some named) bytes text = ap (λ ts. record { file = named.file; text = ts } ∷ []) (append_assoc named.text (bytes ++ 10 ∷ []) text ∙ ap (λ ts. named.text ++ ts) (append_assoc bytes (10 ∷ []) text))

extended_line : (d : Draft) (line : BundleLine) (lines : List BundleLine) → takes d line ≡ true → extended (with_line d line) lines ≡ extended d (line ∷ lines)
extended_line d (Run command) lines h = absurd cc
extended_line d (File file) lines h =
    ap (λ fs. record { command = d.command; places = d.done ++ record { name = d.place.name; files = fs } ∷ hosts_behind lines })
    (append_assoc d.place.files (option_to_list d.opened) (opened_with (Some (record { file = file; text = [] })) (text_behind lines) ++ files_behind lines)
    ∙ ap (λ fs. d.place.files ++ (fs ++ record { file = file; text = text_behind lines } ∷ files_behind lines)) (sym (opened_alone d.opened)))
extended_line d (Host name) lines h =
    ap (λ ps. record { command = d.command; places = ps })
    (append_assoc d.done (closed d ∷ []) (record { name = name; files = files_behind lines } ∷ hosts_behind lines)
    ∙ ap (λ fs. d.done ++ record { name = d.place.name; files = d.place.files ++ fs } ∷ record { name = name; files = files_behind lines } ∷ hosts_behind lines) (sym (append-nil (opened_with d.opened []) ∙ opened_alone d.opened)))
extended_line d (Content bytes) lines h =
    ap (λ fs. record { command = d.command; places = d.done ++ record { name = d.place.name; files = d.place.files ++ (fs ++ files_behind lines) } ∷ hosts_behind lines }) (opened_more d.opened bytes (text_behind lines))
extended_line d Wrong lines h = absurd cc

extended_end : (d : Draft) → bundle_so_far d ≡ extended d []
extended_end d = ap (λ fs. record { command = d.command; places = d.done ++ record { name = d.place.name; files = d.place.files ++ fs } ∷ [] }) (sym (append-nil (opened_with d.opened []) ∙ opened_alone d.opened))

taken_value : (lines : List BundleLine) (n : ℕ) (d after : Draft) → taken_from n d lines ≡ Ok after → bundle_so_far after ≡ extended d lines
unfolding taken_from
taken_value [] n d after h =
    let same : d ≡ after = cc in
    ap bundle_so_far (sym same) ∙ extended_end d
taken_value (line ∷ lines) n d after h = by (takes d line) refl (λ more. taken_value lines (n + 1) (with_line d line) after more)
  where
    by : (b : Bool) → takes d line ≡ b → (taken_from (n + 1) (with_line d line) lines ≡ Ok after → bundle_so_far after ≡ extended (with_line d line) lines) → bundle_so_far after ≡ extended d (line ∷ lines)
    by true e again = again (rw e at h) ∙ extended_line d line lines e
    by false e again = let no : Err (BadBundle (line_number n)) ≡ Ok after = rw e at h in absurd cc

-- ---- the two together

starts : (command : Command) → Tracks command (start_of command) (reverse [])
starts command = record { command_is = refl; head = refl; had = λ other. refl; in_file = refl }

abbrev pub said : Result Draft Fault → Result Bundle Fault
said (Ok d) = Ok (bundle_so_far d)
said (Err e) = Err e

pub commanded_is : (command : Command) (lines : List BundleLine) (r : Result Draft Fault) → taken_from 1 (start_of command) lines ≡ r → commanded command lines ≡ said r
commanded_is command lines (Ok d) h =
    let none : first_fault (bundle_fault command) [] lines ≡ None = sym (taken_fault command lines [] (start_of command) 1 (starts command) refl) ∙ ap fault_in h in
    rw none (ap (λ b. Ok b) (sym (taken_value lines 1 (start_of command) d h)))
commanded_is command lines (Err e) h =
    let some : first_fault (bundle_fault command) [] lines ≡ Some e = sym (taken_fault command lines [] (start_of command) 1 (starts command) refl) ∙ ap fault_in h in
    rw some refl

-- ---- the reader's loop

module _ (n : ℕ) (d : Draft) (left : List (List ℕ)) (total : Result Draft Fault) (so_far : taken_from n d (map bundle_line_of left) ≡ total) where
  pub line_taken : (m : ℕ) (line : List ℕ) (rest : List (List ℕ)) → left ≡ line ∷ rest → takes d (bundle_line_of line) ≡ true → m ≡ n + 1 → taken_from m (with_line d (bundle_line_of line)) (map bundle_line_of rest) ≡ total
  unfolding taken_from
  line_taken m line rest is good counts =
      let one : taken_from n d (bundle_line_of line ∷ map bundle_line_of rest) ≡ taken_from (n + 1) (with_line d (bundle_line_of line)) (map bundle_line_of rest) = rw good refl in
      rw counts (sym one ∙ ap (λ ls. taken_from n d (map bundle_line_of ls)) (sym is) ∙ so_far)

  pub line_refused : (line : List ℕ) (rest : List (List ℕ)) → left ≡ line ∷ rest → takes d (bundle_line_of line) ≡ false → total ≡ Err (BadBundle (line_number n))
  unfolding taken_from
  line_refused line rest is bad =
      let one : taken_from n d (bundle_line_of line ∷ map bundle_line_of rest) ≡ Err (BadBundle (line_number n)) = rw bad refl in
      sym (sym one ∙ ap (λ ls. taken_from n d (map bundle_line_of ls)) (sym is) ∙ so_far)

  pub lines_over : left ≡ [] → total ≡ Ok d
  unfolding taken_from
  lines_over is = sym (ap (λ ls. taken_from n d (map bundle_line_of ls)) (sym is) ∙ so_far)

pub line_counts : {X : Type 0} (k n : ℕ) (xs : List X) → k ≡ min (length xs + 1) 18446744073709551615 → n ≡ min (k + 1) 18446744073709551615 → n ≡ line_number (length xs + 1)
line_counts k n xs p q = omega arith

-- the draft's end is that of the whole
pub read_to_end : (command : Command) (lines : List (List ℕ)) (d : Draft) → taken_from 1 (start_of command) (map bundle_line_of lines) ≡ Ok d → commanded command (map bundle_line_of lines) ≡ Ok (bundle_so_far d)
read_to_end command lines d h = commanded_is command (map bundle_line_of lines) (Ok d) h

pub read_to_fault : (command : Command) (lines : List (List ℕ)) (e : Fault) → taken_from 1 (start_of command) (map bundle_line_of lines) ≡ Err e → commanded command (map bundle_line_of lines) ≡ Err e
read_to_fault command lines e h = commanded_is command (map bundle_line_of lines) (Err e) h
