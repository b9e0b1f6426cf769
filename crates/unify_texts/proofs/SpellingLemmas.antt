-- The spelling of bundles against what is read from their lines.
use Rattle.std.proofs.Common.{◌≡◌, ℕ, ◌+◌, Bool, true, false, not, ◌||◌, ◌&&◌, List, [], ◌∷◌, ◌++◌, map, reverse, length, take, drop, Option, Some, None, Ok, Err, refl, sym, ap, ◌∙◌, subst, suc, append_assoc, length-append, add-one, arith, eqb}
use Rattle.std.specs.Prelude.{if◌then◌else◌, codes, bytes_eq}
use Rattle.std.specs.List.{list_any, list_all, flat_map, IsDistinct, AllByRecursion}
use Rattle.std.proofs.lemmas.List.{reverse-append, take-append-drop}
use Rattle.std.proofs.lemmas.Slice.Eq.{bytes_eq-Decides}
use Rattle.idtext.specs.First.{first_fault, unless}
use Rattle.idtext.specs.Faults.{line_number}
use Rattle.idtext.specs.Pieces.{begins_with}
use Rattle.unify_texts.specs.declared.bundle_line.Command.{Command}
use Rattle.unify_texts.specs.declared.bundle_line.Command.TheVariants.{Count, Merge, MergeHosts, Check, Rehearse}
use Rattle.unify_texts.specs.declared.bundle_line.FileName.{FileName}
use Rattle.unify_texts.specs.declared.bundle_line.FileName.TheVariants as file
use Rattle.unify_texts.specs.declared.bundle_line.BundleLine.{BundleLine}
use Rattle.unify_texts.specs.declared.bundle_line.BundleLine.TheVariants.{Run, File, Host, Content, Wrong}
use Rattle.unify_texts.specs.declared.places.NamedFile.{NamedFile}
use Rattle.unify_texts.specs.declared.places.Place.{Place}
use Rattle.unify_texts.specs.declared.bundle.Bundle.{Bundle}
use Rattle.unify_texts.specs.declared.fault.Fault.{Fault}
use Rattle.unify_texts.specs.declared.fault.Fault.TheVariants.{BadBundle}
use Rattle.unify_texts.specs.BundleLines.{bundle_line_of, file_named, file_word, command_word, file_index, same_file}
use Rattle.unify_texts.specs.Bundles.{is_among, head_files, host_files, is_host_line, is_rehearsal, begun_here, is_in_file, listed_here, may_follow, bundle_fault, text_behind, files_behind, hosts_behind, bundle_with, bundle_saying, bundle_of}
use Rattle.unify_texts.specs.BundleSpelling.{InTurn, SpellsFile, SpellsHost, SpellsBundle, IsFirstBad, ReadsWhatIsSpelled, SpelledIsRead, FirstBadIsTold}

abbrev bar : List ℕ → List ℕ
bar content = 124 ∷ content

abbrev ended : List ℕ → List ℕ
ended content = content ++ 10 ∷ []

abbrev names : List NamedFile → List FileName
names files = map (λ named. named.file) files

abbrev says : List (List ℕ) → List BundleLine
says lines = map bundle_line_of lines

-- ---- the text of a line, from what it says

abbrev IsSaid : List ℕ → BundleLine → Type 0
IsSaid line (Content bytes) = line ≡ 124 ∷ bytes
IsSaid line (File file) = line ≡ codes "file " ++ file_word file
IsSaid line (Host name) = line ≡ codes "host " ++ name
IsSaid line (Run command) = line ≡ codes "run " ++ command_word command
IsSaid line Wrong = Unit {0}

choose : (line : List ℕ) (b : Bool) (x y : BundleLine) → (b ≡ true → IsSaid line x) → (b ≡ false → IsSaid line y) → IsSaid line (if b then x else y)
choose line true x y f g = f refl
choose line false x y f g = g refl

bytes_are : (a b : List ℕ) → bytes_eq a b ≡ true → a ≡ b
bytes_are a b h = (bytes_eq-Decides a b).0 h

front_is : (front text : List ℕ) → begins_with front text ≡ true → text ≡ front ++ drop (length front) text
front_is front text h = sym (take-append-drop (length front) text) ∙ ap (λ t. t ++ drop (length front) text) (bytes_are (take (length front) text) front h)

file_said : (line name : List ℕ) → line ≡ codes "file " ++ name → IsSaid line (file_named name)
file_said line name is =
    let word : (w : List ℕ) → bytes_eq name w ≡ true → line ≡ codes "file " ++ w = λ w h. is ∙ ap (λ n. codes "file " ++ n) (bytes_are name w h) in
    choose line (bytes_eq name (codes "map")) _ _ (λ h. word (codes "map") h)
    (λ _. choose line (bytes_eq name (codes "certificate")) _ _ (λ h. word (codes "certificate") h)
    (λ _. choose line (bytes_eq name (codes "plan")) _ _ (λ h. word (codes "plan") h)
    (λ _. choose line (bytes_eq name (codes "pins")) _ _ (λ h. word (codes "pins") h)
    (λ _. choose line (bytes_eq name (codes "keep")) _ _ (λ h. word (codes "keep") h)
    (λ _. choose line (bytes_eq name (codes "mtree")) _ _ (λ h. word (codes "mtree") h)
    (λ _. choose line (bytes_eq name (codes "passwd")) _ _ (λ h. word (codes "passwd") h)
    (λ _. choose line (bytes_eq name (codes "group")) _ _ (λ h. word (codes "group") h)
    (λ _. choose line (bytes_eq name (codes "login.defs")) (File file.LoginDefs) Wrong (λ h. word (codes "login.defs") h) (λ _. tt)))))))))

line_said : (line : List ℕ) → IsSaid line (bundle_line_of line)
unfolding bundle_line_of
line_said line =
    choose line (begins_with (codes "|") line) _ _ (λ h. front_is (codes "|") line h)
    (λ _. choose line (begins_with (codes "file ") line) _ _ (λ h. file_said line (drop 5 line) (front_is (codes "file ") line h))
    (λ _. choose line (begins_with (codes "host ") line) _ _ (λ h. front_is (codes "host ") line h)
    (λ _. choose line (bytes_eq line (codes "run count")) _ _ (λ h. bytes_are line (codes "run count") h)
    (λ _. choose line (bytes_eq line (codes "run merge")) _ _ (λ h. bytes_are line (codes "run merge") h)
    (λ _. choose line (bytes_eq line (codes "run merge hosts")) _ _ (λ h. bytes_are line (codes "run merge hosts") h)
    (λ _. choose line (bytes_eq line (codes "run check")) _ _ (λ h. bytes_are line (codes "run check") h)
    (λ _. choose line (bytes_eq line (codes "run rehearse")) (Run Rehearse) Wrong (λ h. bytes_are line (codes "run rehearse") h) (λ _. tt))))))))

-- ---- and what it says, from its text

content_read : (bytes : List ℕ) → bundle_line_of (124 ∷ bytes) ≡ Content bytes
unfolding bundle_line_of
content_read bytes = refl

host_read : (name : List ℕ) → bundle_line_of (codes "host " ++ name) ≡ Host name
unfolding bundle_line_of
host_read name = refl

file_read : (file : FileName) → bundle_line_of (codes "file " ++ file_word file) ≡ File file
unfolding bundle_line_of
file_read file.Map = refl
file_read file.Certificate = refl
file_read file.Plan = refl
file_read file.Pins = refl
file_read file.Keep = refl
file_read file.Mtree = refl
file_read file.Passwd = refl
file_read file.Group = refl
file_read file.LoginDefs = refl

run_read : (command : Command) → bundle_line_of (codes "run " ++ command_word command) ≡ Run command
unfolding bundle_line_of
run_read Count = refl
run_read Merge = refl
run_read MergeHosts = refl
run_read Check = refl
run_read Rehearse = refl

-- ---- tests

first_true : (a b : Bool) → (a && b) ≡ true → a ≡ true
first_true true b h = refl
first_true false b h = h

second_true : (a b : Bool) → (a && b) ≡ true → b ≡ true
second_true true b h = h
second_true false b h = absurd cc

both_true : (a b : Bool) → a ≡ true → b ≡ true → (a && b) ≡ true
both_true a b p q = rw p q

first_false : (a b : Bool) → (a || b) ≡ false → a ≡ false
first_false true b h = h
first_false false b h = refl

second_false : (a b : Bool) → (a || b) ≡ false → b ≡ false
second_false true b h = absurd cc
second_false false b h = h

both_false : (a b : Bool) → a ≡ false → b ≡ false → (a || b) ≡ false
both_false a b p q = rw p q

is_false : (a : Bool) → not a ≡ true → a ≡ false
is_false true h = absurd cc
is_false false h = refl

same_back : (n m : ℕ) → eqb n m ≡ false → eqb m n ≡ false
same_back n m h = grind arith

each_one : {X : Type 0} (P Q : X → Type 0) → ((x : X) → P x → Q x) → (xs : List X) → AllByRecursion P xs → AllByRecursion Q xs
each_one P Q f [] h = tt
each_one P Q f (x ∷ xs) h = (f x h.0, each_one P Q f xs h.1)

each_both : {X : Type 0} (P Q R : X → Type 0) → ((x : X) → P x → Q x → R x) → (xs : List X) → AllByRecursion P xs → AllByRecursion Q xs → AllByRecursion R xs
each_both P Q R f [] g h = tt
each_both P Q R f (x ∷ xs) g h = (f x g.0 h.0, each_both P Q R f xs g.1 h.1)

-- ---- what is read is spelled so

-- lines that stand after others, with what they say and how they are spelled
record Spelled (command : Command) (back : List BundleLine) (lines : List (List ℕ)) (said : List BundleLine) : Type 0 where
  contents : List (List ℕ)
  file_lines : List (List ℕ)
  host_lines : List (List ℕ)
  whole : lines ≡ map bar contents ++ (file_lines ++ host_lines)
  none : is_in_file back ≡ false → contents ≡ []
  text : text_behind said ≡ flat_map ended contents
  files : InTurn SpellsFile (files_behind said) file_lines
  allowed : list_all (λ named. is_among named.file (listed_here command back)) (files_behind said) ≡ true
  once : IsDistinct same_file (names (files_behind said))
  fresh : AllByRecursion (λ f. is_among f (begun_here back) ≡ false) (names (files_behind said))
  hosts : InTurn SpellsHost (hosts_behind said) host_lines
  no_hosts : is_rehearsal command ≡ true → hosts_behind said ≡ []

spelled_none : (command : Command) (back : List BundleLine) → Spelled command back [] []
unfolding IsDistinct
spelled_none command back = record {
  contents = [];
  file_lines = [];
  host_lines = [];
  whole = refl;
  none = λ _. refl;
  text = refl;
  files = refl;
  allowed = refl;
  once = tt;
  fresh = tt;
  hosts = refl;
  no_hosts = λ _. refl;
}

spelled_line : (command : Command) (back : List BundleLine) (line : List ℕ) (lines : List (List ℕ)) (v : BundleLine) (said : List BundleLine) → IsSaid line v → may_follow command back v ≡ true → Spelled command (v ∷ back) lines said → Spelled command back (line ∷ lines) (v ∷ said)
unfolding IsDistinct
spelled_line command back line lines (Run other) said is good r = absurd cc
spelled_line command back line lines Wrong said is good r = absurd cc
spelled_line command back line lines (Content bytes) said is good r = record {
  contents = bytes ∷ r.contents;
  file_lines = r.file_lines;
  host_lines = r.host_lines;
  whole = ap (λ l. l ∷ lines) is ∙ ap (λ ls. (124 ∷ bytes) ∷ ls) r.whole;
  none = λ no. absurd cc;
  text = ap (λ t. bytes ++ 10 ∷ t) r.text ∙ sym (append_assoc bytes (10 ∷ []) (flat_map ended r.contents));
  files = r.files;
  allowed = r.allowed;
  once = r.once;
  fresh = r.fresh;
  hosts = r.hosts;
  no_hosts = r.no_hosts;
}
spelled_line command back line lines (File file) said is good r =
    let mine : SpellsFile (record { file = file; text = text_behind said }) (line ∷ map bar r.contents) = record { contents = r.contents; text = r.text; spelled = ap (λ l. l ∷ map bar r.contents) is } in
    let among = λ (f : FileName). is_among f (file ∷ begun_here back) in
    record {
      contents = [];
      file_lines = (line ∷ map bar r.contents) ++ r.file_lines;
      host_lines = r.host_lines;
      whole = ap (λ ls. line ∷ ls) (r.whole ∙ sym (append_assoc (map bar r.contents) r.file_lines r.host_lines));
      none = λ _. refl;
      text = refl;
      files = (line ∷ map bar r.contents, r.file_lines, refl, mine, r.files);
      allowed = both_true _ _ (first_true _ (not (is_among file (begun_here back))) good) r.allowed;
      once = (each_one (λ f. among f ≡ false) (λ f. same_file file f ≡ false) (λ f h. same_back (file_index f) (file_index file) (first_false (same_file f file) (is_among f (begun_here back)) h)) (names (files_behind said)) r.fresh, r.once);
      fresh = (is_false _ (second_true (is_among file (listed_here command back)) _ good), each_one (λ f. among f ≡ false) (λ f. is_among f (begun_here back) ≡ false) (λ f h. second_false (same_file f file) (is_among f (begun_here back)) h) (names (files_behind said)) r.fresh);
      hosts = r.hosts;
      no_hosts = r.no_hosts;
    }
spelled_line command back line lines (Host name) said is good r =
    let empty : r.contents ≡ [] = r.none refl in
    let lines_are : lines ≡ r.file_lines ++ r.host_lines = r.whole ∙ ap (λ cs. map bar cs ++ (r.file_lines ++ r.host_lines)) empty in
    let mine : SpellsHost (record { name = name; files = files_behind said }) (line ∷ r.file_lines) = record {
      rest = r.file_lines;
      spelled = ap (λ l. l ∷ r.file_lines) is;
      files = record { spelled = r.files; allowed = r.allowed; once = r.once };
    } in
    record {
      contents = [];
      file_lines = [];
      host_lines = (line ∷ r.file_lines) ++ r.host_lines;
      whole = ap (λ ls. line ∷ ls) lines_are;
      none = λ _. refl;
      text = refl;
      files = refl;
      allowed = refl;
      once = tt;
      fresh = tt;
      hosts = (line ∷ r.file_lines, r.host_lines, refl, mine, r.hosts);
      no_hosts = λ yes. let no : is_rehearsal command ≡ false = is_false (is_rehearsal command) good in absurd cc;
    }

spelled_lines : (command : Command) (lines : List (List ℕ)) (before : List BundleLine) → first_fault (bundle_fault command) before (says lines) ≡ None → Spelled command (reverse before) lines (says lines)
unfolding first_fault
spelled_lines command [] before h = spelled_none command (reverse before)
spelled_lines command (line ∷ lines) before h = by (may_follow command (reverse before) (bundle_line_of line)) refl (λ more. spelled_lines command lines (before ++ bundle_line_of line ∷ []) more)
  where
    by : (b : Bool) → may_follow command (reverse before) (bundle_line_of line) ≡ b
        → (first_fault (bundle_fault command) (before ++ bundle_line_of line ∷ []) (says lines) ≡ None → Spelled command (reverse (before ++ bundle_line_of line ∷ [])) lines (says lines))
        → Spelled command (reverse before) (line ∷ lines) (says (line ∷ lines))
    by true e again =
        spelled_line command (reverse before) line lines (bundle_line_of line) (says lines) (line_said line) e
        (subst (λ (bs : List BundleLine). Spelled command bs lines (says lines)) (reverse-append before (bundle_line_of line ∷ [])) (again (rw e at h)))
    by false e again = let no : Some (BadBundle (line_number (length before + 1))) ≡ None = rw e at h in absurd cc

rehearses : (command : Command) → command ≡ Rehearse → is_rehearsal command ≡ true
rehearses command e = ap is_rehearsal e

spelled_bundle : (command : Command) (line : List ℕ) (lines : List (List ℕ)) → line ≡ codes "run " ++ command_word command → Spelled command [] lines (says lines) → SpellsBundle (bundle_with command (says lines)) (line ∷ lines)
spelled_bundle command line lines is r = record {
  head = files_behind (says lines);
  hosts = hosts_behind (says lines);
  places = refl;
  head_lines = r.file_lines;
  host_lines = r.host_lines;
  spelled = ap (λ l. l ∷ lines) is ∙ ap (λ ls. (codes "run " ++ command_word command) ∷ ls) (r.whole ∙ ap (λ cs. map bar cs ++ (r.file_lines ++ r.host_lines)) (r.none refl));
  files = record { spelled = r.files; allowed = r.allowed; once = r.once };
  each_host = r.hosts;
  no_hosts = λ e. r.no_hosts (rehearses command e);
}

said_spelled : (lines : List (List ℕ)) (bundle : Bundle) → bundle_saying (says lines) ≡ Ok bundle → SpellsBundle bundle lines
said_spelled [] bundle h = absurd cc
said_spelled (line ∷ lines) bundle h = first (bundle_line_of line) (line_said line) h
  where
    judged : (command : Command) → line ≡ codes "run " ++ command_word command → (o : Option Fault) → first_fault (bundle_fault command) [] (says lines) ≡ o → unless o (bundle_with command (says lines)) ≡ Ok bundle → SpellsBundle bundle (line ∷ lines)
    judged command is None e g =
        let same : bundle_with command (says lines) ≡ bundle = cc in
        subst (λ (b : Bundle). SpellsBundle b (line ∷ lines)) same (spelled_bundle command line lines is (spelled_lines command lines [] e))
    judged command is (Some f) e g = absurd cc

    first : (v : BundleLine) → IsSaid line v → bundle_saying (v ∷ says lines) ≡ Ok bundle → SpellsBundle bundle (line ∷ lines)
    first (Run command) is g = judged command is (first_fault (bundle_fault command) [] (says lines)) refl g
    first (File file) is g = absurd cc
    first (Host name) is g = absurd cc
    first (Content bytes) is g = absurd cc
    first Wrong is g = absurd cc

pub reads_what_is_spelled : ReadsWhatIsSpelled
unfolding bundle_of
reads_what_is_spelled text bundle h = said_spelled _ bundle h

-- ---- what is spelled is read so

abbrev all_follow : Command → List BundleLine → List BundleLine → Bool
all_follow command back [] = true
all_follow command back (line ∷ lines) = may_follow command back line && all_follow command (line ∷ back) lines

follow_judged : (command : Command) (lines before : List BundleLine) → all_follow command (reverse before) lines ≡ true → first_fault (bundle_fault command) before lines ≡ None
unfolding first_fault
follow_judged command [] before h = refl
follow_judged command (line ∷ lines) before h =
    let here : may_follow command (reverse before) line ≡ true = first_true (may_follow command (reverse before) line) (all_follow command (line ∷ reverse before) lines) h in
    let rest : all_follow command (line ∷ reverse before) lines ≡ true = second_true (may_follow command (reverse before) line) (all_follow command (line ∷ reverse before) lines) h in
    let more : all_follow command (reverse (before ++ line ∷ [])) lines ≡ true = rw reverse-append rest in
    rw here (follow_judged command lines (before ++ line ∷ []) more)

-- the lines may follow, and give these
record Gives (command : Command) (back said : List BundleLine) (files : List NamedFile) (hosts : List Place) (text : List ℕ) : Type 0 where
  follow : all_follow command back said ≡ true
  files_are : files_behind said ≡ files
  hosts_are : hosts_behind said ≡ hosts
  text_is : text_behind said ≡ text

gives_content : (command : Command) (back said : List BundleLine) (files : List NamedFile) (hosts : List Place) (text bytes : List ℕ) → is_in_file back ≡ true → Gives command (Content bytes ∷ back) said files hosts text → Gives command back (Content bytes ∷ said) files hosts ((bytes ++ 10 ∷ []) ++ text)
gives_content command back said files hosts text bytes inside g = record {
  follow = both_true _ _ inside g.follow;
  files_are = g.files_are;
  hosts_are = g.hosts_are;
  text_is = ap (λ t. bytes ++ 10 ∷ t) g.text_is ∙ sym (append_assoc bytes (10 ∷ []) text);
}

module _ (command : Command) (files : List NamedFile) (hosts : List Place) (rest : List (List ℕ)) (had : List FileName) (here : Bool)
    (again : (back : List BundleLine) → begun_here back ≡ had → list_any is_host_line back ≡ here → Gives command back (says rest) files hosts []) where
  gives_contents : (contents : List (List ℕ)) (back : List BundleLine) → is_in_file back ≡ true → begun_here back ≡ had → list_any is_host_line back ≡ here → Gives command back (says (map bar contents ++ rest)) files hosts (flat_map ended contents)
  gives_contents [] back inside begun place = again back begun place
  gives_contents (bytes ∷ contents) back inside begun place =
      rw content_read (gives_content command back (says (map bar contents ++ rest)) files hosts (flat_map ended contents) bytes inside (gives_contents contents (Content bytes ∷ back) refl begun place))

abbrev listed_at : Command → Bool → List FileName
listed_at command here = if here then host_files else head_files command

module _ (command : Command) (hosts : List Place) (tail : List (List ℕ)) (here : Bool) (over : (back : List BundleLine) → Gives command back (says tail) [] hosts []) where
  gives_file : (named : NamedFile) (files : List NamedFile) (first rest : List (List ℕ)) (back : List BundleLine) (had : List FileName) → begun_here back ≡ had → list_any is_host_line back ≡ here → SpellsFile named first
      → is_among named.file (listed_at command here) ≡ true → is_among named.file had ≡ false
      → ((later : List BundleLine) → begun_here later ≡ named.file ∷ had → list_any is_host_line later ≡ here → Gives command later (says (rest ++ tail)) files hosts [])
      → Gives command back (says ((first ++ rest) ++ tail)) (named ∷ files) hosts []
  gives_file named files first rest back had begun place spells allowed fresh again =
      let g = gives_contents command files hosts (rest ++ tail) (named.file ∷ had) here again spells.contents (File named.file ∷ back) refl (ap (λ fs. named.file ∷ fs) begun) place in
      let lines_are : (first ++ rest) ++ tail ≡ (codes "file " ++ file_word named.file) ∷ (map bar spells.contents ++ (rest ++ tail)) =
      append_assoc first rest tail ∙ ap (λ ls. ls ++ (rest ++ tail)) spells.spelled in
      let listed : is_among named.file (listed_here command back) ≡ true = ap (λ b. is_among named.file (listed_at command b)) place ∙ allowed in
      let unused : is_among named.file (begun_here back) ≡ false = ap (is_among named.file) begun ∙ fresh in
      rw (lines_are, file_read) (record {
        follow = both_true _ _ (both_true _ _ listed (ap not unused)) g.follow;
        files_are = ap (λ (n : NamedFile). n ∷ files_behind (says (map bar spells.contents ++ (rest ++ tail)))) (λ i. record { file = named.file; text = (g.text_is ∙ sym spells.text) i }) ∙ ap (λ fs. named ∷ fs) g.files_are;
        hosts_are = g.hosts_are;
        text_is = refl;
      })

  gives_files : (files : List NamedFile) (lines : List (List ℕ)) (back : List BundleLine) (had : List FileName) → begun_here back ≡ had → list_any is_host_line back ≡ here → InTurn SpellsFile files lines
      → list_all (λ named. is_among named.file (listed_at command here)) files ≡ true → IsDistinct same_file (names files) → AllByRecursion (λ f. is_among f had ≡ false) (names files)
      → Gives command back (says (lines ++ tail)) files hosts []
  unfolding IsDistinct
  gives_files [] lines back had begun place spelled allowed once fresh = rw spelled (over back)
  gives_files (named ∷ files) lines back had begun place (first, rest, is, one, more) allowed once fresh =
      let mine = first_true (is_among named.file (listed_at command here)) (list_all (λ n. is_among n.file (listed_at command here)) files) allowed in
      let theirs = second_true (is_among named.file (listed_at command here)) (list_all (λ n. is_among n.file (listed_at command here)) files) allowed in
      let still = each_both (λ f. same_file named.file f ≡ false) (λ f. is_among f had ≡ false) (λ f. is_among f (named.file ∷ had) ≡ false)
      (λ f p q. both_false (same_file f named.file) (is_among f had) (same_back (file_index named.file) (file_index f) p) q) (names files) once.0 fresh.1 in
      rw is (gives_file named files first rest back had begun place one mine fresh.0
      (λ later b p. gives_files files rest later (named.file ∷ had) b p more theirs once.1 still))

none_had : (files : List FileName) → AllByRecursion (λ f. is_among f [] ≡ false) files
none_had [] = tt
none_had (f ∷ files) = (refl, none_had files)

gives_host : (command : Command) (host : Place) (hosts : List Place) (first rest : List (List ℕ)) (back : List BundleLine) → not (is_rehearsal command) ≡ true → SpellsHost host first → ((later : List BundleLine) → Gives command later (says rest) [] hosts [])
    → Gives command back (says (first ++ rest)) [] (host ∷ hosts) []
gives_host command host hosts first rest back free spells over =
    let g = gives_files command hosts rest true over host.files spells.rest (Host host.name ∷ back) [] refl refl spells.files.spelled spells.files.allowed spells.files.once (none_had (names host.files)) in
    let lines_are : first ++ rest ≡ (codes "host " ++ host.name) ∷ (spells.rest ++ rest) = ap (λ ls. ls ++ rest) spells.spelled in
    rw (lines_are, host_read) (record {
      follow = both_true _ _ free g.follow;
      files_are = refl;
      hosts_are = ap (λ fs. record { name = host.name; files = fs } ∷ hosts_behind (says (spells.rest ++ rest))) g.files_are ∙ ap (λ hs. host ∷ hs) g.hosts_are;
      text_is = refl;
    })

no_rehearsal : (command : Command) → (command ≡ Rehearse → ⊥) → not (is_rehearsal command) ≡ true
no_rehearsal Count h = refl
no_rehearsal Merge h = refl
no_rehearsal MergeHosts h = refl
no_rehearsal Check h = refl
no_rehearsal Rehearse h = absurd (h refl)

gives_hosts : (command : Command) (hosts : List Place) (lines : List (List ℕ)) (back : List BundleLine) → InTurn SpellsHost hosts lines → (command ≡ Rehearse → hosts ≡ []) → Gives command back (says lines) [] hosts []
gives_hosts command [] lines back spelled none = rw spelled (record { follow = refl; files_are = refl; hosts_are = refl; text_is = refl })
gives_hosts command (host ∷ hosts) lines back (first, rest, is, one, more) none =
    let no : command ≡ Rehearse → ⊥ = λ e. let empty : host ∷ hosts ≡ [] = none e in cc in
    rw is (gives_host command host hosts first rest back (no_rehearsal command no) one (λ later. gives_hosts command hosts rest later more (λ e. absurd (no e))))

spelled_said : (lines : List (List ℕ)) (bundle : Bundle) → SpellsBundle bundle lines → bundle_saying (says lines) ≡ Ok bundle
spelled_said lines bundle s =
    let g = gives_files bundle.command s.hosts s.host_lines false (λ later. gives_hosts bundle.command s.hosts s.host_lines later s.each_host s.no_hosts)
    s.head s.head_lines [] [] refl refl s.files.spelled s.files.allowed s.files.once (none_had (names s.head)) in
    let fine : first_fault (bundle_fault bundle.command) [] (says (s.head_lines ++ s.host_lines)) ≡ None = follow_judged bundle.command (says (s.head_lines ++ s.host_lines)) [] g.follow in
    let places_are : record { name = []; files = files_behind (says (s.head_lines ++ s.host_lines)) } ∷ hosts_behind (says (s.head_lines ++ s.host_lines)) ≡ bundle.places =
    ap (λ fs. record { name = []; files = fs } ∷ hosts_behind (says (s.head_lines ++ s.host_lines))) g.files_are ∙ ap (λ hs. record { name = []; files = s.head } ∷ hs) g.hosts_are ∙ sym s.places in
    rw (s.spelled, run_read) (rw fine (ap (λ ps. Ok (record { command = bundle.command; places = ps })) places_are))

pub spelled_is_read : SpelledIsRead
unfolding bundle_of
spelled_is_read text bundle s = spelled_said _ bundle s

-- ---- the first bad line

-- where the lines after the first have a fault: so many of them have none, and with one more they have it
record FaultAt (command : Command) (before : List BundleLine) (lines : List (List ℕ)) (fault : Fault) : Type 0 where
  good_lines : ℕ
  good : first_fault (bundle_fault command) before (says (take good_lines lines)) ≡ None
  bad : first_fault (bundle_fault command) before (says (take (suc good_lines) lines)) ≡ Some fault
  told : fault ≡ BadBundle (line_number (length before + suc good_lines))

fault_at : (command : Command) (fault : Fault) (lines : List (List ℕ)) (before : List BundleLine) → first_fault (bundle_fault command) before (says lines) ≡ Some fault → FaultAt command before lines fault
unfolding first_fault
fault_at command fault [] before h = absurd cc
fault_at command fault (line ∷ lines) before h = by (may_follow command (reverse before) (bundle_line_of line)) refl (λ more. fault_at command fault lines (before ++ bundle_line_of line ∷ []) more)
  where
    by : (b : Bool) → may_follow command (reverse before) (bundle_line_of line) ≡ b
        → (first_fault (bundle_fault command) (before ++ bundle_line_of line ∷ []) (says lines) ≡ Some fault → FaultAt command (before ++ bundle_line_of line ∷ []) lines fault)
        → FaultAt command before (line ∷ lines) fault
    by true e again =
        let r = again (rw e at h) in
        let longer : length (before ++ bundle_line_of line ∷ []) + suc r.good_lines ≡ length before + suc (suc r.good_lines) = rw length-append (omega arith) in
        record { good_lines = suc r.good_lines; good = rw e r.good; bad = rw e r.bad; told = r.told ∙ ap (λ n. BadBundle (line_number n)) longer }
    by false e again =
        let is : Some (BadBundle (line_number (length before + 1))) ≡ Some fault = rw e at h in
        let same : BadBundle (line_number (length before + 1)) ≡ fault = cc in
        record { good_lines = 0; good = refl; bad = rw e is; told = sym same }

module _ (line : List ℕ) (lines : List (List ℕ)) (fault : Fault) where
  abbrev Told : Type 0
  Told = (before : ℕ) × (fault ≡ BadBundle (line_number before)) × IsFirstBad (line ∷ lines) before

  no_command : (v : BundleLine) → bundle_line_of line ≡ v → bundle_saying (v ∷ []) ≡ Err (BadBundle 1) → BadBundle 1 ≡ fault → Told
  no_command v e refused is = (
    0,
    sym is,
    record {
      good = λ some. absurd (omega (arith, some));
      bad = λ spelling.
          let read : bundle_saying (bundle_line_of line ∷ []) ≡ Ok spelling.0 = spelled_said (line ∷ []) spelling.0 spelling.1 in
          let told : bundle_saying (bundle_line_of line ∷ []) ≡ Err (BadBundle 1) = rw e refused in
          cc;
    },
  )

  with_command : (command : Command) → bundle_line_of line ≡ Run command → FaultAt command [] lines fault → Told
  with_command command e r =
      let good_read : bundle_saying (says (line ∷ take r.good_lines lines)) ≡ Ok (bundle_with command (says (take r.good_lines lines))) = rw e (rw (r.good) refl) in (
        suc r.good_lines,
        r.told ∙ ap (λ n. BadBundle (line_number n)) (omega arith),
        record {
          good = λ some. (bundle_with command (says (take r.good_lines lines)), said_spelled (line ∷ take r.good_lines lines) (bundle_with command (says (take r.good_lines lines))) good_read);
          bad = rw add-one (λ spelling.
              let read : bundle_saying (says (line ∷ take (suc r.good_lines) lines)) ≡ Ok spelling.0 = spelled_said (line ∷ take (suc r.good_lines) lines) spelling.0 spelling.1 in
              let told : bundle_saying (says (line ∷ take (suc r.good_lines) lines)) ≡ Err fault = rw e (rw (r.bad) refl) in
              cc);
        },
      )

  first_line : (v : BundleLine) → bundle_line_of line ≡ v → bundle_saying (v ∷ says lines) ≡ Err fault → Told
  first_line (Run command) e g = judged (first_fault (bundle_fault command) [] (says lines)) refl g
    where
      judged : (o : Option Fault) → first_fault (bundle_fault command) [] (says lines) ≡ o → unless o (bundle_with command (says lines)) ≡ Err fault → Told
      judged None is other = absurd cc
      judged (Some other) is told = with_command command e (fault_at command fault lines [] (let same : other ≡ fault = cc in is ∙ ap (λ f. Some f) same))
  first_line (File file) e g = no_command (File file) e refl cc
  first_line (Host name) e g = no_command (Host name) e refl cc
  first_line (Content bytes) e g = no_command (Content bytes) e refl cc
  first_line Wrong e g = no_command Wrong e refl cc

said_refused : (lines : List (List ℕ)) (fault : Fault) → bundle_saying (says lines) ≡ Err fault → (before : ℕ) × (fault ≡ BadBundle (line_number before)) × IsFirstBad lines before
said_refused [] fault h = (
  0,
  (let is : BadBundle 1 ≡ fault = cc in sym is),
  record {
    good = λ some. absurd (omega (arith, some));
    bad = λ spelling. let s = spelling.1.spelled in cc;
  },
)
said_refused (line ∷ lines) fault h = first_line line lines fault (bundle_line_of line) refl h

pub first_bad_is_told : FirstBadIsTold
unfolding bundle_of
first_bad_is_told text fault h = said_refused _ fault h
