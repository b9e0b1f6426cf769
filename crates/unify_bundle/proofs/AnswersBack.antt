-- What goes out for a command, read line by line.
use Rattle.std.proofs.Common.{◌≡◌, ◌≢◌, ℕ, ◌<◌, ◌^◌, Bool, true, false, cond, List, [], ◌∷◌, ◌++◌, decimal, map, flat_map, length, drop, codes, refl, sym, ap, subst, ◌∙◌, append_assoc, append-nil, arith}
use Rattle.std.specs.Fmt.{digits}
use Rattle.std.specs.List.{All, AllByRecursion}
use Rattle.std.proofs.lemmas.Bool.{ne_eqb}
use Rattle.std.proofs.lemmas.Grind.{flat_map-append}
use Rattle.std.proofs.lemmas.List.Elements.{All-append, All-cons, All-head, All-nil, All-tail}
use Rattle.idtext.specs.Pieces.{begins_with, lines as lines_of}
use Rattle.idtext.specs.Words.{words}
use Rattle.idtext.proofs.PieceLemmas.{lines-empty}
use Rattle.hosts_join.specs.Checks.{is_host_name}
use Rattle.hosts_join.specs.HostNames.{EndsNothing}
use Rattle.hosts_join.specs.declared.texts.HostText.{HostText}
use Rattle.hosts_join.proofs.HostNames.{names-word}
use Rattle.mergedfiles.proofs.ReadLines.{lines-lack}
use Rattle.unify_texts.specs.ReportBack.{number_in}
use Rattle.unify_texts.proofs.MapBack.{Lacks, decimal-lacks_64, lacks-append, one_line}
use Rattle.unify_texts.proofs.ReportBack.{figure_word, literal, number_back, rows_of}
use Rattle.unify_texts.proofs.ReservedLemmas.{IsWord, words_spaced}
use Rattle.unify.specs.declared.outcome.Outcome.{Outcome}
use Rattle.unify.specs.declared.site_files.NamedText.{NamedText}
use Rattle.unify.specs.declared.site_files.SiteFiles.{SiteFiles}
use Rattle.unify_merge.specs.Merge.{account_files}
use Rattle.unify_merge.specs.SecondReading.{plan_files}
use Rattle.unify_bundle.specs.Lines.{accepted_line, barred, cost_lines, file_lines, merge_lines, named_lines, records_lines, site_lines}
use Rattle.unify_bundle.specs.AnswersBack.{AcceptedIsRead, CostsAreRead, HaveHostNames, IsFileLine, IsOfFiles, MergesAreOfFiles, MergesAreRead, MergesWithHostsAreRead, NumbersByExample, RecordsAreRead, Said, files_told, in_lines, said_by, whole_files}

-- ---- numbers

two_words : (word : List ℕ) (n : ℕ) → IsWord word → n < 2 ^ 64 → words (word ++ 32 ∷ decimal n) ≡ word ∷ decimal n ∷ []
two_words word n is small =
    ap (λ d. words (word ++ 32 ∷ d)) (sym (append-nil (decimal n))) ∙ words_spaced word (decimal n ∷ []) is (figure_word n small, tt)

-- a line with a word and a number
number_line : (word : List ℕ) (n : ℕ) (rest : List ℕ) → IsWord word → n < 2 ^ 64 → lines_of (word ++ 32 ∷ (decimal n ++ 10 ∷ rest)) ≡ (word ++ 32 ∷ decimal n) ∷ lines_of rest
number_line word n rest is small =
    ap lines_of (sym (append_assoc word (32 ∷ decimal n) (10 ∷ rest)))
    ∙ one_line (word ++ 32 ∷ decimal n) rest (lacks-append 10 word (32 ∷ decimal n) is.no_end (refl, decimal-lacks_64 10 n (omega arith) small))

users_word : IsWord (codes "user-fields")
users_word = literal (codes "user-fields") (omega arith) refl refl refl

groups_word : IsWord (codes "group-fields")
groups_word = literal (codes "group-fields") (omega arith) refl refl refl

accepted_word : IsWord (codes "accepted")
accepted_word = literal (codes "accepted") (omega arith) refl refl refl

records_word : IsWord (codes "records")
records_word = literal (codes "records") (omega arith) refl refl refl

pub costs_are_read : CostsAreRead
costs_are_read cost users groups =
    let first : List ℕ = codes "user-fields " ++ decimal cost.users in
    let rest : List ℕ = codes "group-fields" ++ 32 ∷ (decimal cost.groups ++ 10 ∷ []) in
    let lines : lines_of (cost_lines cost) ≡ (codes "user-fields" ++ 32 ∷ decimal cost.users) ∷ (codes "group-fields" ++ 32 ∷ decimal cost.groups) ∷ [] =
    ap lines_of (append_assoc (first ++ codes "\ngroup-fields ") (decimal cost.groups) (10 ∷ []) ∙ append_assoc first (codes "\ngroup-fields ") (decimal cost.groups ++ 10 ∷ []))
    ∙ number_line (codes "user-fields") cost.users rest users_word users
    ∙ ap (λ more. (codes "user-fields" ++ 32 ∷ decimal cost.users) ∷ more) (number_line (codes "group-fields") cost.groups [] groups_word groups ∙ ap (λ more. (codes "group-fields" ++ 32 ∷ decimal cost.groups) ∷ more) lines-empty) in
    let rows : rows_of (cost_lines cost) ≡ (codes "user-fields" ∷ decimal cost.users ∷ []) ∷ (codes "group-fields" ∷ decimal cost.groups ∷ []) ∷ [] =
    ap (map words) lines
    ∙ (λ i. two_words (codes "user-fields") cost.users users_word users i ∷ two_words (codes "group-fields") cost.groups groups_word groups i ∷ []) in
    record {
      users = ap (λ rs. number_in rs (codes "user-fields") (codes "user-fields")) rows ∙ number_back cost.users users;
      groups = ap (λ rs. number_in rs (codes "group-fields") (codes "group-fields")) rows ∙ number_back cost.groups groups;
      two = ap length lines;
    }

pub accepted_is_read : AcceptedIsRead
accepted_is_read cost small =
    let lines : lines_of (accepted_line cost) ≡ (codes "accepted" ++ 32 ∷ decimal cost) ∷ [] =
    number_line (codes "accepted") cost [] accepted_word small ∙ ap (λ more. (codes "accepted" ++ 32 ∷ decimal cost) ∷ more) lines-empty in
    let rows : rows_of (accepted_line cost) ≡ (codes "accepted" ∷ decimal cost ∷ []) ∷ [] =
    ap (map words) lines ∙ ap (λ row. row ∷ []) (two_words (codes "accepted") cost accepted_word small) in (
      ap (λ rs. number_in rs (codes "accepted") (codes "accepted")) rows ∙ number_back cost small,
      ap length lines,
    )

pub records_are_read : RecordsAreRead
records_are_read n small =
    let lines : lines_of (records_lines n) ≡ (codes "records" ++ 32 ∷ decimal n) ∷ codes "done" ∷ [] =
    number_line (codes "records") n (codes "done\n") records_word small
    ∙ ap (λ more. (codes "records" ++ 32 ∷ decimal n) ∷ more) (one_line (codes "done") [] (refl, (refl, (refl, (refl, tt)))) ∙ ap (λ more. codes "done" ∷ more) lines-empty) in
    let rows : rows_of (records_lines n) ≡ (codes "records" ∷ decimal n ∷ []) ∷ words (codes "done") ∷ [] =
    ap (map words) lines ∙ ap (λ row. row ∷ words (codes "done") ∷ []) (two_words (codes "records") n records_word small) in (
      ap (λ rs. number_in rs (codes "records") (codes "records")) rows ∙ number_back n small,
      ap (drop 1) lines,
    )

-- ---- files

-- the lines of a file in an answer
abbrev shown : NamedText → List (List ℕ)
shown file = (codes "file " ++ file.name) ∷ map (λ line. 124 ∷ line) (lines_of file.text)

-- a name without a newline
abbrev IsOfOneLine : NamedText → Type 0
IsOfOneLine file = Lacks 10 file.name

barred_lines : (ls : List (List ℕ)) (rest : List ℕ) → AllByRecursion (Lacks 10) ls → lines_of (flat_map barred ls ++ rest) ≡ map (λ line. 124 ∷ line) ls ++ lines_of rest
barred_lines [] rest all = refl
barred_lines (l ∷ ls) rest all =
    ap lines_of (append_assoc (barred l) (flat_map barred ls) rest ∙ append_assoc (124 ∷ l) (10 ∷ []) (flat_map barred ls ++ rest))
    ∙ one_line (124 ∷ l) (flat_map barred ls ++ rest) (refl, all.0)
    ∙ ap (λ more. (124 ∷ l) ∷ more) (barred_lines ls rest all.1)

one_file : (file : NamedText) (rest : List ℕ) → IsOfOneLine file → lines_of (file_lines file.name file.text ++ rest) ≡ shown file ++ lines_of rest
one_file file rest plain =
    let bars : List ℕ = flat_map barred (lines_of file.text) in
    ap (λ t. lines_of (codes "file " ++ t)) (append_assoc file.name (10 ∷ bars) rest)
    ∙ one_line (codes "file " ++ file.name) (bars ++ rest) (lacks-append 10 (codes "file ") file.name (refl, (refl, (refl, (refl, (refl, tt))))) plain)
    ∙ ap (λ more. (codes "file " ++ file.name) ∷ more) (barred_lines (lines_of file.text) rest (lines-lack file.text))

all_files : (files : List NamedText) → AllByRecursion IsOfOneLine files → lines_of (named_lines files) ≡ flat_map shown files
all_files [] all = lines-empty
all_files (file ∷ files) all =
    one_file file (named_lines files) all.0 ∙ ap (λ more. shown file ++ more) (all_files files all.1)

-- ---- read from the last line on

bars_said : (ls more : List (List ℕ)) → said_by (map (λ line. 124 ∷ line) ls ++ more) ≡ record { barred = ls ++ (said_by more).barred; files = (said_by more).files }
bars_said [] more = refl
bars_said (l ∷ ls) more = ap (λ (s : Said). record s { barred = l ∷ s.barred }) (bars_said ls more)

file_said : (file : NamedText) (more : List (List ℕ)) → (said_by more).barred ≡ [] → said_by (shown file ++ more) ≡ record { barred = []; files = in_lines file ∷ (said_by more).files }
file_said file more none =
    let with_lines : List (List ℕ) → Said = λ lines. record { barred = []; files = record { name = file.name; lines = lines } ∷ (said_by more).files } in
    ap (λ (s : Said). record { barred = []; files = record { name = file.name; lines = s.barred } ∷ s.files }) (bars_said (lines_of file.text) more)
    ∙ ap (λ bars. with_lines (lines_of file.text ++ bars)) none ∙ ap with_lines (append-nil (lines_of file.text))

files_said : (files : List NamedText) → said_by (flat_map shown files) ≡ record { barred = []; files = map in_lines files }
files_said [] = refl
files_said (file ∷ files) =
    file_said file (flat_map shown files) (ap (λ (s : Said). s.barred) (files_said files))
    ∙ ap (λ (s : Said). record { barred = []; files = in_lines file ∷ s.files }) (files_said files)

-- ---- a merge

name_lacks : (name : List ℕ) → All EndsNothing name → Lacks 10 name
name_lacks [] all = tt
name_lacks (b ∷ name) all = (ne_eqb b 10 (All-head EndsNothing b name all).no_newline, name_lacks name (All-tail EndsNothing b name all))

no_newline : (name : List ℕ) → All (λ b. b ≢ 10) name → Lacks 10 name
no_newline [] all = tt
no_newline (b ∷ name) all = (ne_eqb b 10 (All-head (λ c. c ≢ 10) b name all), no_newline name (All-tail (λ c. c ≢ 10) b name all))

accounts_plain : (keeps : Bool) (passwd group : NamedText) → IsOfOneLine passwd → IsOfOneLine group → AllByRecursion IsOfOneLine (cond keeps [] (passwd ∷ group ∷ []))
accounts_plain true passwd group p g = tt
accounts_plain false passwd group p g = (p, (g, tt))

plans_plain : (hosts : List HostText) (plans : List (List ℕ)) → HaveHostNames hosts → AllByRecursion IsOfOneLine (plan_files hosts plans)
plans_plain [] plans names = tt
plans_plain (host ∷ hosts) [] names = tt
plans_plain (host ∷ hosts) (plan ∷ plans) names =
    let lawful : is_host_name host.name ≡ true = All-head (λ (h : HostText). is_host_name h.name ≡ true) host hosts names in (
      lacks-append 10 (codes "plan.") host.name (refl, (refl, (refl, (refl, (refl, tt))))) (name_lacks host.name (names-word host.name lawful)),
      plans_plain hosts plans (All-tail (λ (h : HostText). is_host_name h.name ≡ true) host hosts names),
    )

both_plain : (one two : List NamedText) → AllByRecursion IsOfOneLine one → AllByRecursion IsOfOneLine two → AllByRecursion IsOfOneLine (one ++ two)
both_plain [] two p q = q
both_plain (file ∷ one) two p q = (p.0, both_plain one two p.1 q)

-- the lines of a merge are those of its files
merge_is : (hosts : List HostText) (outcome : Outcome) → merge_lines hosts outcome ≡ named_lines (whole_files hosts outcome)
merge_is hosts outcome =
    let others : List NamedText = record { name = codes "map"; text = outcome.map } ∷ record { name = codes "certificate"; text = outcome.certificate } ∷ record { name = codes "report"; text = outcome.report } ∷ plan_files hosts outcome.plans in
    let accounts = named_lines (account_files outcome) in
    let map_lines = file_lines (codes "map") outcome.map in
    let certificate = file_lines (codes "certificate") outcome.certificate in
    let report = file_lines (codes "report") outcome.report in
    let plans = named_lines (plan_files hosts outcome.plans) in
    append_assoc (accounts ++ map_lines ++ certificate) report plans ∙ append_assoc (accounts ++ map_lines) certificate (report ++ plans) ∙ append_assoc accounts map_lines (certificate ++ (report ++ plans))
    ∙ sym (flat_map-append (λ (file : NamedText). file_lines file.name file.text) (account_files outcome) others)

whole_plain : (hosts : List HostText) (outcome : Outcome) → HaveHostNames hosts → AllByRecursion IsOfOneLine (whole_files hosts outcome)
whole_plain hosts outcome names =
    let passwd : NamedText = record { name = codes "passwd"; text = outcome.passwd } in
    let group : NamedText = record { name = codes "group"; text = outcome.group } in
    let others : List NamedText = record { name = codes "map"; text = outcome.map } ∷ record { name = codes "certificate"; text = outcome.certificate } ∷ record { name = codes "report"; text = outcome.report } ∷ plan_files hosts outcome.plans in
    both_plain (account_files outcome) others
    (accounts_plain outcome.keeps_names passwd group (refl, (refl, (refl, (refl, (refl, (refl, tt)))))) (refl, (refl, (refl, (refl, (refl, tt)))))) (
      (refl, (refl, (refl, tt))),
      (
        (refl, (refl, (refl, (refl, (refl, (refl, (refl, (refl, (refl, (refl, (refl, tt))))))))))),
        ((refl, (refl, (refl, (refl, (refl, (refl, tt)))))), plans_plain hosts outcome.plans names),
      ),
    )

files_read : (files : List NamedText) → AllByRecursion IsOfOneLine files → files_told (named_lines files) ≡ map in_lines files
files_read files plain =
    ap (λ ls. (said_by ls).files) (all_files files plain) ∙ ap (λ (s : Said). s.files) (files_said files)

pub merges_are_read : MergesAreRead
merges_are_read hosts outcome names =
    ap files_told (merge_is hosts outcome) ∙ files_read (whole_files hosts outcome) (whole_plain hosts outcome names)

own_plain : (files : List NamedText) → All (λ (file : NamedText). All (λ b. b ≢ 10) file.name) files → AllByRecursion IsOfOneLine files
own_plain [] all = tt
own_plain (file ∷ files) all =
    let IsShort : NamedText → Type 0 = λ f. All (λ b. b ≢ 10) f.name in
    (no_newline file.name (All-head IsShort file files all), own_plain files (All-tail IsShort file files all))

-- the lines of a merge with the own files of hosts are those of all its files
site_is : (hosts : List HostText) (files : SiteFiles) → site_lines hosts files ≡ named_lines (whole_files hosts files.outcome ++ files.own.items)
site_is hosts files =
    ap (λ t. t ++ named_lines files.own.items) (merge_is hosts files.outcome)
    ∙ sym (flat_map-append (λ (file : NamedText). file_lines file.name file.text) (whole_files hosts files.outcome) files.own.items)

pub merges_with_hosts_are_read : MergesWithHostsAreRead
merges_with_hosts_are_read hosts files names own =
    let whole = whole_files hosts files.outcome in
    ap files_told (site_is hosts files)
    ∙ files_read (whole ++ files.own.items) (both_plain whole files.own.items (whole_plain hosts files.outcome names) (own_plain files.own.items own))

-- ---- lines that name a file or have a bar

name_first : (name : List ℕ) → IsFileLine (codes "file " ++ name)
name_first name = refl

bar_first : (line : List ℕ) → IsFileLine (124 ∷ line)
bar_first line = refl

bars_first : (ls : List (List ℕ)) → All IsFileLine (map (λ line. 124 ∷ line) ls)
bars_first [] = All-nil IsFileLine
bars_first (l ∷ ls) = All-cons IsFileLine (124 ∷ l) (map (λ line. 124 ∷ line) ls) (bar_first l) (bars_first ls)

files_barred : (files : List NamedText) → All IsFileLine (flat_map shown files)
files_barred [] = All-nil IsFileLine
files_barred (file ∷ files) =
    let bars : List (List ℕ) = map (λ line. 124 ∷ line) (lines_of file.text) in
    All-append IsFileLine (shown file) (flat_map shown files) (All-cons IsFileLine (codes "file " ++ file.name) bars (name_first file.name) (bars_first (lines_of file.text))) (files_barred files)

all_barred : (files : List NamedText) → AllByRecursion IsOfOneLine files → All IsFileLine (lines_of (named_lines files))
all_barred files plain = subst (All IsFileLine) (sym (all_files files plain)) (files_barred files)

-- those of the accounts come first, or else the map
first_named : (keeps : Bool) (passwd group other : NamedText) (more : List NamedText) → begins_with (codes "file ") (named_lines (cond keeps [] (passwd ∷ group ∷ []) ++ other ∷ more)) ≡ true
first_named true passwd group other more = refl
first_named false passwd group other more = refl

files_first : (hosts : List HostText) (outcome : Outcome) (more : List NamedText) → begins_with (codes "file ") (named_lines (whole_files hosts outcome ++ more)) ≡ true
files_first hosts outcome more =
    let passwd : NamedText = record { name = codes "passwd"; text = outcome.passwd } in
    let group : NamedText = record { name = codes "group"; text = outcome.group } in
    let first : NamedText = record { name = codes "map"; text = outcome.map } in
    let others : List NamedText = record { name = codes "certificate"; text = outcome.certificate } ∷ record { name = codes "report"; text = outcome.report } ∷ plan_files hosts outcome.plans in
    ap (λ files. begins_with (codes "file ") (named_lines files)) (append_assoc (account_files outcome) (first ∷ others) more)
    ∙ first_named outcome.keeps_names passwd group first (others ++ more)

of_files : (text : List ℕ) (files : List NamedText) → text ≡ named_lines files → AllByRecursion IsOfOneLine files → begins_with (codes "file ") (named_lines files) ≡ true → IsOfFiles text
of_files text files is plain first = subst IsOfFiles (sym is) (record { first = first; lines = all_barred files plain })

pub merges_are_of_files : MergesAreOfFiles
merges_are_of_files hosts files names own =
    let whole = whole_files hosts files.outcome in
    let all : List NamedText = whole ++ files.own.items in
    let plain = whole_plain hosts files.outcome names in
    let first = files_first hosts files.outcome in (
      of_files (merge_lines hosts files.outcome) whole (merge_is hosts files.outcome) plain (subst (λ fs. begins_with (codes "file ") (named_lines fs) ≡ true) (append-nil whole) (first [])),
      of_files (site_lines hosts files) all (site_is hosts files) (both_plain whole files.own.items plain (own_plain files.own.items own)) (first files.own.items),
    )

-- ---- by example

pub numbers_by_example : NumbersByExample
unfolding digits
numbers_by_example = record { costs = refl; accepted = refl; records = refl }
