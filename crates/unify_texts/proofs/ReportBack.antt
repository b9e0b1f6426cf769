-- The figures of a report are read back.
use Rattle.std.proofs.Common.{◌≡◌, ℕ, ◌^◌, ◌<◌, ◌≤◌, ◌==◌, ◌&&◌, not, Bool, true, false, cond, List, [], ◌∷◌, ◌++◌, length, map, flat_map, decimal, codes, Option, Some, None, is_some, refl, sym, ap, ◌∙◌, append_assoc, arith, count_by}
use Rattle.std.specs.Prelude.{nat_lt}
use Rattle.std.specs.Char.{digit_value}
use Rattle.std.specs.List.{AllByRecursion, list_all}
use Rattle.std.specs.Str.Parse.{AllDigits, IsNumeral, digits_value}
use Rattle.std.proofs.lemmas.Bool.{and_parts, lt-ltb, not-true}
use Rattle.std.proofs.lemmas.Fmt.{decimal_is_IsNumeral, decimal_nonempty}
use Rattle.std.proofs.lemmas.List.Sums.{sum_by-cons}
use Rattle.idtext.specs.Pieces.{lines as lines_of}
use Rattle.idtext.specs.Words.{words}
use Rattle.hosts_join.specs.Accounts.{Accounts, owner}
use Rattle.hosts_join.specs.Site.{Joined}
use Rattle.hosts_join.specs.declared.reserving.Reserved.{Reserved}
use Rattle.mergedfiles.specs.Differences.{site_differences}
use Rattle.mergedfiles.specs.declared.Difference.{Difference}
use Rattle.ownership.specs.Costs.{changes, cost_of}
use Rattle.ownership.specs.Files.{File, by_user, by_group, owned_files}
use Rattle.ownership.proofs.CostLemmas.{rows_and_lines}
use Rattle.unify_texts.specs.Figures.{figures_of}
use Rattle.unify_texts.specs.Report.{change_line, difference_line, names_line, report_lines, report_version}
use Rattle.unify_texts.specs.ReportBack.{AreCountable, ReportsReadBack, number_in, number_of, number_told}
use Rattle.unify_texts.specs.ReservedLines.{reserved_lines}
use Rattle.unify_texts.specs.Words.{line, spaced}
use Rattle.unify_texts.specs.declared.figures.Figures.{Figures}
use Rattle.unify_texts.proofs.MapBack.{Lacks, decimal-lacks_64, lacks-append, one_line}
use Rattle.unify_texts.proofs.ReservedLemmas.{IsWord, spaced_lacks, words_spaced}
use Rattle.unify_texts.proofs.Totals.{figures_add_up}

-- ---- a number

all_digits : (ds : List ℕ) → AllDigits 10 ds → list_all (λ d. nat_lt (digit_value d) 10) ds ≡ true
all_digits [] all = refl
all_digits (c ∷ cs) all =
    ap (λ b. b && list_all (λ d. nat_lt (digit_value d) 10) cs) (lt-ltb (digit_value c) 10 all.0) ∙ all_digits cs all.1

read : (ds : List ℕ) (n : ℕ) → IsNumeral 10 ds × (digits_value 10 ds ≡ n) → number_of ds ≡ Some n
read [] n told = absurd (omega (arith, told.0.0))
read (c ∷ cs) n told =
    ap (λ b. cond b (Some (digits_value 10 (c ∷ cs))) None) (all_digits (c ∷ cs) told.0.1) ∙ ap (λ v. Some v) told.1

pub number_back : (n : ℕ) → n < 2 ^ 64 → number_of (decimal n) ≡ Some n
number_back n small = read (decimal n) n (decimal_is_IsNumeral n small)

-- ---- words

pub figure_word : (n : ℕ) → n < 2 ^ 64 → IsWord (decimal n)
figure_word n small = record {
  some = decimal_nonempty n small;
  no_space = decimal-lacks_64 32 n (omega arith) small;
  no_tab = decimal-lacks_64 9 n (omega arith) small;
  no_end = decimal-lacks_64 10 n (omega arith) small;
}

lacking : (b : ℕ) (word : List ℕ) → list_all (λ c. not (c == b)) word ≡ true → Lacks b word
lacking b [] all = tt
lacking b (c ∷ cs) all =
    let both = and_parts (not (c == b)) (list_all (λ d. not (d == b)) cs) all in
    (not-true (c == b) both.0, lacking b cs both.1)

-- a word that is spelled out
pub literal : (word : List ℕ) → 0 < length word → list_all (λ c. not (c == 32)) word ≡ true → list_all (λ c. not (c == 9)) word ≡ true → list_all (λ c. not (c == 10)) word ≡ true → IsWord word
literal word some no_space no_tab no_end =
    record { some = some; no_space = lacking 32 word no_space; no_tab = lacking 9 word no_tab; no_end = lacking 10 word no_end }

report_word : IsWord (codes "report")
report_word = literal (codes "report") (omega arith) refl refl refl

pinned_word : IsWord (codes "pinned")
pinned_word = literal (codes "pinned") (omega arith) refl refl refl

kept_word : IsWord (codes "kept")
kept_word = literal (codes "kept") (omega arith) refl refl refl

fresh_word : IsWord (codes "fresh")
fresh_word = literal (codes "fresh") (omega arith) refl refl refl

of_word : IsWord (codes "of")
of_word = literal (codes "of") (omega arith) refl refl refl

version_word : (users groups : List Reserved) → IsWord (report_version users groups)
version_word [] [] = literal (codes "2") (omega arith) refl refl refl
version_word (r ∷ users) groups = literal (codes "3") (omega arith) refl refl refl
version_word [] (r ∷ groups) = literal (codes "3") (omega arith) refl refl refl

-- ---- lines

abbrev pub rows_of : List ℕ → List (List (List ℕ))
rows_of text = map words (lines_of text)

-- whatever stands after it, the text begins with these rows
pub record Reads (front : List ℕ) (rs : List (List (List ℕ))) : Type 0 where
  pub read_first : (rest : List ℕ) → rows_of (front ++ rest) ≡ rs ++ rows_of rest

pub reads_both : {front more : List ℕ} {rs ss : List (List (List ℕ))} → Reads front rs → Reads more ss → Reads (front ++ more) (rs ++ ss)
reads_both {front} {more} {rs} {ss} one two = record {
  read_first = λ rest. ap rows_of (append_assoc front more rest) ∙ one.read_first (more ++ rest) ∙ ap (λ others. rs ++ others) (two.read_first rest) ∙ sym (append_assoc rs ss (rows_of rest));
}

pub reads_line : (first : List ℕ) (others : List (List ℕ)) → IsWord first → AllByRecursion IsWord others → Reads (line first others) ((first ∷ others) ∷ [])
reads_line first others is all = record {
  read_first = λ rest.
      ap rows_of (append_assoc first (spaced others ++ 10 ∷ []) rest ∙ ap (λ text. first ++ text) (append_assoc (spaced others) (10 ∷ []) rest) ∙ sym (append_assoc first (spaced others) (10 ∷ rest)))
      ∙ ap (map words) (one_line (first ++ spaced others) rest (lacks-append 10 first (spaced others) is.no_end (spaced_lacks others all)))
      ∙ ap (λ row. row ∷ rows_of rest) (words_spaced first others is all);
}

-- the figures are numbers that 64 bits hold
pub record AreHeld (f : Figures) : Type 0 where
  pub names : f.names < 2 ^ 64
  pub pinned : f.pinned < 2 ^ 64
  pub kept : f.kept < 2 ^ 64
  pub fresh : f.fresh < 2 ^ 64
  pub files : f.files < 2 ^ 64
  pub changed_files : f.changed_files < 2 ^ 64
  pub rows : f.rows < 2 ^ 64
  pub changed_rows : f.changed_rows < 2 ^ 64

abbrev pub names_row : List ℕ → Figures → List (List ℕ)
names_row kinds f =
    kinds ∷ decimal f.names ∷ codes "pinned" ∷ decimal f.pinned ∷ codes "kept" ∷ decimal f.kept ∷ codes "fresh" ∷ decimal f.fresh ∷ []

reads_names : (kinds : List ℕ) (f : Figures) → IsWord kinds → AreHeld f → Reads (names_line kinds f) (names_row kinds f ∷ [])
reads_names kinds f is held =
    reads_line kinds (decimal f.names ∷ codes "pinned" ∷ decimal f.pinned ∷ codes "kept" ∷ decimal f.kept ∷ codes "fresh" ∷ decimal f.fresh ∷ []) is
    (figure_word f.names held.names, (pinned_word, (figure_word f.pinned held.pinned, (kept_word, (figure_word f.kept held.kept, (fresh_word, (figure_word f.fresh held.fresh, tt)))))))

abbrev pub change_row : List ℕ → ℕ → ℕ → List (List ℕ)
change_row what changed all = what ∷ decimal changed ∷ codes "of" ∷ decimal all ∷ []

reads_change : (what : List ℕ) (changed all : ℕ) → IsWord what → changed < 2 ^ 64 → all < 2 ^ 64 → Reads (change_line what changed all) (change_row what changed all ∷ [])
reads_change what changed all is p q =
    reads_line what (decimal changed ∷ codes "of" ∷ decimal all ∷ []) is (figure_word changed p, (of_word, (figure_word all q, tt)))

-- ---- a report

module _ (site : Joined) (n : ℕ) (u g : Figures) (told : List Difference) (few : n < 2 ^ 64) (users : AreHeld u) (groups : AreHeld g) where
  abbrev pub version : List ℕ
  version = report_version site.users.reserved site.groups.reserved

  -- the lines of figures
  abbrev figures : List ℕ
  figures =
      line (codes "unify") (codes "report" ∷ version ∷ []) ++ line (codes "hosts") (decimal n ∷ [])
      ++ names_line (codes "users") u ++ names_line (codes "groups") g
      ++ change_line (codes "user-fields") u.changed_files u.files ++ change_line (codes "group-fields") g.changed_files g.files
      ++ change_line (codes "user-lines") u.changed_rows u.rows ++ change_line (codes "group-lines") g.changed_rows g.rows

  abbrev pub figure_rows : List (List (List ℕ))
  figure_rows =
      (codes "unify" ∷ codes "report" ∷ version ∷ []) ∷ (codes "hosts" ∷ decimal n ∷ [])
      ∷ names_row (codes "users") u ∷ names_row (codes "groups") g
      ∷ change_row (codes "user-fields") u.changed_files u.files ∷ change_row (codes "group-fields") g.changed_files g.files
      ∷ change_row (codes "user-lines") u.changed_rows u.rows ∷ change_row (codes "group-lines") g.changed_rows g.rows ∷ []

  reads_figures : Reads figures figure_rows
  reads_figures =
      reads_both (reads_both (reads_both (reads_both (reads_both (reads_both (reads_both
      (reads_line (codes "unify") (codes "report" ∷ version ∷ []) (literal (codes "unify") (omega arith) refl refl refl) (report_word, (version_word site.users.reserved site.groups.reserved, tt)))
      (reads_line (codes "hosts") (decimal n ∷ []) (literal (codes "hosts") (omega arith) refl refl refl) (figure_word n few, tt)))
      (reads_names (codes "users") u (literal (codes "users") (omega arith) refl refl refl) users))
      (reads_names (codes "groups") g (literal (codes "groups") (omega arith) refl refl refl) groups))
      (reads_change (codes "user-fields") u.changed_files u.files (literal (codes "user-fields") (omega arith) refl refl refl) users.changed_files users.files))
      (reads_change (codes "group-fields") g.changed_files g.files (literal (codes "group-fields") (omega arith) refl refl refl) groups.changed_files groups.files))
      (reads_change (codes "user-lines") u.changed_rows u.rows (literal (codes "user-lines") (omega arith) refl refl refl) users.changed_rows users.rows))
      (reads_change (codes "group-lines") g.changed_rows g.rows (literal (codes "group-lines") (omega arith) refl refl refl) groups.changed_rows groups.rows)

  abbrev pub differing : List ℕ
  differing = flat_map difference_line told

  abbrev pub end : List ℕ
  end = line (codes "end") []

  abbrev pub text : List ℕ
  text = report_lines site n u g told

  abbrev pub all_rows : List (List (List ℕ))
  all_rows = figure_rows ++ rows_of (reserved_lines site ++ (differing ++ end))

  pub rows_are : rows_of text ≡ all_rows
  rows_are =
      ap rows_of (append_assoc (figures ++ reserved_lines site) differing end ∙ append_assoc figures (reserved_lines site) (differing ++ end))
      ∙ reads_figures.read_first (reserved_lines site ++ (differing ++ end))

  pub tells : (first word : List ℕ) (x : ℕ) → x < 2 ^ 64 → number_in all_rows first word ≡ number_of (decimal x) → number_told text first word ≡ Some x
  tells first word x small found = ap (λ rs. number_in rs first word) rows_are ∙ found ∙ number_back x small

-- ---- the figures of mappings

fewer : (p q : File → Bool) → ((f : File) → p f ≡ true → q f ≡ true) → (files : List File) → count_by p files ≤ count_by q files
fewer p q implied [] = omega arith
fewer p q implied (f ∷ fs) =
    let ps = sum_by-cons (λ h. cond (p h) 1 0) f fs in
    let qs = sum_by-cons (λ h. cond (q h) 1 0) f fs in
    omega (arith, ps, qs, one (p f) (q f) (implied f), fewer p q implied fs)
  where
    one : (b c : Bool) → (b ≡ true → c ≡ true) → cond {A = ℕ} b 1 0 ≤ cond {A = ℕ} c 1 0
    one false c h = omega arith
    one true true h = omega arith
    one true false h = absurd (cc (h refl))

changed_is_owned : (m : List ℕ) (o : Option ℕ) (v : ℕ) → changes m o v ≡ true → is_some o ≡ true
changed_is_owned m None v e = absurd (cc)
changed_is_owned m (Some i) v e = refl

cost_within : (a : Accounts) (files : List File) (m : List ℕ) → cost_of a files m ≤ owned_files a.names files
cost_within a files m =
    fewer (λ f. changes m (owner a.names f.host f.number) f.number) (λ f. is_some (owner a.names f.host f.number)) (λ f. changed_is_owned m (owner a.names f.host f.number) f.number) files

pub held : (a : Accounts) (files : List File) (m : List ℕ) → AreCountable a files → AreHeld (figures_of a files m)
held a files m few =
    let all = figures_add_up a m in
    record {
      names = few.names;
      pinned = omega (arith, all, few.names);
      kept = omega (arith, all, few.names);
      fresh = omega (arith, all, few.names);
      files = few.owned;
      changed_files = omega (arith, cost_within a files m, few.owned);
      rows = few.rows;
      changed_rows = omega (arith, rows_and_lines a m, few.rows);
    }

pub reports_read_back : ReportsReadBack
reports_read_back hosts site files m few users groups =
    let u : Figures = figures_of site.users (by_user files) m.users in
    let g : Figures = figures_of site.groups (by_group files) m.groups in
    let us = held site.users (by_user files) m.users users in
    let gs = held site.groups (by_group files) m.groups groups in
    let tell = tells site (length hosts) u g (site_differences hosts site) few us gs in
    record {
      count = tell (codes "hosts") (codes "hosts") (length hosts) few refl;
      users = record {
        names = tell (codes "users") (codes "users") u.names us.names refl;
        pinned = tell (codes "users") (codes "pinned") u.pinned us.pinned refl;
        kept = tell (codes "users") (codes "kept") u.kept us.kept refl;
        fresh = tell (codes "users") (codes "fresh") u.fresh us.fresh refl;
      };
      groups = record {
        names = tell (codes "groups") (codes "groups") g.names gs.names refl;
        pinned = tell (codes "groups") (codes "pinned") g.pinned gs.pinned refl;
        kept = tell (codes "groups") (codes "kept") g.kept gs.kept refl;
        fresh = tell (codes "groups") (codes "fresh") g.fresh gs.fresh refl;
      };
      user_fields = record {
        first = tell (codes "user-fields") (codes "user-fields") u.changed_files us.changed_files refl;
        behind_of = tell (codes "user-fields") (codes "of") u.files us.files refl;
      };
      group_fields = record {
        first = tell (codes "group-fields") (codes "group-fields") g.changed_files gs.changed_files refl;
        behind_of = tell (codes "group-fields") (codes "of") g.files gs.files refl;
      };
      user_lines = record {
        first = tell (codes "user-lines") (codes "user-lines") u.changed_rows us.changed_rows refl;
        behind_of = tell (codes "user-lines") (codes "of") u.rows us.rows refl;
      };
      group_lines = record {
        first = tell (codes "group-lines") (codes "group-lines") g.changed_rows gs.changed_rows refl;
        behind_of = tell (codes "group-lines") (codes "of") g.rows gs.rows refl;
      };
    }
