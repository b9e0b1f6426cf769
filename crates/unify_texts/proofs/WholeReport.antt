-- What differs and what is reserved is read back from a whole report.
use Rattle.std.proofs.Common.{◌≡◌, ℕ, ◌^◌, ◌<◌, Bool, true, false, cond, List, [], ◌∷◌, ◌++◌, length, map, flat_map, codes, Option, Some, refl, sym, ap, ◌∙◌, append-nil, subst, arith}
use Rattle.std.specs.Prelude.{filter, option_map}
use Rattle.std.specs.List.{All, AllByRecursion, Contains}
use Rattle.std.proofs.lemmas.List.{map-append}
use Rattle.std.proofs.lemmas.List.Elements.{All-contains, All-contains_itself, All-map, All-weaker, filter-append, recursion_from_All}
use Rattle.idtext.specs.Escapes.{unescaped}
use Rattle.idtext.specs.Pieces.{lines as lines_of, pieces}
use Rattle.idtext.specs.Words.{words}
use Rattle.hosts_join.specs.Accounts.{Account, Accounts}
use Rattle.hosts_join.specs.Site.{Joined}
use Rattle.hosts_join.specs.declared.Which.{Which}
use Rattle.hosts_join.specs.declared.Which.TheVariants.{User, Group}
use Rattle.hosts_join.specs.declared.host.Host.{Host}
use Rattle.hosts_join.specs.declared.reserving.Reserved.{Reserved}
use Rattle.mergedfiles.specs.Differences.{site_differences}
use Rattle.mergedfiles.specs.ToldDifferences.{Differs, IsNamed}
use Rattle.mergedfiles.specs.declared.Difference.{Difference}
use Rattle.mergedfiles.specs.declared.Field.{Field}
use Rattle.mergedfiles.specs.declared.Field.TheVariants as field
use Rattle.mergedfiles.proofs.ToldDifferences.{differences_are_told}
use Rattle.ownership.specs.Files.{by_user, by_group}
use Rattle.unify_texts.specs.Figures.{figures_of}
use Rattle.unify_texts.specs.Report.{difference_line, field_word, report_lines}
use Rattle.unify_texts.specs.ReportBack.{begins_so}
use Rattle.unify_texts.specs.ReservedBack.{IsShown, IsTellable, Told, all_reserved, told_by}
use Rattle.unify_texts.specs.ReservedLines.{reserved_line, reserved_lines, reserved_words}
use Rattle.unify_texts.specs.WholeReport.{AreTellable, ReportsTellAll, TellsAll, difference_said, differing_in, field_said, kind_said}
use Rattle.unify_texts.specs.Words.{line, shown, which_word}
use Rattle.unify_texts.specs.declared.figures.Figures.{Figures}
use Rattle.unify_texts.proofs.ReportBack.{AreHeld, Reads, figure_rows, held, literal, reads_both, reads_line, rows_are, rows_of}
use Rattle.unify_texts.proofs.ReservedLemmas.{IsWord, are_words, kind_word, literal_reserved, name_back, name_word, said_back, with_kind}

-- a line as its words
abbrev Row : Type 0
Row = List (List ℕ)

-- ---- rows of one form

module _ {X : Type 0} (line_of : X → List ℕ) (row_of : X → Row) (Is : X → Type 0) (reads : (x : X) → Is x → Reads (line_of x) (row_of x ∷ [])) where
  reads_each : (xs : List X) → AllByRecursion Is xs → Reads (flat_map line_of xs) (map row_of xs)
  reads_each [] all = record { read_first = λ rest. refl }
  reads_each (x ∷ xs) all = reads_both (reads x all.0) (reads_each xs all.1)

module _ {X : Type 0} (p : Row → Bool) (row_of : X → Row) where
  all_in : ((x : X) → p (row_of x) ≡ true) → (xs : List X) → filter p (map row_of xs) ≡ map row_of xs
  all_in is [] = refl
  all_in is (x ∷ xs) =
      ap (λ b. cond b (row_of x ∷ filter p (map row_of xs)) (filter p (map row_of xs))) (is x) ∙ ap (λ rows. row_of x ∷ rows) (all_in is xs)

  none_in : ((x : X) → p (row_of x) ≡ false) → (xs : List X) → filter p (map row_of xs) ≡ []
  none_in is [] = refl
  none_in is (x ∷ xs) =
      ap (λ b. cond b (row_of x ∷ filter p (map row_of xs)) (filter p (map row_of xs))) (is x) ∙ none_in is xs

module _ {X Y : Type 0} (said : Row → Option Y) (row_of : X → Row) (value : X → Y) (Is : X → Type 0) (back : (x : X) → Is x → said (row_of x) ≡ Some (value x)) where
  all_said : (xs : List X) → AllByRecursion Is xs → map said (map row_of xs) ≡ map (λ y. Some y) (map value xs)
  all_said [] all = refl
  all_said (x ∷ xs) all =
      ap (λ o. o ∷ map said (map row_of xs)) (back x all.0) ∙ ap (λ os. Some (value x) ∷ os) (all_said xs all.1)

same_items : {X : Type 0} (xs : List X) → map (λ x. x) xs ≡ xs
same_items [] = refl
same_items (x ∷ xs) = ap (λ ys. x ∷ ys) (same_items xs)

-- ---- what is reserved

module _ (kind : Which) where
  abbrev reserved_row : Reserved → Row
  reserved_row r = codes "reserved" ∷ which_word kind ∷ reserved_words r.numbers r.by

  abbrev told_of : Reserved → Told
  told_of r = record { kind = kind; reserved = r }

  reads_reserved : (r : Reserved) → IsTellable r → Reads (reserved_line kind r) (reserved_row r ∷ [])
  reads_reserved r is =
      reads_line (codes "reserved") (which_word kind ∷ reserved_words r.numbers r.by) literal_reserved (kind_word kind, are_words r.numbers r.by is.low is.by)

  reserved_back : (r : Reserved) → IsTellable r → told_by (reserved_row r) ≡ Some (told_of r)
  reserved_back r is =
      with_kind kind (reserved_words r.numbers r.by) ∙ ap (option_map told_of) (said_back r.numbers r.by is.low is.by)

-- ---- what differs

-- the name and the host are such as a line can tell
abbrev IsTold : Difference → Type 0
IsTold d = IsShown d.name × IsShown d.host

abbrev difference_row : Difference → Row
difference_row d = codes "differs" ∷ which_word d.kind ∷ shown d.name ∷ field_word d.field ∷ shown d.host ∷ []

field_is_word : (what : Field) → IsWord (field_word what)
field_is_word field.Password = literal (codes "password") (omega arith) refl refl refl
field_is_word field.Comment = literal (codes "comment") (omega arith) refl refl refl
field_is_word field.Home = literal (codes "home") (omega arith) refl refl refl
field_is_word field.Shell = literal (codes "shell") (omega arith) refl refl refl
field_is_word field.Group = literal (codes "group") (omega arith) refl refl refl

reads_difference : (d : Difference) → IsTold d → Reads (difference_line d) (difference_row d ∷ [])
reads_difference d is =
    reads_line (codes "differs") (which_word d.kind ∷ shown d.name ∷ field_word d.field ∷ shown d.host ∷ []) (literal (codes "differs") (omega arith) refl refl refl)
    (kind_word d.kind, (name_word d.name is.0, (field_is_word d.field, (name_word d.host is.1, tt))))

kind_back : (kind : Which) → kind_said (which_word kind) ≡ Some kind
kind_back User = refl
kind_back Group = refl

field_back : (what : Field) → field_said (field_word what) ≡ Some what
field_back field.Password = refl
field_back field.Comment = refl
field_back field.Home = refl
field_back field.Shell = refl
field_back field.Group = refl

difference_back : (d : Difference) → IsTold d → difference_said (difference_row d) ≡ Some d
difference_back d is =
    ap (λ k. differing_in k (shown d.name) (field_said (field_word d.field)) (shown d.host)) (kind_back d.kind)
    ∙ ap (λ f. differing_in (Some d.kind) (shown d.name) f (shown d.host)) (field_back d.field)
    ∙ ap (λ name. Some (record { kind = d.kind; name = name; field = d.field; host = unescaped (shown d.host) })) (name_back d.name is.0)
    ∙ ap (λ host. Some (record { kind = d.kind; name = d.name; field = d.field; host = host })) (name_back d.host is.1)

in_middle : (before behind : List Host) (host : Host) → AllByRecursion (λ (h : Host). IsShown h.name) (before ++ host ∷ behind) → IsShown host.name
in_middle [] behind host all = all.0
in_middle (h ∷ before) behind host all = in_middle before behind host all.1

module _ (hosts : List Host) (site : Joined) (are : AreTellable hosts site) where
  named : (a : Accounts) → All (λ (x : Account). IsShown x.name) a.names → (name : List ℕ) → IsNamed a name → IsShown name
  named a all name is = All-contains IsShown (map (λ (x : Account). x.name) a.names) name (All-map IsShown (λ (x : Account). x.name) a.names all) is

  -- a host that stands behind another
  later : (before between behind : List Host) (this that : Host) → hosts ≡ before ++ this ∷ (between ++ that ∷ behind) → IsShown that.name
  later before between behind this that order =
      in_middle between behind that (tail_of before (subst (λ hs. AllByRecursion (λ (h : Host). IsShown h.name) hs) order (recursion_from_All (λ (h : Host). IsShown h.name) hosts are.named_hosts)))
    where
      tail_of : (front : List Host) → AllByRecursion (λ (h : Host). IsShown h.name) (front ++ this ∷ (between ++ that ∷ behind)) → AllByRecursion (λ (h : Host). IsShown h.name) (between ++ that ∷ behind)
      tail_of [] all = all.1
      tail_of (h ∷ front) all = tail_of front all.1

  shown_of : (kind : Which) (d : Difference) → Differs kind hosts site d → IsTold d
  shown_of User d is = (
    named site.users are.users d.name is.named,
    subst IsShown (sym is.told) (later is.order.before is.order.between is.order.behind is.first.host is.later.host is.order.order),
  )
  shown_of Group d is = (
    named site.groups are.groups d.name is.named,
    subst IsShown (sym is.told) (later is.order.before is.order.between is.order.behind is.first.host is.later.host is.order.order),
  )

  abbrev told : List Difference
  told = site_differences hosts site

  all_told : AllByRecursion IsTold told
  all_told =
      recursion_from_All IsTold told (All-weaker (Contains told) IsTold (λ d c. shown_of d.kind d ((differences_are_told hosts site d).0 c)) told (All-contains_itself told))

  -- ---- the rows of the report

  abbrev reserved_rows : List Row
  reserved_rows = map (reserved_row User) site.users.reserved ++ map (reserved_row Group) site.groups.reserved

  abbrev end_row : List Row
  end_row = (codes "end" ∷ []) ∷ []

  -- what stands after the figures
  abbrev last_rows : List Row
  last_rows = reserved_rows ++ (map difference_row told ++ end_row)

  reads_end : rows_of (line (codes "end") []) ≡ end_row
  unfolding lines_of pieces words
  reads_end = refl

  reads_last : rows_of (reserved_lines site ++ (flat_map difference_line told ++ line (codes "end") [])) ≡ last_rows
  reads_last =
      let front : Reads (reserved_lines site) reserved_rows =
      reads_both
      (reads_each (reserved_line User) (reserved_row User) IsTellable (reads_reserved User) site.users.reserved (recursion_from_All IsTellable site.users.reserved are.reserved_users))
      (reads_each (reserved_line Group) (reserved_row Group) IsTellable (reads_reserved Group) site.groups.reserved (recursion_from_All IsTellable site.groups.reserved are.reserved_groups)) in
      let back : Reads (flat_map difference_line told) (map difference_row told) = reads_each difference_line difference_row IsTold reads_difference told all_told in
      front.read_first (flat_map difference_line told ++ line (codes "end") [])
      ∙ ap (λ rows. reserved_rows ++ rows) (back.read_first (line (codes "end") []) ∙ ap (λ rows. map difference_row told ++ rows) reads_end)

  -- those of the last rows that begin with a word, by those of each part
  parts : (first : List ℕ) (us gs ds es : List Row) → filter (begins_so first) (map (reserved_row User) site.users.reserved) ≡ us → filter (begins_so first) (map (reserved_row Group) site.groups.reserved) ≡ gs → filter (begins_so first) (map difference_row told) ≡ ds → filter (begins_so first) end_row ≡ es → filter (begins_so first) last_rows ≡ (us ++ gs) ++ (ds ++ es)
  parts first us gs ds es a b c d =
      filter-append (begins_so first) reserved_rows (map difference_row told ++ end_row)
      ∙ ap (λ rows. rows ++ filter (begins_so first) (map difference_row told ++ end_row)) (filter-append (begins_so first) (map (reserved_row User) site.users.reserved) (map (reserved_row Group) site.groups.reserved) ∙ rw (a, b) refl)
      ∙ ap (λ rows. (us ++ gs) ++ rows) (filter-append (begins_so first) (map difference_row told) end_row ∙ rw (c, d) refl)

  differing : filter (begins_so (codes "differs")) last_rows ≡ map difference_row told
  differing =
      parts (codes "differs") [] [] (map difference_row told) []
      (none_in (begins_so (codes "differs")) (reserved_row User) (λ r. refl) site.users.reserved)
      (none_in (begins_so (codes "differs")) (reserved_row Group) (λ r. refl) site.groups.reserved)
      (all_in (begins_so (codes "differs")) difference_row (λ d. refl) told) refl
      ∙ append-nil (map difference_row told)

  reserved : filter (begins_so (codes "reserved")) last_rows ≡ reserved_rows
  reserved =
      parts (codes "reserved") (map (reserved_row User) site.users.reserved) (map (reserved_row Group) site.groups.reserved) [] []
      (all_in (begins_so (codes "reserved")) (reserved_row User) (λ r. refl) site.users.reserved)
      (all_in (begins_so (codes "reserved")) (reserved_row Group) (λ r. refl) site.groups.reserved)
      (none_in (begins_so (codes "reserved")) difference_row (λ d. refl) told) refl
      ∙ append-nil reserved_rows

  reserved_said : map told_by reserved_rows ≡ map (λ t. Some t) (all_reserved site)
  reserved_said =
      map-append told_by (map (reserved_row User) site.users.reserved) (map (reserved_row Group) site.groups.reserved)
      ∙ ap (λ os. os ++ map told_by (map (reserved_row Group) site.groups.reserved)) (all_said told_by (reserved_row User) (told_of User) IsTellable (reserved_back User) site.users.reserved (recursion_from_All IsTellable site.users.reserved are.reserved_users))
      ∙ ap (λ os. map (λ t. Some t) (map (told_of User) site.users.reserved) ++ os) (all_said told_by (reserved_row Group) (told_of Group) IsTellable (reserved_back Group) site.groups.reserved (recursion_from_All IsTellable site.groups.reserved are.reserved_groups))
      ∙ sym (map-append (λ t. Some t) (map (told_of User) site.users.reserved) (map (told_of Group) site.groups.reserved))

  module _ (n : ℕ) (u g : Figures) (few : n < 2 ^ 64) (users : AreHeld u) (groups : AreHeld g) where
    abbrev text : List ℕ
    text = report_lines site n u g told

    rows : rows_of text ≡ figure_rows site n u g told few users groups ++ last_rows
    rows = rows_are site n u g told few users groups ∙ ap (λ more. figure_rows site n u g told few users groups ++ more) reads_last

    -- no line of figures begins so
    tells_all : TellsAll text hosts site
    tells_all = record {
      differing =
          ap (λ all. map difference_said (filter (begins_so (codes "differs")) all)) rows ∙ ap (map difference_said) differing
          ∙ all_said difference_said difference_row (λ d. d) IsTold difference_back told all_told ∙ ap (map (λ d. Some d)) (same_items told);
      reserved =
          ap (λ all. map told_by (filter (begins_so (codes "reserved")) all)) rows ∙ ap (map told_by) reserved ∙ reserved_said;
    }

pub reports_tell_all : ReportsTellAll
reports_tell_all hosts site files m few users groups are =
    tells_all hosts site are (length hosts) (figures_of site.users (by_user files) m.users) (figures_of site.groups (by_group files) m.groups) few
    (held site.users (by_user files) m.users users) (held site.groups (by_group files) m.groups groups)
