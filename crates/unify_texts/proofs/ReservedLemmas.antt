-- The lines of what is reserved are read back.
use Rattle.std.proofs.Common.{◌≡◌, ℕ, ◌+◌, ◌/◌, ◌%◌, ◌<◌, ◌≤◌, ◌==◌, ◌&&◌, not, Bool, true, false, cond, List, [], ◌∷◌, ◌++◌, length, map, flat_map, decimal, Option, Some, refl, sym, ap, ◌∙◌, append_assoc, append-nil, arith}
use Rattle.std.specs.Prelude.{nat_le, option_map, filter, codes}
use Rattle.std.specs.List.{AllByRecursion, slice_split}
use Rattle.std.proofs.lemmas.Bool.{and_parts, leb-true, ne_eqb}
use Rattle.std.proofs.lemmas.Fmt.{decimal_nonempty}
use Rattle.std.proofs.lemmas.List.{map-append}
use Rattle.std.proofs.lemmas.List.Elements.{All-from_recursion, recursion_from_All}
use Rattle.std.proofs.lemmas.List.Splits.{slice_split_at, slice_split_none}
use Rattle.idtext.specs.Escapes.{escape, escaped, is_plain, unescaped}
use Rattle.idtext.specs.Numbers.{greatest_id, id_of}
use Rattle.idtext.specs.Pieces.{lines as lines_of}
use Rattle.idtext.specs.Words.{is_filled, is_white, words}
use Rattle.idtext.proofs.EscapeLemmas.{escape-other, escape-plain, escaped-back}
use Rattle.idtext.proofs.NumberLemmas.{decimal-back}
use Rattle.idtext.proofs.PieceLemmas.{lines-empty}
use Rattle.hosts_join.specs.declared.Which.{Which}
use Rattle.hosts_join.specs.declared.Which.TheVariants.{User, Group}
use Rattle.hosts_join.specs.declared.reserving.Reserved.{Reserved}
use Rattle.hosts_join.specs.declared.reserving.Reserver.{Reserver}
use Rattle.hosts_join.specs.declared.reserving.Reserver.TheVariants as by
use Rattle.logindefs.specs.declared.ranges.IdRange.{IdRange}
use Rattle.unify_texts.specs.ReservedLines.{reserved_line, reserved_words}
use Rattle.unify_texts.specs.ReservedBack.{IsShown, IsTellable, IsToldBy, ReservedLinesReadBack, Told, one_number, range_between, reserved_said, told_by}
use Rattle.unify_texts.specs.Words.{shown, spaced, which_word}
use Rattle.unify_texts.proofs.MapBack.{Lacks, decimal-lacks, lacks-append, one_line}

-- ---- words

-- a word of a line: not empty, and without a byte that ends it
pub record IsWord (word : List ℕ) : Type 0 where
  pub some : 0 < length word
  pub no_space : Lacks 32 word
  pub no_tab : Lacks 9 word
  pub no_end : Lacks 10 word

black : (word : List ℕ) → Lacks 32 word → Lacks 9 word → AllByRecursion (λ b. is_white b ≡ false) word
black [] no_space no_tab = tt
black (b ∷ bs) no_space no_tab = (rw (no_space.0, no_tab.0) refl, black bs no_space.1 no_tab.1)

filled : (word : List ℕ) → 0 < length word → is_filled word ≡ true
filled [] some = absurd (omega (arith, some))
filled (b ∷ bs) some = refl

pub words_spaced : (word : List ℕ) (others : List (List ℕ)) → IsWord word → AllByRecursion IsWord others → words (word ++ spaced others) ≡ word ∷ others
unfolding words
words_spaced word [] is all =
    ap (λ text. filter is_filled (slice_split is_white text)) (append-nil word)
    ∙ ap (filter is_filled) (slice_split_none is_white word (All-from_recursion (λ b. is_white b ≡ false) word (black word is.no_space is.no_tab)))
    ∙ ap (λ t. cond t (word ∷ []) []) (filled word is.some)
words_spaced word (next ∷ others) is all =
    let rest : List (List ℕ) = filter is_filled (slice_split is_white (next ++ spaced others)) in
    ap (filter is_filled) (slice_split_at is_white word 32 (next ++ spaced others) (All-from_recursion (λ b. is_white b ≡ false) word (black word is.no_space is.no_tab)) refl)
    ∙ ap (λ t. cond t (word ∷ rest) rest) (filled word is.some)
    ∙ ap (λ ws. word ∷ ws) (words_spaced next others all.0 all.1)

pub spaced_lacks : (words : List (List ℕ)) → AllByRecursion IsWord words → Lacks 10 (spaced words)
spaced_lacks [] all = tt
spaced_lacks (word ∷ words) all = (refl, lacks-append 10 word (spaced words) all.0.no_end (spaced_lacks words all.1))

-- ---- what is written

number_word : (n : ℕ) → n ≤ greatest_id → IsWord (decimal n)
number_word n small = record {
  some = decimal_nonempty n (omega (arith, small));
  no_space = decimal-lacks 32 n (omega arith) small;
  no_tab = decimal-lacks 9 n (omega arith) small;
  no_end = decimal-lacks 10 n (omega arith) small;
}

pub kind_word : (kind : Which) → IsWord (which_word kind)
kind_word User = record { some = omega arith; no_space = (refl, (refl, (refl, (refl, tt)))); no_tab = (refl, (refl, (refl, (refl, tt)))); no_end = (refl, (refl, (refl, (refl, tt)))) }
kind_word Group = record { some = omega arith; no_space = (refl, (refl, (refl, (refl, (refl, tt))))); no_tab = (refl, (refl, (refl, (refl, (refl, tt))))); no_end = (refl, (refl, (refl, (refl, (refl, tt))))) }

escape_lacks : (c b : ℕ) (plain : Bool) → c < 33 → is_plain b ≡ plain → Lacks c (escape b)
escape_lacks c b true low is =
    let large : 33 ≤ b = leb-true 33 b (and_parts (nat_le 33 b) (nat_le b 126) (and_parts (nat_le 33 b && nat_le b 126) (not (b == 92)) is).0).0 in
    rw (← escape-plain b is) (ne_eqb b c (λ e. omega (arith, e, large, low)), tt)
escape_lacks c b false low is =
    rw (escape-other b is) (
      ne_eqb 92 c (λ e. omega (arith, e, low)),
      (ne_eqb (48 + b / 64) c (λ e. omega (arith, e, low)), (ne_eqb (48 + b / 8 % 8) c (λ e. omega (arith, e, low)), (ne_eqb (48 + b % 8) c (λ e. omega (arith, e, low)), tt))),
    )

escaped_lacks : (c : ℕ) (bytes : List ℕ) → c < 33 → Lacks c (escaped bytes)
escaped_lacks c [] low = tt
escaped_lacks c (b ∷ bytes) low = lacks-append c (escape b) (escaped bytes) (escape_lacks c b (is_plain b) low refl) (escaped_lacks c bytes low)

escape_some : (b : ℕ) (rest : List ℕ) (plain : Bool) → is_plain b ≡ plain → 0 < length (escape b ++ rest)
escape_some b rest true is = rw (← escape-plain b is) (omega arith)
escape_some b rest false is = rw (escape-other b is) (omega arith)

pub name_word : (name : List ℕ) → IsShown name → IsWord (shown name)
name_word [] is = absurd (omega (arith, is.some))
name_word (b ∷ name) is = record {
  some = escape_some b (escaped name) (is_plain b) refl;
  no_space = escaped_lacks 32 (b ∷ name) (omega arith);
  no_tab = escaped_lacks 9 (b ∷ name) (omega arith);
  no_end = escaped_lacks 10 (b ∷ name) (omega arith);
}

pub name_back : (name : List ℕ) → IsShown name → unescaped (shown name) ≡ name
name_back [] is = absurd (omega (arith, is.some))
name_back (b ∷ name) is = (escaped-back (b ∷ name) is.bytes).0

-- ---- who reserves

literal_range : IsWord (codes "range")
literal_range = record { some = omega arith; no_space = (refl, (refl, (refl, (refl, (refl, tt))))); no_tab = (refl, (refl, (refl, (refl, (refl, tt))))); no_end = (refl, (refl, (refl, (refl, (refl, tt))))) }

literal_name : IsWord (codes "name")
literal_name = record { some = omega arith; no_space = (refl, (refl, (refl, (refl, tt)))); no_tab = (refl, (refl, (refl, (refl, tt)))); no_end = (refl, (refl, (refl, (refl, tt)))) }

literal_unowned : IsWord (codes "unowned")
literal_unowned = record { some = omega arith; no_space = (refl, (refl, (refl, (refl, (refl, (refl, (refl, tt))))))); no_tab = (refl, (refl, (refl, (refl, (refl, (refl, (refl, tt))))))); no_end = (refl, (refl, (refl, (refl, (refl, (refl, (refl, tt))))))) }

pub literal_reserved : IsWord (codes "reserved")
literal_reserved = record { some = omega arith; no_space = (refl, (refl, (refl, (refl, (refl, (refl, (refl, (refl, tt)))))))); no_tab = (refl, (refl, (refl, (refl, (refl, (refl, (refl, (refl, tt)))))))); no_end = (refl, (refl, (refl, (refl, (refl, (refl, (refl, (refl, tt)))))))) }

pub are_words : (numbers : IdRange) (who : Reserver) → numbers.low ≤ greatest_id → IsToldBy numbers who → AllByRecursion IsWord (reserved_words numbers who)
are_words numbers by.Range low is = (literal_range, (number_word numbers.low low, (number_word numbers.high is, tt)))
are_words numbers (by.Name host name) low is = (literal_name, (name_word host is.1, (name_word name is.2, (number_word numbers.low low, tt))))
are_words numbers (by.Unowned host) low is = (literal_unowned, (name_word host is.1, (number_word numbers.low low, tt)))

pub said_back : (numbers : IdRange) (who : Reserver) → numbers.low ≤ greatest_id → IsToldBy numbers who → reserved_said (reserved_words numbers who) ≡ Some (record { numbers = numbers; by = who })
said_back numbers by.Range low is =
    ap (λ n. range_between n (id_of (decimal numbers.high))) (decimal-back numbers.low low)
    ∙ ap (range_between (Some numbers.low)) (decimal-back numbers.high is)
said_back numbers (by.Name host name) low is =
    ap (option_map (one_number (by.Name (unescaped (shown host)) (unescaped (shown name))))) (decimal-back numbers.low low)
    ∙ ap (λ h. Some (one_number (by.Name h (unescaped (shown name))) numbers.low)) (name_back host is.1)
    ∙ ap (λ n. Some (one_number (by.Name host n) numbers.low)) (name_back name is.2)
    ∙ ap (λ high. Some (record { numbers = record { low = numbers.low; high = high }; by = by.Name host name })) (sym is.0)
said_back numbers (by.Unowned host) low is =
    ap (option_map (one_number (by.Unowned (unescaped (shown host))))) (decimal-back numbers.low low)
    ∙ ap (λ h. Some (one_number (by.Unowned h) numbers.low)) (name_back host is.1)
    ∙ ap (λ high. Some (record { numbers = record { low = numbers.low; high = high }; by = by.Unowned host })) (sym is.0)

-- ---- lines

-- a line without its newline
abbrev bare : Which → Reserved → List ℕ
bare kind r = codes "reserved" ++ spaced (which_word kind ∷ reserved_words r.numbers r.by)

line_is : (kind : Which) (r : Reserved) → reserved_line kind r ≡ bare kind r ++ 10 ∷ []
line_is kind r = sym (append_assoc (codes "reserved") (spaced (which_word kind ∷ reserved_words r.numbers r.by)) (10 ∷ []))

pub with_kind : (kind : Which) (others : List (List ℕ)) → told_by (codes "reserved" ∷ which_word kind ∷ others) ≡ option_map (λ r. record { kind = kind; reserved = r }) (reserved_said others)
with_kind User others = refl
with_kind Group others = refl

module _ (kind : Which) where
  abbrev told : Reserved → Told
  told r = record { kind = kind; reserved = r }

  abbrev reads : List ℕ → Option Told
  reads text = told_by (words text)

  line_back : (r : Reserved) → IsTellable r → reads (bare kind r) ≡ Some (told r)
  line_back r is =
      ap told_by (words_spaced (codes "reserved") (which_word kind ∷ reserved_words r.numbers r.by) literal_reserved (kind_word kind, are_words r.numbers r.by is.low is.by))
      ∙ with_kind kind (reserved_words r.numbers r.by)
      ∙ ap (option_map told) (said_back r.numbers r.by is.low is.by)

  bare_lacks : (r : Reserved) → IsTellable r → Lacks 10 (bare kind r)
  bare_lacks r is = lacks-append 10 (codes "reserved") (spaced (which_word kind ∷ reserved_words r.numbers r.by)) literal_reserved.no_end (spaced_lacks (which_word kind ∷ reserved_words r.numbers r.by) (kind_word kind, are_words r.numbers r.by is.low is.by))

  -- the lines of one kind, and what stands after them
  lines_back : (rs : List Reserved) (rest : List ℕ) → AllByRecursion IsTellable rs → map reads (lines_of (flat_map (reserved_line kind) rs ++ rest)) ≡ map (λ t. Some t) (map told rs) ++ map reads (lines_of rest)
  lines_back [] rest all = refl
  lines_back (r ∷ rs) rest all =
      let more = flat_map (reserved_line kind) rs in
      ap (λ l. map reads (lines_of ((l ++ more) ++ rest))) (line_is kind r)
      ∙ ap (λ text. map reads (lines_of text)) (append_assoc (bare kind r ++ 10 ∷ []) more rest ∙ append_assoc (bare kind r) (10 ∷ []) (more ++ rest))
      ∙ ap (map reads) (one_line (bare kind r) (more ++ rest) (bare_lacks r all.0))
      ∙ ap (λ first. first ∷ map reads (lines_of (more ++ rest))) (line_back r all.0)
      ∙ ap (λ others. Some (told r) ∷ others) (lines_back rs rest all.1)

pub reserved_lines_read : ReservedLinesReadBack
reserved_lines_read site users groups =
    let us = site.users.reserved in
    let gs = site.groups.reserved in
    let group_lines = flat_map (reserved_line Group) gs in
    lines_back User us group_lines (recursion_from_All IsTellable us users)
    ∙ ap (λ ts. map (λ t. Some t) (map (told User) us) ++ ts) (
    ap (λ text. map (reads Group) (lines_of text)) (sym (append-nil group_lines))
    ∙ lines_back Group gs [] (recursion_from_All IsTellable gs groups)
    ∙ ap (λ ls. map (λ t. Some t) (map (told Group) gs) ++ map (reads Group) ls) lines-empty
    ∙ append-nil (map (λ t. Some t) (map (told Group) gs)))
    ∙ sym (map-append (λ t. Some t) (map (told User) us) (map (told Group) gs))
