-- A line and what it says: the line is spelled as that, and what is so spelled is said.
use Rattle.std.proofs.Common.{◌≡◌, ℕ, ◌<◌, ◌≤◌, ◌^◌, ◌==◌, ◌||◌, not, Bool, true, false, cond, ltb, leb, take, drop, codes, List, [], ◌∷◌, ◌++◌, length, Option, Some, None, refl, sym, ap, ◌∙◌, arith}
use Rattle.std.specs.Char.{digit_value}
use Rattle.std.specs.List.{list_any}
use Rattle.std.specs.Option.{option_and_then}
use Rattle.std.specs.Fmt.{decimal}
use Rattle.std.specs.Str.{bytes_eq}
use Rattle.std.specs.Str.Parse.{digits_value, AllDigits}
use Rattle.std.proofs.lemmas.Bool.{cond-true, and_parts, and_from, le-leb, lt-ltb, ne_eqb, eqb-true}
use Rattle.std.proofs.lemmas.Fmt.{decimal_is_IsNumeral}
use Rattle.std.proofs.lemmas.List.{take-append-drop}
use Rattle.std.proofs.lemmas.List.Folds.{list_any-append}
use Rattle.std.proofs.lemmas.Option.{cond_some, option_and_then_some, same_Some, none-some}
use Rattle.std.proofs.lemmas.Slice.Eq.{bytes_eq-Decides}
use Rattle.hosts_join.specs.declared.Which.{Which}
use Rattle.hosts_join.specs.declared.Which.TheVariants.{User, Group}
use Rattle.idtext.specs.Names.{is_lawful_name, is_separator}
use Rattle.idtext.specs.Pieces.{begins_with}
use Rattle.idtext.specs.Spaces.{cut_at_last_space, cut_here}
use Rattle.certcheck.specs.Certificate.{Row, IsRow}
use Rattle.ownership.specs.Potentials.{IsZ}
use Rattle.certcheck.specs.Reading.{Item, Head, RowItem, ZItem, End, spelled_number, row_of_parts, row_in, z_of_parts, z_in, row_item, z_item, item_of}
use Rattle.certcheck.proofs.Growing.{IsLawfulItem}

-- 1. Numbers

number_spelled : (most : ℕ) (text : List ℕ) (n : ℕ) → spelled_number most text ≡ Some n → decimal n ≡ text
unfolding spelled_number
number_spelled most text n h =
    let both = cond_some _ (digits_value 10 text) n h in
    let same = (bytes_eq-Decides (decimal (digits_value 10 text)) text).0 (and_parts (leb (digits_value 10 text) most) (bytes_eq (decimal (digits_value 10 text)) text) both.0).1 in
    ap decimal (sym both.1) ∙ same

number_read : (most n : ℕ) → n ≤ most → n < 2 ^ 64 → spelled_number most (decimal n) ≡ Some n
unfolding spelled_number
number_read most n less small =
    let value : digits_value 10 (decimal n) ≡ n = (decimal_is_IsNumeral n (omega (arith, small))).1 in
    cond-true _ (Some (digits_value 10 (decimal n))) None (and_from _ _ (le-leb _ _ (omega (arith, value, less))) ((bytes_eq-Decides _ _).1 (ap decimal value))) ∙ ap (λ (k : ℕ). Some k) value

-- digits are no other bytes
digits_other : (b : ℕ) (ds : List ℕ) → 10 ≤ digit_value b → AllDigits 10 ds → list_any (λ d. d == b) ds ≡ false
digits_other b [] other h = refl
digits_other b (d ∷ ds) other h =
    let differ : (d == b) ≡ false = ne_eqb d b (λ e. let same : digit_value d ≡ digit_value b = ap digit_value e in absurd (omega (arith, same, other, h.0))) in
    ap (λ x. x || list_any (λ d. d == b) ds) differ ∙ digits_other b ds other h.1

pub decimal_other : (b n : ℕ) → n < 2 ^ 64 → 10 ≤ digit_value b → list_any (λ d. d == b) (decimal n) ≡ false
decimal_other b n small other = digits_other b (decimal n) other (decimal_is_IsNumeral n (omega (arith, small))).0.1

-- 2. The last space

cut_parts : (b : ℕ) (bytes : List ℕ) (o : Option (List ℕ × List ℕ)) (p : List ℕ × List ℕ) → ((q : List ℕ × List ℕ) → o ≡ Some q → bytes ≡ q.0 ++ 32 ∷ q.1) → cut_here b bytes o ≡ Some p → b ∷ bytes ≡ p.0 ++ 32 ∷ p.1
cut_parts b bytes (Some q) p rest h =
    let same = same_Some (b ∷ q.0, q.1) p h in
    ap (λ bs. b ∷ bs) (rest q refl) ∙ ap (λ (x : List ℕ × List ℕ). x.0 ++ 32 ∷ x.1) same
cut_parts b bytes None p rest h =
    let both = cond_some {A = List ℕ × List ℕ} (b == 32) ([], bytes) p h in
    space b both.0 ∙ ap (λ (x : List ℕ × List ℕ). x.0 ++ 32 ∷ x.1) both.1
  where
    space : (c : ℕ) → (c == 32) ≡ true → c ∷ bytes ≡ 32 ∷ bytes
    space c e = ap (λ d. d ∷ bytes) (eqb-true c 32 e)

cut_says : (text : List ℕ) (p : List ℕ × List ℕ) → cut_at_last_space text ≡ Some p → text ≡ p.0 ++ 32 ∷ p.1
unfolding cut_at_last_space
cut_says [] p h = absurd (none-some p h)
cut_says (b ∷ bytes) p h = cut_parts b bytes (cut_at_last_space bytes) p (λ q e. cut_says bytes q e) h

cut_none : (text : List ℕ) → list_any (λ d. d == 32) text ≡ false → cut_at_last_space text ≡ None
unfolding cut_at_last_space
cut_none [] h = refl
cut_none (b ∷ bytes) h =
    let both = neither (b == 32) (list_any (λ d. d == 32) bytes) h in
    ap (cut_here b bytes) (cut_none bytes both.1) ∙ ap (λ x. cond {A = Option (List ℕ × List ℕ)} x (Some ([], bytes)) None) both.0
  where
    neither : (x y : Bool) → (x || y) ≡ false → (x ≡ false) × (y ≡ false)
    neither true y e = absurd (cc)
    neither false y e = (refl, e)

cut_at : (front back : List ℕ) → list_any (λ d. d == 32) back ≡ false → cut_at_last_space (front ++ 32 ∷ back) ≡ Some (front, back)
unfolding cut_at_last_space
cut_at [] back h = ap (cut_here 32 back) (cut_none back h)
cut_at (b ∷ front) back h = ap (cut_here b (front ++ 32 ∷ back)) (cut_at front back h)

-- 3. Rows and z

abbrev pub row_text : Row → List ℕ
row_text r = (r.name ++ 32 ∷ decimal r.number) ++ 32 ∷ decimal r.y

abbrev pub z_text : ℕ × ℕ → List ℕ
z_text e = decimal e.0 ++ 32 ∷ decimal e.1

row_parts : (name : List ℕ) (v y : Option ℕ) (r : Row) → row_of_parts name v y ≡ Some r → (name ≡ r.name) × (v ≡ Some r.number) × (y ≡ Some r.y)
row_parts name None y r h = absurd (none-some r h)
row_parts name (Some v) None r h = absurd (none-some r h)
row_parts name (Some v) (Some y) r h =
    let both = cond_some (is_lawful_name name) (record { name = name; number = v; y = y }) r h in
    (ap (λ (x : Row). x.name) both.1, ap (λ (x : Row). Some x.number) both.1, ap (λ (x : Row). Some x.y) both.1)

abbrev id_in : List ℕ → Option ℕ
id_in text = spelled_number 4294967294 text

abbrev count_in : List ℕ → Option ℕ
count_in text = spelled_number 18446744073709551615 text

row_says : (text : List ℕ) (r : Row) → row_in text ≡ Some r → text ≡ row_text r
row_says text r h =
    option_and_then_some (λ (p : List ℕ × List ℕ). option_and_then (λ (q : List ℕ × List ℕ). row_of_parts q.0 (id_in q.1) (count_in p.1)) (cut_at_last_space p.0)) (cut_at_last_space text) r h (λ p e g.
    option_and_then_some (λ (q : List ℕ × List ℕ). row_of_parts q.0 (id_in q.1) (count_in p.1)) (cut_at_last_space p.0) r g (λ q f i.
    let parts = row_parts q.0 (id_in q.1) (count_in p.1) r i in
    let front : p.0 ≡ r.name ++ 32 ∷ decimal r.number = cut_says p.0 q f ∙ ap (λ n. n ++ 32 ∷ q.1) parts.0 ∙ ap (λ d. r.name ++ 32 ∷ d) (sym (number_spelled 4294967294 q.1 r.number parts.1)) in
    cut_says text p e ∙ ap (λ n. n ++ 32 ∷ p.1) front ∙ ap (λ d. (r.name ++ 32 ∷ decimal r.number) ++ 32 ∷ d) (sym (number_spelled 18446744073709551615 p.1 r.y parts.2))))

row_reads : (r : Row) → IsRow r → row_in (row_text r) ≡ Some r
row_reads r ok =
    let number : r.number < 2 ^ 64 = (let id = ok.number in omega (arith, id)) in
    let last = cut_at (r.name ++ 32 ∷ decimal r.number) (decimal r.y) (decimal_other 32 r.y ok.y (omega arith)) in
    let before = cut_at r.name (decimal r.number) (decimal_other 32 r.number number (omega arith)) in
    let most : r.y ≤ 18446744073709551615 = (let fits = ok.y in omega (arith, fits)) in
    ap (option_and_then (λ (p : List ℕ × List ℕ). option_and_then (λ (q : List ℕ × List ℕ). row_of_parts q.0 (id_in q.1) (count_in p.1)) (cut_at_last_space p.0))) last
    ∙ ap (option_and_then (λ (q : List ℕ × List ℕ). row_of_parts q.0 (id_in q.1) (count_in (decimal r.y)))) before
    ∙ ap (λ o. row_of_parts r.name o (count_in (decimal r.y))) (number_read 4294967294 r.number ok.number number)
    ∙ ap (λ o. row_of_parts r.name (Some r.number) o) (number_read 18446744073709551615 r.y most ok.y)
    ∙ cond-true (is_lawful_name r.name) (Some (record { name = r.name; number = r.number; y = r.y })) None ok.lawful

z_parts : (v z : Option ℕ) (e : ℕ × ℕ) → z_of_parts v z ≡ Some e → (v ≡ Some e.0) × (z ≡ Some e.1)
z_parts None z e h = absurd (none-some e h)
z_parts (Some v) None e h = absurd (none-some e h)
z_parts (Some v) (Some z) e h =
    let both = cond_some (ltb 0 z) (v, z) e h in
    (ap (λ (x : ℕ × ℕ). Some x.0) both.1, ap (λ (x : ℕ × ℕ). Some x.1) both.1)

z_says : (text : List ℕ) (e : ℕ × ℕ) → z_in text ≡ Some e → text ≡ z_text e
z_says text e h =
    option_and_then_some (λ (p : List ℕ × List ℕ). z_of_parts (id_in p.0) (count_in p.1)) (cut_at_last_space text) e h (λ p f g.
    let parts = z_parts (id_in p.0) (count_in p.1) e g in
    cut_says text p f ∙ ap (λ n. n ++ 32 ∷ p.1) (sym (number_spelled 4294967294 p.0 e.0 parts.0)) ∙ ap (λ d. decimal e.0 ++ 32 ∷ d) (sym (number_spelled 18446744073709551615 p.1 e.1 parts.1)))

z_reads : (e : ℕ × ℕ) → IsZ e → z_in (z_text e) ≡ Some e
z_reads e ok =
    let number : e.0 < 2 ^ 64 = (let id = ok.number in omega (arith, id)) in
    let most : e.1 ≤ 18446744073709551615 = (let fits = ok.fits in omega (arith, fits)) in
    let cut = cut_at (decimal e.0) (decimal e.1) (decimal_other 32 e.1 ok.fits (omega arith)) in
    ap (option_and_then (λ (p : List ℕ × List ℕ). z_of_parts (id_in p.0) (count_in p.1))) cut
    ∙ ap (λ o. z_of_parts o (count_in (decimal e.1))) (number_read 4294967294 e.0 ok.number number)
    ∙ ap (λ o. z_of_parts (Some e.0) o) (number_read 18446744073709551615 e.1 most ok.fits)
    ∙ cond-true (ltb 0 e.1) (Some (e.0, e.1)) None (lt-ltb 0 e.1 (let some = ok.positive in omega (arith, some)))

-- 4. Lines

abbrev pub item_line : Item → List ℕ
item_line Head = codes "unify certificate 2"
item_line (RowItem User r) = codes "user " ++ row_text r
item_line (RowItem Group r) = codes "group " ++ row_text r
item_line (ZItem User e) = codes "zuser " ++ z_text e
item_line (ZItem Group e) = codes "zgroup " ++ z_text e
item_line End = codes "end"

word_and_rest : (word line : List ℕ) → begins_with word line ≡ true → line ≡ word ++ drop (length word) line
word_and_rest word line h = sym (take-append-drop (length word) line) ∙ ap (λ w. w ++ drop (length word) line) ((bytes_eq-Decides (take (length word) line) word).0 h)

choice : (R : Type 0) (b : Bool) (x y : Option Item) (i : Item) → cond b x y ≡ Some i → (b ≡ true → x ≡ Some i → R) → (y ≡ Some i → R) → R
choice R true x y i h one two = one refl h
choice R false x y i h one two = two h

said_row : (k : Which) (o : Option Row) (i : Item) (line : List ℕ) → row_item k o ≡ Some i → ((r : Row) → o ≡ Some r → line ≡ item_line (RowItem k r)) → line ≡ item_line i
said_row k None i line h is = absurd (none-some i h)
said_row k (Some r) i line h is = is r refl ∙ ap item_line (same_Some (RowItem k r) i h)

said_z : (k : Which) (o : Option (ℕ × ℕ)) (i : Item) (line : List ℕ) → z_item k o ≡ Some i → ((e : ℕ × ℕ) → o ≡ Some e → line ≡ item_line (ZItem k e)) → line ≡ item_line i
said_z k None i line h is = absurd (none-some i h)
said_z k (Some e) i line h is = is e refl ∙ ap item_line (same_Some (ZItem k e) i h)

pub line_says : (line : List ℕ) (i : Item) → item_of line ≡ Some i → line ≡ item_line i
unfolding item_of
line_says line i h =
    let R : Type 0 = line ≡ item_line i in
    let t6 = cond (begins_with (codes "zgroup ") line) (z_item Group (z_in (drop 7 line))) None in
    let t5 = cond (begins_with (codes "group ") line) (row_item Group (row_in (drop 6 line))) t6 in
    let t4 = cond (begins_with (codes "zuser ") line) (z_item User (z_in (drop 6 line))) t5 in
    let t3 = cond (begins_with (codes "user ") line) (row_item User (row_in (drop 5 line))) t4 in
    let t2 = cond (bytes_eq line (codes "end")) (Some End) t3 in
    choice R (bytes_eq line (codes "unify certificate 2")) (Some Head) t2 i h (λ b e. (bytes_eq-Decides line (codes "unify certificate 2")).0 b ∙ ap item_line (same_Some Head i e)) (λ g.
    choice R (bytes_eq line (codes "end")) (Some End) t3 i g (λ b e. (bytes_eq-Decides line (codes "end")).0 b ∙ ap item_line (same_Some End i e)) (λ f.
    choice R (begins_with (codes "user ") line) (row_item User (row_in (drop 5 line))) t4 i f (λ b e. said_row User _ i line e (λ r o. word_and_rest (codes "user ") line b ∙ ap (λ t. codes "user " ++ t) (row_says (drop 5 line) r o))) (λ d.
    choice R (begins_with (codes "zuser ") line) (z_item User (z_in (drop 6 line))) t5 i d (λ b e. said_z User _ i line e (λ r o. word_and_rest (codes "zuser ") line b ∙ ap (λ t. codes "zuser " ++ t) (z_says (drop 6 line) r o))) (λ c.
    choice R (begins_with (codes "group ") line) (row_item Group (row_in (drop 6 line))) t6 i c (λ b e. said_row Group _ i line e (λ r o. word_and_rest (codes "group ") line b ∙ ap (λ t. codes "group " ++ t) (row_says (drop 6 line) r o))) (λ a.
    choice R (begins_with (codes "zgroup ") line) (z_item Group (z_in (drop 7 line))) None i a (λ b e. said_z Group _ i line e (λ r o. word_and_rest (codes "zgroup ") line b ∙ ap (λ t. codes "zgroup " ++ t) (z_says (drop 7 line) r o))) (λ z. absurd (none-some i z)))))))

pub line_reads : (i : Item) → IsLawfulItem i → item_of (item_line i) ≡ Some i
unfolding item_of
line_reads Head ok = refl
line_reads (RowItem User r) ok = ap (row_item User) (row_reads r ok)
line_reads (RowItem Group r) ok = ap (row_item Group) (row_reads r ok)
line_reads (ZItem User e) ok = ap (z_item User) (z_reads e ok)
line_reads (ZItem Group e) ok = ap (z_item Group) (z_reads e ok)
line_reads End ok = refl

-- 5. No newline stands in a line

none_of_both : (xs ys : List ℕ) → list_any (λ b. b == 10) xs ≡ false → list_any (λ b. b == 10) ys ≡ false → list_any (λ b. b == 10) (xs ++ ys) ≡ false
none_of_both xs ys one two = list_any-append (λ b. b == 10) xs ys ∙ ap (λ x. x || list_any (λ b. b == 10) ys) one ∙ two

name_plain : (name : List ℕ) → list_any is_separator name ≡ false → list_any (λ b. b == 10) name ≡ false
name_plain [] h = refl
name_plain (b ∷ bs) h =
    let both = split (is_separator b) (list_any is_separator bs) h in
    ap (λ x. x || list_any (λ b. b == 10) bs) (third (b == 44) (b == 58) (b == 10) (b == 0) both.0) ∙ name_plain bs both.1
  where
    split : (x y : Bool) → (x || y) ≡ false → (x ≡ false) × (y ≡ false)
    split true y e = absurd (cc)
    split false y e = (refl, e)

    third : (x y z w : Bool) → (x || y || z || w) ≡ false → z ≡ false
    third true y z w e = absurd (cc)
    third false true z w e = absurd (cc)
    third false false true w e = absurd (cc)
    third false false false w e = refl

denied : (b : Bool) → not b ≡ true → b ≡ false
denied true h = absurd (cc)
denied false h = refl

row_plain : (r : Row) → IsRow r → list_any (λ b. b == 10) (row_text r) ≡ false
row_plain r ok =
    let number : r.number < 2 ^ 64 = (let id = ok.number in omega (arith, id)) in
    let lawful = denied (list_any is_separator r.name) (and_parts _ (not (list_any is_separator r.name)) ok.lawful).1 in
    none_of_both (r.name ++ 32 ∷ decimal r.number) (32 ∷ decimal r.y) (none_of_both r.name (32 ∷ decimal r.number) (name_plain r.name lawful) (decimal_other 10 r.number number (omega arith))) (decimal_other 10 r.y ok.y (omega arith))

z_plain : (e : ℕ × ℕ) → IsZ e → list_any (λ b. b == 10) (z_text e) ≡ false
z_plain e ok =
    let number : e.0 < 2 ^ 64 = (let id = ok.number in omega (arith, id)) in
    none_of_both (decimal e.0) (32 ∷ decimal e.1) (decimal_other 10 e.0 number (omega arith)) (decimal_other 10 e.1 ok.fits (omega arith))

pub line_plain : (i : Item) → IsLawfulItem i → list_any (λ b. b == 10) (item_line i) ≡ false
line_plain Head ok = refl
line_plain (RowItem User r) ok = none_of_both (codes "user ") (row_text r) refl (row_plain r ok)
line_plain (RowItem Group r) ok = none_of_both (codes "group ") (row_text r) refl (row_plain r ok)
line_plain (ZItem User e) ok = none_of_both (codes "zuser ") (z_text e) refl (z_plain e ok)
line_plain (ZItem Group e) ok = none_of_both (codes "zgroup ") (z_text e) refl (z_plain e ok)
line_plain End ok = refl
