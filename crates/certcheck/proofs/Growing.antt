-- Lines without a fault give rows and z that ascend.
use Rattle.std.proofs.Common.{◌≡◌, ℕ, ◌<◌, ◌≤◌, Bool, true, false, cond, eqb, ltb, leb, drop, codes, append-nil, append_assoc, List, [], ◌∷◌, ◌++◌, length, get_or, Option, Some, None, refl, sym, ap, ◌∙◌, ⊎_elim, ◌⊎◌, inl, inr, arith, subst}
use Rattle.std.specs.declared.cmp.Ordering.{Ordering}
use Rattle.std.specs.declared.cmp.Ordering.TheVariants.{Less, Equal, Greater}
use Rattle.std.specs.Ordering.{nat_cmp, is_lt}
use Rattle.std.specs.Cmp.Lexicographic.{slice_cmp}
use Rattle.std.specs.List.{All}
use Rattle.std.proofs.lemmas.List.{get_or_append_left, get_or_push, length_push}
use Rattle.std.proofs.lemmas.Bool.{cases_Bool, cases_lt, cond-true, cond-false, eqb-true, eq-eqb, ne_eqb, ltb-true, lt-ltb, leb-true, and_parts, false≢true}
use Rattle.std.proofs.lemmas.List.Elements.{All-weaker, All-push, All-nil}
use Rattle.std.specs.List.{flat_map}
use Rattle.std.proofs.lemmas.List.Concat.{flat_map-append}
use Rattle.idtext.specs.First.{first_fault}
use Rattle.certcheck.proofs.Least.{none_both}
use Rattle.hosts_join.specs.declared.Which.{Which}
use Rattle.hosts_join.specs.declared.Which.TheVariants.{User, Group}
use Rattle.certcheck.specs.Certificate.{Row, AreAscending, ComesBefore, IsRow, Side, IsSide}
use Rattle.ownership.specs.Potentials.{AscendsByNumber, IsZ}
use Rattle.std.specs.Fmt.{decimal}
use Rattle.std.specs.Str.{bytes_eq}
use Rattle.std.specs.Str.Parse.{digits_value}
use Rattle.std.specs.Option.{option_and_then}
use Rattle.std.proofs.lemmas.Option.{cond_some, option_and_then_some, same_Some, none-some}
use Rattle.idtext.specs.Pieces.{begins_with}
use Rattle.idtext.specs.Names.{is_lawful_name}
use Rattle.idtext.specs.Spaces.{cut_at_last_space}
use Rattle.certcheck.specs.Reading.{Item, Head, RowItem, ZItem, End, rank, ascends, may_follow, spelled_number, row_of_parts, row_in, z_of_parts, z_in, row_item, z_item, item_of, rows_in, all_z_in, side_in, last_line, item_before, line_fault}
use Rattle.certcheck.proofs.Order.{before_trans}

less_is : (o : Ordering) → is_lt o ≡ true → o ≡ Less
less_is Less h = refl
less_is Equal h = absurd (false≢true h)
less_is Greater h = absurd (false≢true h)

-- what it means to stand after an item
pub follows_says : (b i : Item) → may_follow (Some b) (Some i) ≡ true → (rank b < rank i) ⊎ ((rank b ≡ rank i) × (ascends b i ≡ true))
follows_says b i h =
    ⊎_elim
    (λ (e : eqb (rank b) (rank i) ≡ true). inr (eqb-true _ _ e, sym (cond-true _ (ascends b i) (ltb (rank b) (rank i)) e) ∙ h))
    (λ (e : eqb (rank b) (rank i) ≡ false). inl (ltb-true _ _ (sym (cond-false _ (ascends b i) (ltb (rank b) (rank i)) e) ∙ h)))
    (cases_Bool (eqb (rank b) (rank i)))

pub follows_above : (b i : Item) → rank b < rank i → may_follow (Some b) (Some i) ≡ true
follows_above b i l = cond-false _ (ascends b i) (ltb (rank b) (rank i)) (ne_eqb _ _ (λ e. absurd (omega (arith, e, l)))) ∙ lt-ltb _ _ l

pub follows_level : (b i : Item) → rank b ≡ rank i → ascends b i ≡ true → may_follow (Some b) (Some i) ≡ true
follows_level b i e h = cond-true _ (ascends b i) (ltb (rank b) (rank i)) (eq-eqb _ _ e) ∙ h

ascends_trans : (b i j : Item) → ascends b i ≡ true → ascends i j ≡ true → ascends b j ≡ true
ascends_trans (RowItem k r) (RowItem l q) (RowItem m p) h g = ap is_lt (before_trans r.name q.name p.name (less_is (slice_cmp nat_cmp r.name q.name) h) (less_is (slice_cmp nat_cmp q.name p.name) g))
ascends_trans (ZItem k e) (ZItem l f) (ZItem m d) h g = lt-ltb e.0 d.0 (let one = ltb-true e.0 f.0 h in let two = ltb-true f.0 d.0 g in omega (arith, one, two))
ascends_trans (RowItem k r) (RowItem l q) Head h g = absurd (false≢true g)
ascends_trans (RowItem k r) (RowItem l q) (ZItem m d) h g = absurd (false≢true g)
ascends_trans (RowItem k r) (RowItem l q) End h g = absurd (false≢true g)
ascends_trans (ZItem k e) (ZItem l f) Head h g = absurd (false≢true g)
ascends_trans (ZItem k e) (ZItem l f) (RowItem m p) h g = absurd (false≢true g)
ascends_trans (ZItem k e) (ZItem l f) End h g = absurd (false≢true g)
ascends_trans (RowItem k r) Head j h g = absurd (false≢true h)
ascends_trans (RowItem k r) (ZItem l f) j h g = absurd (false≢true h)
ascends_trans (RowItem k r) End j h g = absurd (false≢true h)
ascends_trans (ZItem k e) Head j h g = absurd (false≢true h)
ascends_trans (ZItem k e) (RowItem l q) j h g = absurd (false≢true h)
ascends_trans (ZItem k e) End j h g = absurd (false≢true h)
ascends_trans Head i j h g = absurd (false≢true h)
ascends_trans End i j h g = absurd (false≢true h)

pub follows_trans : (b i j : Item) → may_follow (Some b) (Some i) ≡ true → may_follow (Some i) (Some j) ≡ true → may_follow (Some b) (Some j) ≡ true
follows_trans b i j h g =
    ⊎_elim
    (λ (l : rank b < rank i). follows_above b j (⊎_elim (λ (m : rank i < rank j). omega (arith, l, m)) (λ (e : (rank i ≡ rank j) × (ascends i j ≡ true)). omega (arith, l, e.0)) (follows_says i j g)))
    (λ (e : (rank b ≡ rank i) × (ascends b i ≡ true)).
    ⊎_elim
    (λ (m : rank i < rank j). follows_above b j (omega (arith, m, e.0)))
    (λ (f : (rank i ≡ rank j) × (ascends i j ≡ true)). follows_level b j (e.0 ∙ f.0) (ascends_trans b i j e.1 f.1))
    (follows_says i j g))
    (follows_says b i h)

-- whatever row of the kind may follow comes after this one
abbrev pub RowBefore : Which → Option Item → Row → Type 0
RowBefore k None r = ⊥
RowBefore k (Some b) r = (q : Row) → may_follow (Some b) (Some (RowItem k q)) ≡ true → ComesBefore r.name q.name

abbrev pub ZBefore : Which → Option Item → ℕ × ℕ → Type 0
ZBefore k None e = ⊥
ZBefore k (Some b) e = (f : ℕ × ℕ) → may_follow (Some b) (Some (ZItem k f)) ≡ true → e.0 < f.0

pub row_stays : (k : Which) (b : Option Item) (i : Item) (r : Row) → may_follow b (Some i) ≡ true → RowBefore k b r → RowBefore k (Some i) r
row_stays k None i r h was = absurd was
row_stays k (Some b) i r h was = λ q g. was q (follows_trans b i (RowItem k q) h g)

pub z_stays : (k : Which) (b : Option Item) (i : Item) (e : ℕ × ℕ) → may_follow b (Some i) ≡ true → ZBefore k b e → ZBefore k (Some i) e
z_stays k None i e h was = absurd was
z_stays k (Some b) i e h was = λ f g. was f (follows_trans b i (ZItem k f) h g)

-- one more row
pub row_is_before : (k : Which) (b : Option Item) (r q : Row) → may_follow b (Some (RowItem k q)) ≡ true → RowBefore k b r → ComesBefore r.name q.name
row_is_before k None r q h was = absurd was
row_is_before k (Some b) r q h was = was q h

pub row_itself : (k : Which) (q : Row) → RowBefore k (Some (RowItem k q)) q
row_itself User q = λ p g. less_is (slice_cmp nat_cmp q.name p.name) g
row_itself Group q = λ p g. less_is (slice_cmp nat_cmp q.name p.name) g

pub z_is_before : (k : Which) (b : Option Item) (e f : ℕ × ℕ) → may_follow b (Some (ZItem k f)) ≡ true → ZBefore k b e → e.0 < f.0
z_is_before k None e f h was = absurd was
z_is_before k (Some b) e f h was = was f h

pub z_itself : (k : Which) (f : ℕ × ℕ) → ZBefore k (Some (ZItem k f)) f
z_itself User f = λ d g. ltb-true f.0 d.0 g
z_itself Group f = λ d g. ltb-true f.0 d.0 g

pub rows_push : (rows : List Row) (q : Row) → AreAscending rows → All (λ r. ComesBefore r.name q.name) rows → AreAscending (rows ++ q ∷ [])
rows_push rows q up before i j d l m =
    ⊎_elim
    (λ (low : j < length rows).
    let first = get_or_append_left rows (q ∷ []) d i (omega (arith, l, low)) in
    let last = get_or_append_left rows (q ∷ []) d j low in
    let P : Row → Type 0 = λ r. ComesBefore r.name (get_or (rows ++ q ∷ []) j d).name in
    let Q : Row → Type 0 = λ r. ComesBefore (get_or rows i d).name r.name in
    subst P (sym first) (subst Q (sym last) (up i j d l low)))
    (λ (high : length rows ≤ j).
    let at : length rows ≡ j = omega (arith, length_push rows q, high, m) in
    let in' : i < length rows = omega (arith, l, at) in
    let first = get_or_append_left rows (q ∷ []) d i in' in
    let last = get_or_push rows q d j at in
    let P : Row → Type 0 = λ r. ComesBefore r.name (get_or (rows ++ q ∷ []) j d).name in
    let Q : Row → Type 0 = λ r. ComesBefore (get_or rows i d).name r.name in
    subst P (sym first) (subst Q (sym last) (before i d in')))
    (cases_lt j (length rows))

pub z_push : (z : List (ℕ × ℕ)) (f : ℕ × ℕ) → AscendsByNumber z → All (λ e. e.0 < f.0) z → AscendsByNumber (z ++ f ∷ [])
z_push z f up before i j d l m =
    ⊎_elim
    (λ (low : j < length z).
    let first = ap (λ (e : ℕ × ℕ). e.0) (get_or_append_left z (f ∷ []) d i (omega (arith, l, low))) in
    let last = ap (λ (e : ℕ × ℕ). e.0) (get_or_append_left z (f ∷ []) d j low) in
    let less = up i j d l low in
    omega (arith, first, last, less))
    (λ (high : length z ≤ j).
    let at : length z ≡ j = omega (arith, length_push z f, high, m) in
    let in' : i < length z = omega (arith, l, at) in
    let first = ap (λ (e : ℕ × ℕ). e.0) (get_or_append_left z (f ∷ []) d i in') in
    let last = ap (λ (e : ℕ × ℕ). e.0) (get_or_push z f d j at) in
    let less = before i d in' in
    omega (arith, first, last, less))
    (cases_lt j (length z))

-- a line's row and z are lawful
row_lawful : (name : List ℕ) (v y : Option ℕ) (r : Row) → row_of_parts name v y ≡ Some r → ((n : ℕ) → v ≡ Some n → n ≤ 4294967294) → ((n : ℕ) → y ≡ Some n → n ≤ 18446744073709551615) → IsRow r
row_lawful name None y r h id most = absurd (cc)
row_lawful name (Some v) None r h id most = absurd (cc)
row_lawful name (Some v) (Some y) r h id most =
    let both = cond_some (is_lawful_name name) (record { name = name; number = v; y = y }) r h in
    let P : Row → Type 0 = λ q. IsRow q in
    let ok : IsRow (record { name = name; number = v; y = y }) = (let one = id v refl in let two = most y refl in record { lawful = both.0; number = one; y = omega (arith, two) }) in
    subst P both.1 ok

z_lawful : (v z : Option ℕ) (e : ℕ × ℕ) → z_of_parts v z ≡ Some e → ((n : ℕ) → v ≡ Some n → n ≤ 4294967294) → ((n : ℕ) → z ≡ Some n → n ≤ 18446744073709551615) → IsZ e
z_lawful None z e h id most = absurd (cc)
z_lawful (Some v) None e h id most = absurd (cc)
z_lawful (Some v) (Some z) e h id most =
    let both = cond_some (ltb 0 z) (v, z) e h in
    let P : ℕ × ℕ → Type 0 = λ f. IsZ f in
    let some = ltb-true 0 z both.0 in
    let ok : IsZ (v, z) = (let one = id v refl in let two = most z refl in record { number = one; positive = omega (arith, some); fits = omega (arith, two) }) in
    subst P both.1 ok

numeral_most : (most : ℕ) (text : List ℕ) (n : ℕ) → spelled_number most text ≡ Some n → n ≤ most
unfolding spelled_number
numeral_most most text n h =
    let both = cond_some _ (digits_value 10 text) n h in
    let less = leb-true _ _ (and_parts (leb (digits_value 10 text) most) (bytes_eq (decimal (digits_value 10 text)) text) both.0).0 in
    omega (arith, less, both.1)

row_in_lawful : (text : List ℕ) (r : Row) → row_in text ≡ Some r → IsRow r
row_in_lawful text r h =
    option_and_then_some (λ (p : List ℕ × List ℕ). option_and_then (λ (q : List ℕ × List ℕ). row_of_parts q.0 (spelled_number 4294967294 q.1) (spelled_number 18446744073709551615 p.1)) (cut_at_last_space p.0)) (cut_at_last_space text) r h (λ p e g.
    option_and_then_some (λ (q : List ℕ × List ℕ). row_of_parts q.0 (spelled_number 4294967294 q.1) (spelled_number 18446744073709551615 p.1)) (cut_at_last_space p.0) r g (λ q f i.
    row_lawful q.0 (spelled_number 4294967294 q.1) (spelled_number 18446744073709551615 p.1) r i (λ n. numeral_most 4294967294 q.1 n) (λ n. numeral_most 18446744073709551615 p.1 n)))

z_in_lawful : (text : List ℕ) (e : ℕ × ℕ) → z_in text ≡ Some e → IsZ e
z_in_lawful text e h =
    option_and_then_some (λ (p : List ℕ × List ℕ). z_of_parts (spelled_number 4294967294 p.0) (spelled_number 18446744073709551615 p.1)) (cut_at_last_space text) e h (λ p f g.
    z_lawful (spelled_number 4294967294 p.0) (spelled_number 18446744073709551615 p.1) e g (λ n. numeral_most 4294967294 p.0 n) (λ n. numeral_most 18446744073709551615 p.1 n))

-- a lawful item
abbrev pub IsLawfulItem : Item → Type 0
IsLawfulItem Head = Unit {0}
IsLawfulItem (RowItem k r) = IsRow r
IsLawfulItem (ZItem k e) = IsZ e
IsLawfulItem End = Unit {0}

row_item_lawful : (k : Which) (o : Option Row) (i : Item) → row_item k o ≡ Some i → ((r : Row) → o ≡ Some r → IsRow r) → IsLawfulItem i
row_item_lawful k None i h ok = absurd (cc)
row_item_lawful k (Some r) i h ok = let P : Item → Type 0 = λ x. IsLawfulItem x in subst P (same_Some (RowItem k r) i h) (ok r refl)

z_item_lawful : (k : Which) (o : Option (ℕ × ℕ)) (i : Item) → z_item k o ≡ Some i → ((e : ℕ × ℕ) → o ≡ Some e → IsZ e) → IsLawfulItem i
z_item_lawful k None i h ok = absurd (cc)
z_item_lawful k (Some e) i h ok = let P : Item → Type 0 = λ x. IsLawfulItem x in subst P (same_Some (ZItem k e) i h) (ok e refl)

-- the choice of an if
chosen : (b : Bool) (x y : Option Item) (i : Item) → cond b x y ≡ Some i → (x ≡ Some i → IsLawfulItem i) → (y ≡ Some i → IsLawfulItem i) → IsLawfulItem i
chosen true x y i h one two = one h
chosen false x y i h one two = two h

pub item_lawful : (line : List ℕ) (i : Item) → item_of line ≡ Some i → IsLawfulItem i
unfolding item_of
item_lawful line i h =
    let P : Item → Type 0 = λ x. IsLawfulItem x in
    let t6 = cond (begins_with (codes "zgroup ") line) (z_item Group (z_in (drop 7 line))) None in
    let t5 = cond (begins_with (codes "group ") line) (row_item Group (row_in (drop 6 line))) t6 in
    let t4 = cond (begins_with (codes "zuser ") line) (z_item User (z_in (drop 6 line))) t5 in
    let t3 = cond (begins_with (codes "user ") line) (row_item User (row_in (drop 5 line))) t4 in
    let t2 = cond (bytes_eq line (codes "end")) (Some End) t3 in
    chosen (bytes_eq line (codes "unify certificate 2")) (Some Head) t2 i h (λ e. subst P (same_Some Head i e) tt) (λ g.
    chosen (bytes_eq line (codes "end")) (Some End) t3 i g (λ e. subst P (same_Some End i e) tt) (λ f.
    chosen (begins_with (codes "user ") line) (row_item User (row_in (drop 5 line))) t4 i f (λ e. row_item_lawful User _ i e (row_in_lawful (drop 5 line))) (λ d.
    chosen (begins_with (codes "zuser ") line) (z_item User (z_in (drop 6 line))) t5 i d (λ e. z_item_lawful User _ i e (z_in_lawful (drop 6 line))) (λ c.
    chosen (begins_with (codes "group ") line) (row_item Group (row_in (drop 6 line))) t6 i c (λ e. row_item_lawful Group _ i e (row_in_lawful (drop 6 line))) (λ b.
    chosen (begins_with (codes "zgroup ") line) (z_item Group (z_in (drop 7 line))) None i b (λ e. z_item_lawful Group _ i e (z_in_lawful (drop 7 line))) (λ a. absurd (none-some i a)))))))

-- what the lines so far give of a kind: a side, each row and z of which stands before whatever may follow
pub record IsGrown (k : Which) (s : Side) (last : Option Item) : Type 0 where
  pub side : IsSide s
  pub rows : All (RowBefore k last) s.rows
  pub z : All (ZBefore k last) s.z

-- after an item of another kind
grown_same : (k : Which) (s : Side) (b : Option Item) (i : Item) → may_follow b (Some i) ≡ true → IsGrown k s b → IsGrown k s (Some i)
grown_same k s b i h was = record {
  side = was.side;
  rows = All-weaker (RowBefore k b) (RowBefore k (Some i)) (λ r. row_stays k b i r h) s.rows was.rows;
  z = All-weaker (ZBefore k b) (ZBefore k (Some i)) (λ e. z_stays k b i e h) s.z was.z;
}

-- after a row of the kind
grown_row : (k : Which) (s : Side) (b : Option Item) (q : Row) → may_follow b (Some (RowItem k q)) ≡ true → IsRow q → IsGrown k s b → IsGrown k (record { rows = s.rows ++ q ∷ []; z = s.z }) (Some (RowItem k q))
grown_row k s b q h ok was = record {
  side = record {
    names_ascend = rows_push s.rows q was.side.names_ascend (All-weaker (RowBefore k b) (λ r. ComesBefore r.name q.name) (λ r. row_is_before k b r q h) s.rows was.rows);
    numbers_ascend = was.side.numbers_ascend;
    rows_lawful = All-push IsRow s.rows q was.side.rows_lawful ok;
    z_lawful = was.side.z_lawful;
  };
  rows = All-push (RowBefore k (Some (RowItem k q))) s.rows q (All-weaker (RowBefore k b) (RowBefore k (Some (RowItem k q))) (λ r. row_stays k b (RowItem k q) r h) s.rows was.rows) (row_itself k q);
  z = All-weaker (ZBefore k b) (ZBefore k (Some (RowItem k q))) (λ e. z_stays k b (RowItem k q) e h) s.z was.z;
}

-- after a z of the kind
grown_z : (k : Which) (s : Side) (b : Option Item) (f : ℕ × ℕ) → may_follow b (Some (ZItem k f)) ≡ true → IsZ f → IsGrown k s b → IsGrown k (record { rows = s.rows; z = s.z ++ f ∷ [] }) (Some (ZItem k f))
grown_z k s b f h ok was = record {
  side = record {
    names_ascend = was.side.names_ascend;
    numbers_ascend = z_push s.z f was.side.numbers_ascend (All-weaker (ZBefore k b) (λ (e : ℕ × ℕ). e.0 < f.0) (λ e. z_is_before k b e f h) s.z was.z);
    rows_lawful = was.side.rows_lawful;
    z_lawful = All-push IsZ s.z f was.side.z_lawful ok;
  };
  rows = All-weaker (RowBefore k b) (RowBefore k (Some (ZItem k f))) (λ r. row_stays k b (ZItem k f) r h) s.rows was.rows;
  z = All-push (ZBefore k (Some (ZItem k f))) s.z f (All-weaker (ZBefore k b) (ZBefore k (Some (ZItem k f))) (λ e. z_stays k b (ZItem k f) e h) s.z was.z) (z_itself k f);
}

-- the same side, written otherwise
grown_as : (k : Which) (i : Option Item) (rows rows' : List Row) (z z' : List (ℕ × ℕ)) → rows ≡ rows' → z ≡ z' → IsGrown k (record { rows = rows; z = z }) i → IsGrown k (record { rows = rows'; z = z' }) i
grown_as k i rows rows' z z' er ez g =
    let P : List Row → Type 0 = λ x. IsGrown k (record { rows = x; z = z' }) i in
    let Q : List (ℕ × ℕ) → Type 0 = λ x. IsGrown k (record { rows = rows; z = x }) i in
    subst P er (subst Q ez g)

grown_none : (k : Which) (s : Side) (i : Option Item) → IsGrown k s i → IsGrown k (record { rows = s.rows ++ []; z = s.z ++ [] }) i
grown_none k s i g = grown_as k i s.rows (s.rows ++ []) s.z (s.z ++ []) (sym (append-nil s.rows)) (sym (append-nil s.z)) g

-- after any line that may follow
pub grown_more : (k : Which) (s : Side) (b : Option Item) (i : Item) → may_follow b (Some i) ≡ true → IsLawfulItem i → IsGrown k s b → IsGrown k (record { rows = s.rows ++ rows_in k (Some i); z = s.z ++ all_z_in k (Some i) }) (Some i)
grown_more User s b (RowItem User q) h ok was = grown_as User (Some (RowItem User q)) (s.rows ++ q ∷ []) (s.rows ++ q ∷ []) s.z (s.z ++ []) refl (sym (append-nil s.z)) (grown_row User s b q h ok was)
grown_more Group s b (RowItem Group q) h ok was = grown_as Group (Some (RowItem Group q)) (s.rows ++ q ∷ []) (s.rows ++ q ∷ []) s.z (s.z ++ []) refl (sym (append-nil s.z)) (grown_row Group s b q h ok was)
grown_more User s b (RowItem Group q) h ok was = grown_none User s _ (grown_same User s b (RowItem Group q) h was)
grown_more Group s b (RowItem User q) h ok was = grown_none Group s _ (grown_same Group s b (RowItem User q) h was)
grown_more User s b (ZItem User f) h ok was = grown_as User (Some (ZItem User f)) s.rows (s.rows ++ []) (s.z ++ f ∷ []) (s.z ++ f ∷ []) (sym (append-nil s.rows)) refl (grown_z User s b f h ok was)
grown_more Group s b (ZItem Group f) h ok was = grown_as Group (Some (ZItem Group f)) s.rows (s.rows ++ []) (s.z ++ f ∷ []) (s.z ++ f ∷ []) (sym (append-nil s.rows)) refl (grown_z Group s b f h ok was)
grown_more User s b (ZItem Group f) h ok was = grown_none User s _ (grown_same User s b (ZItem Group f) h was)
grown_more Group s b (ZItem User f) h ok was = grown_none Group s _ (grown_same Group s b (ZItem User f) h was)
grown_more User s b Head h ok was = grown_none User s _ (grown_same User s b Head h was)
grown_more Group s b Head h ok was = grown_none Group s _ (grown_same Group s b Head h was)
grown_more User s b End h ok was = grown_none User s _ (grown_same User s b End h was)
grown_more Group s b End h ok was = grown_none Group s _ (grown_same Group s b End h was)

-- the last line
last_push : (lines : List (List ℕ)) (l : List ℕ) → last_line (lines ++ l ∷ []) ≡ Some l
last_push [] l = refl
last_push (m ∷ []) l = refl
last_push (m ∷ n ∷ ms) l = last_push (n ∷ ms) l

pub item_push : (lines : List (List ℕ)) (l : List ℕ) → item_before (lines ++ l ∷ []) ≡ item_of l
item_push lines l = ap (option_and_then item_of) (last_push lines l)

pub more : {X A : Type 0} (f : X → List A) (xs : List X) (x : X) → flat_map f xs ++ f x ≡ flat_map f (xs ++ x ∷ [])
more f xs x = sym (flat_map-append f xs (x ∷ []) ∙ ap (λ ys. flat_map f xs ++ ys) (append-nil (f x)))

-- a line that may stand where it stands
pub line_fine : (seen : List (List ℕ)) (l : List ℕ) → line_fault seen l ≡ None → may_follow (item_before seen) (item_of l) ≡ true
line_fine seen l h =
    ⊎_elim
    (λ (e : may_follow (item_before seen) (item_of l) ≡ true). e)
    (λ (e : may_follow (item_before seen) (item_of l) ≡ false).
    absurd (none-some _ (sym h ∙ cond-false _ None (Some _) e)))
    (cases_Bool (may_follow (item_before seen) (item_of l)))

pub no_item : (b : Option Item) → may_follow b None ≡ true → ⊥
no_item None h = false≢true h
no_item (Some b) h = false≢true h

line_grows : (k : Which) (seen : List (List ℕ)) (l : List ℕ) (o : Option Item) → item_of l ≡ o → may_follow (item_before seen) o ≡ true → IsGrown k (side_in k seen) (item_before seen) → IsGrown k (side_in k (seen ++ l ∷ [])) (item_before (seen ++ l ∷ []))
line_grows k seen l None e h was = absurd (no_item (item_before seen) h)
line_grows k seen l (Some i) e h was =
    let grown = grown_more k (side_in k seen) (item_before seen) i h (item_lawful l i e) was in
    let P : Option Item → Type 0 = λ x. IsGrown k (side_in k (seen ++ l ∷ [])) x in
    subst P (sym (item_push seen l ∙ e))
    (grown_as k (Some i) _ _ _ _
    (ap (λ x. (side_in k seen).rows ++ rows_in k x) (sym e) ∙ more (λ m. rows_in k (item_of m)) seen l)
    (ap (λ x. (side_in k seen).z ++ all_z_in k x) (sym e) ∙ more (λ m. all_z_in k (item_of m)) seen l)
    grown)

pub lines_grow : (k : Which) (seen rest : List (List ℕ)) → first_fault line_fault seen rest ≡ None → IsGrown k (side_in k seen) (item_before seen) → IsGrown k (side_in k (seen ++ rest)) (item_before (seen ++ rest))
unfolding first_fault
lines_grow k seen [] h was = let P : List (List ℕ) → Type 0 = λ ls. IsGrown k (side_in k ls) (item_before ls) in subst P (sym (append-nil seen)) was
lines_grow k seen (l ∷ ls) h was =
    let both = none_both (line_fault seen l) (first_fault line_fault (seen ++ l ∷ []) ls) h in
    let P : List (List ℕ) → Type 0 = λ xs. IsGrown k (side_in k xs) (item_before xs) in
    subst P (append_assoc seen (l ∷ []) ls) (lines_grow k (seen ++ l ∷ []) ls both.1 (line_grows k seen l (item_of l) refl (line_fine seen l both.0) was))

nothing_grown : (k : Which) → IsGrown k (record { rows = []; z = [] }) None
nothing_grown k = record {
  side = record { names_ascend = λ i j d l m. absurd (omega arith); numbers_ascend = λ i j d l m. absurd (omega arith); rows_lawful = All-nil IsRow; z_lawful = All-nil IsZ };
  rows = All-nil (RowBefore k None);
  z = All-nil (ZBefore k None);
}

-- lines without a fault give sides
pub lines_give_side : (k : Which) (lines : List (List ℕ)) → first_fault line_fault [] lines ≡ None → IsSide (side_in k lines)
lines_give_side k lines h = (lines_grow k [] lines h (nothing_grown k)).side
