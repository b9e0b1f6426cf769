-- The rows of a mapping and its potentials, sorted by name, are a side.
use Rattle.std.proofs.Common.{◌≡◌, ℕ, ◌+◌, ◌<◌, ◌≤◌, ◌^◌, Bool, false, ◌||◌, cond, List, [], ◌∷◌, ◌++◌, map, take, length, get_or, refl, sym, ap, ◌∙◌, arith, subst}
use Rattle.std.specs.declared.cmp.Ordering.{Ordering}
use Rattle.std.specs.declared.cmp.Ordering.TheVariants.{Less, Equal, Greater}
use Rattle.std.specs.Ordering.{nat_cmp, is_lt, ordering_reverse}
use Rattle.std.specs.Cmp.Lexicographic.{slice_cmp}
use Rattle.std.specs.List.{All, list_any, range_with_len}
use Rattle.std.specs.List.Sorted.{IsPermutation, IsSorted, IsSortedBy}
use Rattle.std.specs.Str.{bytes_eq}
use Rattle.std.proofs.lemmas.Cmp.{nat_list_cmp_total}
use Rattle.std.proofs.lemmas.List.{map-append, take_more, length-map, get_or-map, get_or_default, same_lists}
use Rattle.std.proofs.lemmas.List.FromFn.{get_or-map-range_with_len, length-map-range_with_len}
use Rattle.std.proofs.lemmas.List.Sorted.{ranks_by, sorted_far, IsPermutation-map, All-permutation, list_any-IsPermutation, sum_by-IsPermutation}
use Rattle.std.proofs.lemmas.Bool.{false≢true}
use Rattle.idtext.specs.Names.{is_lawful_name}
use Rattle.hosts_join.specs.Accounts.{Account, Accounts, no_account}
use Rattle.hosts_join.specs.Order.{name_at}
use Rattle.hosts_join.specs.Rules.{account, is_name}
use Rattle.hosts_join.specs.Lawful.{AreLawfulAccounts}
use Rattle.certcheck.specs.declared.certificate.CertRow.{CertRow}
use Rattle.certcheck.specs.Views.{row_of, rows_of}
use Rattle.certcheck.specs.Certificate.{Row, IsRow, IsSide, AreAscending, AreAllZ, ComesBefore}
use Rattle.ownership.specs.Potentials.{AscendsByNumber}
use Rattle.certcheck.specs.Check.{is_listed, number_named, y_named}
use Rattle.certcheck.specs.Made.{IsSolutionFor, AreRowsInOrder, IsSideOf, row_at}
use Rattle.certcheck.proofs.Order.{same_from_equal, eq_itself}
use Rattle.certcheck.proofs.Indices.{row, blank, same_names, row_at_index}
use Rattle.certcheck.proofs.Twice.{count_two, two_counted}

-- the rows, by the index of their names
record AreRowsOf (a : Accounts) (m y : List ℕ) (rows : List Row) : Type 0 where
  pub len : length rows ≡ length a.names
  pub names : (i : ℕ) (d : Row) → i < length a.names → (get_or rows i d).name ≡ (account a i).name
  pub numbers : (i : ℕ) (d : Row) → i < length a.names → (get_or rows i d).number ≡ get_or m i 0
  pub ys : (i : ℕ) (d : Row) → i < length a.names → (get_or rows i d).y ≡ get_or y i 0

abbrev by_index : (a : Accounts) (m y : List ℕ) → List Row
by_index a m y = map (row_at a m y) (range_with_len 0 (length a.names))

are_by_index : (a : Accounts) (m y : List ℕ) → AreRowsOf a m y (by_index a m y)
are_by_index a m y =
    let at = λ (i : ℕ) (d : Row) (h : i < length a.names). get_or-map-range_with_len (row_at a m y) 0 (length a.names) i i d h (omega arith) in
    record {
      len = length-map-range_with_len (row_at a m y) 0 (length a.names);
      names = λ i d h. ap (λ (r : Row). r.name) (at i d h);
      numbers = λ i d h. ap (λ (r : Row). r.number) (at i d h);
      ys = λ i d h. ap (λ (r : Row). r.y) (at i d h);
    }

-- one row more
pub rows_more : (a : Accounts) (m y order : List ℕ) (k : ℕ) (rows rows' : List CertRow) (x : CertRow) → k < length order → rows_of rows ≡ map (row_at a m y) (take k order) → rows' ≡ rows ++ x ∷ [] → row_of x ≡ row_at a m y (get_or order k 0) → rows_of rows' ≡ map (row_at a m y) (take (k + 1) order)
rows_more a m y order k rows rows' x h before after is =
    ap rows_of after ∙ map-append row_of rows (x ∷ []) ∙ ap (λ rs. rs ++ row_of x ∷ []) before ∙ ap (λ r. map (row_at a m y) (take k order) ++ r ∷ []) is
    ∙ sym (ap (map (row_at a m y)) (take_more order k 0 h) ∙ map-append (row_at a m y) (take k order) (get_or order k 0 ∷ []))

-- what a row says of the index of its name
abbrev Says : Accounts → List ℕ → List ℕ → Row → Type 0
Says a mapping ys r = (n : ℕ) → n < length a.names → (account a n).name ≡ r.name → (r.number ≡ get_or mapping n 0) × (r.y ≡ get_or ys n 0)

all_say : (a : Accounts) (mapping ys : List ℕ) (us : List Row) → AreLawfulAccounts a → AreRowsOf a mapping ys us → All (Says a mapping ys) us
all_say a mapping ys us are of = λ k d l n m same.
    let in' : k < length a.names = omega (arith, l, of.len) in
    let at : n ≡ k = are.names_differ n k m in' (same ∙ of.names k d in') in
    (of.numbers k d in' ∙ ap (λ i. get_or mapping i 0) (sym at), of.ys k d in' ∙ ap (λ i. get_or ys i 0) (sym at))

all_rows : (a : Accounts) (mapping ys : List ℕ) (zs : List (ℕ × ℕ)) (us : List Row) → AreLawfulAccounts a → IsSolutionFor a mapping ys zs → AreRowsOf a mapping ys us → All IsRow us
all_rows a mapping ys zs us are sol of = λ k d l.
    let in' : k < length a.names = omega (arith, l, of.len) in
    let id : get_or mapping k 0 ≤ 4294967294 = sol.ids k 0 (omega (arith, in', sol.numbers)) in
    let fits : get_or ys k 0 < 2 ^ 64 = sol.fits k 0 (omega (arith, in', sol.ys)) in
    record {
      lawful = ap is_lawful_name (of.names k d in') ∙ are.lawful k no_account in';
      number = omega (arith, id, of.numbers k d in');
      y = omega (arith, fits, of.ys k d in');
    }

any-map : (p : List ℕ → Bool) {X : Type 0} (f : X → List ℕ) (xs : List X) → list_any (λ x. p (f x)) xs ≡ list_any p (map f xs)
any-map p f [] = refl
any-map p f (x ∷ xs) = ap (λ b. p (f x) || b) (any-map p f xs)

-- the names of the rows are those of the site
same_listed : (a : Accounts) (mapping ys : List ℕ) (us : List Row) (m : List ℕ) → AreRowsOf a mapping ys us → is_name a.names m ≡ is_listed us m
same_listed a mapping ys us m of =
    let lists : map (λ (x : Account). x.name) a.names ≡ map (λ (r : Row). r.name) us = same_lists _ _ (length-map a.names (λ (x : Account). x.name) ∙ sym of.len ∙ sym (length-map us (λ (r : Row). r.name))) (λ k d l.
    let in' : k < length a.names = rw (← length-map a.names (λ (x : Account). x.name)) l in
    get_or-map (λ (x : Account). x.name) a.names k no_account d in' ∙ sym (of.names k blank in') ∙ sym (get_or-map (λ (r : Row). r.name) us k blank d (omega (arith, in', of.len)))) in
    any-map (bytes_eq m) (λ (x : Account). x.name) a.names ∙ ap (list_any (bytes_eq m)) lists ∙ sym (any-map (bytes_eq m) (λ (r : Row). r.name) us)

-- no two rows of the solution have one name
names_apart : (a : Accounts) (mapping ys : List ℕ) (us ss : List Row) (i j : ℕ) → AreLawfulAccounts a → AreRowsOf a mapping ys us → IsPermutation us ss → i < j → j < length ss → (row ss i).name ≡ (row ss j).name → ⊥
names_apart a mapping ys us ss i j are of perm l m same =
    let p = λ (r : Row). bytes_eq (row ss j).name r.name in
    let many = count_two p ss i j blank l m (ap (bytes_eq (row ss j).name) same ∙ eq_itself (row ss j).name) (eq_itself (row ss j).name) in
    let count = sum_by-IsPermutation (λ r. cond (p r) 1 0) us ss perm in
    let two = two_counted p us (omega (arith, many, count)) in
    let h : two.1 < length a.names = omega (arith, two.3, of.len) in
    let g : two.0 < length a.names = omega (arith, two.2, h) in
    let one : (row ss j).name ≡ (row us two.0).name = same_names _ _ (two.4 blank) in
    let other : (row ss j).name ≡ (row us two.1).name = same_names _ _ (two.5 blank) in
    let at = are.names_differ two.0 two.1 g h (sym (of.names two.0 blank g) ∙ sym one ∙ other ∙ of.names two.1 blank h) in absurd (omega (arith, at, two.2))

before_from : (n m : List ℕ) → is_lt (slice_cmp nat_cmp m n) ≡ false → (n ≡ m → ⊥) → (o : Ordering) → slice_cmp nat_cmp n m ≡ o → ComesBefore n m
before_from n m not' differ Less e = e
before_from n m not' differ Equal e = absurd (differ (same_from_equal n m e))
before_from n m not' differ Greater e =
    let less : slice_cmp nat_cmp m n ≡ Less = nat_list_cmp_total.antisymm m n ∙ ap ordering_reverse e in
    absurd (false≢true (sym not' ∙ ap is_lt less))

-- rows in byte order are sorted
names_of_rows : (a : Accounts) (m y order : List ℕ) → map (λ (r : Row). r.name) (map (row_at a m y) order) ≡ map (name_at a.names) order
names_of_rows a m y [] = refl
names_of_rows a m y (i ∷ order) = ap (λ ns. name_at a.names i ∷ ns) (names_of_rows a m y order)

rows_sorted : (ss : List Row) → IsSorted (slice_cmp nat_cmp) (map (λ (r : Row). r.name) ss) → IsSortedBy (λ (x : Row) (y : Row). is_lt (slice_cmp nat_cmp x.name y.name)) ss
rows_sorted ss s = λ k d low high.
    let here : k < length ss = omega (arith, high) in
    rw (← get_or-map (λ (r : Row). r.name) ss (k + 1) d d.name high, ← get_or-map (λ (r : Row). r.name) ss k d d.name here) (s k d.name low (omega (arith, high, length-map ss (λ (r : Row). r.name))))

-- sorted rows of different names ascend
made_ascends : (a : Accounts) (mapping ys : List ℕ) (us ss : List Row) → AreLawfulAccounts a → AreRowsOf a mapping ys us → IsPermutation us ss → IsSortedBy (λ (x : Row) (y : Row). is_lt (slice_cmp nat_cmp x.name y.name)) ss → AreAscending ss
made_ascends a mapping ys us ss are of perm sorted i j d l m =
    let far = sorted_far (λ (x : Row) (y : Row). is_lt (slice_cmp nat_cmp x.name y.name)) (ranks_by nat_list_cmp_total (λ (x : Row). x.name)) ss sorted i j d (omega (arith, l)) m in
    let first : get_or ss i d ≡ row ss i = get_or_default ss i d blank (omega arith) in
    let last : get_or ss j d ≡ row ss j = get_or_default ss j d blank m in
    before_from (get_or ss i d).name (get_or ss j d).name far
    (λ e. names_apart a mapping ys us ss i j are of perm l m (ap (λ (r : Row). r.name) (sym first) ∙ e ∙ ap (λ (r : Row). r.name) last))
    (slice_cmp nat_cmp (get_or ss i d).name (get_or ss j d).name) refl

pub made_side : (a : Accounts) (mapping ys : List ℕ) (zs : List (ℕ × ℕ)) (ss : List Row) (z : List (ℕ × ℕ)) → AreLawfulAccounts a → IsSolutionFor a mapping ys zs → AreRowsInOrder a mapping ys ss → z ≡ zs → IsSide (record { rows = ss; z = z }) × IsSideOf a mapping ys zs (record { rows = ss; z = z })
made_side a mapping ys zs ss z are sol rows ez =
    let us = by_index a mapping ys in
    let of = are_by_index a mapping ys in
    let perm : IsPermutation us ss = rw rows.are (IsPermutation-map (row_at a mapping ys) (range_with_len 0 (length a.names)) rows.order rows.ordered.each_once) in
    let sorted = rows_sorted ss (rw (rows.are, names_of_rows a mapping ys rows.order) rows.ordered.ascending) in
    let up = made_ascends a mapping ys us ss are of perm sorted in
    let exact : (m : List ℕ) → is_name a.names m ≡ is_listed ss m = λ m. same_listed a mapping ys us m of ∙ list_any-IsPermutation (λ (r : Row). bytes_eq m r.name) us ss perm in
    let says = All-permutation (Says a mapping ys) us ss perm (all_say a mapping ys us are of) in
    let P : List (ℕ × ℕ) → Type 0 = λ y. AscendsByNumber y in
    let Q : List (ℕ × ℕ) → Type 0 = λ y. AreAllZ y in (
      record {
        names_ascend = up;
        numbers_ascend = subst P (sym ez) sol.z_ascends;
        rows_lawful = All-permutation IsRow us ss perm (all_rows a mapping ys zs us are sol of);
        z_lawful = subst Q (sym ez) sol.z_lawful;
      },
      record {
        names = exact;
        mapping = same_lists _ _ (length-map a.names _ ∙ sym sol.numbers) (λ k d l.
            let in' : k < length a.names = rw (← length-map a.names (λ (x : Account). number_named ss x.name)) l in
            let r = row_at_index a ss k up exact in' in
            get_or_default _ k d 0 l ∙ r.number ∙ (says r.at blank r.within k in' (sym r.name)).0 ∙ get_or_default mapping k 0 d (omega (arith, in', sol.numbers)));
        ys = same_lists _ _ (length-map a.names _ ∙ sym sol.ys) (λ k d l.
            let in' : k < length a.names = rw (← length-map a.names (λ (x : Account). y_named ss x.name)) l in
            let r = row_at_index a ss k up exact in' in
            get_or_default _ k d 0 l ∙ r.y ∙ (says r.at blank r.within k in' (sym r.name)).1 ∙ get_or_default ys k 0 d (omega (arith, in', sol.ys)));
        z = ez;
      },
    )
