-- The row of each index and the index of each row, where the names are the same.
use Rattle.std.proofs.Common.{◌≡◌, ℕ, zero, suc, ◌<◌, Bool, true, false, List, [], ◌∷◌, length, get_or, Some, None, refl, sym, ap, ◌∙◌, ⊎_elim, arith, subst}
use Rattle.std.specs.Option.{option_map, option_map_or}
use Rattle.std.specs.List.{find, list_any}
use Rattle.std.specs.Str.{bytes_eq}
use Rattle.std.proofs.lemmas.Slice.Eq.{bytes_eq-Decides}
use Rattle.std.proofs.lemmas.Bool.{cases_Bool, cond-true, cond-false, or_left, or_right, false_from_ne_true}
use Rattle.hosts_join.specs.Accounts.{Account, Accounts, place, place_of, no_account}
use Rattle.hosts_join.specs.Rules.{is_name}
use Rattle.hosts_join.specs.Rules.{account}
use Rattle.hosts_join.specs.Lawful.{AreLawfulAccounts}
use Rattle.certcheck.specs.Certificate.{Row, AreAscending}
use Rattle.certcheck.specs.Check.{row_named, is_listed, mapping_of, potentials_of}
use Rattle.certcheck.proofs.Order.{eq_itself, eq_after}
use Rattle.certcheck.proofs.Spots.{Passing, passing_any, find_here}
use Rattle.certcheck.proofs.Totals.{mapping_at, y_at}

abbrev pub blank : Row
blank = record { name = []; number = 0; y = 0 }

abbrev pub row : List Row → ℕ → Row
row rows i = get_or rows i blank

pub any_from : {X : Type 0} (p : X → Bool) (xs : List X) (i : ℕ) (d : X) → i < length xs → p (get_or xs i d) ≡ true → list_any p xs ≡ true
any_from p [] i d l h = absurd (omega arith)
any_from p (x ∷ xs) zero d l h = or_left _ _ h
any_from p (x ∷ xs) (suc i) d l h = or_right _ _ (any_from p xs i d (omega arith) h)

pub place_here : {X : Type 0} (p : X → Bool) (xs : List X) (i : ℕ) (d : X) → i < length xs → ((k : ℕ) → k < i → p (get_or xs k d) ≡ false) → p (get_or xs i d) ≡ true → place p xs ≡ Some i
place_here p [] i d l before here = absurd (omega arith)
place_here p (x ∷ xs) zero d l before here = cond-true _ _ _ here
place_here p (x ∷ xs) (suc i) d l before here = cond-false _ _ _ (before 0 (omega arith)) ∙ ap (option_map suc) (place_here p xs i d (omega arith) (λ k h. before (suc k) (omega arith)) here)

pub same_names : (n m : List ℕ) → bytes_eq n m ≡ true → n ≡ m
same_names n m h = (bytes_eq-Decides n m).0 h

-- the index of a name of the site
pub index_found : (a : Accounts) (n : ℕ) (m : List ℕ) → AreLawfulAccounts a → n < length a.names → (account a n).name ≡ m → place_of a.names m ≡ Some n
index_found a n m are l same =
    place_here (λ (x : Account). bytes_eq m x.name) a.names n no_account l
    (λ k h. false_from_ne_true _ (λ e. let at = are.names_differ k n (omega (arith, h, l)) l (sym (same_names m (account a k).name e) ∙ sym same) in absurd (omega (arith, at, h))))
    ((bytes_eq-Decides m (account a n).name).1 (sym same))

-- the row of a name of the certificate
pub row_found : (rows : List Row) (i : ℕ) (m : List ℕ) → AreAscending rows → i < length rows → (row rows i).name ≡ m → row_named rows m ≡ Some (row rows i)
row_found rows i m up l same =
    find_here (λ (r : Row). bytes_eq m r.name) rows i blank l
    (λ k h. let P : List ℕ → Type 0 = λ n. bytes_eq n (row rows k).name ≡ false in subst P same (eq_after (row rows k).name (row rows i).name (up k i blank h l)))
    ((bytes_eq-Decides m (row rows i).name).1 (sym same))

-- the row that has the name of an index
pub record HasRow (a : Accounts) (rows : List Row) (n : ℕ) : Type 0 where
  pub at : ℕ
  pub within : at < length rows
  pub name : (row rows at).name ≡ (account a n).name
  pub number : get_or (mapping_of a rows) n 0 ≡ (row rows at).number
  pub y : get_or (potentials_of a rows) n 0 ≡ (row rows at).y

pub row_at_index : (a : Accounts) (rows : List Row) (n : ℕ) → AreAscending rows → ((m : List ℕ) → is_name a.names m ≡ is_listed rows m) → n < length a.names → HasRow a rows n
row_at_index a rows n up exact l =
    let m = (account a n).name in
    let known : is_name a.names m ≡ true = any_from (λ (x : Account). bytes_eq m x.name) a.names n no_account l (eq_itself m) in
    let there : Passing (λ (r : Row). bytes_eq m r.name) rows = passing_any (λ (r : Row). bytes_eq m r.name) rows (sym (exact m) ∙ known) in
    let same : (row rows there.0).name ≡ m = sym (same_names m (row rows there.0).name (there.2 blank)) in
    let found = row_found rows there.0 m up there.1 same in
    record {
      at = there.0;
      within = there.1;
      name = same;
      number = mapping_at a rows n l ∙ ap (λ o. option_map_or (λ (r : Row). r.number) o 0) found;
      y = y_at a rows n l ∙ ap (λ o. option_map_or (λ (r : Row). r.y) o 0) found;
    }

-- the index that has the name of a row
pub record HasIndex (a : Accounts) (rows : List Row) (i : ℕ) : Type 0 where
  pub at : ℕ
  pub within : at < length a.names
  pub name : (account a at).name ≡ (row rows i).name
  pub index : place_of a.names (row rows i).name ≡ Some at
  pub number : get_or (mapping_of a rows) at 0 ≡ (row rows i).number
  pub y : get_or (potentials_of a rows) at 0 ≡ (row rows i).y

pub index_of_row : (a : Accounts) (rows : List Row) (i : ℕ) → AreLawfulAccounts a → AreAscending rows → ((m : List ℕ) → is_name a.names m ≡ is_listed rows m) → i < length rows → HasIndex a rows i
index_of_row a rows i are up exact l =
    let m = (row rows i).name in
    let listed : is_listed rows m ≡ true = any_from (λ (r : Row). bytes_eq m r.name) rows i blank l (eq_itself m) in
    let there : Passing (λ (x : Account). bytes_eq m x.name) a.names = passing_any (λ (x : Account). bytes_eq m x.name) a.names (exact m ∙ listed) in
    let same : (account a there.0).name ≡ m = sym (same_names m (account a there.0).name (there.2 no_account)) in
    let found = row_found rows i m up l refl in
    let name : row_named rows (account a there.0).name ≡ Some (row rows i) = ap (row_named rows) same ∙ found in
    record {
      at = there.0;
      within = there.1;
      name = same;
      index = index_found a there.0 m are there.1 same;
      number = mapping_at a rows there.0 there.1 ∙ ap (λ o. option_map_or (λ (r : Row). r.number) o 0) name;
      y = y_at a rows there.0 there.1 ∙ ap (λ o. option_map_or (λ (r : Row). r.y) o 0) name;
    }

-- a search that finds nothing, and one that can find nothing
pub find_none_says : {X : Type 0} (p : X → Bool) (xs : List X) → find p xs ≡ None → (i : ℕ) (d : X) → i < length xs → p (get_or xs i d) ≡ false
find_none_says p [] h i d l = absurd (omega arith)
find_none_says p (x ∷ xs) h i d l =
    ⊎_elim
    (λ (e : p x ≡ true). let found : Some x ≡ None = sym (cond-true (p x) (Some x) (find p xs) e) ∙ h in absurd (cc))
    (λ (e : p x ≡ false). none_after p x xs e d (λ k m. find_none_says p xs (sym (cond-false (p x) (Some x) (find p xs) e) ∙ h) k d m) i l)
    (cases_Bool (p x))
  where
    none_after : {X : Type 0} (p : X → Bool) (x : X) (xs : List X) → p x ≡ false → (d : X) → ((k : ℕ) → k < length xs → p (get_or xs k d) ≡ false) → (i : ℕ) → i < length (x ∷ xs) → p (get_or (x ∷ xs) i d) ≡ false
    none_after p x xs e d rest zero l = e
    none_after p x xs e d rest (suc i) l = rest i (omega arith)

pub find_none_from : {X : Type 0} (p : X → Bool) (xs : List X) → ((i : ℕ) (d : X) → i < length xs → p (get_or xs i d) ≡ false) → find p xs ≡ None
find_none_from p [] none = refl
find_none_from p (x ∷ xs) none = cond-false _ _ _ (none 0 x (omega arith)) ∙ find_none_from p xs (λ i d l. none (suc i) d (omega arith))
