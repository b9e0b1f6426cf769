-- The files of a host, counted by the rows of its tables: whatever is asked of a file's number that a row has, as many pass.
use Rattle.std.proofs.Common.{◌≡◌, ℕ, zero, suc, ◌+◌, ◌<◌, ◌==◌, ◌&&◌, Bool, true, false, cond, List, [], ◌∷◌, length, map, get_or, refl, sym, ap, ◌∙◌, arith, inl, inr}
use Rattle.std.specs.Prelude.{is_some, option_map, find}
use Rattle.std.specs.List.{count_by, sum}
use Rattle.std.proofs.lemmas.Bool.{both_ways, cases_Bool, eqb-true, eq-eqb, ne_eqb, cases_eq}
use Rattle.std.proofs.lemmas.List.{get_or-map, length-map}
use Rattle.std.proofs.lemmas.List.Sums.{sum_by-cons}
use Rattle.std.proofs.Math.Bool.{and-true}
use Rattle.accounts.specs.Laws.{AreDistinct}
use Rattle.hosts_join.specs.Accounts.{no_row}
use Rattle.ownership.specs.HostFiles.{row_number, rows_with}
use Rattle.ownership.specs.Sums.{sum_below}
use Rattle.ownership.proofs.SumsBelow.{sum_below-same, sum_below-add, sum_below-pick, sum_below-zero, sum_below-places}

-- ---- rows that are numbered apart

none : (b : Bool) → cond {A = ℕ} b 0 0 ≡ 0
none true = refl
none false = refl

either : (b : Bool) (m n : ℕ) → cond {A = ℕ} b (m + n) 0 ≡ cond {A = ℕ} b m 0 + cond {A = ℕ} b n 0
either true m n = refl
either false m n = refl

-- the number is that of a row
abbrev pub IsAtRow : (ℕ → ℕ) → ℕ → ℕ → Type 0
IsAtRow at rows n = (r : ℕ) × (r < rows) × (n ≡ at r)

-- the test tells whether a row has a number
pub record TellsRows (at : ℕ → ℕ) (rows : ℕ) (is_there : ℕ → Bool) : Type 0 where
  pub found : (n : ℕ) → is_there n ≡ true → IsAtRow at rows n
  pub known : (r : ℕ) → r < rows → is_there (at r) ≡ true

module _ {X : Type 0} (at : ℕ → ℕ) (rows : ℕ) (apart : (r s : ℕ) → r < rows → s < rows → at r ≡ at s → r ≡ s) (is_there : ℕ → Bool) (tells : TellsRows at rows is_there) (number : X → ℕ) (p : ℕ → Bool) where
  -- one row tells of an item, the one that has its number, if there is one
  told : (x : X) (b : Bool) → is_there (number x) ≡ b → sum_below (λ r. cond {A = ℕ} (p (at r)) (cond {A = ℕ} (number x == at r) 1 0) 0) rows ≡ cond {A = ℕ} (b && p (number x)) 1 0
  told x false is =
      sum_below-same (λ r. cond {A = ℕ} (p (at r)) (cond {A = ℕ} (number x == at r) 1 0) 0) (λ r. 0) rows (λ r within.
      let other : (number x == at r) ≡ false = ne_eqb (number x) (at r) (λ e. both_ways (is_there (number x)) is (ap is_there e ∙ tells.known r within)) in
      ap (λ b. cond {A = ℕ} (p (at r)) (cond {A = ℕ} b 1 0) 0) other ∙ none (p (at r)))
      ∙ sum_below-zero rows
  told x true is =
      let there = tells.found (number x) is in
      let home = there.0 in
      sum_below-same (λ r. cond {A = ℕ} (p (at r)) (cond {A = ℕ} (number x == at r) 1 0) 0) (λ r. cond {A = ℕ} (r == home) (cond {A = ℕ} (p (at r)) 1 0) 0) rows (λ r within. elim (cases_eq r home) [
        | inl e ↦
            let same : (number x == at r) ≡ true = eq-eqb (number x) (at r) (there.2 ∙ ap at (sym e)) in
            let here : (r == home) ≡ true = eq-eqb r home e in
            ap (λ b. cond {A = ℕ} (p (at r)) (cond {A = ℕ} b 1 0) 0) same ∙ ap (λ b. cond {A = ℕ} b (cond {A = ℕ} (p (at r)) 1 0) 0) (sym here)
        | inr ne ↦
            let other : (number x == at r) ≡ false = ne_eqb (number x) (at r) (λ e. ne (apart r home within there.1 (sym e ∙ there.2))) in
            let away : (r == home) ≡ false = ne_eqb r home ne in
            ap (λ b. cond {A = ℕ} (p (at r)) (cond {A = ℕ} b 1 0) 0) other ∙ none (p (at r)) ∙ ap (λ b. cond {A = ℕ} b (cond {A = ℕ} (p (at r)) 1 0) 0) (sym away)
      ])
      ∙ sum_below-pick home (λ r. cond {A = ℕ} (p (at r)) 1 0) rows there.1
      ∙ ap (λ n. cond {A = ℕ} (p n) 1 0) (sym there.2)

  -- the items of the rows whose numbers pass are those that pass and have the number of a row
  pub over_rows : (xs : List X) → sum_below (λ r. cond {A = ℕ} (p (at r)) (count_by (λ x. number x == at r) xs) 0) rows ≡ count_by (λ x. is_there (number x) && p (number x)) xs
  over_rows [] = sum_below-same (λ r. cond {A = ℕ} (p (at r)) 0 0) (λ r. 0) rows (λ r within. none (p (at r))) ∙ sum_below-zero rows
  over_rows (x ∷ xs) =
      let parts = sum_below-same (λ r. cond {A = ℕ} (p (at r)) (count_by (λ y. number y == at r) (x ∷ xs)) 0)
      (λ r. cond {A = ℕ} (p (at r)) (cond {A = ℕ} (number x == at r) 1 0) 0 + cond {A = ℕ} (p (at r)) (count_by (λ y. number y == at r) xs) 0) rows
      (λ r within. ap (λ n. cond {A = ℕ} (p (at r)) n 0) (sum_by-cons (λ y. cond {A = ℕ} (number y == at r) 1 0) x xs) ∙ either (p (at r)) (cond {A = ℕ} (number x == at r) 1 0) (count_by (λ y. number y == at r) xs)) in
      let sums = sum_below-add (λ r. cond {A = ℕ} (p (at r)) (cond {A = ℕ} (number x == at r) 1 0) 0) (λ r. cond {A = ℕ} (p (at r)) (count_by (λ y. number y == at r) xs) 0) rows in
      let one = told x (is_there (number x)) refl in
      let rest = over_rows xs in
      let cons = sum_by-cons (λ y. cond {A = ℕ} (is_there (number y) && p (number y)) 1 0) x xs in
      omega (arith, parts, sums, one, rest, cons)

-- ---- rows of a table

module _ {R : Type 0} (name : R → List ℕ) (number : R → ℕ) where
  abbrev pairs_of : List R → List (List ℕ × ℕ)
  pairs_of rows = map (λ q. (name q, number q)) rows

  -- what is counted for a row is counted for its number
  row_read : (count : ℕ → ℕ) (rows : List R) (r : ℕ) → r < length rows → get_or (map (λ q. count (number q)) rows) r 0 ≡ count (row_number (pairs_of rows) r)
  row_read count [] r within = absurd (omega arith)
  row_read count (q ∷ rows) zero within = refl
  row_read count (q ∷ rows) (suc r) within = row_read count rows r (omega arith)

  -- whether a table gives the number a name
  abbrev has_row : List R → ℕ → Bool
  has_row rows v = is_some (option_map name (find (λ q. v == number q) rows))

  -- a number that a table gives a name is that of a row
  row_found : (rows : List R) (v : ℕ) → has_row rows v ≡ true → (r : ℕ) × (r < length rows) × (v ≡ row_number (pairs_of rows) r)
  row_found [] v there = absurd (cc)
  row_found (q ∷ rows) v there = elim (cases_Bool (v == number q)) [
    | inl t ↦ (0, omega arith, eqb-true v (number q) t)
    | inr f ↦
        let later : has_row rows v ≡ true = rw f at there in
        let found = row_found rows v later in
        (suc found.0, omega (arith, found.1), found.2)
  ]

  -- and the number of a row has one
  row_known : (rows : List R) (r v : ℕ) → r < length rows → v ≡ row_number (pairs_of rows) r → has_row rows v ≡ true
  row_known [] r v within is = absurd (omega arith)
  row_known (q ∷ rows) zero v within is = let here : (v == number q) ≡ true = eq-eqb v (number q) is in rw here refl
  row_known (q ∷ rows) (suc r) v within is = elim (cases_Bool (v == number q)) [ inl t ↦ rw t refl | inr f ↦ rw f (row_known rows r v (omega arith) is) ]

  module _ {X : Type 0} (of : X → ℕ) where
    -- how many items each row has
    abbrev counts : List R → List X → List ℕ
    counts rows xs = map (λ q. count_by (λ x. of x == number q) xs) rows

    -- where no two rows have one number
    pub by_rows : (rows : List R) (files : List ℕ) (xs : List X) → AreDistinct (map (λ q. q.1) (pairs_of rows)) → files ≡ counts rows xs
        → (p : ℕ → Bool) → rows_with p (pairs_of rows) files (length files) ≡ count_by (λ x. has_row rows (of x) && p (of x)) xs
    by_rows rows files xs distinct is p =
        let at = row_number (pairs_of rows) in
        let size : length files ≡ length rows = ap length is ∙ length-map rows (λ q. count_by (λ x. of x == number q) xs) in
        let all : length (pairs_of rows) ≡ length rows = length-map rows (λ q. (name q, number q)) in
        let few : length (map (λ q. q.1) (pairs_of rows)) ≡ length rows = length-map (pairs_of rows) (λ q. q.1) ∙ all in
        let apart : (r s : ℕ) → r < length rows → s < length rows → at r ≡ at s → r ≡ s = λ r s one two e.
        distinct r s 0 (omega (arith, few, one)) (omega (arith, few, two))
        (get_or-map (λ q. q.1) (pairs_of rows) r no_row 0 (omega (arith, all, one)) ∙ e ∙ sym (get_or-map (λ q. q.1) (pairs_of rows) s no_row 0 (omega (arith, all, two)))) in
        ap (rows_with p (pairs_of rows) files) size
        ∙ sum_below-same (λ r. cond {A = ℕ} (p (at r)) (get_or files r 0) 0) (λ r. cond {A = ℕ} (p (at r)) (count_by (λ x. of x == at r) xs) 0) (length rows)
        (λ r within. ap (λ n. cond {A = ℕ} (p (at r)) n 0) (ap (λ (ns : List ℕ). get_or ns r 0) is ∙ row_read (λ v. count_by (λ x. of x == v) xs) rows r within))
        ∙ over_rows at (length rows) apart (has_row rows) (record { found = row_found rows; known = λ r within. row_known rows r (at r) within refl }) of p xs

    -- all items with the number of a row
    pub all_rows : (rows : List R) (files : List ℕ) (xs : List X) → AreDistinct (map (λ q. q.1) (pairs_of rows)) → files ≡ counts rows xs → sum files ≡ count_by (λ x. has_row rows (of x)) xs
    all_rows rows files xs distinct is =
        sym (sum_below-places (λ (n : ℕ). n) files 0) ∙ by_rows rows files xs distinct is (λ v. true) ∙ (λ i. count_by (λ x. and-true (has_row rows (of x)) i) xs)
