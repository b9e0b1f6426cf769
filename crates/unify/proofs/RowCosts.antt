-- How many fields of a host's files a map changes is summed over the rows of its tables.
use Rattle.std.proofs.Common.{◌≡◌, ℕ, ◌+◌, ◌<◌, ◌≤◌, ◌==◌, Bool, true, false, cond, List, [], ◌∷◌, length, map, take, get_or, Option, Some, None, refl, sym, ap, ◌∙◌, arith}
use Rattle.std.specs.Prelude.{not, is_some, option_map}
use Rattle.std.specs.List.{All, count_by, find, sum_by}
use Rattle.std.proofs.lemmas.Bool.{eq-eqb, eqb-true, false_from_ne_true}
use Rattle.std.proofs.lemmas.List.{get_or-map, take_all}
use Rattle.std.proofs.lemmas.List.Elements.{All-nil, All-cons, All-head, All-tail}
use Rattle.std.proofs.lemmas.List.Sums.{count_by-le-length, sum_by-cons, sum_by-take-le, sum_by_more}
use Rattle.accounts.specs.Laws.{AreDistinct}
use Rattle.hosts_join.specs.Accounts.{Pair}
use Rattle.hosts_join.specs.Pairs.{number_of}
use Rattle.mtree_inv.specs.declared.entry.Entry.{Entry}
use Rattle.unify.specs.Cost.{changed, is_number}
use Rattle.unify.specs.RowFiles.{files_with}
use Rattle.unify.proofs.Counts.{AreApart, apart, by_rows, passing}

-- whether the map gives another number to the name than it has
abbrev pub is_changed : List Pair → List ℕ → ℕ → Bool
is_changed pairs name number = not (is_number (number_of pairs name) number)

-- whether it changes a field with the number
abbrev changes : List Pair → Option (List ℕ) → ℕ → Bool
changes pairs None number = false
changes pairs (Some name) number = is_changed pairs name number

one_if : (b : Bool) → cond {A = ℕ} b 0 1 ≡ cond (not b) 1 0
one_if true = refl
one_if false = refl

changed_is : (pairs : List Pair) (told : Option (List ℕ)) (number : ℕ) → cond {A = ℕ} (changes pairs told number) 1 0 ≡ changed pairs told number
changed_is pairs None number = refl
changed_is pairs (Some name) number = sym (one_if (is_number (number_of pairs name) number))

-- a field changes only where its number is a row's
there : {A : Type 0} (pairs : List Pair) (name : A → List ℕ) (o : Option A) (number : ℕ) → changes pairs (option_map name o) number ≡ true → is_some o ≡ true
there pairs name (Some x) number h = refl
there pairs name None number h = absurd (cc)

sums_same : {A : Type 0} (f g : A → ℕ) (xs : List A) → All (λ x. f x ≡ g x) xs → sum_by f xs ≡ sum_by g xs
sums_same f g [] same = refl
sums_same f g (x ∷ xs) same = omega (arith, sum_by-cons f x xs, sum_by-cons g x xs, All-head (λ y. f y ≡ g y) x xs same, sums_same f g xs (All-tail (λ y. f y ≡ g y) x xs same))

module _ {R : Type 0} (number : R → ℕ) (name : R → List ℕ) where
  -- each row is the one that is found by its number
  IsFoundIn : List R → R → Type 0
  IsFoundIn rows r = find (λ q. number r == number q) rows ≡ Some r

  found : (rows : List R) → AreApart number rows → All (IsFoundIn rows) rows
  unfolding IsFoundIn
  found [] are = All-nil (IsFoundIn [])
  found (r ∷ rows) are =
      let first : IsFoundIn (r ∷ rows) r = rw (eq-eqb (number r) (number r) refl) refl in
      let later : All (IsFoundIn (r ∷ rows)) rows = λ k d l.
      let q = get_or rows k d in
      let differs : (number q == number r) ≡ false = false_from_ne_true (number q == number r) (λ t.
      let bad : true ≡ false = sym (eq-eqb (number r) (number q) (sym (eqb-true (number q) (number r) t))) ∙ are.0 k d l in
      absurd (cc)) in
      rw differs (found rows are.1 k d l) in
      All-cons (IsFoundIn (r ∷ rows)) r rows first later

  abbrev name_at : List R → ℕ → Option (List ℕ)
  name_at rows n = option_map name (find (λ r. n == number r) rows)

  module _ (pairs : List Pair) (of : Entry → ℕ) (files : List Entry) where
    -- how many fields change of the files that have the number of the row
    abbrev pub row_fields : R → ℕ
    row_fields r = cond (is_changed pairs (name r) (number r)) (files_with of (number r) files) 0

    -- those of the first rows
    abbrev pub first_fields : List R → ℕ → ℕ
    first_fields rows index = sum_by row_fields (take index rows)

    module _ (rows : List R) (distinct : AreDistinct (map number rows)) where
      by_number : sum_by row_fields rows ≡ count_by (λ e. changes pairs (name_at rows (of e)) (of e)) files
      unfolding IsFoundIn
      by_number =
          let are = apart number rows distinct in
          let passes : ℕ → Bool = λ n. changes pairs (name_at rows n) n in
          let same : All (λ r. row_fields r ≡ passing number passes of files r) rows = λ k d l.
          let r = get_or rows k d in
          ap (λ o. cond {A = ℕ} (changes pairs (option_map name o) (number r)) (files_with of (number r) files) 0) (sym (found rows are k d l)) in
          sums_same row_fields (passing number passes of files) rows same ∙ sym (by_rows number passes of rows are files (λ n. there pairs name (find (λ r. n == number r) rows) n))

      -- those of all rows are the fields that change
      pub all_fields : (index : ℕ) → length rows ≤ index → first_fields rows index ≡ sum_by (λ e. changed pairs (name_at rows (of e)) (of e)) files
      all_fields index all =
          let each : All (λ e. cond {A = ℕ} (changes pairs (name_at rows (of e)) (of e)) 1 0 ≡ changed pairs (name_at rows (of e)) (of e)) files = λ k d l. changed_is pairs (name_at rows (of (get_or files k d))) (of (get_or files k d)) in
          ap (sum_by row_fields) (take_all index rows all) ∙ by_number ∙ sums_same (λ e. cond {A = ℕ} (changes pairs (name_at rows (of e)) (of e)) 1 0) (λ e. changed pairs (name_at rows (of e)) (of e)) files each

      -- there is room for them
      pub few_fields : (index : ℕ) → first_fields rows index ≤ length files
      few_fields index = omega (arith, sum_by-take-le row_fields rows index, by_number, count_by-le-length (λ e. changes pairs (name_at rows (of e)) (of e)) files)

    -- one row more
    module _ (rows : List R) (counts : List ℕ) (are : counts ≡ map (λ r. files_with of (number r) files) rows) (index fields : ℕ) (r : R) (b : Bool) (within : index < length rows) (is : r ≡ get_or rows index r) (told : b ≡ is_changed pairs (name r) (number r)) (so_far : fields ≡ first_fields rows index) where
      more : first_fields rows (index + 1) ≡ fields + cond b (files_with of (number r) files) 0
      more = sum_by_more row_fields rows index r within ∙ ap (λ (q : R). first_fields rows index + row_fields q) (sym is)
          ∙ ap (λ n. n + row_fields r) (sym so_far) ∙ ap (λ (x : Bool). fields + cond {A = ℕ} x (files_with of (number r) files) 0) (sym told)

      pub one_changed : b ≡ true → fields + get_or counts index 0 ≡ first_fields rows (index + 1)
      one_changed changes =
          let here : get_or counts index 0 ≡ files_with of (number r) files = ap (λ ns. get_or ns index 0) are ∙ get_or-map (λ q. files_with of (number q) files) rows index r 0 within ∙ ap (λ (q : R). files_with of (number q) files) (sym is) in
          let all : cond {A = ℕ} b (files_with of (number r) files) 0 ≡ files_with of (number r) files = ap (λ (x : Bool). cond {A = ℕ} x (files_with of (number r) files) 0) changes in
          omega (arith, more, here, all)

      pub one_kept : b ≡ false → fields ≡ first_fields rows (index + 1)
      one_kept stays =
          let none : cond {A = ℕ} b (files_with of (number r) files) 0 ≡ 0 = ap (λ (x : Bool). cond {A = ℕ} x (files_with of (number r) files) 0) stays in
          omega (arith, more, none)
