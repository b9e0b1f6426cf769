-- Two lists of files of which each row of a host's tables owns as many: whatever is asked of a file's number that only numbers of
-- rows pass, as many pass.
use Rattle.std.proofs.Common.{◌≡◌, ℕ, suc, ◌+◌, ◌<◌, Bool, true, false, cond, List, [], ◌∷◌, length, map, get_or, refl, sym, ap, subst, ◌∙◌, arith, inl, inr, ◌==◌}
use Rattle.std.specs.List.{All, count_by, find, sum_by}
use Rattle.std.specs.Option.{is_some}
use Rattle.std.proofs.lemmas.Bool.{cases_Bool, eqb-true, false_from_ne_true}
use Rattle.std.proofs.lemmas.List.{get_or-map, length-map}
use Rattle.std.proofs.lemmas.List.Elements.{All-head, All-tail}
use Rattle.std.proofs.lemmas.List.Sums.{sum_by-cons}
use Rattle.accounts.specs.Laws.{AreDistinct}

no_more : (b : Bool) → cond {A = ℕ} b 0 0 ≡ 0
no_more true = refl
no_more false = refl

both : (b : Bool) (x y : ℕ) → cond {A = ℕ} b (x + y) 0 ≡ cond {A = ℕ} b x 0 + cond {A = ℕ} b y 0
both true x y = refl
both false x y = refl

module _ {R : Type 0} (number : R → ℕ) where
  -- no later row has the number of an earlier one
  abbrev pub AreApart : List R → Type 0
  AreApart [] = Unit {0}
  AreApart (r ∷ rows) = All (λ q. (number r == number q) ≡ false) rows × AreApart rows

  pub apart : (rows : List R) → AreDistinct (map number rows) → AreApart rows
  apart [] distinct = tt
  apart (r ∷ rows) distinct = (
    (λ k d within. false_from_ne_true (number r == number (get_or rows k d)) (λ t.
        let within' : suc k < length (map number (r ∷ rows)) = omega (arith, within, length-map rows number) in
        let first : 0 < length (map number (r ∷ rows)) = omega arith in
        let same : number r ≡ get_or (map number rows) k 0 = eqb-true (number r) (number (get_or rows k d)) t ∙ sym (get_or-map number rows k d 0 within) in
        let none : 0 ≡ suc k = distinct 0 (suc k) 0 first within' same in
        absurd (omega (arith, none)))),
    apart rows (λ i j d one two e.
        let next : suc i ≡ suc j = distinct (suc i) (suc j) d (omega (arith, one)) (omega (arith, two)) e in
        omega (arith, next)),
  )

  module _ (P : ℕ → Bool) where
    -- what a row tells of a number: one, if the row has it and it passes
    abbrev told : ℕ → R → ℕ
    told n r = cond {A = ℕ} (P (number r)) (cond {A = ℕ} (n == number r) 1 0) 0

    missed : (n : ℕ) (rows : List R) → All (λ q. (n == number q) ≡ false) rows → sum_by (told n) rows ≡ 0
    missed n [] none = refl
    missed n (r ∷ rows) none =
        let is = λ (q : R). (n == number q) ≡ false in
        let here : told n r ≡ 0 = ap (λ (b : Bool). cond {A = ℕ} (P (number r)) (cond {A = ℕ} b 1 0) 0) (All-head is r rows none) ∙ no_more (P (number r)) in
        omega (arith, sum_by-cons (told n) r rows, here, missed n rows (All-tail is r rows none))

    -- none tells of a number that does not pass
    unpassed : (n : ℕ) (rows : List R) → P n ≡ false → sum_by (told n) rows ≡ 0
    unpassed n [] fails = refl
    unpassed n (r ∷ rows) fails = omega (arith, sum_by-cons (told n) r rows, here, unpassed n rows fails)
      where
        here : told n r ≡ 0
        here = elim (cases_Bool (n == number r)) [
          | inl t ↦ ap (λ (b : Bool). cond {A = ℕ} b (cond {A = ℕ} (n == number r) 1 0) 0) (ap P (sym (eqb-true n (number r) t)) ∙ fails)
          | inr f ↦ ap (λ (b : Bool). cond {A = ℕ} (P (number r)) (cond {A = ℕ} b 1 0) 0) f ∙ no_more (P (number r))
        ]

    -- of rows that are numbered apart, one of which has the number, one tells of it
    hit : (n : ℕ) (rows : List R) → AreApart rows → is_some (find (λ r. n == number r) rows) ≡ true → sum_by (told n) rows ≡ cond {A = ℕ} (P n) 1 0
    hit n [] are there = absurd (cc)
    hit n (r ∷ rows) are there = elim (cases_Bool (n == number r)) [
      | inl t ↦
          let same : n ≡ number r = eqb-true n (number r) t in
          let others = subst (λ m. All (λ q. (m == number q) ≡ false) rows) (sym same) are.0 in
          let here : told n r ≡ cond {A = ℕ} (P n) 1 0 = ap (λ (b : Bool). cond {A = ℕ} (P (number r)) (cond {A = ℕ} b 1 0) 0) t ∙ ap (λ m. cond {A = ℕ} (P m) 1 0) (sym same) in
          omega (arith, sum_by-cons (told n) r rows, here, missed n rows others)
      | inr f ↦
          let here : told n r ≡ 0 = ap (λ (b : Bool). cond {A = ℕ} (P (number r)) (cond {A = ℕ} b 1 0) 0) f ∙ no_more (P (number r)) in
          let later : is_some (find (λ q. n == number q) rows) ≡ true = rw f at there in
          omega (arith, sum_by-cons (told n) r rows, here, hit n rows are.1 later)
    ]

    -- where each number that passes is some row's
    told_once : (n : ℕ) (rows : List R) → AreApart rows → (P n ≡ true → is_some (find (λ r. n == number r) rows) ≡ true) → sum_by (told n) rows ≡ cond {A = ℕ} (P n) 1 0
    told_once n rows are there = elim (cases_Bool (P n)) [
      | inl t ↦ hit n rows are (there t)
      | inr f ↦ unpassed n rows f ∙ sym (ap (λ (b : Bool). cond {A = ℕ} b 1 0) f)
    ]

    module _ {E : Type 0} (of : E → ℕ) where
      abbrev pub owned : List E → R → ℕ
      owned files r = count_by (λ e. of e == number r) files

      abbrev pub passing : List E → R → ℕ
      passing files r = cond {A = ℕ} (P (number r)) (owned files r) 0

      nothing : (rows : List R) → sum_by (passing []) rows ≡ 0
      nothing [] = refl
      nothing (r ∷ rows) = omega (arith, sum_by-cons (passing []) r rows, no_more (P (number r)), nothing rows)

      one_more : (e : E) (files : List E) (rows : List R) → sum_by (passing (e ∷ files)) rows ≡ sum_by (told (of e)) rows + sum_by (passing files) rows
      one_more e files [] = refl
      one_more e files (r ∷ rows) =
          let counted : owned (e ∷ files) r ≡ cond {A = ℕ} (of e == number r) 1 0 + owned files r = sum_by-cons (λ (x : E). cond {A = ℕ} (of x == number r) 1 0) e files in
          let here : passing (e ∷ files) r ≡ told (of e) r + passing files r = ap (λ n. cond {A = ℕ} (P (number r)) n 0) counted ∙ both (P (number r)) (cond {A = ℕ} (of e == number r) 1 0) (owned files r) in
          omega (arith, sum_by-cons (passing (e ∷ files)) r rows, sum_by-cons (told (of e)) r rows, sum_by-cons (passing files) r rows, here, one_more e files rows)

      -- the files that pass, counted row by row
      pub by_rows : (rows : List R) → AreApart rows → (files : List E) → ((n : ℕ) → P n ≡ true → is_some (find (λ r. n == number r) rows) ≡ true) → count_by (λ e. P (of e)) files ≡ sum_by (passing files) rows
      by_rows rows are [] there = sym (nothing rows)
      by_rows rows are (e ∷ files) there =
          omega (arith, sum_by-cons (λ (x : E). cond {A = ℕ} (P (of x)) 1 0) e files, one_more e files rows, told_once (of e) rows are (there (of e)), by_rows rows are files there)

      rows_same : (files others : List E) (rows : List R) → map (owned files) rows ≡ map (owned others) rows → sum_by (passing files) rows ≡ sum_by (passing others) rows
      rows_same files others [] same = refl
      rows_same files others (r ∷ rows) same =
          let head : owned files r ≡ owned others r = ap (λ ns. get_or ns 0 0) same in
          let tail : map (owned files) rows ≡ map (owned others) rows = cc in
          let here : passing files r ≡ passing others r = ap (λ n. cond {A = ℕ} (P (number r)) n 0) head in
          omega (arith, sum_by-cons (passing files) r rows, sum_by-cons (passing others) r rows, here, rows_same files others rows tail)

      pub as_many : (rows : List R) → AreApart rows → (files others : List E) → ((n : ℕ) → P n ≡ true → is_some (find (λ r. n == number r) rows) ≡ true)
          → map (owned files) rows ≡ map (owned others) rows → count_by (λ e. P (of e)) files ≡ count_by (λ e. P (of e)) others
      as_many rows are files others there same = by_rows rows are files there ∙ rows_same files others rows same ∙ sym (by_rows rows are others there)
