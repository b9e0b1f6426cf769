-- Counters that take the files of rows, one row after the other.
use Rattle.std.proofs.Common.{◌≡◌, ℕ, ◌+◌, ◌<◌, ◌≤◌, ◌==◌, ◌&&◌, Bool, true, false, cond, List, length, get_or, Option, Some, None, refl, sym, ap, ◌∙◌, arith}
use Rattle.std.specs.List.{sum}
use Rattle.std.proofs.lemmas.List.Sums.{sum_by-take-le}
use Rattle.hosts_join.specs.Accounts.{Account, owner}
use Rattle.ownership.specs.Counts.{Tally, CountsMore}
use Rattle.ownership.specs.Files.{is_place}
use Rattle.ownership.specs.HostFiles.{CountsRows, row_number, rows_with}
use Rattle.ownership.specs.Sums.{sum_below}
use Rattle.ownership.proofs.SumsBelow.{sum_below_more, sum_below-le, sum_below-taken}

part : (b : Bool) (n : ℕ) → cond {A = ℕ} b n 0 ≤ n
part true n = omega arith
part false n = omega arith

-- some of the files of the first rows are within all files
pub rows-within : (p : ℕ → Bool) (pairs : List (List ℕ × ℕ)) (files : List ℕ) (n : ℕ) → n ≤ length files → rows_with p pairs files n ≤ sum files
rows-within p pairs files n within =
    let most : rows_with p pairs files n ≤ sum_below (λ r. get_or files r 0) n = sum_below-le (λ r. cond {A = ℕ} (p (row_number pairs r)) (get_or files r 0) 0) (λ r. get_or files r 0) n (λ r l. part (p (row_number pairs r)) (get_or files r 0)) in
    let taken = sum_below-taken (λ (x : ℕ). x) files 0 n within in
    let all = sum_by-take-le (λ (x : ℕ). x) files n in
    omega (arith, most, taken, all)

-- and so they are with all files of the next row
pub next-within : (p : ℕ → Bool) (pairs : List (List ℕ × ℕ)) (files : List ℕ) (n : ℕ) → n < length files → rows_with p pairs files n + get_or files n 0 ≤ sum files
next-within p pairs files n within =
    let most : rows_with p pairs files n ≤ sum_below (λ r. get_or files r 0) n = sum_below-le (λ r. cond {A = ℕ} (p (row_number pairs r)) (get_or files r 0) 0) (λ r. get_or files r 0) n (λ r l. part (p (row_number pairs r)) (get_or files r 0)) in
    let next = sum_below_more (λ r. get_or files r 0) n in
    let upto : n + 1 ≤ length files = omega (arith, within) in
    let taken = sum_below-taken (λ (x : ℕ). x) files 0 (n + 1) upto in
    let all = sum_by-take-le (λ (x : ℕ). x) files (n + 1) in
    omega (arith, most, next, taken, all)

module _ (names : List Account) (index : ℕ) (pairs : List (List ℕ × ℕ)) (files : List ℕ) where
  abbrev Counted : ℕ → List Tally → List Tally → Type 0
  Counted rows old new = CountsRows names index pairs files rows old new

  pub rows-none : (old : List Tally) → Counted 0 old old
  unfolding sum_below
  rows-none old = record {
    len = refl;
    cells = λ i v. refl;
    kept = λ i v. omega arith;
    total = λ i. omega arith;
  }

  -- the next row, which the name has
  pub rows-owned : (place name number here : ℕ) (found : Option ℕ) (old now new : List Tally) → number ≡ row_number pairs place → here ≡ get_or files place 0 → found ≡ owner names index number → found ≡ Some name → Counted place old now → CountsMore now new name number here → Counted (place + 1) old new
  rows-owned place name number here found old now new number_is here_is its own was one = record {
    len = one.len ∙ was.len;
    cells = λ i v. one.cells i v ∙ was.cells i v;
    kept = λ i v.
        let more = sum_below_more (λ r. cond {A = ℕ} (is_place i (owner names index (row_number pairs r)) && (row_number pairs r == v)) (get_or files r 0) 0) place in
        let placed : is_place i (owner names index (row_number pairs place)) ≡ (i == name) = ap (λ n. is_place i (owner names index n)) (sym number_is) ∙ ap (is_place i) (sym its ∙ own) in
        let test : (is_place i (owner names index (row_number pairs place)) && (row_number pairs place == v)) ≡ ((i == name) && (number == v)) = ap (λ b. b && (row_number pairs place == v)) placed ∙ ap (λ n. (i == name) && (n == v)) (sym number_is) in
        let last : cond {A = ℕ} (is_place i (owner names index (row_number pairs place)) && (row_number pairs place == v)) (get_or files place 0) 0 ≡ cond {A = ℕ} ((i == name) && (number == v)) here 0 = ap (λ b. cond {A = ℕ} b (get_or files place 0) 0) test ∙ ap (λ n. cond {A = ℕ} ((i == name) && (number == v)) n 0) (sym here_is) in
        omega (arith, one.kept i v, was.kept i v, more, last);
    total = λ i.
        let more = sum_below_more (λ r. cond {A = ℕ} (is_place i (owner names index (row_number pairs r))) (get_or files r 0) 0) place in
        let placed : is_place i (owner names index (row_number pairs place)) ≡ (i == name) = ap (λ n. is_place i (owner names index n)) (sym number_is) ∙ ap (is_place i) (sym its ∙ own) in
        let last : cond {A = ℕ} (is_place i (owner names index (row_number pairs place))) (get_or files place 0) 0 ≡ cond {A = ℕ} (i == name) here 0 = ap (λ b. cond {A = ℕ} b (get_or files place 0) 0) placed ∙ ap (λ n. cond {A = ℕ} (i == name) n 0) (sym here_is) in
        omega (arith, one.total i, was.total i, more, last);
  }

  -- the next row, which nobody has
  pub rows-unowned : (place number : ℕ) (found : Option ℕ) (old now : List Tally) → number ≡ row_number pairs place → found ≡ owner names index number → found ≡ None → Counted place old now → Counted (place + 1) old now
  rows-unowned place number found old now number_is its own was = record {
    len = was.len;
    cells = was.cells;
    kept = λ i v.
        let more = sum_below_more (λ r. cond {A = ℕ} (is_place i (owner names index (row_number pairs r)) && (row_number pairs r == v)) (get_or files r 0) 0) place in
        let placed : is_place i (owner names index (row_number pairs place)) ≡ false = ap (λ n. is_place i (owner names index n)) (sym number_is) ∙ ap (is_place i) (sym its ∙ own) in
        let last : cond {A = ℕ} (is_place i (owner names index (row_number pairs place)) && (row_number pairs place == v)) (get_or files place 0) 0 ≡ 0 = ap (λ b. cond {A = ℕ} (b && (row_number pairs place == v)) (get_or files place 0) 0) placed in
        omega (arith, was.kept i v, more, last);
    total = λ i.
        let more = sum_below_more (λ r. cond {A = ℕ} (is_place i (owner names index (row_number pairs r))) (get_or files r 0) 0) place in
        let placed : is_place i (owner names index (row_number pairs place)) ≡ false = ap (λ n. is_place i (owner names index n)) (sym number_is) ∙ ap (is_place i) (sym its ∙ own) in
        let last : cond {A = ℕ} (is_place i (owner names index (row_number pairs place))) (get_or files place 0) 0 ≡ 0 = ap (λ b. cond {A = ℕ} b (get_or files place 0) 0) placed in
        omega (arith, was.total i, more, last);
  }

  -- the next row, which has no files
  pub rows-empty : (place : ℕ) (old now : List Tally) → get_or files place 0 ≡ 0 → Counted place old now → Counted (place + 1) old now
  rows-empty place old now none was = record {
    len = was.len;
    cells = was.cells;
    kept = λ i v.
        let more = sum_below_more (λ r. cond {A = ℕ} (is_place i (owner names index (row_number pairs r)) && (row_number pairs r == v)) (get_or files r 0) 0) place in
        let last = part (is_place i (owner names index (row_number pairs place)) && (row_number pairs place == v)) (get_or files place 0) in
        omega (arith, was.kept i v, more, last, none);
    total = λ i.
        let more = sum_below_more (λ r. cond {A = ℕ} (is_place i (owner names index (row_number pairs r))) (get_or files r 0) 0) place in
        let last = part (is_place i (owner names index (row_number pairs place))) (get_or files place 0) in
        omega (arith, was.total i, more, last, none);
  }
