-- On how many hosts a name has each of the numbers that ascending counters have.
use Rattle.std.proofs.Common.{◌≡◌, ℕ, zero, suc, ◌+◌, ◌<◌, ◌≤◌, ◌==◌, false, cond, List, [], ◌∷◌, length, drop, get_or, refl, sym, ◌∙◌, ap, arith, inl, inr}
use Rattle.std.specs.List.{count_by, list_any, sum_by}
use Rattle.std.proofs.lemmas.Bool.{cases_eq, eq-eqb, ne_eqb}
use Rattle.std.proofs.lemmas.List.{drop_more}
use Rattle.std.proofs.lemmas.List.Folds.{list_any_at}
use Rattle.std.proofs.lemmas.List.Sums.{sum_by-cons}
use Rattle.hosts_join.specs.Accounts.{Account, lines}
use Rattle.hosts_join.specs.declared.Spot.{Spot}
use Rattle.ownership.specs.Counts.{count_in, has_cell}
use Rattle.ownership.specs.Potentials.{AscendsByNumber}
use Rattle.candidates.proofs.RowLemmas.{key_at, lines-some, turned}

later : (e : ℕ × ℕ) (es : List (ℕ × ℕ)) → AscendsByNumber (e ∷ es) → AscendsByNumber es
later e es up i j d l h = up (suc i) (suc j) d (omega arith) (omega arith)

above : (e : ℕ × ℕ) (es : List (ℕ × ℕ)) → AscendsByNumber (e ∷ es) → (j : ℕ) (d : ℕ × ℕ) → j < length es → e.0 < (get_or es j d).0
above e es up j d h = up 0 (suc j) d (omega arith) (omega arith)

-- the counter of a number
pub count-at : (es : List (ℕ × ℕ)) (k : ℕ) → AscendsByNumber es → k < length es → count_in es (key_at es k) ≡ (get_or es k (0, 0)).1
count-at [] k up h = absurd (omega arith)
count-at (e ∷ es) zero up h = rw (eq-eqb e.0 e.0 refl) refl
count-at (e ∷ es) (suc k) up h =
    let before : e.0 < key_at es k = above e es up k (0, 0) (omega arith) in
    let other : (key_at es k == e.0) ≡ false = ne_eqb (key_at es k) e.0 (λ same. omega (arith, before, same)) in
    rw other (count-at es k (later e es up) (omega arith))

-- the name has each number in some row
pub some-line : (a : Account) (es : List (ℕ × ℕ)) (k : ℕ) → ((v : ℕ) → has_cell es v ≡ list_any (λ s. v == s.number) a.spots) → k < length es → 1 ≤ lines a (key_at es k)
some-line a es k same h = lines-some a (key_at es k) (sym (turned a.spots (key_at es k)) ∙ sym (same (key_at es k)) ∙ list_any_at (λ (e : ℕ × ℕ). key_at es k == e.0) es k (0, 0) h (eq-eqb (key_at es k) (key_at es k) refl))

-- ---- how many rows have the numbers from a place on

none-above : (n : ℕ) (es : List (ℕ × ℕ)) → ((j : ℕ) (d : ℕ × ℕ) → j < length es → n < (get_or es j d).0) → count_by (λ e. n == e.0) es ≡ 0
none-above n [] up = refl
none-above n (e ∷ es) up =
    let low : n < e.0 = up 0 e (omega arith) in
    let other : (n == e.0) ≡ false = ne_eqb n e.0 (λ same. omega (arith, low, same)) in
    omega (arith, sum_by-cons (λ (x : ℕ × ℕ). cond (n == x.0) 1 0) e es, ap (λ b. cond {A = ℕ} b 1 0) other, none-above n es (λ j d h. up (suc j) d (omega arith)))

once : (n : ℕ) (es : List (ℕ × ℕ)) → AscendsByNumber es → count_by (λ e. n == e.0) es ≤ 1
once n [] up = omega arith
once n (e ∷ es) up =
    let all = sum_by-cons (λ (x : ℕ × ℕ). cond (n == x.0) 1 0) e es in
    elim (cases_eq n e.0) [
      | inl same ↦ omega (arith, all, ap (λ b. cond {A = ℕ} b 1 0) (eq-eqb n e.0 same), none-above n es (λ j d h. let up = above e es up j d h in omega (arith, up, same)))
      | inr other ↦ omega (arith, all, ap (λ b. cond {A = ℕ} b 1 0) (ne_eqb n e.0 other), once n es (later e es up))
    ]

-- the rows with the number of a counter
abbrev rows : List Spot → ℕ × ℕ → ℕ
rows ss e = count_by (λ s. s.number == e.0) ss

no-rows : (es : List (ℕ × ℕ)) → sum_by (rows []) es ≡ 0
no-rows [] = refl
no-rows (e ∷ es) = omega (arith, sum_by-cons (rows []) e es, no-rows es)

one-more : (s : Spot) (ss : List Spot) (es : List (ℕ × ℕ)) → sum_by (rows (s ∷ ss)) es ≡ count_by (λ e. s.number == e.0) es + sum_by (rows ss) es
one-more s ss [] = refl
one-more s ss (e ∷ es) = omega (
  arith,
  sum_by-cons (rows (s ∷ ss)) e es,
  sum_by-cons (rows ss) e es,
  sum_by-cons (λ (x : ℕ × ℕ). cond (s.number == x.0) 1 0) e es,
  sum_by-cons (λ (x : Spot). cond (x.number == e.0) 1 0) s ss,
  one-more s ss es,
)

all-rows : (ss : List Spot) (es : List (ℕ × ℕ)) → AscendsByNumber es → sum_by (rows ss) es ≤ length ss
all-rows [] es up = omega (arith, no-rows es)
all-rows (s ∷ ss) es up = omega (arith, one-more s ss es, once s.number es up, all-rows ss es up)

many : (f : ℕ × ℕ → ℕ) (es : List (ℕ × ℕ)) → ((k : ℕ) → k < length es → 1 ≤ f (get_or es k (0, 0))) → length es ≤ sum_by f es
many f [] some = omega arith
many f (e ∷ es) some = omega (arith, sum_by-cons f e es, some 0 (omega arith), many f es (λ k h. some (suc k) (omega arith)))

-- the rows with the numbers from a place on
abbrev pub left : Account → List (ℕ × ℕ) → ℕ → ℕ
left a es k = sum_by (rows a.spots) (drop k es)

-- the numbers from a place on are in one row each, and in at most so many more
abbrev pub IsEnough : Account → List (ℕ × ℕ) → ℕ → ℕ → Type 0
IsEnough a es k more = left a es k + k ≤ more + length es

module _ (a : Account) (es : List (ℕ × ℕ)) (up : AscendsByNumber es) (same : (v : ℕ) → has_cell es v ≡ list_any (λ s. v == s.number) a.spots) where
  pub left-all : left a es 0 ≤ length a.spots
  left-all = all-rows a.spots es up

  pub numbers-few : length es ≤ length a.spots
  numbers-few = omega (arith, left-all, many (rows a.spots) es (λ k h. some-line a es k same h))

  pub left-one : (k : ℕ) → k < length es → left a es k ≡ lines a (key_at es k) + left a es (k + 1)
  left-one k h = ap (sum_by (rows a.spots)) (drop_more es k (0, 0) h) ∙ sum_by-cons (rows a.spots) (get_or es k (0, 0)) (drop (k + 1) es)

  pub left-many : (k : ℕ) → length es ≤ k + left a es k
  left-many k = from (rows a.spots) es k (λ j h. some-line a es j same h)
    where
      from : (f : ℕ × ℕ → ℕ) (es : List (ℕ × ℕ)) (k : ℕ) → ((j : ℕ) → j < length es → 1 ≤ f (get_or es j (0, 0))) → length es ≤ k + sum_by f (drop k es)
      from f [] k some = omega arith
      from f (e ∷ es) zero some = omega (arith, many f (e ∷ es) some)
      from f (e ∷ es) (suc k) some = omega (arith, from f es k (λ j h. some (suc j) (omega arith)))
