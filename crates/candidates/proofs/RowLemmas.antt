-- Rows of candidates.
use Rattle.std.proofs.Common.{◌≡◌, ℕ, zero, suc, ◌+◌, ◌*◌, ◌<◌, ◌≤◌, ◌^◌, ◌==◌, ◌&&◌, Bool, true, false, cond, List, [], ◌∷◌, ◌++◌, length, take, get_or, refl, sym, ◌∙◌, ap, arith, inl, inr, mul-le-mul}
use Rattle.std.specs.List.{list_any, count_by, All}
use Rattle.std.proofs.Math.Bool.{or-false, or-true}
use Rattle.std.proofs.lemmas.Bool.{cases_Bool, cases_lt, cases_eq, eqb-true, eq-eqb, false≢true, true≢false}
use Rattle.std.proofs.lemmas.List.Elements.{All-nil, All-head, All-tail, All-push}
use Rattle.candidates.specs.declared.Candidate.{Candidate}
use Rattle.std.proofs.lemmas.List.Folds.{list_any_more}
use Rattle.hosts_join.specs.Accounts.{Accounts, Account, lines, all_lines, no_account}
use Rattle.hosts_join.specs.Rules.{account, in_pool, is_free_class, class_at}
use Rattle.hosts_join.specs.declared.Class.{Class}
use Rattle.hosts_join.specs.declared.Class.TheVariants.{Pinned, Regular, System}
use Rattle.ownership.specs.Counts.{Tally, told_kept, count_in, has_cell, tally_at, AreMadeFor, CountFiles}
use Rattle.candidates.specs.Told.{IsToldRow}
use Rattle.ownership.specs.Potentials.{AscendsByNumber}
use Rattle.ownership.specs.Weights.{told_weight}
use Rattle.hosts_join.specs.declared.Spot.{Spot}
use Rattle.ownership.specs.Files.{File}
use Rattle.std.proofs.Math.Bool.{and-false, and-true}
use Rattle.std.proofs.lemmas.List.{take_all, length-append, get_or_append_left, get_or_push}
use Rattle.std.proofs.lemmas.List.Sums.{sum_by-cons, count_by-le-length}
use Rattle.std.proofs.lemmas.Bool.{ne_eqb}
use Rattle.candidates.specs.Rows.{IsAscending, IsWeighed, IsLawfulRow, weight_in, IsCandidate, IsRow, row_at}
use Rattle.ownership.specs.Weights.{file_weight, weight}

-- a candidate above all others
pub IsAscending-push : (row : List Candidate) (c : Candidate) → All (λ d. d.number < c.number) row → IsAscending row → IsAscending (row ++ c ∷ [])
IsAscending-push [] c below up = (All-nil (λ d. c.number < d.number), tt)
IsAscending-push (x ∷ row) c below up =
    (All-push (λ (d : Candidate). x.number < d.number) row c up.0 (All-head (λ (d : Candidate). d.number < c.number) x row below), IsAscending-push row c (All-tail (λ (d : Candidate). d.number < c.number) x row below) up.1)

pub weight_in-push : (row : List Candidate) (c : Candidate) (v : ℕ) → All (λ d. d.number < c.number) row → weight_in (row ++ c ∷ []) v ≡ cond (c.number == v) c.weight (weight_in row v)
weight_in-push [] c v below = refl
weight_in-push (x ∷ row) c v below = elim (cases_Bool (x.number == v)) [
  | inl t ↦ elim (cases_Bool (c.number == v)) [
    | inl s ↦ absurd (let low : x.number < c.number = All-head (λ (d : Candidate). d.number < c.number) x row below in omega (arith, eqb-true x.number v t, eqb-true c.number v s))
    | inr f ↦ rw (t, f) refl
  ]
  | inr f ↦ rw f (weight_in-push row c v (All-tail (λ (d : Candidate). d.number < c.number) x row below))
]

-- the number of the item at a place
abbrev pub key_at : List (ℕ × ℕ) → ℕ → ℕ
key_at es k = (get_or es k (0, 0)).0

-- A row in the making: the candidates among the first counters, each below the counters that follow.
pub record IsRowSoFar (a : Accounts) (tallies : List Tally) (i k : ℕ) (es : List (ℕ × ℕ)) (row : List Candidate) : Type 0 where
  pub lawful : IsLawfulRow a i row
  pub below : (j : ℕ) → k ≤ j → j < length es → All (λ c. c.number < key_at es j) row
  pub weights : (v : ℕ) → weight_in row v ≡ cond (in_pool a (class_at a i) v && has_cell (take k es) v) (told_weight a tallies i v) 0

pub so-far-none : (a : Accounts) (tallies : List Tally) (i : ℕ) (es : List (ℕ × ℕ)) → IsRowSoFar a tallies i 0 es []
so-far-none a tallies i es = record {
  lawful = record { ascending = tt; weighed = All-nil IsWeighed; pooled = All-nil (λ (c : Candidate). in_pool a (class_at a i) c.number ≡ true) };
  below = λ j l h. All-nil (λ (c : Candidate). c.number < key_at es j);
  weights = λ v. rw (and-false (in_pool a (class_at a i) v)) refl;
}

pub so-far-push : (a : Accounts) (tallies : List Tally) (i k w : ℕ) (es : List (ℕ × ℕ)) (row : List Candidate) → AscendsByNumber es → k < length es
    → in_pool a (class_at a i) (key_at es k) ≡ true → w ≡ told_weight a tallies i (key_at es k) → 1 ≤ w → w < 2 ^ 63
    → IsRowSoFar a tallies i k es row → IsRowSoFar a tallies i (k + 1) es (row ++ record { number = key_at es k; weight = w } ∷ [])
so-far-push a tallies i k w es row up h pool is some fits s =
    let n = key_at es k in
    let c : Candidate = record { number = n; weight = w } in
    let under : All (λ (d : Candidate). d.number < n) row = s.below k (omega arith) h in
    record {
      lawful = record {
        ascending = IsAscending-push row c under s.lawful.ascending;
        weighed = All-push IsWeighed row c s.lawful.weighed (some, fits);
        pooled = All-push (λ (d : Candidate). in_pool a (class_at a i) d.number ≡ true) row c s.lawful.pooled pool;
      };
      below = λ j l within. All-push (λ (d : Candidate). d.number < key_at es j) row c (s.below j (omega (arith, l)) within) (up k j (0, 0) (omega (arith, l)) within);
      weights = λ v. weight_in-push row c v under ∙ (rw (list_any_more (λ (e : ℕ × ℕ). v == e.0) es k (0, 0) h) (elim (cases_eq n v) [
        | inl same ↦
            let here : in_pool a (class_at a i) v ≡ true = ap (in_pool a (class_at a i)) (sym same) ∙ pool in
            rw (eq-eqb n v same, eq-eqb v n (sym same), here, or-true (has_cell (take k es) v)) (is ∙ ap (told_weight a tallies i) same)
        | inr other ↦ rw (ne_eqb n v other, ne_eqb v n (λ e. other (sym e)), or-false (has_cell (take k es) v)) (s.weights v)
      ]));
    }

pub so-far-skip : (a : Accounts) (tallies : List Tally) (i k : ℕ) (es : List (ℕ × ℕ)) (row : List Candidate) → k < length es → in_pool a (class_at a i) (key_at es k) ≡ false
    → IsRowSoFar a tallies i k es row → IsRowSoFar a tallies i (k + 1) es row
so-far-skip a tallies i k es row h away s = record {
  lawful = s.lawful;
  below = λ j l within. s.below j (omega (arith, l)) within;
  weights = λ v. s.weights v ∙ (rw (list_any_more (λ (e : ℕ × ℕ). v == e.0) es k (0, 0) h) (elim (cases_eq v (key_at es k)) [
    | inl same ↦ let out : in_pool a (class_at a i) v ≡ false = ap (in_pool a (class_at a i)) same ∙ away in rw out refl
    | inr other ↦ rw (ne_eqb v (key_at es k) other, or-false (has_cell (take k es) v)) refl
  ]));
}

-- a name that has a number has a line with it
pub lines-some : (a : Account) (v : ℕ) → list_any (λ s. s.number == v) a.spots ≡ true → 1 ≤ lines a v
lines-some a v e = among a.spots e
  where
    among : (ss : List Spot) → list_any (λ s. s.number == v) ss ≡ true → 1 ≤ count_by (λ s. s.number == v) ss
    among [] e = absurd (false≢true e)
    among (s ∷ ss) e = elim (cases_Bool (s.number == v)) [
      | inl t ↦ omega (arith, sum_by-cons (λ (s : Spot). cond (s.number == v) 1 0) s ss, ap (λ b. cond {A = ℕ} b 1 0) t)
      | inr f ↦ let e' = rw f at e in omega (arith, among ss e', sum_by-cons (λ (s : Spot). cond (s.number == v) 1 0) s ss)
    ]

pub lines-none : (a : Account) (v : ℕ) → list_any (λ s. s.number == v) a.spots ≡ false → lines a v ≡ 0
lines-none a v e = among a.spots e
  where
    among : (ss : List Spot) → list_any (λ s. s.number == v) ss ≡ false → count_by (λ s. s.number == v) ss ≡ 0
    among [] e = refl
    among (s ∷ ss) e = elim (cases_Bool (s.number == v)) [
      | inl t ↦ let e' = rw t at e in absurd (true≢false e')
      | inr f ↦ let e' = rw f at e in omega (arith, among ss e', sum_by-cons (λ (s : Spot). cond (s.number == v) 1 0) s ss, ap (λ b. cond {A = ℕ} b 1 0) f)
    ]

pub lines-few : (names : List Account) (i v : ℕ) → lines (get_or names i no_account) v ≤ all_lines names
lines-few [] i v = omega arith
lines-few (a ∷ names) zero v = omega (arith, count_by-le-length (λ (s : Spot). s.number == v) a.spots)
lines-few (a ∷ names) (suc i) v = omega (arith, lines-few names i v)

-- the counters have no number that the name has not
pub kept-none : (tallies : List Tally) (i v : ℕ) → has_cell (tally_at tallies i).cells v ≡ false → told_kept tallies i v ≡ 0
kept-none tallies i v e = among (tally_at tallies i).cells e
  where
    among : (cs : List (ℕ × ℕ)) → has_cell cs v ≡ false → count_in cs v ≡ 0
    among [] e = refl
    among (c ∷ cs) e = elim (cases_Bool (v == c.0)) [ inl t ↦ let e' = rw t at e in absurd (true≢false e') | inr f ↦ let e' = rw f at e in rw f (among cs e') ]

pub turned : (ss : List Spot) (v : ℕ) → list_any (λ s. v == s.number) ss ≡ list_any (λ s. s.number == v) ss
turned [] v = refl
turned (s ∷ ss) v = rw (both v s.number, turned ss v) refl
  where
    both : (a b : ℕ) → (a == b) ≡ (b == a)
    both a b = elim (cases_eq a b) [ inl e ↦ rw (eq-eqb a b e, eq-eqb b a (sym e)) refl | inr ne ↦ rw (ne_eqb a b ne, ne_eqb b a (λ e. ne (sym e))) refl ]

pub told-none : (a : Accounts) (tallies : List Tally) (i v : ℕ) → AreMadeFor a.names tallies → i < length a.names → list_any (λ s. s.number == v) (account a i).spots ≡ false → told_weight a tallies i v ≡ 0
told-none a tallies i v made h e =
    let k = kept-none tallies i v (made.cells i v h ∙ turned (account a i).spots v ∙ e) in
    let l = lines-none (account a i) v e in
    rw (k, l) (omega arith)

-- where all counters are done, the row is what they tell
pub so-far-end : (a : Accounts) (tallies : List Tally) (i k : ℕ) (es : List (ℕ × ℕ)) (row : List Candidate) → AreMadeFor a.names tallies → i < length a.names → es ≡ (tally_at tallies i).cells → length es ≤ k
    → IsRowSoFar a tallies i k es row → IsToldRow a tallies i row
so-far-end a tallies i k es row made h are all s = record {
  lawful = s.lawful;
  weights = λ v. s.weights v ∙ ap (λ xs. cond (in_pool a (class_at a i) v && has_cell xs v) (told_weight a tallies i v) 0) (take_all k es all ∙ are) ∙ (elim (cases_Bool (has_cell (tally_at tallies i).cells v)) [
    | inl t ↦ rw (t, and-true (in_pool a (class_at a i) v)) refl
    | inr f ↦
        let none = told-none a tallies i v made h (sym (turned (account a i).spots v) ∙ sym (made.cells i v h) ∙ f) in
        rw (f, none, and-false (in_pool a (class_at a i) v)) (sym (cond-same (in_pool a (class_at a i) v)))
  ]);
}
  where
    cond-same : (b : Bool) → ◌≡◌ {A = ℕ} (cond b 0 0) 0
    cond-same true = refl
    cond-same false = refl

-- the files tell what the counters tell
pub told-is : (a : Accounts) (tallies : List Tally) (files : List File) (i : ℕ) (row : List Candidate) → CountFiles a.names tallies files → i < length a.names → IsToldRow a tallies i row → IsRow a files i row
told-is a tallies files i row counted h r = record {
  ascending = r.lawful.ascending;
  weighed = r.lawful.weighed;
  weights = λ v. r.weights v ∙ ap (λ n. cond (in_pool a (class_at a i) v) (file_weight a * n + lines (account a i) v) 0) (counted.kept_is i v h);
}

-- a weight fits
pub weight-fits : (b k l : ℕ) → b ≤ 4194305 → k ≤ 2147483648 → l ≤ 4194304 → b * k + l < 2 ^ 63
weight-fits b k l hb hk hl = omega (arith, mul-le-mul hb hk)

pub record AreToldRows (a : Accounts) (tallies : List Tally) (k : ℕ) (rows : List (List Candidate)) : Type 0 where
  pub len : length rows ≡ k
  pub each : (i : ℕ) → i < k → IsToldRow a tallies i (row_at rows i)

pub told-rows-push : (a : Accounts) (tallies : List Tally) (k : ℕ) (rows : List (List Candidate)) (row : List Candidate) → IsToldRow a tallies k row → AreToldRows a tallies k rows → AreToldRows a tallies (k + 1) (rows ++ row ∷ [])
told-rows-push a tallies k rows row one before = record {
  len = length-append rows (row ∷ []) ∙ ap (λ (n : ℕ). n + 1) before.len;
  each = λ i h. elim (cases_lt i k) [
    | inl less ↦ rw (get_or_append_left rows (row ∷ []) [] i (omega (arith, before.len))) (before.each i less)
    | inr more ↦ let e : i ≡ k = omega arith in rw (get_or_push rows row [] i (omega (arith, before.len))) (rw e one)
  ];
}

-- the row has exactly the candidates
pub exactly : (a : Accounts) (files : List File) (i v : ℕ) (row : List Candidate) → IsRow a files i row → (IsCandidate a files i v → 1 ≤ weight_in row v) × (1 ≤ weight_in row v → IsCandidate a files i v)
exactly a files i v row r = (
  (λ c. let e : weight_in row v ≡ weight a files i v = r.weights v ∙ ap (λ b. cond b (weight a files i v) 0) c.pool in omega (arith, e, c.some)),
  (λ h. elim (cases_Bool (in_pool a (class_at a i) v)) [
    | inl t ↦ let e : weight_in row v ≡ weight a files i v = r.weights v ∙ ap (λ b. cond b (weight a files i v) 0) t in record { free = free-of (class_at a i) t; pool = t; some = omega (arith, e, h) }
    | inr f ↦ absurd (let e : weight_in row v ≡ 0 = r.weights v ∙ ap (λ b. cond b (weight a files i v) 0) f in omega (arith, e, h))
  ]),
)
  where
    free-of : (c : Class) → in_pool a c v ≡ true → is_free_class c ≡ true
    free-of (Pinned u) t = absurd (false≢true t)
    free-of Regular t = refl
    free-of System t = refl
