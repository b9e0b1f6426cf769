-- Certifying potentials prove a mapping optimal, and none of them is wasted.
use Rattle.std.proofs.Common.{◌≡◌, ◌≢◌, ℕ, zero, suc, ◌+◌, ◌*◌, ◌<◌, ◌≤◌, Bool, true, false, cond, List, length, sum, refl, sym, ap, ◌∙◌, arith, ◌⊎◌, inl, inr}
use Rattle.std.specs.List.{sum_by}
use Rattle.std.proofs.lemmas.Nat.{mul-le}
use Rattle.std.proofs.lemmas.Bool.{cases_lt, cases_Bool, cases_eq}
use Rattle.hosts_join.specs.declared.Class.{Class}
use Rattle.hosts_join.specs.declared.Class.TheVariants.{Pinned, Regular, System}
use Rattle.hosts_join.specs.Accounts.{Accounts, lines}
use Rattle.hosts_join.specs.Rules.{account, class_at, in_pool, is_free_class}
use Rattle.ownership.specs.Sums.{sum_below}
use Rattle.ownership.specs.Files.{File, kept}
use Rattle.ownership.specs.Mappings.{number_at, MayHave, AreDistinct, IsAdmissible}
use Rattle.ownership.specs.Weights.{weight, file_weight, free_weight}
use Rattle.ownership.specs.Potentials.{potential_at, value_at, AreCertifying, CertifiedIsOptimal, CertifiedIsTight}
use Rattle.ownership.proofs.SumsBelow.{sum_below-same, sum_below-tight, sum_below-add, sum_below-scale, sum_below-places}
use Rattle.ownership.proofs.Duality.{AreApart, values-le, values-and-one, covered-le}
use Rattle.ownership.proofs.CostLemmas.{all_kept, all_staying, cost_and_kept, rows_and_lines}

-- the weight that a name adds to the free weight
abbrev free_part : Class → ℕ → ℕ
free_part c w = cond (is_free_class c) w 0

-- a free name's number is covered, and that of a pinned name weighs nothing here
covered : (a : Accounts) (c : Class) (v w bound : ℕ) → MayHave a c v → (in_pool a c v ≡ true → w ≤ bound) → free_part c w ≤ bound
covered a (Pinned p) v w bound may cover = omega arith
covered a Regular v w bound may cover = cover may
covered a System v w bound may cover = cover may

apart-below : (m : List ℕ) (n : ℕ) → length m ≡ n → AreDistinct m → AreApart (number_at m) n
apart-below m n len distinct = λ i j l h e. let same : i ≡ j = distinct i j (omega arith) (omega arith) e in omega (arith, same, l)

module _ (a : Accounts) (files : List File) (m y : List ℕ) (z : List (ℕ × ℕ)) (certified : AreCertifying a files m y z) where
  -- each name's number, in any mapping, is covered by the name's potential and the number's
  covers : (other : List ℕ) → IsAdmissible a other → (i : ℕ) → i < length a.names → free_part (class_at a i) (weight a files i (number_at other i)) ≤ potential_at y i + value_at z (number_at other i)
  covers other its i l = covered a (class_at a i) (number_at other i) (weight a files i (number_at other i)) (potential_at y i + value_at z (number_at other i)) (its.lawful i l) (certified.cover i (number_at other i) l)

  all_potentials : sum_below (potential_at y) (length a.names) ≡ sum y
  all_potentials = ap (sum_below (potential_at y)) (sym certified.len) ∙ sum_below-places (λ (x : ℕ). x) y 0

  -- what the free names' numbers weigh is no more than certifying potentials
  free-le : (other : List ℕ) → IsAdmissible a other → free_weight a files other ≤ free_weight a files m
  free-le other its =
      let bound = covered-le (λ i. free_part (class_at a i) (weight a files i (number_at other i))) (potential_at y) (number_at other) z (length a.names) (apart-below other (length a.names) its.len its.distinct) (covers other its) in
      omega (arith, bound, all_potentials, certified.equal)

-- pinned names have their pins in every mapping
pinned-same : (a : Accounts) (c : Class) (v u : ℕ) (w : ℕ → ℕ) → MayHave a c v → MayHave a c u → cond (is_free_class c) 0 (w v) ≡ cond (is_free_class c) 0 (w u)
pinned-same a (Pinned p) v u w one two = ap w (one ∙ sym two)
pinned-same a Regular v u w one two = refl
pinned-same a System v u w one two = refl

parts : (b : Bool) (w : ℕ) → cond b w 0 + cond b 0 w ≡ w
parts true w = omega arith
parts false w = omega arith

abbrev all_weight : Accounts → List File → List ℕ → ℕ
all_weight a files m = sum_below (λ i. weight a files i (number_at m i)) (length a.names)

abbrev pinned_weight : Accounts → List File → List ℕ → ℕ
pinned_weight a files m = sum_below (λ i. cond (is_free_class (class_at a i)) 0 (weight a files i (number_at m i))) (length a.names)

free_and_pinned : (a : Accounts) (files : List File) (m : List ℕ) → all_weight a files m ≡ free_weight a files m + pinned_weight a files m
free_and_pinned a files m =
    let w = λ (i : ℕ). weight a files i (number_at m i) in
    let split = sum_below-same w (λ i. cond (is_free_class (class_at a i)) (w i) 0 + cond (is_free_class (class_at a i)) 0 (w i)) (length a.names) (λ i l. sym (parts (is_free_class (class_at a i)) (w i))) in
    split ∙ sum_below-add (λ i. cond (is_free_class (class_at a i)) (w i) 0) (λ i. cond (is_free_class (class_at a i)) 0 (w i)) (length a.names)

-- all names' numbers together: the files that are kept first, then the account rows that stay
weighed : (a : Accounts) (files : List File) (m : List ℕ) → all_weight a files m ≡ file_weight a * all_kept a files m + all_staying a m
weighed a files m =
    let k = λ (i : ℕ). kept a.names files i (number_at m i) in
    let add = sum_below-add (λ i. file_weight a * k i) (λ i. lines (account a i) (number_at m i)) (length a.names) in
    let scale = sum_below-scale (file_weight a) k (length a.names) in
    omega (arith, add, scale)

-- the larger weight keeps no fewer files
kept-le : (b k l k' l' : ℕ) → b * k + l ≤ b * k' + l' → l' < b → k ≤ k'
kept-le b k l k' l' h small = elim (cases_lt k' k) [
  | inl more ↦ let product : b * (k' + 1) ≤ b * k = mul-le b (k' + 1) b k (omega arith) (omega arith) in absurd (omega (arith, product, h, small))
  | inr less ↦ less
]

weight-le : (a : Accounts) (files : List File) (m y other : List ℕ) (z : List (ℕ × ℕ)) → AreCertifying a files m y z → IsAdmissible a m → IsAdmissible a other
    → file_weight a * all_kept a files other + all_staying a other ≤ file_weight a * all_kept a files m + all_staying a m
weight-le a files m y other z certified mine its =
    let free = free-le a files m y z certified other its in
    let pinned = sum_below-same (λ i. cond (is_free_class (class_at a i)) 0 (weight a files i (number_at other i))) (λ i. cond (is_free_class (class_at a i)) 0 (weight a files i (number_at m i))) (length a.names)
    (λ i l. pinned-same a (class_at a i) (number_at other i) (number_at m i) (λ v. weight a files i v) (its.lawful i l) (mine.lawful i l))
    in
    omega (arith, free, pinned, free_and_pinned a files other, free_and_pinned a files m, weighed a files other, weighed a files m)

pub certified_is_optimal : CertifiedIsOptimal
certified_is_optimal a files m y z lawful mine certified =
    let small : all_staying a m < file_weight a = omega (arith, rows_and_lines a m) in
    record {
      least = λ other its.
          let keeps = kept-le (file_weight a) (all_kept a files other) (all_staying a other) (all_kept a files m) (all_staying a m) (weight-le a files m y other z certified mine its) small in
          omega (arith, keeps, cost_and_kept a lawful files m, cost_and_kept a lawful files other);
      fewest_rows = λ other its same.
          let weights = weight-le a files m y other z certified mine its in
          let keeps : all_kept a files other ≡ all_kept a files m = omega (arith, same, cost_and_kept a lawful files m, cost_and_kept a lawful files other) in
          let product : file_weight a * all_kept a files other ≡ file_weight a * all_kept a files m = ap (λ k. file_weight a * k) keeps in
          omega (arith, weights, product, rows_and_lines a m, rows_and_lines a other);
    }

-- ---- complementary slackness

-- an index below the bound has the number, or none has
has-below : (m : ℕ → ℕ) (v n : ℕ) → ((k : ℕ) × (k < n) × (m k ≡ v)) ⊎ ((k : ℕ) → k < n → m k ≢ v)
has-below m v zero = inr (λ k l e. omega arith)
has-below m v (suc n) = elim (has-below m v n) [
  | inl some ↦ inl (some.0, omega (arith, some.1), some.2)
  | inr none ↦ elim (cases_eq (m n) v) [
    | inl e ↦ inl (n, omega arith, e)
    | inr ne ↦ inr (λ k l e. elim (cases_eq k n) [
      | inl last ↦ ne (ap m (sym last) ∙ e)
      | inr other ↦ none k (omega (arith, l, other)) e
    ])
  ]
]

module _ (a : Accounts) (files : List File) (m y : List ℕ) (z : List (ℕ × ℕ)) (mine : IsAdmissible a m) (certified : AreCertifying a files m y z) where
  apart : AreApart (number_at m) (length a.names)
  apart = apart-below m (length a.names) mine.len mine.distinct

  all_values : sum_below (λ i. potential_at y i + value_at z (number_at m i)) (length a.names) ≡ sum y + sum_below (λ i. value_at z (number_at m i)) (length a.names)
  all_values =
      sum_below-add (potential_at y) (λ i. value_at z (number_at m i)) (length a.names)
      ∙ ap (λ s. s + sum_below (λ i. value_at z (number_at m i)) (length a.names)) (all_potentials a files m y z certified)

  -- each name's part is exactly its potential and that of its number
  each : (i : ℕ) → i < length a.names → free_part (class_at a i) (weight a files i (number_at m i)) ≡ potential_at y i + value_at z (number_at m i)
  each =
      sum_below-tight (λ i. free_part (class_at a i) (weight a files i (number_at m i))) (λ i. potential_at y i + value_at z (number_at m i)) (length a.names) (covers a files m y z certified m mine)
      (omega (arith, all_values, values-le z (number_at m) (length a.names) apart, certified.equal))

  -- all of z is at the numbers of names
  used : sum_below (λ i. value_at z (number_at m i)) (length a.names) ≡ sum_by (λ e. e.1) z
  used =
      let whole = sum_below-same (λ i. free_part (class_at a i) (weight a files i (number_at m i))) (λ i. potential_at y i + value_at z (number_at m i)) (length a.names) each in
      omega (arith, whole, all_values, certified.equal)

  pinned-none : (i : ℕ) → i < length a.names → is_free_class (class_at a i) ≡ false → potential_at y i + value_at z (number_at m i) ≡ 0
  pinned-none i l f = let e = each i l in let e' = rw f at e in sym e'

  free-tight : (i : ℕ) → i < length a.names → is_free_class (class_at a i) ≡ true → weight a files i (number_at m i) ≡ potential_at y i + value_at z (number_at m i)
  free-tight i l t = let e = each i l in let e' = rw t at e in e'

  unused-none : (v : ℕ) → ((i : ℕ) → i < length a.names → is_free_class (class_at a i) ≡ true → number_at m i ≢ v) → value_at z v ≡ 0
  unused-none v away = elim (has-below (number_at m) v (length a.names)) [
    | inl some ↦ elim (cases_Bool (is_free_class (class_at a some.0))) [
      | inl free ↦ absurd (away some.0 some.1 free some.2)
      | inr pinned ↦ let none = pinned-none some.0 some.1 pinned in let at = ap (value_at z) some.2 in omega (arith, none, at)
    ]
    | inr none ↦ omega (arith, used, values-and-one z (number_at m) (length a.names) v apart none)
  ]

pub certified_is_tight : CertifiedIsTight
certified_is_tight a files m y z mine certified = record {
  tight = free-tight a files m y z mine certified;
  weightless = λ i l free none. let e = free-tight a files m y z mine certified i l free in omega (arith, e, none);
  pinned = λ i l pinned. let e = pinned-none a files m y z mine certified i l pinned in omega (arith, e);
  unused = unused-none a files m y z mine certified;
}
