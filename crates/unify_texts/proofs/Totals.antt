-- Counts and sums over the names of a kind.
use Rattle.std.proofs.Common.{◌≡◌, ℕ, zero, suc, ◌+◌, ◌-◌, ◌≤◌, ◌==◌, ◌&&◌, nat_lt, nat_eq, not, Bool, true, false, cond, List, length, refl, sym, ap, ◌∙◌, add-one, arith, inl, inr}
use Rattle.std.proofs.lemmas.Bool.{cases_lt, lt-ltb, le-ltb, eq-eqb, ne_eqb}
use Rattle.std.proofs.lemmas.List.Sums.{count_by-le-length}
use Rattle.hosts_join.specs.declared.Spot.{Spot}
use Rattle.hosts_join.specs.Accounts.{Accounts, lines}
use Rattle.hosts_join.specs.Count.{count_below}
use Rattle.hosts_join.specs.Lawful.{AreLawfulAccounts}
use Rattle.hosts_join.specs.Rules.{account, class_at, is_free_class}
use Rattle.hosts_join.proofs.Counting.{count_below-suc}
use Rattle.ownership.specs.Counts.{Tally, CountFiles, told_kept}
use Rattle.ownership.specs.Costs.{cost_of}
use Rattle.ownership.specs.Files.{File, kept, owned_files}
use Rattle.ownership.specs.Mappings.{number_at}
use Rattle.ownership.specs.Sums.{sum_below}
use Rattle.ownership.proofs.CostLemmas.{cost_and_kept}
use Rattle.ownership.proofs.SumsBelow.{sum_below_more, sum_below-same}
use Rattle.unify_texts.specs.Figures.{FiguresAddUp}
use Rattle.unify_texts.specs.Staying.{told_files}

pub count_more : (p : ℕ → Bool) (n : ℕ) → count_below p (n + 1) ≡ count_below p n + cond (p n) 1 0
count_more p n = rw add-one (count_below-suc p n)

pub count_start : (p : ℕ → Bool) → 0 ≡ count_below p 0
unfolding count_below
count_start p = refl

pub sum_more : (f : ℕ → ℕ) (n : ℕ) → sum_below f (n + 1) ≡ sum_below f n + f n
sum_more f n = sum_below_more f n

pub sum_start : (f : ℕ → ℕ) → 0 ≡ sum_below f 0
unfolding sum_below
sum_start f = refl

pub lines_within : (a : Accounts) (i v : ℕ) → AreLawfulAccounts a → lines (account a i) v ≤ 64
lines_within a i v lawful = omega (arith, lawful.few_spots i, count_by-le-length (λ (s : Spot). s.number == v) (account a i).spots)

-- a name is pinned, or keeps a number, or has a fresh one
thirds : (free some none : ℕ → Bool) → ((i : ℕ) → none i ≡ not (some i)) → (n : ℕ) → count_below (λ i. not (free i)) n + count_below (λ i. free i && some i) n + count_below (λ i. free i && none i) n ≡ n
thirds free some none is zero = omega (arith, count_start (λ i. not (free i)), count_start (λ i. free i && some i), count_start (λ i. free i && none i))
thirds free some none is (suc n) =
    let rest = thirds free some none is n in
    let a = count_below-suc (λ i. not (free i)) n in
    let b = count_below-suc (λ i. free i && some i) n in
    let c = count_below-suc (λ i. free i && none i) n in
    let other : cond {A = ℕ} (free n && none n) 1 0 ≡ cond {A = ℕ} (free n && not (some n)) 1 0 = ap (λ t. cond {A = ℕ} (free n && t) 1 0) (is n) in
    omega (arith, rest, a, b, c, other, one (free n) (some n))
  where
    one : (f s : Bool) → cond (not f) 1 0 + cond (f && s) 1 0 + cond (f && not s) 1 0 ≡ 1
    one true true = refl
    one true false = refl
    one false s = refl

pub figures_add_up : FiguresAddUp
figures_add_up a m = thirds (λ i. is_free_class (class_at a i)) (λ i. nat_lt 0 (lines (account a i) (number_at m i))) (λ i. nat_eq (lines (account a i) (number_at m i)) 0) (λ i. opposite (lines (account a i) (number_at m i))) (length a.names)
  where
    opposite : (n : ℕ) → nat_eq n 0 ≡ not (nat_lt 0 n)
    opposite n = elim (cases_lt 0 n) [
      | inl l ↦ ne_eqb n 0 (λ e. omega (arith, e, l)) ∙ ap not (sym (lt-ltb 0 n l))
      | inr l ↦ eq-eqb n 0 (omega (arith, l)) ∙ ap not (sym (le-ltb 0 n l))
    ]

-- the cost: the files that have an owner less those that keep their number
pub cost_told : (a : Accounts) (tallies : List Tally) (files : List File) (m : List ℕ) → AreLawfulAccounts a → CountFiles a.names tallies files → owned_files a.names files - told_files tallies m (length a.names) ≡ cost_of a files m
cost_told a tallies files m lawful counted =
    let all = cost_and_kept a lawful files m in
    let told = sum_below-same (λ i. told_kept tallies i (number_at m i)) (λ i. kept a.names files i (number_at m i)) (length a.names) (λ i h. counted.kept_is i (number_at m i) h) in
    omega (arith, all, told)
