-- Sums over the indices of the names, one more index at a time.
use Rattle.std.proofs.Common.{◌≡◌, ℕ, zero, suc, ◌+◌, ◌-◌, ◌<◌, ◌≤◌, true, false, cond, List, [], ◌∷◌, length, get_or, sym, ap, ◌∙◌, arith}
use Rattle.std.proofs.lemmas.List.{get_or-map}
use Rattle.std.proofs.lemmas.Bool.{cond-true, cond-false}
use Rattle.hosts_join.specs.Accounts.{Account, Accounts, no_account}
use Rattle.hosts_join.specs.Rules.{account, class_at, is_free_class}
use Rattle.ownership.specs.Counts.{Tally, told_kept, told_total}
use Rattle.ownership.specs.Mappings.{number_at}
use Rattle.ownership.specs.Potentials.{potential_at, AscendsByNumber}
use Rattle.ownership.specs.Sums.{sum_below}
use Rattle.ownership.specs.Weights.{told_weight}
use Rattle.ownership.proofs.SumsBelow.{sum_below_more}
use Rattle.certcheck.specs.Certificate.{Row, AreAllZ}
use Rattle.certcheck.specs.Check.{number_named, y_named, mapping_of, potentials_of}

pub mapping_at : (a : Accounts) (rows : List Row) (i : ℕ) → i < length a.names → number_at (mapping_of a rows) i ≡ number_named rows (account a i).name
mapping_at a rows i l = get_or-map (λ (x : Account). number_named rows x.name) a.names i no_account 0 l

pub y_at : (a : Accounts) (rows : List Row) (i : ℕ) → i < length a.names → potential_at (potentials_of a rows) i ≡ y_named rows (account a i).name
y_at a rows i l = get_or-map (λ (x : Account). y_named rows x.name) a.names i no_account 0 l

-- what the free names' numbers weigh
abbrev pub weighing : Accounts → List Tally → List Row → ℕ → ℕ
weighing a tallies rows i = cond (is_free_class (class_at a i)) (told_weight a tallies i (number_at (mapping_of a rows) i)) 0

pub weighed_free : (a : Accounts) (tallies : List Tally) (rows : List Row) (i so_far w : ℕ) → i < length a.names → is_free_class (class_at a i) ≡ true → so_far ≡ sum_below (weighing a tallies rows) i → w ≡ told_weight a tallies i (number_named rows (account a i).name) → so_far + w ≡ sum_below (weighing a tallies rows) (i + 1)
weighed_free a tallies rows i so_far w l free sum is =
    let more = sum_below_more (weighing a tallies rows) i in
    let here : weighing a tallies rows i ≡ w = cond-true _ _ _ free ∙ ap (told_weight a tallies i) (mapping_at a rows i l) ∙ sym is in
    omega (arith, more, here, sum)

pub weighed_pinned : (a : Accounts) (tallies : List Tally) (rows : List Row) (i so_far : ℕ) → is_free_class (class_at a i) ≡ false → so_far ≡ sum_below (weighing a tallies rows) i → so_far ≡ sum_below (weighing a tallies rows) (i + 1)
weighed_pinned a tallies rows i so_far pinned sum =
    let more = sum_below_more (weighing a tallies rows) i in
    let here : weighing a tallies rows i ≡ 0 = cond-false _ _ _ pinned in
    omega (arith, more, here, sum)

-- the files that move
abbrev pub moving : Accounts → List Tally → List Row → ℕ → ℕ
moving a tallies rows i = told_total tallies i - told_kept tallies i (number_at (mapping_of a rows) i)

pub moved_more : (a : Accounts) (tallies : List Tally) (rows : List Row) (i so_far v t k : ℕ) → i < length a.names → so_far ≡ sum_below (moving a tallies rows) i → v ≡ number_named rows (account a i).name → t ≡ told_total tallies i → k ≡ told_kept tallies i v → so_far + (t - k) ≡ sum_below (moving a tallies rows) (i + 1)
moved_more a tallies rows i so_far v t k l sum number all keeps =
    let more = sum_below_more (moving a tallies rows) i in
    let same : told_kept tallies i (number_at (mapping_of a rows) i) ≡ k = ap (told_kept tallies i) (mapping_at a rows i l ∙ sym number) ∙ sym keeps in
    let here : moving a tallies rows i ≡ t - k = omega (arith, same, all) in
    omega (arith, more, here, sum)

-- numbers that ascend are few
number_high : (z : List (ℕ × ℕ)) → AscendsByNumber z → (i : ℕ) → i < length z → i ≤ (get_or z i (0, 0)).0
number_high z up zero l = omega arith
number_high z up (suc i) l =
    let before = number_high z up i (omega arith) in
    let more : (get_or z i (0, 0)).0 < (get_or z (suc i) (0, 0)).0 = up i (suc i) (0, 0) (omega arith) l in
    omega (arith, before, more)

pub z_short : (z : List (ℕ × ℕ)) → AscendsByNumber z → AreAllZ z → length z ≤ 4294967295
z_short [] up lawful = omega arith
z_short (e ∷ es) up lawful =
    let last : length es ≤ (get_or (e ∷ es) (length es) (0, 0)).0 = number_high (e ∷ es) up (length es) (omega arith) in
    let id = (lawful (length es) (0, 0) (omega arith)).number in
    omega (arith, last, id)
