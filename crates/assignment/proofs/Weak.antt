-- Weak duality: no admissible mapping weighs more than all potentials together.
use Rattle.std.proofs.Common.{◌≡◌, ℕ, ◌<◌, length, sym, ap, ◌∙◌, arith}
use Rattle.ownership.specs.Mappings.{number_at}
use Rattle.ownership.specs.Potentials.{potential_at}
use Rattle.ownership.specs.Sums.{sum_below}
use Rattle.ownership.proofs.Duality.{covered-le}
use Rattle.ownership.proofs.SumsBelow.{sum_below-places}
use Rattle.assignment.specs.Solutions.{row_weight, WeakDuality}

pub weak_duality_holds : WeakDuality
weak_duality_holds c m y z names long cover equal other admissible =
    let apart = λ (i j : ℕ) (l : i < j) (h : j < length c.rows) (e : number_at other i ≡ number_at other j).
    let size = admissible.len ∙ sym names in
    let same = admissible.distinct i j (omega (arith, l, h, size)) (omega (arith, h, size)) e in
    absurd (omega (arith, l, same)) in
    let bound = covered-le (λ i. row_weight c i (number_at other i)) (potential_at y) (number_at other) z (length c.rows) apart (λ i l. cover i (number_at other i) l) in
    let all = ap (sum_below (potential_at y)) (sym long) ∙ sum_below-places (λ (x : ℕ). x) y 0 in
    omega (arith, bound, all, equal)
