-- Ranges as sets of numbers.
use Rattle.std.proofs.Common.{◌≡◌, ℕ, zero, suc, ◌+◌, ◌-◌, ◌<◌, ◌↔◌, Bool, true, false, cond, max, min, refl, ◌∙◌, arith, leb, IsTrue, count_by}
use Rattle.std.specs.Prelude.{◌&&◌}
use Rattle.std.specs.List.{range_with_len}
use Rattle.std.proofs.lemmas.Bool.{and_parts, leb-true, leb-false, le-leb}
use Rattle.std.proofs.lemmas.List.Sums.{sum_by-cons}
use Rattle.logindefs.specs.declared.ranges.IdRange.{IdRange}
use Rattle.logindefs.specs.Ranges.{in_range, range_len, share}

-- one number, if it lies in the range
one_in : (range : IdRange) (a : ℕ) (low high : Bool) → leb range.low a ≡ low → leb a range.high ≡ high → cond (low && high) 1 0 ≡ min (a + 1) (range.high + 1) - max a range.low
one_in range a true true l h = let low = leb-true range.low a l in let high = leb-true a range.high h in omega (arith, low, high)
one_in range a true false l h = let low = leb-true range.low a l in let high = leb-false a range.high h in omega (arith, low, high)
one_in range a false high l h = let low = leb-false range.low a l in omega (arith, low)

-- how many of the n numbers from a on lie in the range
counted : (range : IdRange) (n a : ℕ) → count_by (in_range range) (range_with_len a n) ≡ min (a + n) (range.high + 1) - max a range.low
counted range zero a = omega arith
counted range (suc n) a =
    let first = one_in range a (leb range.low a) (leb a range.high) refl refl in
    sum_by-cons (λ number. cond (in_range range number) 1 0) a (range_with_len (a + 1) n)
    ∙ omega (arith, first, counted range n (a + 1))

pub len-counts : (range : IdRange) (above : ℕ) → range.high < above → count_by (in_range range) (range_with_len 0 above) ≡ range_len range
len-counts range above small = counted range above 0 ∙ omega (arith, small)

pub shared-both : (r s : IdRange) → IsTrue (share r s) ↔ ((number : ℕ) × IsTrue (in_range r number && in_range s number))
shared-both r s = (there, back)
  where
    there : IsTrue (share r s) → (number : ℕ) × IsTrue (in_range r number && in_range s number)
    there e =
        let some = leb-true (max r.low s.low) (min r.high s.high) e in
        (max r.low s.low, rw (le-leb r.low (max r.low s.low) (omega arith), le-leb (max r.low s.low) r.high (omega (arith, some)), le-leb s.low (max r.low s.low) (omega arith), le-leb (max r.low s.low) s.high (omega (arith, some))) refl)

    back : ((number : ℕ) × IsTrue (in_range r number && in_range s number)) → IsTrue (share r s)
    back both =
        let parts = and_parts (in_range r both.0) (in_range s both.0) both.1 in
        let a = and_parts (leb r.low both.0) (leb both.0 r.high) parts.0 in
        let b = and_parts (leb s.low both.0) (leb both.0 s.high) parts.1 in
        let al = leb-true r.low both.0 a.0 in
        let ah = leb-true both.0 r.high a.1 in
        let bl = leb-true s.low both.0 b.0 in
        let bh = leb-true both.0 s.high b.1 in
        le-leb (max r.low s.low) (min r.high s.high) (omega (arith, al, ah, bl, bh))
