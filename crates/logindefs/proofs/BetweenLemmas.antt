-- Which numbers are in the ranges.
use Rattle.std.proofs.Common.{◌≡◌, ℕ, ◌-◌, ◌<◌, ◌≤◌, ◌↔◌, Bool, true, false, cond, Option, Some, None, inl, inr, refl, sym, ◌∙◌, arith, leb, eqb, unwrap_or}
use Rattle.std.proofs.lemmas.Bool.{and_from, and_parts, eqb-true, leb-true, leb-false, le-leb, true≢false}
use Rattle.std.proofs.lemmas.Bool.Decides.{eqb_tells}
use Rattle.logindefs.specs.declared.parameters.Parameter.TheVariants.{UidMin, UidMax, SysUidMin, SysUidMax, GidMin, GidMax, SysGidMin, SysGidMax}
use Rattle.logindefs.specs.declared.ranges.IdRange.{IdRange}
use Rattle.logindefs.specs.Laws.{IsRegular, IsSystem, RangesAreBetween}
use Rattle.logindefs.specs.Ranges.{in_range, range_from, ranges_by, regular, system}

-- the number lies between these ends
abbrev Lies : IdRange → ℕ → ℕ → ℕ → Type 0
Lies range low high v = (in_range range v ≡ true) ↔ ((low ≤ v) × (v ≤ high))

within : (range : IdRange) (v : ℕ) → in_range range v ≡ true → (range.low ≤ v) × (v ≤ range.high)
within range v e =
    let parts = and_parts (leb range.low v) (leb v range.high) e in
    (leb-true range.low v parts.0, leb-true v range.high parts.1)

lies-from : (low high v : ℕ) → Lies (range_from low high) low high v
lies-from low high v = by (leb low high) refl
  where
    by : (some : Bool) → leb low high ≡ some → Lies (cond some (record { low = low; high = high }) (record { low = 1; high = 0 })) low high v
    by true e = (within (record { low = low; high = high }) v, λ there. and_from (leb low v) (leb v high) (le-leb low v there.0) (le-leb v high there.1))
    by false e =
        let none = leb-false low high e in (
          λ there. let parts = within (record { low = 1; high = 0 }) v there in absurd (omega (arith, parts.0, parts.1)),
          λ there. let a = there.0 in let b = there.1 in absurd (omega (arith, none, a, b)),
        )

-- below the first regular number, if there is one
below : (low first v : ℕ) (none : Bool) → eqb first 0 ≡ none → (in_range (cond none (range_from 1 0) (range_from low (first - 1))) v ≡ true) ↔ ((low ≤ v) × (v < first))
below low first v true e =
    let zero = eqb-true first 0 e in (
      λ there. let parts = within (range_from 1 0) v there in absurd (omega (arith, parts.0, parts.1)),
      λ there. let less = there.1 in absurd (omega (arith, zero, less)),
    )
below low first v false e =
    let lies = lies-from low (first - 1) v in (
      λ there. let parts = lies.0 there in let a = parts.0 in let b = parts.1 in (a, some b),
      λ there. let less = there.1 in lies.1 (there.0, omega (arith, less)),
    )
  where
    some : v ≤ first - 1 → v < first
    some b = elim (eqb_tells first 0) [
      | inl same ↦ absurd (true≢false (sym same.0 ∙ e))
      | inr other ↦ let ne = other.1 in omega (arith, b, ne)
    ]

is-regular : (least most : Option ℕ) (v : ℕ) → (in_range (regular least most) v ≡ true) ↔ IsRegular least most v
is-regular least most v = lies-from (unwrap_or least 1000) (unwrap_or most 60000) v

is-system : (regular_least least most : Option ℕ) (v : ℕ) → (in_range (system regular_least least most) v ≡ true) ↔ IsSystem regular_least least most v
is-system regular_least least (Some most) v = lies-from (unwrap_or least 101) most v
is-system regular_least least None v = below (unwrap_or least 101) (unwrap_or regular_least 1000) v (eqb (unwrap_or regular_least 1000) 0) refl

pub ranges-between : RangesAreBetween
unfolding ranges_by
ranges-between value number = record {
  uid = is-regular (value UidMin) (value UidMax) number;
  sys_uid = is-system (value UidMin) (value SysUidMin) (value SysUidMax) number;
  gid = is-regular (value GidMin) (value GidMax) number;
  sys_gid = is-system (value GidMin) (value SysGidMin) (value SysGidMax) number;
}
