-- Which paths are below a directory, and in it.
use Rattle.std.proofs.Common.{◌≡◌, inl, inr, ℕ, ◌&&◌, ◌+◌, ◌<◌, Bool, true, false, cond, nat_lt, List, [], ◌∷◌, ◌++◌, Some, None, drop, length, refl, sym, ap, ◌∙◌, arith, append-nil, length-append}
use Rattle.std.specs.Prelude.{◌⊎◌, codes, filter}
use Rattle.std.proofs.lemmas.Bool.{and_from, and_parts, eqb-true, lt-ltb, ltb-true}
use Rattle.std.proofs.lemmas.Bool.Decides.{Decides-eqb}
use Rattle.std.proofs.lemmas.List.Sums.{length-filter}
use Rattle.std.proofs.lemmas.Option.{same_Some}
use Rattle.idtext.specs.Pieces.{begins_with}
use Rattle.unify_apply.specs.Laws.{BelowAreTold, IsBelow, PathsAreTold, SlashIsTaken, WaysAreSeen}
use Rattle.unify_apply.specs.Mounts.{MountText, count_below, first_below, is_in, is_rest, is_under}
use Rattle.unify_apply.proofs.Fronts.{begins, behind, front-is, last-of, other-end}

-- ---- in a directory

module _ (directory : List ℕ) where
  in-front : (rest : List ℕ) → is_in directory (directory ++ rest) ≡ is_rest rest
  in-front rest =
      ap (λ t. t && is_rest (drop (length directory) (directory ++ rest))) ((begins directory (directory ++ rest)).1 (rest, refl))
      ∙ ap is_rest (behind directory rest)

  in-from : (path : List ℕ) → is_in directory path ≡ true → (path ≡ directory) ⊎ IsBelow directory path
  in-from path e =
      let parts = and_parts (begins_with directory path) (is_rest (drop (length directory) path)) e in
      by (drop (length directory) path) (front-is directory path parts.0) parts.1
    where
      by : (rest : List ℕ) → path ≡ directory ++ rest → is_rest rest ≡ true → (path ≡ directory) ⊎ IsBelow directory path
      by [] at is = inl (at ∙ append-nil directory)
      by (b ∷ more) at is = inr (more, at ∙ ap (λ c. directory ++ c ∷ more) (eqb-true b 47 is))

  in-to : (path : List ℕ) → (path ≡ directory) ⊎ IsBelow directory path → is_in directory path ≡ true
  in-to path (inl same) = ap (is_in directory) (same ∙ sym (append-nil directory)) ∙ in-front []
  in-to path (inr below) = ap (is_in directory) below.1 ∙ in-front (codes "/" ++ below.0)

  under-from : (path : List ℕ) → is_under directory path ≡ true → IsBelow directory path
  under-from path e =
      let parts = and_parts (nat_lt (length directory) (length path)) (is_in directory path) e in
      by (ltb-true _ _ parts.0) (in-from path parts.1)
    where
      by : length directory < length path → (path ≡ directory) ⊎ IsBelow directory path → IsBelow directory path
      by longer (inl same) = let long = ap length same in absurd (omega (arith, longer, long))
      by longer (inr below) = below

  under-to : (path : List ℕ) → IsBelow directory path → is_under directory path ≡ true
  under-to path below =
      let long = length-append directory (codes "/" ++ below.0) in
      let same = ap length below.1 in
      and_from (nat_lt (length directory) (length path)) (is_in directory path)
      (lt-ltb _ _ (omega (arith, long, same))) (in-to path (inr below))

pub paths-told : PathsAreTold
paths-told directory path = record {
  below = (under-from directory path, under-to directory path);
  within = (in-from directory path, in-to directory path);
}

-- ---- the mounts below it

pub below-told : BelowAreTold
below-told directory mount mounts = record {
  none = (refl, refl);
  below = λ is. let at = under-to directory mount.point is in (counted true at, first true at);
  other = λ is_not. let at = not-under is_not in (counted false at, first false at);
}
  where
    is_below : MountText → Bool
    is_below other = is_under directory other.point

    kept : List MountText
    kept = filter is_below mounts

    counted : (is : Bool) → is_under directory mount.point ≡ is
        → count_below (mount ∷ mounts) directory ≡ cond is (count_below mounts directory + 1) (count_below mounts directory)
    counted true at =
        let step : length (mount ∷ kept) ≡ length kept + 1 = omega arith in
        sym (length-filter is_below (mount ∷ mounts))
        ∙ ap (λ t. length (cond t (mount ∷ kept) kept)) at
        ∙ step
        ∙ ap (λ n. n + 1) (length-filter is_below mounts)
    counted false at =
        sym (length-filter is_below (mount ∷ mounts))
        ∙ ap (λ t. length (cond t (mount ∷ kept) kept)) at
        ∙ length-filter is_below mounts

    first : (is : Bool) → is_under directory mount.point ≡ is
        → first_below (mount ∷ mounts) directory ≡ cond is (Some mount) (first_below mounts directory)
    first is at = ap (λ t. cond t (Some mount) (first_below mounts directory)) at

    not-under : ¬ IsBelow directory mount.point → is_under directory mount.point ≡ false
    not-under is_not = by (is_under directory mount.point) refl
      where
        by : (is : Bool) → is_under directory mount.point ≡ is → is ≡ false
        by true at = absurd (is_not (under-from directory mount.point at))
        by false at = refl

-- ---- the slash at the end

pub slash-taken : SlashIsTaken
slash-taken = record { slash = last-of 47 47; other = other-end 47; none = refl }

-- ---- second ways

pub ways-seen : WaysAreSeen
ways-seen device None = (λ _. inl refl, λ _. refl)
ways-seen device (Some seen) = (
  λ e. inr (ap Some (eqb-true seen device e)),
  λ h. (Decides-eqb seen device).1 (by h),
)
  where
    by : (Some seen ≡ None) ⊎ (Some seen ≡ Some device) → seen ≡ device
    by (inl e) = absurd (cc)
    by (inr e) = same_Some seen device e
