-- Files that are counted.
use Rattle.std.proofs.Common.{◌≡◌, ◌≤◌, ◌+◌, ℕ, Bool, true, false, cond, not, ◌&&◌, List, [], ◌∷◌, ◌++◌, None, Some, map, take, length, reverse, refl, sym, ◌∙◌, ap, arith}
use Rattle.std.specs.List.{count_by}
use Rattle.std.proofs.lemmas.List.{length-map, length-take-le, map-append, reverse-append}
use Rattle.std.proofs.lemmas.List.Sums.{sum_by-append, sum_by_push}
use Rattle.reown_plan.specs.Owners.{owner_eq}
use Rattle.reown_plan.specs.PlanData.{PlanRecord}
use Rattle.reown_files.specs.declared.counting.OwnerCounts.{OwnerCounts}
use Rattle.reown_files.specs.Calls.{Called}
use Rattle.reown_files.specs.Counting.{Look, is_before, is_after, is_missing, is_foreign, has_set_id, has_several_names, counts_of, with_one, files_of, call_of}

more : (p : Look → Bool) (looks : List Look) (l : Look) → count_by p (looks ++ l ∷ []) ≡ count_by p looks + cond (p l) 1 0
more p looks l = sum_by_push (λ x. cond (p x) 1 0) looks l

pub first : (p : Look → Bool) (l : Look) (looks : List Look) → count_by p (l ∷ looks) ≡ cond (p l) 1 0 + count_by p looks
first p l looks =
    let alone : 0 + cond (p l) 1 0 ≡ cond (p l) 1 0 = omega arith in
    sum_by-append (λ x. cond (p x) 1 0) (l ∷ []) looks ∙ ap (λ n. n + count_by p looks) alone

either_owner : (before after : Bool) → cond before 1 0 + cond (not before && after) 1 0 + 0 + cond (not before && not after) 1 0 ≡ 1
either_owner true after = refl
either_owner false true = refl
either_owner false false = refl

-- each file is counted once
in_one : (l : Look) → cond (is_before l) 1 0 + cond (is_after l) 1 0 + cond (is_missing l) 1 0 + cond (is_foreign l) 1 0 ≡ 1
in_one (r, None) = refl
in_one (r, Some seen) = either_owner (owner_eq seen.owner r.before) (owner_eq seen.owner r.after)

pub each_once : (looks : List Look) → files_of (counts_of looks) ≡ length looks
each_once [] = refl
each_once (l ∷ looks) = omega (arith, first is_before l looks, first is_after l looks, first is_missing l looks, first is_foreign l looks, in_one l, each_once looks)

-- one look more
pub one_more_counted : (looks : List Look) (l : Look) (old new : OwnerCounts) → old ≡ counts_of looks → new ≡ with_one l old → new ≡ counts_of (looks ++ l ∷ [])
one_more_counted looks l old new was is =
    is ∙ ap (with_one l) was
    ∙ (λ i. record {
      before = sym (more is_before looks l) i;
      after = sym (more is_after looks l) i;
      missing = sym (more is_missing looks l) i;
      foreign = sym (more is_foreign looks l) i;
      set_id = sym (more has_set_id looks l) i;
      linked = sym (more has_several_names looks l) i;
    })

pub one_more_call : (looks : List Look) (l : Look) (first old new : List Called) → old ≡ reverse (map call_of looks) ++ first → new ≡ call_of l ∷ old → new ≡ reverse (map call_of (looks ++ l ∷ [])) ++ first
one_more_call looks l first old new was is =
    is ∙ ap (λ cs. call_of l ∷ cs) was
    ∙ ap (λ cs. cs ++ first) (sym (ap reverse (map-append call_of looks (l ∷ [])) ∙ reverse-append (map call_of looks) (call_of l ∷ [])))

-- as many files were looked at as there are records
pub many_looked : (looks : List Look) (records : List PlanRecord) (i : ℕ) → i ≤ length records → map (λ look. look.0) looks ≡ take i records → length looks ≡ i
many_looked looks records i below are = omega (arith, below, length-map looks (λ (l : Look). l.0), ap (λ (xs : List PlanRecord). length xs) are, length-take-le i records below)
