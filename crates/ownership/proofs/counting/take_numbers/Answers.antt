use Rattle.std.proofs.Common.{◌<◌, ◌==◌, ◌||◌, false, length, take, get_or, sym, ap, ◌∙◌, arith}
use Rattle.std.specs.List.{list_any}
use Rattle.std.proofs.Math.Bool.{or-false}
use Rattle.std.proofs.lemmas.List.{take_all}
use Rattle.std.proofs.lemmas.List.Filters.{dedup_is}
use Rattle.std.proofs.lemmas.List.Folds.{list_any-append, list_any_more}
use Rattle.std.proofs.lemmas.List.Sorted.{list_any-IsPermutation}
use Rattle.std.proofs.lemmas.Map.Keys.{IsStrictlyIncreasing-dedup}
use Rattle.hosts_join.specs.declared.Spot.{Spot}
use Rattle.hosts_join.specs.declared.Standing.TheVariants.{Regular}
use Rattle.ownership.proofs.Numbers.{any-dedup}
use Rattle.ownership.proofs.counting.take_numbers.Goals as goal

pub loop-spot-init : goal.loop-spot-init
loop-spot-init c = λ v. ap (list_any (λ n. v == n)) c.clear.ensures.items

pub loop-spot-preserved : goal.loop-spot-preserved
loop-spot-preserved c = λ v.
    let spots = c.args.spots.now in
    let k = c.loop-spot.spot-index in
    let d : Spot = record { host = 0; number = 0; standing = Regular } in
    let there : k < length spots = omega arith in
    ap (list_any (λ n. v == n)) c.in_ok-push.ensures.items ∙ list_any-append (λ n. v == n) c.loop-spot.numbers.items _
    ∙ ap (λ b. b || ((v == (get_or spots k d).number) || false)) (c.loop-spot.invariant v)
    ∙ ap (λ b. list_any (λ (s : Spot). v == s.number) (take k spots) || b) (or-false (v == (get_or spots k d).number))
    ∙ sym (list_any_more (λ (s : Spot). v == s.number) spots k d there)

pub returns-clause-ascending : goal.returns-clause-ascending
returns-clause-ascending c = rw (dedup_is _ _ _ c.dedup.ensures.filtered) (IsStrictlyIncreasing-dedup _ c.sort_unstable.ensures.sorted)

pub returns-clause-same : goal.returns-clause-same
returns-clause-same c = λ v.
    ap (list_any (λ n. v == n)) (dedup_is _ _ _ c.dedup.ensures.filtered) ∙ any-dedup c.sort_unstable.new.self.items v
    ∙ sym (list_any-IsPermutation (λ n. v == n) c.loop-spot.numbers.items c.sort_unstable.new.self.items c.sort_unstable.ensures.permutation)
    ∙ c.loop-spot.invariant v ∙ ap (list_any (λ (s : Spot). v == s.number)) (take_all c.loop-spot.spot-index c.args.spots.now (omega arith))
