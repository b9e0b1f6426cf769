use Rattle.std.proofs.Common.{ℕ, ◌≡◌, ◌<◌, ◌≤◌, ◌++◌, ◌∷◌, [], length, rules, List, arith, get_or, sym, ◌∙◌, ap}
use Rattle.std.specs.List.{All, enumerate_from}
use Rattle.std.specs.List.Sorted.{IsPermutation, IsSortedBy}
use Rattle.std.specs.Ordering.{nat_cmp, is_lt}
use Rattle.std.proofs.lemmas.Fn.{always_returns_same}
use Rattle.std.proofs.lemmas.List.{take_all}
use Rattle.std.proofs.lemmas.List.FromFn.{get_or-enumerate_from, length-enumerate_from}
use Rattle.std.proofs.lemmas.List.Sorted.{All-permutation}
use Rattle.mergedfiles.proofs.Orders.{number-order}
use Rattle.mergedfiles.proofs.Steps.{enumerate_more}
use Rattle.mergedfiles.proofs.order.by_number.Goals as goal

places : (m : List ℕ) → All (λ (p : ℕ × ℕ). p.0 < length m) (enumerate_from 0 m)
places m = λ k d h.
    let h' : k < length m = omega (arith, length-enumerate_from 0 m) in
    rw (get_or-enumerate_from 0 m k d h') (omega arith)

pub loop-index-preserved : goal.loop-index-preserved
loop-index-preserved c =
    let within : c.loop-index.index < length c.args.mapping.now = omega arith in
    c.in_ok-push.ensures.items ∙ ap (λ n. c.loop-index.found.items ++ (c.loop-index.index, n) ∷ []) c.number.ensures ∙ ap (λ xs. xs ++ (c.loop-index.index, get_or c.args.mapping.now c.loop-index.index 0) ∷ []) c.loop-index.invariant ∙ sym (enumerate_more c.args.mapping.now c.loop-index.index within)

pub returns : goal.returns
returns c =
    let m = c.args.mapping.now in
    let long : length m ≤ c.loop-index.index = omega arith in
    let all : c.loop-index.found.items ≡ enumerate_from 0 m = c.loop-index.invariant ∙ ap (enumerate_from 0) (take_all c.loop-index.index m long) in
    let perm : IsPermutation (enumerate_from 0 m) c.sort_unstable_by_key.new.self.items = rw (← all) c.sort_unstable_by_key.ensures.permutation in
    let sorted : IsSortedBy (λ (p q : ℕ × ℕ). is_lt (nat_cmp p.1 q.1)) c.sort_unstable_by_key.new.self.items =
    c.sort_unstable_by_key.ensures.sorted (λ (p : ℕ × ℕ). p.1) (always_returns_same _ (λ a r. r ≡ a.0.now.1) _ (λ a r f k. search rules)) in
    record {
      order = number-order m c.sort_unstable_by_key.new.self.items c.len.ensures.lawful.distinct perm sorted;
      within = All-permutation (λ (p : ℕ × ℕ). p.0 < length m) _ _ perm (places m);
    }
