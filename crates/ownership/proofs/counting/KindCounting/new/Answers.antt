use Rattle.std.proofs.Common.{◌≡◌, ℕ, [], ◌∷◌, ◌++◌, ◌+◌, ◌==◌, get_or, length, ap, map, refl, sym, ◌∙◌, arith}
use Rattle.std.proofs.lemmas.List.{length-map, length_push}
use Rattle.std.proofs.lemmas.List.Elements.{All-push, All-same}
use Rattle.std.specs.List.{list_any}
use Rattle.hosts_join.specs.Accounts.{no_account}
use Rattle.hosts_join.specs.declared.Spot.{Spot}
use Rattle.ownership.specs.Counts.{count_in, has_cell, tally_at}
use Rattle.ownership.specs.Noted.{notes_at}
use Rattle.ownership.proofs.NoteLemmas.{none_there, none_within, notes_at-none, settled_none, settled_same, tally_at-pushed}
use Rattle.ownership.proofs.counting.KindCounting.new.Goals as goal

pub loop-index-preserved : goal.loop-index-preserved
loop-index-preserved c =
    let ts = c.loop-index.tallies.items in
    let t = c.in_ok-of.field-0 in
    let n = c.loop-index.index in
    let notes = c.loop-index.notes.items in
    record {
      len = ap length c.in_ok-push.ensures.items ∙ length_push ts t ∙ ap (λ m. m + 1) c.loop-index.invariant.len;
      notes = ap length c.in_ok-push-2.ensures.items ∙ length_push notes c.in_ok-with_capacity.field-0 ∙ ap (λ m. m + 1) c.loop-index.invariant.notes;
      none = All-same (λ n. n.items ≡ []) c.push-in-loop-index.new.self.items (notes ++ c.in_ok-with_capacity.field-0 ∷ []) c.in_ok-push-2.ensures.items
          (All-push (λ n. n.items ≡ []) notes c.in_ok-with_capacity.field-0 c.loop-index.invariant.none c.in_ok-with_capacity.ensures.items);
      cells = λ i v h. rw c.in_ok-push.ensures.items (tally_at-pushed (λ j u. has_cell u.cells v ≡ list_any (λ s. v == s.number) (get_or c.args.names.now.names j no_account).spots) ts t n
          c.loop-index.invariant.len (λ j l. c.loop-index.invariant.cells j v l)
          (c.in_ok-of.ensures.cells v ∙ ap (list_any (λ m. v == m)) c.as_slice.ensures.value ∙ c.in_ok-take_numbers.ensures.same v ∙ ap (list_any (λ (s : Spot). v == s.number)) c.spots-spots.ensures) i h);
      kept = λ i v h. rw c.in_ok-push.ensures.items (tally_at-pushed (λ j u. count_in u.cells v ≡ 0) ts t n c.loop-index.invariant.len (λ j l. c.loop-index.invariant.kept j v l) (c.in_ok-of.ensures.zero v) i h);
      total = λ i h. rw c.in_ok-push.ensures.items (tally_at-pushed (λ j u. u.total ≡ 0) ts t n c.loop-index.invariant.len (λ j l. c.loop-index.invariant.total j l) c.in_ok-of.ensures.total i h);
    }

pub invariant_of-result : goal.invariant_of-result
invariant_of-result c =
    let ts = c.loop-index.tallies.items in
    let notes = c.loop-index.notes.items in
    let len : length (map (λ n. n.items) notes) ≡ length ts = length-map notes (λ n. n.items) ∙ c.loop-index.invariant.notes ∙ sym c.loop-index.invariant.len in
    let none : (i : ℕ) → notes_at (map (λ n. n.items) notes) i ≡ [] = λ i. notes_at-none (λ n. n.items) notes i c.loop-index.invariant.none in
    record {
      len = c.loop-index.invariant.notes ∙ sym c.loop-index.invariant.len;
      there = λ i. none_there (tally_at ts i) (notes_at (map (λ n. n.items) notes) i) (none i);
      few = none_within ts (map (λ n. n.items) notes) 2147483648 len none
          (λ i v h. c.loop-index.invariant.kept i v (omega (arith, h, c.loop-index.invariant.len))) (λ i h. c.loop-index.invariant.total i (omega (arith, h, c.loop-index.invariant.len)));
    }

pub returns-clause-made : goal.returns-clause-made
returns-clause-made c =
    let ts = c.loop-index.tallies.items in
    let notes = c.loop-index.notes.items in
    let len : length (map (λ n. n.items) notes) ≡ length ts = length-map notes (λ n. n.items) ∙ c.loop-index.invariant.notes ∙ sym c.loop-index.invariant.len in
    let none : (i : ℕ) → notes_at (map (λ n. n.items) notes) i ≡ [] = λ i. notes_at-none (λ n. n.items) notes i c.loop-index.invariant.none in
    let same = settled_same ts (map (λ n. n.items) notes) ts len refl (λ i. settled_none (tally_at ts i) (notes_at (map (λ n. n.items) notes) i) (none i)) in
    let many : length ts ≡ length c.args.names.now.names = omega (arith, c.loop-index.invariant.len, c.loop-index-test.false, c.loop-index.auto, c.len-index-end.ensures.len) in
    record {
      len = sym same.len ∙ many;
      cells = λ i v h. sym (same.cells i v) ∙ c.loop-index.invariant.cells i v (omega (arith, h, many, c.loop-index.invariant.len));
    }

pub returns-clause-zero : goal.returns-clause-zero
returns-clause-zero c =
    let ts = c.loop-index.tallies.items in
    let notes = c.loop-index.notes.items in
    let len : length (map (λ n. n.items) notes) ≡ length ts = length-map notes (λ n. n.items) ∙ c.loop-index.invariant.notes ∙ sym c.loop-index.invariant.len in
    let none : (i : ℕ) → notes_at (map (λ n. n.items) notes) i ≡ [] = λ i. notes_at-none (λ n. n.items) notes i c.loop-index.invariant.none in
    let same = settled_same ts (map (λ n. n.items) notes) ts len refl (λ i. settled_none (tally_at ts i) (notes_at (map (λ n. n.items) notes) i) (none i)) in
    let many : length ts ≡ length c.args.names.now.names = omega (arith, c.loop-index.invariant.len, c.loop-index-test.false, c.loop-index.auto, c.len-index-end.ensures.len) in
    record {
      kept_is = λ i v h. sym (same.kept i v) ∙ c.loop-index.invariant.kept i v (omega (arith, h, many, c.loop-index.invariant.len));
      total_is = λ i h. sym (same.total i) ∙ c.loop-index.invariant.total i (omega (arith, h, many, c.loop-index.invariant.len));
    }
