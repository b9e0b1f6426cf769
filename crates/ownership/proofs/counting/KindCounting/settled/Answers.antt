use Rattle.std.proofs.Common.{◌≡◌, ◌<◌, ◌≤◌, [], length, map, refl, sym, ap, ◌∙◌, subst, arith, inl, inr}
use Rattle.std.proofs.lemmas.Bool.{cases_eq, cases_lt}
use Rattle.std.proofs.lemmas.List.{get_or-map, get_or-set_other, get_or-set_same, length-map, length-set}
use Rattle.ownership.specs.Counts.{Tally, count_in, no_tally, tally_at, told_kept, told_total}
use Rattle.ownership.specs.Noted.{notes_at, with_all_notes, with_notes}
use Rattle.ownership.proofs.NoteLemmas.{IsSettled, notes_at-beyond, settled_none, settled_same, tally_at-noted}
use Rattle.ownership.proofs.Reading.{tally-read}
use Rattle.ownership.proofs.counting.KindCounting.settled.Goals as goal

pub loop-index-init : goal.loop-index-init
loop-index-init c = record { len = refl; done = λ i h. absurd (omega arith); left = λ i h. refl }

pub settle-requires-clause-there : goal.settle-requires-clause-there
settle-requires-clause-there c =
    let ts = c.self.inside.tallies.items in
    let notes = c.deref-noted-items.result.now in
    let i = c.loop-index.index in
    let all = map (λ n. n.items) notes in
    let within : i < length c.loop-index.tallies.items = omega (arith, c.loop-index-test.true, c.loop-index.invariant.len, c.self.invariant.len, ap length c.deref-noted-items.ensures.value) in
    let counters : c.index_mut.result.now ≡ tally_at ts i = sym (tally-read c.loop-index.tallies.items i c.index_mut.result.now within c.index_mut.ensures.value) ∙ c.loop-index.invariant.left i (omega arith) in
    let noted : c.as_slice.result.now ≡ notes_at all i = c.as_slice.ensures.value ∙ ap (λ n. n.items) c.noted-item.is ∙ sym (get_or-map (λ n. n.items) notes i c.noted-item.result [] c.loop-index-test.true) in
    rw (counters, noted, c.deref-noted-items.ensures.value) (c.self.invariant.there i)

pub settle-requires-clause-kept : goal.settle-requires-clause-kept
settle-requires-clause-kept c = λ v.
    let ts = c.self.inside.tallies.items in
    let notes = c.deref-noted-items.result.now in
    let i = c.loop-index.index in
    let all = map (λ n. n.items) notes in
    let within : i < length c.loop-index.tallies.items = omega (arith, c.loop-index-test.true, c.loop-index.invariant.len, c.self.invariant.len, ap length c.deref-noted-items.ensures.value) in
    let counters : c.index_mut.result.now ≡ tally_at ts i = sym (tally-read c.loop-index.tallies.items i c.index_mut.result.now within c.index_mut.ensures.value) ∙ c.loop-index.invariant.left i (omega arith) in
    let noted : c.as_slice.result.now ≡ notes_at all i = c.as_slice.ensures.value ∙ ap (λ n. n.items) c.noted-item.is ∙ sym (get_or-map (λ n. n.items) notes i c.noted-item.result [] c.loop-index-test.true) in
    let few : length all ≤ length ts = omega (arith, length-map notes (λ n. n.items), c.self.invariant.len, ap length c.deref-noted-items.ensures.value) in
    let its : count_in (with_notes c.index_mut.result.now c.as_slice.result.now).cells v ≡ told_kept (with_all_notes ts all) i v = (λ j. count_in (with_notes (counters j) (noted j)).cells v) ∙ ap (λ (t : Tally). count_in t.cells v) (sym (tally_at-noted ts all i few)) in
    let told : told_kept (with_all_notes ts all) i v ≤ 2147483648 = rw c.deref-noted-items.ensures.value (c.self.invariant.few.kept_le i v) in
    omega (arith, its, told)

pub settle-requires-clause-total : goal.settle-requires-clause-total
settle-requires-clause-total c =
    let ts = c.self.inside.tallies.items in
    let notes = c.deref-noted-items.result.now in
    let i = c.loop-index.index in
    let all = map (λ n. n.items) notes in
    let within : i < length c.loop-index.tallies.items = omega (arith, c.loop-index-test.true, c.loop-index.invariant.len, c.self.invariant.len, ap length c.deref-noted-items.ensures.value) in
    let counters : c.index_mut.result.now ≡ tally_at ts i = sym (tally-read c.loop-index.tallies.items i c.index_mut.result.now within c.index_mut.ensures.value) ∙ c.loop-index.invariant.left i (omega arith) in
    let noted : c.as_slice.result.now ≡ notes_at all i = c.as_slice.ensures.value ∙ ap (λ n. n.items) c.noted-item.is ∙ sym (get_or-map (λ n. n.items) notes i c.noted-item.result [] c.loop-index-test.true) in
    let few : length all ≤ length ts = omega (arith, length-map notes (λ n. n.items), c.self.invariant.len, ap length c.deref-noted-items.ensures.value) in
    let its : (with_notes c.index_mut.result.now c.as_slice.result.now).total ≡ told_total (with_all_notes ts all) i = (λ j. (with_notes (counters j) (noted j)).total) ∙ ap (λ (t : Tally). t.total) (sym (tally_at-noted ts all i few)) in
    let told : told_total (with_all_notes ts all) i ≤ 2147483648 = rw c.deref-noted-items.ensures.value (c.self.invariant.few.total_le i) in
    omega (arith, its, told)

pub loop-index-preserved : goal.loop-index-preserved
loop-index-preserved c =
    let ts = c.self.inside.tallies.items in
    let now = c.loop-index.tallies.items in
    let notes = c.deref-noted-items.result.now in
    let i = c.loop-index.index in
    let all = map (λ n. n.items) notes in
    let new = c.settle.new.tally in
    let within : i < length now = omega (arith, c.loop-index-test.true, c.loop-index.invariant.len, c.self.invariant.len, ap length c.deref-noted-items.ensures.value) in
    let counters : c.index_mut.result.now ≡ tally_at ts i = sym (tally-read now i c.index_mut.result.now within c.index_mut.ensures.value) ∙ c.loop-index.invariant.left i (omega arith) in
    let noted : c.as_slice.result.now ≡ notes_at all i = c.as_slice.ensures.value ∙ ap (λ n. n.items) c.noted-item.is ∙ sym (get_or-map (λ n. n.items) notes i c.noted-item.result [] c.loop-index-test.true) in
    let settled : IsSettled c.index_mut.result.now c.as_slice.result.now new = record { total = c.settle.ensures.total; cells = c.settle.ensures.cells; counts = c.settle.ensures.counts } in
    let here : IsSettled (tally_at ts i) (notes_at all i) new = subst (λ t. IsSettled t (notes_at all i) new) counters (subst (λ ns. IsSettled c.index_mut.result.now ns new) noted settled) in
    record {
      len = length-set now i new ∙ c.loop-index.invariant.len;
      done = λ j h. elim (cases_eq j i) [
        | inl e ↦ rw (e, get_or-set_same now i new no_tally within) here
        | inr ne ↦ rw (get_or-set_other now i j new no_tally ne) (c.loop-index.invariant.done j (omega (arith, h, ne)))
      ];
      left = λ j h. get_or-set_other now i j new no_tally (λ e. omega (arith, e, h)) ∙ c.loop-index.invariant.left j (omega (arith, h));
    }

pub returns : goal.returns
returns c =
    let ts = c.self.inside.tallies.items in
    let notes = c.deref-noted-items.result.now in
    let all = map (λ n. n.items) notes in
    let len : length all ≡ length ts = length-map notes (λ n. n.items) ∙ ap length c.deref-noted-items.ensures.value ∙ c.self.invariant.len in
    let same = settled_same ts all c.loop-index.tallies.items len c.loop-index.invariant.len (λ i. elim (cases_lt i (length all)) [
      | inl h ↦ c.loop-index.invariant.done i (omega (arith, h, length-map notes (λ n. n.items), c.loop-index-test.false))
      | inr beyond ↦
          let none = notes_at-beyond all i beyond in
          rw (c.loop-index.invariant.left i (omega (arith, beyond, length-map notes (λ n. n.items), c.loop-index.auto))) (settled_none (tally_at ts i) (notes_at all i) none)
    ]) in
    rw (← c.self.view_is, ← c.deref-noted-items.ensures.value) same
