use Rattle.std.proofs.Common.{◌≡◌, ◌<◌, ◌≤◌, ◌+◌, ◌⊎◌, inl, inr, ℕ, List, ◌++◌, take, drop, length, sym, ap, subst, ◌∙◌, arith}
use Rattle.std.specs.Prelude.{slice_get, Some}
use Rattle.std.proofs.lemmas.Bool.{cases_lt}
use Rattle.std.proofs.lemmas.List.{take_at}
use Rattle.std.proofs.lemmas.Option.{slice_get_within}
use Rattle.mtree_inv.specs.declared.places.Place.{Place}
use Rattle.mtree_inv.specs.Cuts.{Cut}
use Rattle.mtree_inv.specs.Places.{IsFoundAt}
use Rattle.mtree_inv.proofs.places.all_settled.Goals as goal

pub loop-index-preserved : goal.loop-index-preserved
loop-index-preserved c =
    let new = c.settle_at.new.places in
    let all = take c.loop-index.places.len (new ++ drop (length new) c.loop-index.places.items) in
    let whole : all ≡ new =
    take_at new (drop (length new) c.loop-index.places.items) c.loop-index.places.len (omega (arith, c.in_ok-settle_at.ensures.len, c.deref_mut.ensures.len)) in
    let others = c.settle_at.new.others.entries in
    let inv = c.loop-index.invariant in
    record {
      len = ap length whole ∙ c.in_ok-settle_at.ensures.len ∙ ap length c.deref_mut.ensures.value ∙ inv.len;
      found = λ i cut below at. subst (λ (l : List Place). IsFoundAt l others cut i) (sym whole) (by i cut below at (cases_lt i c.loop-index.index));
      others = λ i cut at told. c.in_ok-settle_at.ensures.others i cut at (inv.others i cut at told);
    }
  where
    by : (i : ℕ) (cut : Cut) → i < c.loop-index.index + 1 → slice_get c.args.rows.now i ≡ Some cut → (i < c.loop-index.index) ⊎ (c.loop-index.index ≤ i)
        → IsFoundAt c.settle_at.new.places c.settle_at.new.others.entries cut i
    by i cut below at (inl before) =
        c.in_ok-settle_at.ensures.found i cut at (subst (λ (l : List Place). IsFoundAt l c.loop-index.others.entries cut i) (sym c.deref_mut.ensures.value) (c.loop-index.invariant.found i cut before at))
    by i cut below at (inr up) =
        let same : c.loop-index.index ≡ i = omega (arith, up, below) in
        subst (λ (n : ℕ). IsFoundAt c.settle_at.new.places c.settle_at.new.others.entries cut n) same
        (c.in_ok-settle_at.ensures.settled cut (subst (λ (n : ℕ). slice_get c.args.rows.now n ≡ Some cut) (sym same) at))

pub returns-clause-found : goal.returns-clause-found
returns-clause-found c = λ i cut at.
    let within : i < length c.args.rows.now = slice_get_within c.args.rows.now i cut at in
    c.loop-index.invariant.found i cut (omega (arith, within, c.loop-index-test.false, c.len-index-end.ensures)) at
