use Rattle.std.proofs.Common.{◌≡◌, ℕ, ◌∙◌, refl, sym, ap, subst, arith, true≢false}
use Rattle.std.specs.Prelude.{Option, Some, slice_get}
use Rattle.std.specs.Option.{unwrap_or}
use Rattle.mtree_inv.specs.Cuts.{Cut}
use Rattle.mtree_inv.specs.Places.{Key, IsKeyOf, Others, other_at}
use Rattle.mtree_inv.proofs.PlaceLemmas.{at_key, other_at-new, other_at-other}
use Rattle.mtree_inv.proofs.places.other_or_last.Goals as goal

-- what the tree said of a cut is what was read at its key
read : (others : Others) (key : Key) (of cut : Cut) (told : Option ℕ) (last index i : ℕ) → IsKeyOf key of → told ≡ other_at others of → index ≡ unwrap_or told last → cut ≡ of → other_at others cut ≡ Some i → i ≡ index
read others key of cut told last index i is_key is value same at =
    sym (value ∙ ap (λ (o : Option ℕ). unwrap_or o last) (is ∙ ap (other_at others) (sym same) ∙ at))

pub returns-then-is_at-clause-others : goal.returns-then-is_at-clause-others
returns-then-is_at-clause-others c = λ i cut stands at.
    let of : Cut = c.args.cut.now in
    let others = c.args.others.now.entries in
    let index = c.or_insert-index.result.now in
    let is_key = c.in_ok-key.ensures in
    let told = c.in_ok-others.ensures.value ∙ at_key others _ of is_key in
    let kept = other_at-other _ of is_key index others _ (c.in_ok-others.ensures.update.1 index) i cut at
    (λ same. read others _ of cut _ c.len.result index i is_key told c.or_insert-index.ensures.value same at) in
    grind (arith, kept)

pub returns-clause-new : goal.returns-clause-new
returns-clause-new c =
    let of : Cut = c.args.cut.now in
    let others = c.args.others.now.entries in
    let index = c.or_insert-index.result.now in
    let is_key = c.in_ok-key.ensures in
    let told = c.in_ok-others.ensures.value ∙ at_key others _ of is_key in
    let new = other_at-new _ of is_key c.len-2.result others _ (c.in_ok-others.ensures.update.1 c.len-2.result) in (
      λ i stands at.
          let same = read others _ of of _ c.len.result index i is_key told c.or_insert-index.ensures.value refl at in
          true≢false (sym (c.is_at.ensures.no (subst (λ (n : ℕ). slice_get c.args.rows.now n ≡ Some of) same stands)) ∙ c.if-is_at.false),
      grind (arith, new, c.len-2.ensures),
    )

pub returns-clause-others : goal.returns-clause-others
returns-clause-others c = λ i cut stands at.
    let of : Cut = c.args.cut.now in
    let others = c.args.others.now.entries in
    let index = c.or_insert-index.result.now in
    let is_key = c.in_ok-key.ensures in
    let told = c.in_ok-others.ensures.value ∙ at_key others _ of is_key in
    let kept = other_at-other _ of is_key c.len-2.result others _ (c.in_ok-others.ensures.update.1 c.len-2.result) i cut at
    (λ same.
    let found = read others _ of cut _ c.len.result index i is_key told c.or_insert-index.ensures.value same at in
    absurd (true≢false (sym (c.is_at.ensures.no (subst (λ (n : ℕ). slice_get c.args.rows.now n ≡ Some of) found (stands ∙ ap Some same))) ∙ c.if-is_at.false))) in
    grind (arith, kept)
