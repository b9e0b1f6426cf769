use Rattle.std.proofs.Common.{[], ◌∷◌, ◌++◌, sym, ap, ◌∙◌, zero-add}
use Rattle.std.specs.List.{range_with_len}
use Rattle.reown_plan.proofs.Sorting.{range_more}
use Rattle.reown_plan.proofs.places.all_places.Goals as goal

pub loop-place-preserved : goal.loop-place-preserved
loop-place-preserved c =
    c.in_ok-push.ensures.items ∙ ap (λ places. places ++ c.loop-place.place ∷ []) c.loop-place.invariant
    ∙ ap (λ place. range_with_len 0 c.loop-place.place ++ place ∷ []) (sym (zero-add c.loop-place.place)) ∙ sym (range_more 0 c.loop-place.place)
