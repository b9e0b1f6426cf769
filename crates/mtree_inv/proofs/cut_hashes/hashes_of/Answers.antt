use Rattle.std.proofs.Common.{List, ℕ, ◌∙◌, subst}
use Rattle.std.specs.Map.{values_of}
use Rattle.mtree_inv.specs.Following.{AreDifferentAt}
use Rattle.mtree_inv.proofs.FollowLemmas.{each_once}
use Rattle.mtree_inv.proofs.cut_hashes.hashes_of.Goals as goal

pub invariant_of-result : goal.invariant_of-result
invariant_of-result c =
    let told : AreDifferentAt c.deref.result.now c.deref-2.result.now = c.in_ok-differ_at.ensures c.if-branch.true in
    let of_hashes : AreDifferentAt c.in_ok-hashes.hashes.items c.deref-2.result.now = subst (λ (l : List ℕ). AreDifferentAt l c.deref-2.result.now) c.deref.ensures.value told in
    let of_others : AreDifferentAt c.in_ok-hashes.hashes.items (values_of c.args.others.now.entries) =
    subst (λ (l : List ℕ). AreDifferentAt c.in_ok-hashes.hashes.items l) (c.deref-2.ensures.value ∙ c.in_ok-indices.ensures) of_hashes in
    each_once c.args.rows.now c.args.others.now.entries c.in_ok-hashes.hashes.items c.requires c.in_ok-hashes.ensures.hashes c.in_ok-hashes.ensures.len of_others
