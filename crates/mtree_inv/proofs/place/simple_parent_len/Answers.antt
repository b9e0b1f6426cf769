use Rattle.std.proofs.Common.{[], ◌∷◌, ◌++◌, sym, ◌∙◌}
use Rattle.mtree_inv.proofs.ParentLemmas.{began, began-on, begins-simply}
use Rattle.mtree_inv.proofs.place.simple_parent_len.Goals as goal

pub loop-part-init : goal.loop-part-init
loop-part-init c = record { front = []; from = began c.args.word.now }

pub loop-part-preserved : goal.loop-part-preserved
loop-part-preserved c = record {
  front = c.loop-part.invariant.front ++ (c.in-Some.part.now ++ 47 ∷ []);
  from = began-on c.args.word.now c.loop-part.invariant.front c.loop-part.rest.now c.in-Some.part.now c.in-Some.after.now
      c.loop-part.invariant.from c.in-Some.ensures.pieces (sym c.is_simple_part.ensures ∙ c.if-not-is_simple_part.false);
}

pub returns-then-is_simple_part-clause-parent : goal.returns-then-is_simple_part-clause-parent
returns-then-is_simple_part-clause-parent c = begins-simply c.args.word.now c.loop-part.invariant.front c.loop-part.rest.now c.loop-part.invariant.from
