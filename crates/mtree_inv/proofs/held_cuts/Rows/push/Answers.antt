use Rattle.std.proofs.Common.{◌≡◌, ◌++◌, List, [], ◌∷◌, ℕ, ◌∙◌, ap, arith, length}
use Rattle.mtree_inv.specs.declared.held_cuts.Row.{Row}
use Rattle.mtree_inv.specs.Cuts.{Cut}
use Rattle.mtree_inv.specs.HeldCuts.{cuts_in}
use Rattle.mtree_inv.proofs.HeldLemmas.{IsNew, cuts-new, held-new}
use Rattle.mtree_inv.proofs.held_cuts.Rows.push.Goals as goal

abbrev row_of : goal.After-push_reserved → Row
row_of c = record { front = c.front.result; end = c.in-Ok.end; hash = c.hash.result }

new : (c : goal.After-push_reserved) → IsNew c.self.inside.bytes.items c.args.cut.now (row_of c)
new c = record {
  front = c.front.ensures;
  end = omega (arith, c.in-Ok.ensures.1, c.len.ensures, c.self.inside.bytes.ok.0, ap length c.tail-tail.ensures);
  hash = c.hash.ensures;
}

bytes : (c : goal.After-push_reserved) → c.extend_from_slice.new.self.items ≡ c.self.inside.bytes.items ++ c.args.cut.now.1
bytes c = c.in_ok-extend_from_slice.ensures.items ∙ ap (λ (l : List ℕ). c.self.inside.bytes.items ++ l) c.tail-tail.ensures

rows : (c : goal.After-push_reserved) → c.push_reserved.new.self.items ≡ c.self.inside.rows.items ++ row_of c ∷ []
rows c = c.push_reserved.ensures.items ∙ ap (λ (l : List Row). l ++ row_of c ∷ []) c.in_ok-reserve.ensures.items

pub invariant_of-self-2 : goal.invariant_of-self-2
invariant_of-self-2 c =
    rw (bytes c, rows c) (held-new c.self.inside.bytes.items 0 c.self.inside.rows.items c.args.cut.now (row_of c) c.self.invariant (new c))

pub returns : goal.returns
returns c =
    ap (λ (l : List ℕ). cuts_in l 0 c.push_reserved.new.self.items) (bytes c)
    ∙ ap (cuts_in (c.self.inside.bytes.items ++ c.args.cut.now.1) 0) (rows c)
    ∙ cuts-new c.self.inside.bytes.items 0 c.self.inside.rows.items c.args.cut.now (row_of c) c.self.invariant (new c)
    ∙ ap (λ (l : List Cut). l ++ c.args.cut.now ∷ []) c.self.view_is
