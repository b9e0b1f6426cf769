use Rattle.std.proofs.Common.{◌∙◌, ap, sym, length}
use Rattle.mtree_inv.proofs.HeldLemmas.{length-cuts}
use Rattle.mtree_inv.proofs.held_cuts.Rows.len.Goals as goal

pub returns : goal.returns
returns c =
    c.len.ensures ∙ c.self.inside.rows.ok.0 ∙ sym (length-cuts c.self.inside.bytes.items 0 c.self.inside.rows.items) ∙ ap length c.self.view_is
