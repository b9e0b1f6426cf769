use Rattle.std.proofs.Common.{ℕ, List, ◌++◌, ap, ◌∙◌}
use Rattle.mtree_inv.proofs.ParentLemmas.{known-path, stripped}
use Rattle.mtree_inv.proofs.known_parent.KnownParent.path_of.Goals as goal

pub returns-then-is_plain_name : goal.returns-then-is_plain_name
returns-then-is_plain_name c =
    let path = c.without_dot-path.result.now in
    let name = c.in_ok-name.name.now in
    let cut = c.in_ok-name.ensures.cases in
    known-path c.args.word.now path c.self.inside.path.items name
    c.without_dot-path.ensures.parts c.without_dot-path.ensures.backslash c.without_dot-path.ensures.slash
    (stripped path c.as_slice.result.now name cut.0 cut.1 ∙ ap (λ (l : List ℕ). l ++ name) c.as_slice.ensures.value)
    (c.self.invariant c.if-not-self.false) (c.is_plain_name.ensures c.if-is_plain_name.true)
