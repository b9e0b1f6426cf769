use Rattle.std.proofs.Common.{◌≡◌, ◌++◌, [], length, rules, sym, ap, subst, ◌∙◌, arith}
use Rattle.std.proofs.lemmas.List.{take-append-drop}
use Rattle.unify_laws.specs.Texts.{mtrees}
use Rattle.unify_merge.specs.Ledger.{with_piece}
use Rattle.unify_bundle.specs.TextFiles.{Holds, open_file}
use Rattle.unify_bundle.proofs.InMemory.{held_piece, none}
use Rattle.unify_bundle.proofs.text_files.TextFilesReadFiles.piece.Goals as goal

pub invariant_of-self : goal.invariant_of-self
invariant_of-self c =
    let here = c.self.inside in
    let texts = mtrees here.hosts.now in
    let writing = open_file here.is_writing here.name.items here.text.items in
    let next = c.split_at.result.0.now in
    let rest = c.split_at.result.1.now in
    let parts : here.left.now ≡ next ++ rest = sym (take-append-drop c.min.result here.left.now) ∙ (λ j. sym c.split_at.ensures.front j ++ sym c.split_at.ensures.back j) in
    let ends = λ (h : next ≡ []). none rest (omega (arith, ap length h, c.split_at.ensures.front_len, c.split_at.ensures.back_len, c.min.ensures)) in
    let bytes : c.deref.result.now ≡ next = search rules in
    subst (Holds texts rest here.files.items writing) (sym (c.note.ensures ∙ ap (λ bs. with_piece bs here.log.ledger) bytes))
    (held_piece texts here.left.now here.files.items writing here.log.ledger c.self.invariant next rest parts ends)
