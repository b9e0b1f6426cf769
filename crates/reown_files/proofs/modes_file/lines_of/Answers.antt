use Rattle.std.proofs.Common.{◌∙◌, ◌&&◌, [], ◌∷◌, Bool, Some, None, cond, refl, sym, ap}
use Rattle.std.specs.Prelude.{nat_eq}
use Rattle.std.specs.List.{ends_with}
use Rattle.reown_files.specs.MarkText.{has_end, before_end, behind}
use Rattle.reown_files.proofs.modes_file.lines_of.Goals as goal

pub returns-then-not-starts_with-clause-refused : goal.returns-then-not-starts_with-clause-refused
returns-then-not-starts_with-clause-refused c =
    let text = c.args.text.now in
    let none = sym c.starts_with.ensures.value ∙ c.if-not-starts_with.true in
    (refl, ap (λ (t : Bool). cond (t && (has_end text && ends_with nat_eq (before_end text) (10 ∷ []))) (Some (behind c.args.head.now (before_end text))) None) none)
