use Rattle.std.proofs.Common.{◌∙◌, ◌++◌, sym, ap, map}
use Rattle.std.proofs.lemmas.List.{append-nil}
use Rattle.idtext.proofs.EscapeLemmas.{characters-empty}
use Rattle.idtext.specs.Escapes.{characters}
use Rattle.unify_apply.specs.Mounts.{path_byte}
use Rattle.unify_apply.proofs.mountinfo.unescaped.Goals as goal

pub returns : goal.returns
returns c =
    let path = c.loop-character.path.items in
    let none = ap characters c.in_default.ensures.characters ∙ characters-empty in
    sym (append-nil path) ∙ sym (ap (λ cs. path ++ map path_byte cs) none)
    ∙ c.loop-character.invariant
