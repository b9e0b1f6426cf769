use Rattle.std.proofs.Common.{ℕ, List, sym, ap, ◌∙◌, Bor, bytes_eq}
use Rattle.std.specs.List.{list_any}
use Rattle.accounts.proofs.ListLemmas.{list_any-map}
use Rattle.keep_text.proofs.name_set.NameSet.has.Goals as goal

pub returns : goal.returns
returns c =
    let name = c.args.name.now in
    c.contains.ensures ∙ sym (list_any-map (bytes_eq name) (λ (n : Bor (List ℕ)). n.now) c.self.inside.names.keys) ∙ ap (list_any (bytes_eq name)) c.self.view_is
