use Rattle.std.proofs.Common.{◌≡◌, ◌++◌, ◌∷◌, [], ℕ, List, false, sym, ap, ◌∙◌, Bor, bytes_eq}
use Rattle.std.specs.List.{list_any}
use Rattle.std.proofs.lemmas.Bool.{cond-false}
use Rattle.std.proofs.lemmas.List.{map_push}
use Rattle.accounts.proofs.ListLemmas.{list_any-map}
use Rattle.keep_text.specs.NameSets.{names_among}
use Rattle.keep_text.proofs.name_set.NameSet.add.Goals as goal

pub returns-clause-ok : goal.returns-clause-ok
returns-clause-ok c =
    let name = c.args.name.now in
    let keys = c.self.inside.names.keys in
    let absent = sym c.has.ensures ∙ c.if-has.false in
    let none = rw (← c.self.view_is) at absent in
    let fresh : list_any (λ (k : Bor (List ℕ)). bytes_eq name k.now) keys ≡ false = sym (list_any-map (bytes_eq name) (λ (n : Bor (List ℕ)). n.now) keys) ∙ none in
    ap names_among (c.in_ok-insert_full.ensures.keys ∙ cond-false _ _ _ fresh) ∙ map_push (λ (n : Bor (List ℕ)). n.now) keys c.args.name ∙ ap (λ (ns : List (List ℕ)). ns ++ name ∷ []) c.self.view_is
