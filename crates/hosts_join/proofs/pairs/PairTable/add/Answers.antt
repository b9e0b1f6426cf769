use Rattle.std.proofs.Common.{◌≡◌, ℕ, List, [], ◌∷◌, ◌++◌, Option, None, Some, is_some, false, inl, inr, refl, sym, ◌∙◌, ap, Bor}
use Rattle.std.specs.Str.{bytes_eq}
use Rattle.std.proofs.lemmas.Bool.{cases_Bool}
use Rattle.indexmap.specs.IndexMap.{insert_entry}
use Rattle.hosts_join.specs.Accounts as spec
use Rattle.hosts_join.specs.Pairs.{number_of}
use Rattle.hosts_join.specs.PairTable.{pairs_among}
use Rattle.hosts_join.proofs.pairs.PairTable.add.Goals as goal

pushed : (es : List (Bor (List ℕ) × ℕ)) (name : Bor (List ℕ)) (number : ℕ) → number_of (pairs_among es) name.now ≡ None
    → pairs_among (insert_entry (λ (q : Bor (List ℕ)) (k : Bor (List ℕ)). bytes_eq q.now k.now) es name number) ≡ pairs_among es ++ record { name = name.now; number = number } ∷ []
pushed [] name number e = refl
pushed (x ∷ es) name number e = elim (cases_Bool (bytes_eq name.now x.0.now)) [
  | inl t ↦ let e' = rw t at e in absurd (some-none x.1 e')
  | inr f ↦ let e' = rw f at e in rw f (ap (λ t. record { name = x.0.now; number = x.1 } ∷ t) (pushed es name number e'))
]
  where
    some-none : (n : ℕ) → ◌≡◌ {A = Option ℕ} (Some n) None → ⊥
    some-none n e = (cc)

none_from : (o : Option ℕ) → is_some o ≡ false → o ≡ None
none_from None e = refl
none_from (Some n) e = absurd (cc)

pub returns-clause-ok : goal.returns-clause-ok
returns-clause-ok c =
    let absent = sym c.number.ensures ∙ none_from c.number.result (sym c.is_some.ensures ∙ c.if-is_some.false) in
    let none = rw (← c.self.view_is) at absent in
    ap pairs_among c.in_ok-insert.ensures.entries ∙ pushed c.self.inside.pairs.entries c.args.name c.args.number none ∙ ap (λ (ps : List spec.Pair). ps ++ record { name = c.args.name.now; number = c.args.number } ∷ []) c.self.view_is
