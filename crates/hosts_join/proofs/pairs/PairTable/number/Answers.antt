use Rattle.std.proofs.Common.{◌≡◌, ℕ, List, [], ◌∷◌, inl, inr, refl, ◌∙◌, ap, Bor}
use Rattle.std.specs.Map.{lookup}
use Rattle.std.specs.Str.{bytes_eq}
use Rattle.std.proofs.lemmas.Bool.{cases_Bool}
use Rattle.hosts_join.specs.Pairs.{number_of}
use Rattle.hosts_join.specs.PairTable.{pairs_among}
use Rattle.hosts_join.proofs.pairs.PairTable.number.Goals as goal

looked-up : (es : List (Bor (List ℕ) × ℕ)) (n : List ℕ) → lookup (λ k. bytes_eq n k.now) es ≡ number_of (pairs_among es) n
looked-up [] n = refl
looked-up (e ∷ es) n = elim (cases_Bool (bytes_eq n e.0.now)) [ inl t ↦ rw t refl | inr f ↦ rw f (looked-up es n) ]

pub returns : goal.returns
returns c = c.copied.ensures ∙ c.get.ensures.value ∙ looked-up c.self.inside.pairs.entries c.args.name.now ∙ ap (λ ps. number_of ps c.args.name.now) c.self.view_is
