use Rattle.std.proofs.Common.{◌≡◌, ◌∷◌, ◌++◌, take, ℕ, List}
use Rattle.std.specs.List.{flat_map}
use Rattle.std.specs.Borrow.{Bor}
use Rattle.idtext.specs.Escapes.{escaped}
use Rattle.inventory_text.proofs.head.push_words.Given as goal

abbrev pub invariant-loop-word : goal.invariant-loop-word
invariant-loop-word l = l.text.items ≡ l.fn.text.items ++ flat_map (λ (word : Bor (List ℕ)). 32 ∷ escaped word.now) (take l.word-index l.words)
