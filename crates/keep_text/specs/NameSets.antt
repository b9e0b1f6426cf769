-- What a set of names stands for.
-- Words of the code and not of the subject: only private contracts, views and invariants cite
-- them.
use Rattle.std.specs.Prelude.{ℕ, List, map}
use Rattle.std.specs.Borrow.{Bor}
use Rattle.keep_text.specs.declared.name_set.NameSet.TheInside.{Inside}

abbrev pub names_among : List (Bor (List ℕ)) → List (List ℕ)
names_among keys = map (λ (n : Bor (List ℕ)). n.now) keys

abbrev pub names_inside : Inside → List (List ℕ)
names_inside s = names_among s.names.keys
