-- The texts of inventories that came in pieces, kept for contracts alone.
-- Source: this project's own rule.
use Rattle.std.specs.Prelude.{ℕ, List, [], refl}
use Rattle.std.specs.Coded.{Coded, code_by, coded×, coded_ℕ, coded_list}

-- the texts that were ended, in order; the text that has come of the next; and what was appended to
-- a plan for it
pub record Taken : Type 0 where
  pub ended : List (List ℕ)
  pub text : List ℕ
  pub planned : List ℕ

abbrev pub nothing : Taken
nothing = record { ended = []; text = []; planned = [] }

-- how the logic stores them: as the tuple of the fields
abbrev pub taken_code : Coded Taken
taken_code =
    code_by (List (List ℕ) × (List ℕ × List ℕ))
    (coded× (coded_list (coded_list coded_ℕ)) (coded× (coded_list coded_ℕ) (coded_list coded_ℕ)))
    (λ t. (t.ended, (t.text, t.planned)))
    (λ f. record { ended = f.0; text = f.1.0; planned = f.1.1 }) (λ _. refl)
