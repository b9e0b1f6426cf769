-- Which double quotes of a value are dropped.
-- Source: this project's own rule: `"1000"` is read as `1000`.
use Rattle.std.specs.Prelude.{◌≡◌, ◌≢◌, ℕ, List, [], ◌∷◌, ◌++◌}
use Rattle.std.specs.List.{All}
use Rattle.logindefs.specs.Parameters.{without_quotes}

-- double quotes alone, or nothing
abbrev pub AreQuotes : List ℕ → Type 0
AreQuotes bytes = All (λ b. b ≡ 34) bytes

-- the word neither begins nor ends with a double quote
pub record HasBareEnds (word : List ℕ) : Type 0 where
  pub front : (rest : List ℕ) → word ≢ 34 ∷ rest
  pub back : (rest : List ℕ) → word ≢ rest ++ 34 ∷ []

-- all double quotes at both ends are dropped, and no other byte
abbrev pub QuotesAreDropped : Type 0
QuotesAreDropped =
    (front word behind : List ℕ) → AreQuotes front → HasBareEnds word → AreQuotes behind
    → without_quotes (front ++ word ++ behind) ≡ word
