-- The names of those rows that pass a test.
-- Words of the code and not of the subject: only private contracts and invariants cite them.
use Rattle.std.specs.Prelude.{◌≡◌, ℕ, Bool, ◌&&◌, ◌||◌, List, bytes_eq}
use Rattle.std.specs.List.{list_any}
use Rattle.hosts_join.specs.RangeLists.{lies_in_some}
use Rattle.keep_text.specs.declared.keep_text.Kept.{Kept}
use Rattle.kept_accounts.specs.Keeping.{is_among}

-- a row lets its name stay: the name is listed, or the number lies in a listed range
abbrev pub lets_stay : Kept → List ℕ × ℕ → Bool
lets_stay keep row = is_among keep.names row.0 || lies_in_some keep.ranges row.1

-- the names are those of the rows that pass
pub record ArePicked (passes : List ℕ × ℕ → Bool) (rows : List (List ℕ × ℕ))
    (names : List (List ℕ)) : Type 0 where
  pub picked : (name : List ℕ)
      → is_among names name ≡ list_any (λ row. bytes_eq name row.0 && passes row) rows
