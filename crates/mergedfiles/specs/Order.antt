-- Names in order: by their numbers, and by their bytes.
-- Source: this project's own rule.
use Rattle.std.specs.Prelude.{ℕ, Bool, if◌then◌else◌, List, [], ◌∷◌, map}
use Rattle.std.specs.List.{enumerate_from}
use Rattle.std.specs.Cmp.Lexicographic.{slice_cmp}
use Rattle.std.specs.Ordering.{nat_cmp, is_lt}
use Rattle.hosts_join.specs.Accounts.{Accounts}

-- an item put before the first one that it comes before
abbrev pub put : {X : Type 0} → (X → X → Bool) → X → List X → List X
put before x [] = x ∷ []
put before x (y ∷ ys) = if before x y then x ∷ y ∷ ys else y ∷ put before x ys

-- the items in order
unfoldable pub in_order : {X : Type 0} → (X → X → Bool) → List X → List X
in_order before [] = []
in_order before (x ∷ xs) = put before x (in_order before xs)

-- the index of each name with its number, ascending by number
abbrev pub by_number : List ℕ → List (ℕ × ℕ)
by_number m = in_order (λ p q. is_lt (nat_cmp p.1 q.1)) (enumerate_from 0 m)

-- the names in byte order
abbrev pub by_bytes : Accounts → List (List ℕ)
by_bytes a = in_order (λ n o. is_lt (slice_cmp nat_cmp n o)) (map (λ x. x.name) a.names)
