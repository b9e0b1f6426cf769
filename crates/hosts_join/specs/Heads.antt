-- The first bytes of a name as one number.
-- Words of the code and not of the subject: only private contracts cite them.
use Rattle.std.specs.Prelude.{◌≡◌, ℕ, zero, suc, ◌+◌, ◌*◌, ◌<◌, List, [], ◌∷◌}
use Rattle.std.specs.Borrow.{Bor}
use Rattle.std.specs.List.{All}

-- so many bytes after those of a number, with zeros after a shorter name
unfoldable pub head_after : ℕ → ℕ → List ℕ → ℕ
head_after zero head name = head
head_after (suc n) head [] = head_after n (head * 256) []
head_after (suc n) head (byte ∷ name) = head_after n (head * 256 + byte) name

abbrev pub head_of : List ℕ → ℕ
head_of name = head_after 8 0 name

-- the number is the head of the name, whose elements are bytes
pub record IsHeadOf (head : ℕ) (name : List ℕ) : Type 0 where
  pub is : head ≡ head_of name
  pub bytes : All (λ b. b < 256) name

-- a name with its place, and its head before them
abbrev pub Headed : Type 0
Headed = ℕ × (Bor (List ℕ) × ℕ)

abbrev pub named : Headed → Bor (List ℕ) × ℕ
named p = p.1

abbrev pub HasItsHead : Headed → Type 0
HasItsHead p = IsHeadOf p.0 (named p).0.now
