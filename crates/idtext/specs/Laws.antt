-- Laws over the definitions of this crate, in the words of its subject.
-- Source: chown(2) for the greatest id; mtree(5) and vis(3) for escapes, with this project's own
-- rules of which are read.
use Rattle.std.specs.Prelude.{◌≡◌, ◌≢◌, ◌⊎◌, ℕ, ◌+◌, ◌-◌, ◌*◌, false, ◌<◌, ◌≤◌, List, [], ◌∷◌}
use Rattle.std.specs.Prelude.{◌++◌, length}
use Rattle.std.specs.Prelude.{drop, All, Some, IfSome, codes, decimal}
use Rattle.std.specs.List.{Contains}
use Rattle.idtext.specs.declared.escapes.Character.TheVariants.{Bad, Escape, Plain}
use Rattle.idtext.specs.Escapes.{escaped, front, characters, unescaped, has_bad_escape}
use Rattle.idtext.specs.Numbers.{c_number_of, greatest_id, id_of}

-- a text with escapes is read from the left: the character at its front, then what stands after
-- the bytes that this one takes
abbrev pub FrontIsReadFirst : Type 0
FrontIsReadFirst =
    (text : List ℕ) → 0 < length text
    → characters text ≡ (front text).character ∷ characters (drop (front text).taken text)

-- the empty text has no character
abbrev pub NothingStandsForNothing : Type 0
NothingStandsForNothing = characters [] ≡ []

-- bytes that were escaped are read back as they were, and no escape among them is bad
abbrev pub EscapedIsReadBack : Type 0
EscapedIsReadBack =
    (bytes : List ℕ) → All (λ b. b < 256) bytes → (unescaped (escaped bytes) ≡ bytes)
    × (has_bad_escape (escaped bytes) ≡ false)

-- a byte that is seen: from `!` to `~`, so neither a control byte, nor a space, nor above ASCII
abbrev pub IsVisible : ℕ → Type 0
IsVisible b = (33 ≤ b) × (b ≤ 126)

-- bytes that were escaped are visible
abbrev pub EscapedIsVisible : Type 0
EscapedIsVisible = (bytes : List ℕ) → All (λ b. b < 256) bytes → All IsVisible (escaped bytes)

-- nothing is written as nothing
abbrev pub NothingIsEscaped : Type 0
NothingIsEscaped = escaped [] ≡ []

-- a visible byte other than backslash is written as it is, whatever stands after it
abbrev pub VisibleStands : Type 0
VisibleStands =
    (b : ℕ) → IsVisible b → b ≢ 92 → (rest : List ℕ) → escaped (b ∷ rest) ≡ b ∷ escaped rest

-- any other byte is written as a backslash and the three octal digits of its value
abbrev pub OthersAreOctal : Type 0
OthersAreOctal =
    (a b c : ℕ) → a ≤ 3 → b ≤ 7 → c ≤ 7
    → ¬ (IsVisible (a * 64 + b * 8 + c) × (a * 64 + b * 8 + c ≢ 92)) → (rest : List ℕ)
    → escaped ((a * 64 + b * 8 + c) ∷ rest)
    ≡ 92 ∷ (48 + a) ∷ (48 + b) ∷ (48 + c) ∷ escaped rest

-- the text is an escape that stands for the byte, whatever stands after it
abbrev pub StandsFor : List ℕ → ℕ → Type 0
StandsFor text byte = (rest : List ℕ) → characters (text ++ rest) ≡ Escape byte ∷ characters rest

-- a backslash, and this after it, stand for the byte
abbrev pub IsNamed : List ℕ → ℕ → Type 0
IsNamed behind byte = StandsFor (92 ∷ behind) byte

-- each form of vis(3) that is read, and the byte that it stands for: three octal digits, the names
-- of C, `\^` and `\M^` for control characters, and `\M-` for those that are seen
pub record AreForms : Type 0 where
  pub octal : (a b c : ℕ) → a ≤ 3 → b ≤ 7 → c ≤ 7
      → IsNamed ((48 + a) ∷ (48 + b) ∷ (48 + c) ∷ []) (a * 64 + b * 8 + c)
  pub backslash : IsNamed (92 ∷ []) 92
  pub space : IsNamed (codes "s") 32
  pub tab : IsNamed (codes "t") 9
  pub newline : IsNamed (codes "n") 10
  pub vertical_tab : IsNamed (codes "v") 11
  pub form_feed : IsNamed (codes "f") 12
  pub carriage_return : IsNamed (codes "r") 13
  pub bell : IsNamed (codes "a") 7
  pub backspace : IsNamed (codes "b") 8
  pub number_sign : IsNamed (codes "#") 35
  pub control : (c : ℕ) → 64 ≤ c → c ≤ 95 → IsNamed (codes "^" ++ c ∷ []) (c - 64)
  pub delete : IsNamed (codes "^?") 127
  pub meta : (c : ℕ) → 33 ≤ c → c ≤ 126 → IsNamed (codes "M-" ++ c ∷ []) (c + 128)
  pub meta_control : (c : ℕ) → 64 ≤ c → c ≤ 95 → IsNamed (codes "M^" ++ c ∷ []) (c - 64 + 128)
  pub meta_delete : IsNamed (codes "M^?") 255

-- the bytes that `\^` and `\M^` take: `?`, and `@` to `_`
abbrev pub IsControl : ℕ → Type 0
IsControl c = (c ≡ 63) ⊎ ((64 ≤ c) × (c ≤ 95))

-- the bytes that `\M` takes: `-` and one that is seen, or `^` and one of those
abbrev pub IsMeta : ℕ → ℕ → Type 0
IsMeta a c = ((a ≡ 45) × (33 ≤ c) × (c ≤ 126)) ⊎ ((a ≡ 94) × IsControl c)

-- the text begins with three octal digits whose value is a byte
pub record BeginsOctal (text : List ℕ) : Type 0 where
  pub a : ℕ
  pub b : ℕ
  pub c : ℕ
  pub rest : List ℕ
  pub are_digits : (a ≤ 3) × (b ≤ 7) × (c ≤ 7)
  pub whole : text ≡ (48 + a) ∷ (48 + b) ∷ (48 + c) ∷ rest

-- What is none of these forms. A backslash with nothing after it, or a NUL, is bad, and so is one
-- before `^` or `M` that does not go on as a form; one before any other byte stands for itself. In
-- each case what stands after the backslash is read by itself.
pub record AreNoForms : Type 0 where
  pub nothing : characters (92 ∷ []) ≡ Bad ∷ []
  pub nul : (rest : List ℕ) → characters (92 ∷ 0 ∷ rest) ≡ Bad ∷ characters (0 ∷ rest)
  pub caret_alone : characters (92 ∷ codes "^") ≡ Bad ∷ characters (codes "^")
  pub caret : (c : ℕ) (rest : List ℕ) → ¬ IsControl c
      → characters (92 ∷ codes "^" ++ c ∷ rest) ≡ Bad ∷ characters (codes "^" ++ c ∷ rest)
  pub meta_alone : characters (92 ∷ codes "M") ≡ Bad ∷ characters (codes "M")
  pub meta_short : (a : ℕ)
      → characters (92 ∷ codes "M" ++ a ∷ []) ≡ Bad ∷ characters (codes "M" ++ a ∷ [])
  pub meta : (a c : ℕ) (rest : List ℕ) → ¬ IsMeta a c
      → characters (92 ∷ codes "M" ++ a ∷ c ∷ rest) ≡ Bad ∷ characters (codes "M" ++ a ∷ c ∷ rest)
  pub other : (c : ℕ) (rest : List ℕ) → ¬ BeginsOctal (c ∷ rest)
      → ¬ Contains (94 ∷ 77 ∷ 0 ∷ 92 ∷ codes "stnvfrab#") c
      → characters (92 ∷ c ∷ rest) ≡ Plain 92 ∷ characters (c ∷ rest)
  pub plain : (c : ℕ) (rest : List ℕ) → ¬ (c ≡ 92)
      → characters (c ∷ rest) ≡ Plain c ∷ characters rest

-- Which bytes a text with escapes stands for: each byte but the backslash for itself, whichever it
-- is; a backslash that begins no form for itself; and each form for its byte.
pub record BytesStandForThemselves : Type 0 where
  pub nothing : unescaped [] ≡ []
  pub plain : (b : ℕ) (rest : List ℕ) → b ≢ 92 → unescaped (b ∷ rest) ≡ b ∷ unescaped rest
  pub backslash : (c : ℕ) (rest : List ℕ) → ¬ BeginsOctal (c ∷ rest)
      → ¬ Contains (94 ∷ 77 ∷ 0 ∷ 92 ∷ codes "stnvfrab#") c
      → unescaped (92 ∷ c ∷ rest) ≡ 92 ∷ unescaped (c ∷ rest)
  pub form : (text : List ℕ) (byte : ℕ) → StandsFor text byte
      → (rest : List ℕ) → unescaped (text ++ rest) ≡ byte ∷ unescaped rest

-- what a text writes in decimal, or as C does, is a number that an account may have
abbrev pub DecimalsAreIds : Type 0
DecimalsAreIds = (text : List ℕ) → IfSome (id_of text) (λ id. id ≤ greatest_id)

abbrev pub CNumbersAreIds : Type 0
CNumbersAreIds = (text : List ℕ) → IfSome (c_number_of text) (λ id. id ≤ greatest_id)

-- an id that was written is read back
abbrev pub WrittenIdIsReadBack : Type 0
WrittenIdIsReadBack = (id : ℕ) → id ≤ greatest_id → id_of (decimal id) ≡ Some id
