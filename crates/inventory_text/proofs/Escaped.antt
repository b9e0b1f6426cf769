-- A path that is escaped, as the characters and the parts that are read of it.
use Rattle.std.proofs.Common.{◌≡◌, ℕ, ◌+◌, ◌-◌, ◌/◌, ◌%◌, ◌<◌, Bool, true, false, cond, not, ◌&&◌, ◌==◌, All, List, [], ◌∷◌, ◌++◌, get_or, refl, sym, ap, ◌∙◌, arith}
use Rattle.std.specs.Prelude.{nat_le, map, codes}
use Rattle.std.specs.List.{list_any, slice_split, onto_first}
use Rattle.std.proofs.lemmas.Bool.{and_parts, le-leb, not-true, eqb-true, false≢true}
use Rattle.std.proofs.lemmas.List.Elements.{All-head, All-tail}
use Rattle.idtext.specs.Escapes.{Front, backslash_front, bytes_of, characters, characters_after, escape, escaped, is_bad, is_octal_byte, is_plain, letter_front, octal}
use Rattle.idtext.specs.Pieces.{pieces}
use Rattle.idtext.specs.declared.escapes.Character.{Character}
use Rattle.idtext.specs.declared.escapes.Character.TheVariants.{Plain, Escape}
use Rattle.idtext.proofs.EscapeLemmas.{escape-plain, escape-other, characters-empty}
use Rattle.mtree_inv.specs.Paths.{is_slash, parts}
use Rattle.inventory_text.specs.Writing.{name_word}

octal-value : (b : ℕ) → octal (48 + b / 64) (48 + b / 8 % 8) (48 + b % 8) ≡ b
octal-value b = omega arith

octal-digits : (b : ℕ) → b < 256 → is_octal_byte (48 + b / 64) (48 + b / 8 % 8) (48 + b % 8) ≡ true
octal-digits b h =
    rw (le-leb 48 (48 + b / 64) (omega arith), le-leb (48 + b / 64) 55 (omega arith), le-leb 48 (48 + b / 8 % 8) (omega arith), le-leb (48 + b / 8 % 8) 55 (omega arith), le-leb 48 (48 + b % 8) (omega arith), le-leb (48 + b % 8) 55 (omega arith))
    (le-leb (octal (48 + b / 64) (48 + b / 8 % 8) (48 + b % 8)) 255 (omega (arith, h, octal-value b)))

-- the octal rule is tried first
octal-first : (x y z : ℕ) (rest : List ℕ) → is_octal_byte x y z ≡ true → characters (92 ∷ x ∷ y ∷ z ∷ rest) ≡ Escape (octal x y z) ∷ characters rest
unfolding characters_after
octal-first x y z rest e =
    ap (λ t. (cond t (let f : Front = record { character = Escape (octal x y z); taken = 4 } in f) (letter_front x y z)).character ∷ characters_after ((cond t (let f : Front = record { character = Escape (octal x y z); taken = 4 } in f) (letter_front x y z)).taken - 1) (x ∷ y ∷ z ∷ rest)) e

plain-first : (b : ℕ) (rest : List ℕ) → (b == 92) ≡ false → characters (b ∷ rest) ≡ Plain b ∷ characters rest
unfolding characters_after
plain-first b rest e =
    let self : Front = record { character = Plain b; taken = 1 } in
    let other : Front = backslash_front (get_or (b ∷ rest) 1 0) (get_or (b ∷ rest) 2 0) (get_or (b ∷ rest) 3 0) in
    ap (λ t. (cond t other self).character ∷ characters_after ((cond t other self).taken - 1) rest) e

-- the character as which a byte is written
abbrev pub written : ℕ → Character
written b = cond (is_plain b) (Plain b) (Escape b)

byte-back : (b : ℕ) (rest : List ℕ) (plain : Bool) → is_plain b ≡ plain → b < 256 → characters (escape b ++ rest) ≡ cond plain (Plain b) (Escape b) ∷ characters rest
byte-back b rest true e h =
    ap (λ bs. characters (bs ++ rest)) (sym (escape-plain b e)) ∙ plain-first b rest (not-true (b == 92) (and_parts (nat_le 33 b && nat_le b 126) (not (b == 92)) e).1)
byte-back b rest false e h =
    ap (λ bs. characters (bs ++ rest)) (escape-other b e)
    ∙ octal-first (48 + b / 64) (48 + b / 8 % 8) (48 + b % 8) rest (octal-digits b h)
    ∙ ap (λ x. Escape x ∷ characters rest) (octal-value b)

escaped-characters : (bytes : List ℕ) → All (λ b. b < 256) bytes → characters (escaped bytes) ≡ map written bytes
escaped-characters [] all = characters-empty
escaped-characters (b ∷ bytes) all =
    byte-back b (escaped bytes) (is_plain b) refl (All-head (λ x. x < 256) b bytes all)
    ∙ ap (λ cs. written b ∷ cs) (escaped-characters bytes (All-tail (λ x. x < 256) b bytes all))

-- the characters of a name as it is written
pub name-characters : (path : List ℕ) → All (λ b. b < 256) path → characters (name_word path) ≡ Plain 46 ∷ Plain 47 ∷ map written path
name-characters path all =
    plain-first 46 (47 ∷ escaped path) refl
    ∙ ap (λ cs. Plain 46 ∷ cs) (plain-first 47 (escaped path) refl)
    ∙ ap (λ cs. Plain 46 ∷ Plain 47 ∷ cs) (escaped-characters path all)

-- no escape of it is bad
pub written-good : (bytes : List ℕ) → list_any is_bad (map written bytes) ≡ false
written-good [] = refl
written-good (b ∷ bytes) = by (is_plain b) (written-good bytes)
  where
    by : (plain : Bool) → list_any is_bad (map written bytes) ≡ false → list_any is_bad (cond plain (Plain b) (Escape b) ∷ map written bytes) ≡ false
    by true rest = rest
    by false rest = rest

-- a byte is written as a slash exactly where it is one
slash-plain : (b : ℕ) → is_slash (written b) ≡ (b == 47)
slash-plain b = by (is_plain b) refl
  where
    other : (c : Bool) → (b == 47) ≡ c → is_plain b ≡ false → false ≡ c
    other false e h = refl
    other true e h = (let same : b ≡ 47 = eqb-true b 47 e in absurd (false≢true (sym h ∙ ap is_plain same)))

    by : (plain : Bool) → is_plain b ≡ plain → is_slash (cond plain (Plain b) (Escape b)) ≡ (b == 47)
    by true e = refl
    by false e = other (b == 47) refl e ∙ refl

byte-of : (b : ℕ) (characters : List Character) → bytes_of (written b ∷ characters) ≡ b ∷ bytes_of characters
byte-of b characters = by (is_plain b)
  where
    by : (plain : Bool) → bytes_of (cond plain (Plain b) (Escape b) ∷ characters) ≡ b ∷ bytes_of characters
    by true = refl
    by false = refl

onto-bytes : (b : ℕ) (cs : List (List Character)) → map bytes_of (onto_first (written b) cs) ≡ onto_first b (map bytes_of cs)
onto-bytes b [] = ap (λ bs. bs ∷ []) (byte-of b [])
onto-bytes b (c ∷ cs) = ap (λ bs. bs ∷ map bytes_of cs) (byte-of b c)

split-more : (t : Bool) (b : ℕ) (bytes : List ℕ) → map bytes_of (slice_split is_slash (map written bytes)) ≡ slice_split (λ b. b == 47) bytes
    → map bytes_of (cond t ([] ∷ slice_split is_slash (map written bytes)) (onto_first (written b) (slice_split is_slash (map written bytes)))) ≡ cond t ([] ∷ slice_split (λ b. b == 47) bytes) (onto_first b (slice_split (λ b. b == 47) bytes))
split-more true b bytes e = ap (λ ps. [] ∷ ps) e
split-more false b bytes e = onto-bytes b (slice_split is_slash (map written bytes)) ∙ ap (onto_first b) e

split-written : (bytes : List ℕ) → map bytes_of (slice_split is_slash (map written bytes)) ≡ slice_split (λ b. b == 47) bytes
split-written [] = refl
split-written (b ∷ bytes) =
    ap (λ t. map bytes_of (cond t ([] ∷ slice_split is_slash (map written bytes)) (onto_first (written b) (slice_split is_slash (map written bytes))))) (slash-plain b)
    ∙ split-more (b == 47) b bytes (split-written bytes)

-- the parts of a name as it is written: a full stop, and those of the path
pub name-parts : (path : List ℕ) → All (λ b. b < 256) path → parts (name_word path) ≡ codes "." ∷ pieces 47 path
unfolding pieces
name-parts path all =
    ap (λ cs. map bytes_of (slice_split is_slash cs)) (name-characters path all)
    ∙ ap (λ ps. codes "." ∷ ps) (split-written path)
