-- A path that the system wrote is read back.
use Rattle.std.proofs.Common.{◌≡◌, ℕ, ◌==◌, ◌||◌, Bool, true, false, cond, ◌+◌, ◌/◌, ◌%◌, List, [], ◌∷◌, ◌++◌, drop, get_or, map, refl, sym, ap, ◌∙◌, subst, inl, inr, arith}
use Rattle.std.specs.Prelude.{codes}
use Rattle.std.specs.Str.{bytes_eq}
use Rattle.std.proofs.lemmas.Bool.{eqb-true, or_cases, or_parts}
use Rattle.idtext.specs.Escapes.{Front, backslash_front, characters, escape, front, is_plain}
use Rattle.idtext.specs.declared.escapes.Character.TheVariants.{Plain}
use Rattle.idtext.proofs.EscapeLemmas.{characters-empty, front-first}
use Rattle.unify_apply.specs.Laws.{is_escaped, system_path}
use Rattle.unify_apply.specs.Mounts.{path_byte, path_from, path_in}

abbrev pub written : ℕ → List ℕ
written b = cond (is_escaped b) (escape b) (b ∷ [])

-- what holds of the four bytes that are escaped holds of each that is
pub escaped_cases : (P : ℕ → Type 0) → P 32 → P 9 → P 10 → P 92 → (b : ℕ) → is_escaped b ≡ true → P b
escaped_cases P space tab line back b is =
    elim (or_cases (b == 32 || b == 9 || b == 10) (b == 92) is) [
      | inl h ↦ elim (or_cases (b == 32 || b == 9) (b == 10) h) [
        | inl g ↦ elim (or_cases (b == 32) (b == 9) g) [
          | inl f ↦ subst P (sym (eqb-true b 32 f)) space
          | inr f ↦ subst P (sym (eqb-true b 9 f)) tab
        ]
        | inr g ↦ subst P (sym (eqb-true b 10 g)) line
      ]
      | inr h ↦ subst P (sym (eqb-true b 92 h)) back
    ]

-- ---- a byte that was written is read back

abbrev bytes_in : List ℕ → List ℕ
bytes_in text = map path_byte (characters text)

abbrev ReadsBack : ℕ → Type 0
ReadsBack b = (rest : List ℕ) → bytes_in (escape b ++ rest) ≡ b ∷ bytes_in rest

escape-back : (b : ℕ) → is_escaped b ≡ true → ReadsBack b
escape-back = escaped_cases ReadsBack
    (λ rest. ap (map path_byte) (front-first (escape 32 ++ rest) (omega arith)))
    (λ rest. ap (map path_byte) (front-first (escape 9 ++ rest) (omega arith)))
    (λ rest. ap (map path_byte) (front-first (escape 10 ++ rest) (omega arith)))
    (λ rest. ap (map path_byte) (front-first (escape 92 ++ rest) (omega arith)))

plain-back : (b : ℕ) (rest : List ℕ) → is_escaped b ≡ false → bytes_in (b ∷ rest) ≡ b ∷ bytes_in rest
plain-back b rest is =
    let plain : Front = record { character = Plain b; taken = 1 } in
    let text : List ℕ = b ∷ rest in
    let fronts : front text ≡ plain =
    ap (λ t. cond t (backslash_front (get_or text 1 0) (get_or text 2 0) (get_or text 3 0)) plain)
    (or_parts (b == 32 || b == 9 || b == 10) (b == 92) is).1 in
    ap (map path_byte) (front-first text (omega arith)
    ∙ ap (λ (f : Front). f.character ∷ characters (drop f.taken text)) fronts)

path-back : (path : List ℕ) → bytes_in (system_path path) ≡ path
path-back [] = ap (map path_byte) characters-empty
path-back (b ∷ path) = by (is_escaped b) refl (path-back path)
  where
    by : (escaped : Bool) → is_escaped b ≡ escaped → bytes_in (system_path path) ≡ path
        → bytes_in (cond escaped (escape b) (b ∷ []) ++ system_path path) ≡ b ∷ path
    by true is rest = escape-back b is (system_path path) ∙ ap (λ bs. b ∷ bs) rest
    by false is rest = plain-back b (system_path path) is ∙ ap (λ bs. b ∷ bs) rest

-- ---- the slash at the end

-- what stands before others stays
from-cons : (a b : ℕ) (more : List ℕ) → path_from (a ∷ b ∷ more) ≡ a ∷ path_from (b ∷ more)
from-cons a b more = grind arith

from-append : (front : List ℕ) (b : ℕ) (more : List ℕ)
    → path_from (front ++ b ∷ more) ≡ front ++ path_from (b ∷ more)
from-append [] b more = refl
from-append (a ∷ []) b more = from-cons a b more
from-append (a ∷ c ∷ front) b more =
    from-cons a c (front ++ b ∷ more) ∙ ap (λ bs. a ∷ bs) (from-append (c ∷ front) b more)

-- no byte is written as nothing
pub record IsCons (text : List ℕ) : Type 0 where
  pub first : ℕ
  pub rest : List ℕ
  pub is : text ≡ first ∷ rest

escape-cons : (b : ℕ) (text : List ℕ) → IsCons (escape b ++ text)
escape-cons b text = by (is_plain b)
  where
    by : (plain : Bool) → IsCons (cond plain (b ∷ []) (92 ∷ (48 + b / 64) ∷ (48 + b / 8 % 8) ∷ (48 + b % 8) ∷ []) ++ text)
    by true = record { first = b; rest = text; is = refl }
    by false = record { first = 92; rest = (48 + b / 64) ∷ (48 + b / 8 % 8) ∷ (48 + b % 8) ∷ text; is = refl }

pub written-cons : (b : ℕ) (text : List ℕ) → IsCons (written b ++ text)
written-cons b text = by (is_escaped b)
  where
    by : (escaped : Bool) → IsCons (cond escaped (escape b) (b ∷ []) ++ text)
    by true = escape-cons b text
    by false = record { first = b; rest = text; is = refl }

-- a path of one byte
abbrev KeepsSlash : List ℕ → Type 0
KeepsSlash path = path_from (system_path path) ≡ system_path (path_from path)

escaped-slash : (b : ℕ) → is_escaped b ≡ true → path_from (escape b ++ []) ≡ system_path (path_from (b ∷ []))
escaped-slash = escaped_cases (λ b. path_from (escape b ++ []) ≡ system_path (path_from (b ∷ []))) refl refl refl refl

plain-slash : (b : ℕ) → is_escaped b ≡ false → path_from (b ∷ []) ≡ system_path (path_from (b ∷ []))
plain-slash b is = by (bytes_eq (b ∷ []) (codes "/"))
  where
    by : (slash : Bool) → cond slash [] (b ∷ []) ≡ system_path (cond slash [] (b ∷ []))
    by true = refl
    by false = sym (ap (λ t. cond t (escape b) (b ∷ []) ++ []) is)

one-slash : (b : ℕ) → KeepsSlash (b ∷ [])
one-slash b = by (is_escaped b) refl
  where
    by : (escaped : Bool) → is_escaped b ≡ escaped
        → path_from (cond escaped (escape b) (b ∷ []) ++ []) ≡ system_path (path_from (b ∷ []))
    by true is = escaped-slash b is
    by false is = plain-slash b is

slash-kept : (path : List ℕ) → KeepsSlash path
slash-kept [] = refl
slash-kept (b ∷ []) = one-slash b
slash-kept (b ∷ c ∷ more) =
    let next : IsCons (system_path (c ∷ more)) = written-cons c (system_path more) in
    ap (λ t. path_from (written b ++ t)) next.is
    ∙ from-append (written b) next.first next.rest
    ∙ ap (λ t. written b ++ path_from t) (sym next.is)
    ∙ ap (λ t. written b ++ t) (slash-kept (c ∷ more))
    ∙ sym (ap system_path (from-cons b c more))

pub path-is-back : (path : List ℕ) → path_in (system_path path) ≡ path_from path
path-is-back path = ap bytes_in (slash-kept path) ∙ path-back (path_from path)
