-- Each form of an escape stands for its byte.
use Rattle.std.proofs.Common.{◌≡◌, ℕ, ◌+◌, ◌-◌, ◌≤◌, true, Option, Some, List, ◌∷◌, refl, ap, ◌∙◌, arith}
use Rattle.std.proofs.lemmas.Bool.{le-leb, ne_eqb}
use Rattle.idtext.specs.Escapes.{characters, characters_after, control, escape_front, is_octal_byte, meta, octal}
use Rattle.idtext.specs.declared.escapes.Character.TheVariants.{Escape}
use Rattle.idtext.specs.Laws.{AreForms}
use Rattle.idtext.proofs.EscapeLemmas.{octal-first}

-- `\^` and a byte
caret-first : (c b : ℕ) (rest : List ℕ) → control c ≡ Some b → characters (92 ∷ 94 ∷ c ∷ rest) ≡ Escape b ∷ characters rest
unfolding characters_after
caret-first c b rest e =
    ap (λ (found : Option ℕ). (escape_front 3 found).character ∷ characters_after ((escape_front 3 found).taken - 1) (94 ∷ c ∷ rest)) e

-- `\M` and two bytes
meta-first : (a c b : ℕ) (rest : List ℕ) → meta a c ≡ Some b → characters (92 ∷ 77 ∷ a ∷ c ∷ rest) ≡ Escape b ∷ characters rest
unfolding characters_after
meta-first a c b rest e =
    ap (λ (found : Option ℕ). (escape_front 4 found).character ∷ characters_after ((escape_front 4 found).taken - 1) (77 ∷ a ∷ c ∷ rest)) e

control-letter : (c : ℕ) → 64 ≤ c → c ≤ 95 → control c ≡ Some (c - 64)
control-letter c l h =
    rw (ne_eqb c 63 (λ e. omega (arith, l, e)), le-leb 64 c l, le-leb c 95 h) refl

meta-seen : (c : ℕ) → 33 ≤ c → c ≤ 126 → meta 45 c ≡ Some (c + 128)
meta-seen c l h = rw (le-leb 33 c l, le-leb c 126 h) (ap Some (omega arith))

meta-control : (c : ℕ) → 64 ≤ c → c ≤ 95 → meta 94 c ≡ Some (c - 64 + 128)
meta-control c l h = rw (control-letter c l h) (ap Some (omega arith))

are-octal : (a b c : ℕ) → a ≤ 3 → b ≤ 7 → c ≤ 7 → is_octal_byte (48 + a) (48 + b) (48 + c) ≡ true
are-octal a b c h i j =
    rw (le-leb 48 (48 + a) (omega arith), le-leb (48 + a) 55 (omega (arith, h)), le-leb 48 (48 + b) (omega arith), le-leb (48 + b) 55 (omega (arith, i)), le-leb 48 (48 + c) (omega arith), le-leb (48 + c) 55 (omega (arith, j)))
    (le-leb (octal (48 + a) (48 + b) (48 + c)) 255 (omega (arith, h, i, j)))

pub are-forms : AreForms
unfolding characters_after
are-forms = record {
  octal = λ a b c h i j rest. octal-first (48 + a) (48 + b) (48 + c) rest (are-octal a b c h i j)
      ∙ ap (λ x. Escape x ∷ characters rest) (omega arith);
  backslash = λ rest. refl;
  space = λ rest. refl;
  tab = λ rest. refl;
  newline = λ rest. refl;
  vertical_tab = λ rest. refl;
  form_feed = λ rest. refl;
  carriage_return = λ rest. refl;
  bell = λ rest. refl;
  backspace = λ rest. refl;
  number_sign = λ rest. refl;
  control = λ c l h rest. caret-first c (c - 64) rest (control-letter c l h);
  delete = λ rest. refl;
  meta = λ c l h rest. meta-first 45 c (c + 128) rest (meta-seen c l h);
  meta_control = λ c l h rest. meta-first 94 c (c - 64 + 128) rest (meta-control c l h);
  meta_delete = λ rest. refl;
}
