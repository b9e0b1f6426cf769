-- A backslash that begins unlike form.
use Rattle.std.proofs.Common.{◌≡◌, ℕ, ◌+◌, ◌-◌, ◌<◌, ◌≤◌, Bool, true, false, cond, List, [], ◌∷◌, get_or, Some, None, refl, sym, ap, ◌∙◌, subst, arith, inl, inr, nat_eq}
use Rattle.std.specs.Prelude.{◌==◌, ◌&&◌, ◌||◌, nat_le, option_map, codes}
use Rattle.std.specs.List.{Contains, list_any}
use Rattle.std.proofs.lemmas.Bool.{and_parts, eqb-true, false_from_ne_true, leb-true, ne_eqb, or_parts}
use Rattle.std.proofs.lemmas.List.Folds.{Any-from_list_any}
use Rattle.idtext.specs.Escapes.{Front, backslash_front, characters, characters_after, control, escape_front, is_octal, is_octal_byte, letter_front, meta, named_byte, named_front, octal}
use Rattle.idtext.specs.declared.escapes.Character.{Character}
use Rattle.idtext.specs.declared.escapes.Character.TheVariants.{Plain, Escape, Bad}
use Rattle.idtext.specs.Laws.{AreNoForms, BeginsOctal, IsControl, IsMeta}
use Rattle.idtext.proofs.EscapeLemmas.{characters-empty, plain-first}

-- a backslash that is read by itself
alone : (behind : List ℕ) (character : Character) → backslash_front (get_or behind 0 0) (get_or behind 1 0) (get_or behind 2 0) ≡ record { character = character; taken = 1 } → characters (92 ∷ behind) ≡ character ∷ characters behind
unfolding characters_after
alone behind character e = ap (λ (f : Front). f.character ∷ characters_after (f.taken - 1) behind) e

-- ---- `\^` and `\M`

is-control : (c : ℕ) → (nat_le 64 c && nat_le c 95) ≡ true → IsControl c
is-control c e =
    let both = and_parts (nat_le 64 c) (nat_le c 95) e in
    inr (leb-true 64 c both.0, leb-true c 95 both.1)

control-none : (c : ℕ) → ¬ IsControl c → control c ≡ None
control-none c unlike = by (c == 63) (nat_le 64 c && nat_le c 95) refl refl
  where
    by : (a b : Bool) → (c == 63) ≡ a → (nat_le 64 c && nat_le c 95) ≡ b → cond a (Some 127) (cond b (Some (c - 64)) None) ≡ None
    by true b ea eb = absurd (unlike (inl (eqb-true c 63 ea)))
    by false true ea eb = absurd (unlike (is-control c eb))
    by false false ea eb = refl

no-control : (c : ℕ) → c < 63 → ¬ IsControl c
no-control c small (inl is) = omega (arith, small, is)
no-control c small (inr (above, below)) = omega (arith, small, above)

meta-none : (a c : ℕ) → ¬ IsMeta a c → meta a c ≡ None
meta-none a c unlike = by (a == 45) (nat_le 33 c && nat_le c 126) (a == 94) refl refl refl
  where
    by : (x y z : Bool) → (a == 45) ≡ x → (nat_le 33 c && nat_le c 126) ≡ y → (a == 94) ≡ z → cond x (cond y (Some (128 + c)) None) (cond z (option_map (λ k. 128 + k) (control c)) None) ≡ None
    by true true z ex ey ez =
        let both = and_parts (nat_le 33 c) (nat_le c 126) ey in
        absurd (unlike (inl (eqb-true a 45 ex, leb-true 33 c both.0, leb-true c 126 both.1)))
    by true false z ex ey ez = refl
    by false y true ex ey ez = ap (option_map (λ k. 128 + k)) (control-none c (λ is. unlike (inr (eqb-true a 94 ez, is))))
    by false y false ex ey ez = refl

no-meta : (a c : ℕ) → c < 33 → ¬ IsMeta a c
no-meta a c small (inl seen) = let above = seen.1 in omega (arith, small, above)
no-meta a c small (inr is) = no-control c (omega (arith, small)) is.1

caret-bad : (behind : List ℕ) → ¬ IsControl (get_or behind 0 0) → characters (92 ∷ 94 ∷ behind) ≡ Bad ∷ characters (94 ∷ behind)
caret-bad behind unlike = alone (94 ∷ behind) Bad (ap (escape_front 3) (control-none (get_or behind 0 0) unlike))

meta-bad : (behind : List ℕ) → ¬ IsMeta (get_or behind 0 0) (get_or behind 1 0) → characters (92 ∷ 77 ∷ behind) ≡ Bad ∷ characters (77 ∷ behind)
meta-bad behind unlike = alone (77 ∷ behind) Bad (ap (escape_front 4) (meta-none (get_or behind 0 0) (get_or behind 1 0) unlike))

-- ---- other bytes

is-octal : (c : ℕ) → is_octal c ≡ true → (48 ≤ c) × (c ≤ 55)
is-octal c e = let both = and_parts (nat_le 48 c) (nat_le c 55) e in (leb-true 48 c both.0, leb-true c 55 both.1)

record AreOctal (x y z : ℕ) : Type 0 where
  pub first : (48 ≤ x) × (x ≤ 55)
  pub second : (48 ≤ y) × (y ≤ 55)
  pub third : (48 ≤ z) × (z ≤ 55)
  pub small : octal x y z ≤ 255

are-octal : (x y z : ℕ) → is_octal_byte x y z ≡ true → AreOctal x y z
are-octal x y z e =
    let all = and_parts (is_octal x && is_octal y && is_octal z) (nat_le (octal x y z) 255) e in
    let three = and_parts (is_octal x && is_octal y) (is_octal z) all.0 in
    let two = and_parts (is_octal x) (is_octal y) three.0 in
    record { first = is-octal x two.0; second = is-octal y two.1; third = is-octal z three.1; small = leb-true (octal x y z) 255 all.1 }

same-three : (x y z a b c : ℕ) (rest : List ℕ) → x ≡ a → y ≡ b → z ≡ c → x ∷ y ∷ z ∷ rest ≡ a ∷ b ∷ c ∷ rest
same-three x y z a b c rest p q r = rw (p, q, r) refl

begins-octal : (text : List ℕ) → AreOctal (get_or text 0 0) (get_or text 1 0) (get_or text 2 0) → BeginsOctal text
begins-octal [] digits = let one = digits.first.0 in absurd (omega (arith, one))
begins-octal (x ∷ []) digits = let two = digits.second.0 in absurd (omega (arith, two))
begins-octal (x ∷ y ∷ []) digits = let three = digits.third.0 in absurd (omega (arith, three))
begins-octal (x ∷ y ∷ z ∷ rest) digits =
    let one = digits.first in
    let two = digits.second in
    let three = digits.third in
    let small = digits.small in
    record {
      a = x - 48;
      b = y - 48;
      c = z - 48;
      rest = rest;
      are_digits = (omega (arith, one.0, two.0, three.0, small), omega (arith, two.1), omega (arith, three.1));
      whole = same-three x y z (48 + (x - 48)) (48 + (y - 48)) (48 + (z - 48)) rest (omega (arith, one.0)) (omega (arith, two.0)) (omega (arith, three.0));
    }

none-any : (c : ℕ) (xs : List ℕ) → ¬ Contains xs c → list_any (nat_eq c) xs ≡ false
none-any c xs unlike = false_from_ne_true (list_any (nat_eq c) xs) there
  where
    there : list_any (nat_eq c) xs ≡ true → ⊥
    there e =
        let any = Any-from_list_any (nat_eq c) xs e in
        unlike (subst (λ (k : ℕ). Contains xs k) (sym (eqb-true c any.1 any.4)) (any.0, any.2, any.3))

-- no test of a row of tests holds
skip : {X : Type 0} (b t : Bool) (x y z : X) → (b || t) ≡ false → (t ≡ false → y ≡ z) → cond b x y ≡ z
skip b t x y z none rest =
    let both = or_parts b t none in
    ap (λ s. cond s x y) both.0 ∙ rest both.1

named-none : (c : ℕ) → list_any (nat_eq c) (92 ∷ codes "stnvfrab#") ≡ false → named_byte c ≡ None
named-none c none =
    skip (c == 92) _ (Some 92) _ None none (λ t.
    skip (c == 115) _ (Some 32) _ None t (λ t.
    skip (c == 116) _ (Some 9) _ None t (λ t.
    skip (c == 110) _ (Some 10) _ None t (λ t.
    skip (c == 118) _ (Some 11) _ None t (λ t.
    skip (c == 102) _ (Some 12) _ None t (λ t.
    skip (c == 114) _ (Some 13) _ None t (λ t.
    skip (c == 97) _ (Some 7) _ None t (λ t.
    skip (c == 98) _ (Some 8) _ None t (λ t.
    skip (c == 35) false (Some 35) None None t (λ t. refl))))))))))

abbrev lone : Front
lone = record { character = Plain 92; taken = 1 }

letter-lone : (c y z : ℕ) → list_any (nat_eq c) (94 ∷ 77 ∷ 0 ∷ 92 ∷ codes "stnvfrab#") ≡ false → letter_front c y z ≡ lone
letter-lone c y z none =
    skip (c == 94) _ (escape_front 3 (control y)) _ lone none (λ t.
    skip (c == 77) _ (escape_front 4 (meta y z)) _ lone t (λ t.
    skip (c == 0) _ (record { character = Bad; taken = 1 }) _ lone t (λ t.
    ap named_front (named-none c t))))

other-lone : (c : ℕ) (rest : List ℕ) → ¬ BeginsOctal (c ∷ rest) → ¬ Contains (94 ∷ 77 ∷ 0 ∷ 92 ∷ codes "stnvfrab#") c → characters (92 ∷ c ∷ rest) ≡ Plain 92 ∷ characters (c ∷ rest)
other-lone c rest octal_not unlike =
    let y = get_or rest 0 0 in
    let z = get_or rest 1 0 in
    let none = false_from_ne_true (is_octal_byte c y z) (λ e. octal_not (begins-octal (c ∷ rest) (are-octal c y z e))) in
    alone (c ∷ rest) (Plain 92)
    (ap (λ b. cond b (record { character = Escape (octal c y z); taken = 4 }) (letter_front c y z)) none
    ∙ letter-lone c y z (none-any c (94 ∷ 77 ∷ 0 ∷ 92 ∷ codes "stnvfrab#") unlike))

pub are-no-forms : AreNoForms
are-no-forms = record {
  nothing = alone [] Bad refl ∙ ap (λ cs. Bad ∷ cs) characters-empty;
  nul = λ rest. alone (0 ∷ rest) Bad refl;
  caret_alone = caret-bad [] (no-control 0 (omega arith));
  caret = λ c rest unlike. caret-bad (c ∷ rest) unlike;
  meta_alone = meta-bad [] (no-meta 0 0 (omega arith));
  meta_short = λ a. meta-bad (a ∷ []) (no-meta a 0 (omega arith));
  meta = λ a c rest unlike. meta-bad (a ∷ c ∷ rest) unlike;
  other = other-lone;
  plain = λ c rest unlike. plain-first c rest (ne_eqb c 92 unlike);
}
