-- Lawful names, by their bytes.
use Rattle.std.proofs.Common.{◌≡◌, ℕ, Bool, true, false, not, ◌&&◌, ◌||◌, ◌==◌, slice_index, All, List, [], ◌∷◌, length, refl, arith}
use Rattle.std.specs.List.{list_any}
use Rattle.std.proofs.lemmas.Bool.{and_from, and_parts, eqb-false, ne_eqb, not-true, not_from_false, or_from, or_parts}
use Rattle.std.proofs.lemmas.Bool.Decides.{nat_tests}
use Rattle.std.proofs.lemmas.List.Elements.{All-nil, All-cons, All-head, All-tail}
use Rattle.idtext.specs.Names.{is_lawful_name, is_separator}
use Rattle.idtext.specs.NameLaws.{IsNameByte, IsOfNameBytes, LawfulNamesAreTheseBytes}

-- ---- the bytes of a name

byte-is : (b : ℕ) → is_separator b ≡ false → IsNameByte b
byte-is b none =
    let three = or_parts (b == 44 || b == 58 || b == 10) (b == 0) none in
    let two = or_parts (b == 44 || b == 58) (b == 10) three.0 in
    let one = or_parts (b == 44) (b == 58) two.0 in
    record {
      no_comma = eqb-false b 44 one.0;
      no_colon = eqb-false b 58 one.1;
      no_newline = eqb-false b 10 two.1;
      no_nul = eqb-false b 0 three.1;
    }

is-byte : (b : ℕ) → IsNameByte b → is_separator b ≡ false
is-byte b is =
    or_from (b == 44 || b == 58 || b == 10) (b == 0)
    (or_from (b == 44 || b == 58) (b == 10)
    (or_from (b == 44) (b == 58) (ne_eqb b 44 is.no_comma) (ne_eqb b 58 is.no_colon))
    (ne_eqb b 10 is.no_newline))
    (ne_eqb b 0 is.no_nul)

all-are : (name : List ℕ) → list_any is_separator name ≡ false → All IsNameByte name
all-are [] none = All-nil IsNameByte
all-are (b ∷ name) none =
    let both = or_parts (is_separator b) (list_any is_separator name) none in
    All-cons IsNameByte b name (byte-is b both.0) (all-are name both.1)

are-all : (name : List ℕ) → All IsNameByte name → list_any is_separator name ≡ false
are-all [] all = refl
are-all (b ∷ name) all =
    or_from (is_separator b) (list_any is_separator name) (is-byte b (All-head IsNameByte b name all)) (are-all name (All-tail IsNameByte b name all))

-- ---- names

abbrev signed : List ℕ → Bool
signed name = slice_index name 0 == 35 || slice_index name 0 == 43 || slice_index name 0 == 45

names-are : (name : List ℕ) → is_lawful_name name ≡ true → IsOfNameBytes name
names-are name h =
    let parts = and_parts (not (length name == 0) && not (signed name)) (not (list_any is_separator name)) h in
    let front = and_parts (not (length name == 0)) (not (signed name)) parts.0 in
    let signs = or_parts (slice_index name 0 == 35 || slice_index name 0 == 43) (slice_index name 0 == 45) (not-true (signed name) front.1) in
    let two = or_parts (slice_index name 0 == 35) (slice_index name 0 == 43) signs.0 in
    record {
      some = grind (arith, nat_tests, front.0);
      no_number_sign_in_front = eqb-false (slice_index name 0) 35 two.0;
      no_plus_in_front = eqb-false (slice_index name 0) 43 two.1;
      no_minus_in_front = eqb-false (slice_index name 0) 45 signs.1;
      bytes = all-are name (not-true (list_any is_separator name) parts.1);
    }

are-names : (name : List ℕ) → IsOfNameBytes name → is_lawful_name name ≡ true
are-names name is =
    and_from (not (length name == 0) && not (signed name)) (not (list_any is_separator name))
    (and_from (not (length name == 0)) (not (signed name)) (not_from_false (length name == 0) (ne_eqb (length name) 0 (λ e. let some = is.some in omega (arith, some, e))))
    (not_from_false (signed name)
    (or_from (slice_index name 0 == 35 || slice_index name 0 == 43) (slice_index name 0 == 45)
    (or_from (slice_index name 0 == 35) (slice_index name 0 == 43) (ne_eqb (slice_index name 0) 35 is.no_number_sign_in_front) (ne_eqb (slice_index name 0) 43 is.no_plus_in_front))
    (ne_eqb (slice_index name 0) 45 is.no_minus_in_front))))
    (not_from_false (list_any is_separator name) (are-all name is.bytes))

pub names-exactly : LawfulNamesAreTheseBytes
names-exactly name = (names-are name, are-names name)
