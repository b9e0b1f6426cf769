-- What may stand in a word before a plain name, and the path of both.
use Rattle.std.proofs.Common.{◌≡◌, ℕ, Bool, true, false, cond, ◌||◌, ◌&&◌, List, [], ◌∷◌, ◌++◌, length, ◌-◌, ◌≤◌, take, drop, refl, sym, ap, ◌∙◌, arith, append_assoc, length-append}
use Rattle.std.proofs.lemmas.List.{take-append-drop, take-append-le, take_all}
use Rattle.std.proofs.lemmas.List.Folds.{list_any-append}
use Rattle.std.proofs.lemmas.List.Splits.{join_with_byte-slice_split}
use Rattle.std.proofs.lemmas.Slice.Eq.{bytes_eq-Decides}
use Rattle.std.specs.Prelude.{◌==◌, codes}
use Rattle.std.specs.List.{list_any, list_all, slice_split, onto_first, join_with_byte}
use Rattle.std.specs.Str.{bytes_eq}
use Rattle.idtext.specs.Pieces.{pieces}
use Rattle.mtree_inv.specs.Views.{is_simple_part, is_simple, has_slash_byte, has_nul, has_backslash, BeginsSimply, IsKnownParent, IsPlainName, IsFullPath, HasPartsOf}
use Rattle.mtree_inv.proofs.PathLemmas.{slashed, join_with_byte-slashed}
use Rattle.mtree_inv.proofs.UnescapedLemmas.{or_parts, full-plain, pieces-begun, pieces-same, names-begun, name-alone, simple-bad, simple-written}

-- ---- the first piece of a text has no slash, and stands before one if there are more

first_of : List (List ℕ) → List ℕ
first_of [] = []
first_of (p ∷ ps) = p

first-clear : (text : List ℕ) → has_slash_byte (first_of (slice_split (λ b. b == 47) text)) ≡ false
unfolding first_of
first-clear [] = refl
first-clear (x ∷ xs) = by (x == 47) refl (slice_split (λ b. b == 47) xs) (first-clear xs)
  where
    by : (b : Bool) → (x == 47) ≡ b → (ps : List (List ℕ)) → has_slash_byte (first_of ps) ≡ false
        → has_slash_byte (first_of (cond b ([] ∷ ps) (onto_first x ps))) ≡ false
    by true e ps rest = refl
    by false e [] rest = ap (λ (b : Bool). b || false) e
    by false e (p ∷ ps) rest = ap (λ (b : Bool). b || has_slash_byte p) e ∙ rest

piece-clear : (text part : List ℕ) (ps : List (List ℕ)) → pieces 47 text ≡ part ∷ ps → has_slash_byte part ≡ false
unfolding pieces first_of
piece-clear text part ps e = sym (ap (λ (l : List (List ℕ)). has_slash_byte (first_of l)) e) ∙ first-clear text

split-slash : (part more : List ℕ) → has_slash_byte part ≡ false → slice_split (λ b. b == 47) (part ++ 47 ∷ more) ≡ part ∷ slice_split (λ b. b == 47) more
split-slash [] more none = refl
split-slash (x ∷ xs) more none =
    let both = or_parts (x == 47) (has_slash_byte xs) none in
    ap (λ (t : Bool). cond t ([] ∷ slice_split (λ b. b == 47) (xs ++ 47 ∷ more)) (onto_first x (slice_split (λ b. b == 47) (xs ++ 47 ∷ more)))) both.0
    ∙ ap (onto_first x) (split-slash xs more both.1)

slashed-split : (text : List ℕ) → slashed (slice_split (λ b. b == 47) text) ≡ 47 ∷ text
slashed-split text = by (slice_split (λ b. b == 47) text) (some text) ∙ ap (λ (l : List ℕ). 47 ∷ l) (join_with_byte-slice_split 47 text)
  where
    some : (t : List ℕ) → 1 ≤ length (slice_split (λ b. b == 47) t)
    some [] = omega arith
    some (x ∷ xs) = with_first (x == 47) (slice_split (λ b. b == 47) xs)
      where
        with_first : (b : Bool) (ps : List (List ℕ)) → 1 ≤ length (cond b ([] ∷ ps) (onto_first x ps))
        with_first true ps = omega arith
        with_first false [] = omega arith
        with_first false (p ∷ ps) = omega arith

    by : (ps : List (List ℕ)) → 1 ≤ length ps → slashed ps ≡ 47 ∷ join_with_byte 47 ps
    by [] few = absurd (omega (arith, few))
    by (p ∷ ps) few = ap (λ (l : List ℕ). 47 ∷ l) (sym (join_with_byte-slashed p ps))

cut-whole : (text part after : List ℕ) → pieces 47 text ≡ part ∷ pieces 47 after → text ≡ part ++ 47 ∷ after
unfolding pieces
cut-whole text part after e =
    sym (join_with_byte-slice_split 47 text) ∙ ap (join_with_byte 47) e ∙ join_with_byte-slashed part (slice_split (λ b. b == 47) after) ∙ ap (λ (l : List ℕ). part ++ l) (slashed-split after)

simple-after : (part more : List ℕ) → is_simple_part part ≡ true → has_slash_byte part ≡ false → is_simple (part ++ 47 ∷ more) ≡ is_simple more
unfolding pieces
simple-after part more simple none =
    ap (list_all is_simple_part) (split-slash part more none) ∙ ap (λ (b : Bool). b && list_all is_simple_part (slice_split (λ b. b == 47) more)) simple

-- ---- a word that is read up to a rest, after parts that are simple

pub record BeganSimply (word front rest : List ℕ) : Type 0 where
  pub whole : word ≡ front ++ rest
  pub simple : (more : List ℕ) → is_simple (front ++ more) ≡ is_simple more

pub began : (word : List ℕ) → BeganSimply word [] word
began word = record { whole = refl; simple = λ more. refl }

pub began-on : (word front rest part after : List ℕ) → BeganSimply word front rest → pieces 47 rest ≡ part ∷ pieces 47 after → is_simple_part part ≡ true
    → BeganSimply word (front ++ (part ++ 47 ∷ [])) after
began-on word front rest part after from cut simple = record {
  whole = from.whole ∙ ap (λ (l : List ℕ). front ++ l) (cut-whole rest part after cut) ∙ sym (regrouped after);
  simple = λ more. ap is_simple (regrouped more) ∙ from.simple (part ++ 47 ∷ more) ∙ simple-after part more simple (piece-clear rest part (pieces 47 after) cut);
}
  where
    regrouped : (more : List ℕ) → (front ++ (part ++ 47 ∷ [])) ++ more ≡ front ++ (part ++ 47 ∷ more)
    regrouped more = append_assoc front (part ++ 47 ∷ []) more ∙ ap (λ (l : List ℕ). front ++ l) (append_assoc part (47 ∷ []) more)

and_true : (b : Bool) → (b && true) ≡ b
and_true true = refl
and_true false = refl

pub begins-simply : (word front rest : List ℕ) → BeganSimply word front rest → BeginsSimply (take (length word - length rest) word)
begins-simply word front rest from = λ name simple none.
    ap (λ (l : List ℕ). is_simple (l ++ name)) front_is ∙ from.simple name ∙ ap (list_all is_simple_part) (name-alone name none) ∙ and_true (is_simple_part name) ∙ simple
  where
    front_is : take (length word - length rest) word ≡ front
    front_is =
        ap (λ (w : List ℕ). take (length w - length rest) w) from.whole
        ∙ ap (λ (n : ℕ). take n (front ++ rest)) (omega (arith, length-append front rest))
        ∙ take-append-le (length front) front rest (omega arith) ∙ take_all (length front) front (omega arith)

-- ---- a word that begins with what is known

joined-none : (test : ℕ → Bool) (xs ys : List ℕ) → list_any test xs ≡ false → list_any test ys ≡ false → list_any test (xs ++ ys) ≡ false
joined-none test xs ys none other = list_any-append test xs ys ∙ ap (λ (b : Bool). b || list_any test ys) none ∙ other

pub front-none : (test : ℕ → Bool) (n : ℕ) (xs : List ℕ) → list_any test xs ≡ false → list_any test (take n xs) ≡ false
front-none test n xs none =
    (or_parts (list_any test (take n xs)) (list_any test (drop n xs))
    (sym (list_any-append test (take n xs) (drop n xs)) ∙ ap (list_any test) (take-append-drop n xs) ∙ none)).0

pub stripped : (rest parent name : List ℕ) → bytes_eq (take (length parent) rest) parent ≡ true → name ≡ drop (length parent) rest → rest ≡ parent ++ name
stripped rest parent name is at =
    sym (take-append-drop (length parent) rest) ∙ ap (λ (l : List ℕ). l ++ drop (length parent) rest) ((bytes_eq-Decides (take (length parent) rest) parent).0 is)
    ∙ ap (λ (l : List ℕ). parent ++ l) (sym at)

pub known-path : (word rest parent name : List ℕ) → HasPartsOf word rest → has_backslash word ≡ has_backslash rest → (has_slash_byte rest ≡ true → has_slash_byte word ≡ true)
    → rest ≡ parent ++ name → IsKnownParent parent → IsPlainName name → IsFullPath word rest
known-path word rest parent name same backslash slash e known plain =
    let simple = ap is_simple e ∙ known.parent.simple name plain.simple plain.slash in
    let none = backslash ∙ ap has_backslash e ∙ joined-none (λ b. b == 92) parent name known.parent.backslash plain.backslash in
    let no_nul = ap has_nul e ∙ joined-none (λ b. b == 0) parent name known.parent.nul plain.nul in
    let read = pieces-same [] word rest _ _ same (pieces-begun [] word none) in
    record {
      full = full-plain word none ∙ slash (ap has_slash_byte e ∙ list_any-append (λ b. b == 47) parent name ∙ ap (λ (b : Bool). b || has_slash_byte name) known.slash);
      lawful = sym read.bad_is ∙ simple-bad rest simple (names-begun rest no_nul);
      gives = sym (simple-written [] rest rest _ _ refl simple read refl);
    }

-- ---- the dot that stands before a path

pub dotted-word : (word rest : List ℕ) → bytes_eq (take 2 word) (codes "./") ≡ true → rest ≡ drop 2 word → word ≡ 46 ∷ 47 ∷ rest
dotted-word word rest is at = stripped word (codes "./") rest is at
