-- A word without escapes: its parts are its pieces between slashes.
use Rattle.std.proofs.Common.{◌≡◌, ℕ, Bool, true, false, cond, not, ◌||◌, ◌&&◌, List, [], ◌∷◌, ◌++◌, length, refl, sym, ap, ◌∙◌, true≢false, arith}
use Rattle.std.proofs.lemmas.Bool.{eqb-true, and_parts, not-true, false≢true}
use Rattle.std.proofs.lemmas.List.Splits.{join_with_byte-slice_split}
use Rattle.std.specs.Prelude.{filter, map, take, drop, slice_index, ◌==◌, codes}
use Rattle.std.specs.List.{list_any, list_all, slice_split, onto_first, join_with_byte}
use Rattle.std.specs.Str.{bytes_eq}
use Rattle.idtext.specs.Escapes.{Front, backslash_front, front, characters, bytes_of, is_bad}
use Rattle.idtext.specs.Pieces.{pieces}
use Rattle.idtext.specs.declared.escapes.Character.{Character}
use Rattle.idtext.specs.declared.escapes.Character.TheVariants.{Plain}
use Rattle.idtext.proofs.EscapeLemmas.{characters-empty, front-first}
use Rattle.mtree_inv.specs.Open.{is_full}
use Rattle.mtree_inv.specs.Paths.{is_kept, is_bad_component, is_slash, parts, components, has_bad_component}
use Rattle.mtree_inv.specs.Machine.{joined_onto}
use Rattle.mtree_inv.specs.Views.{has_separator, is_simple_part, is_simple, HasPartsOf}
use Rattle.mtree_inv.proofs.PartLemmas.{kept-joined, with_part}
use Rattle.mtree_inv.proofs.PathLemmas.{joined_onto-slashed, join_with_byte-slashed}

pub or_parts : (a b : Bool) → (a || b) ≡ false → (a ≡ false) × (b ≡ false)
or_parts true b h = absurd (true≢false h)
or_parts false b h = (refl, h)

-- ---- its characters are its bytes

front-plain : (x : ℕ) (xs : List ℕ) → (x == 92) ≡ false → front (x ∷ xs) ≡ record { character = Plain x; taken = 1 }
front-plain x xs e =
    ap (λ (t : Bool). cond t (backslash_front (slice_index (x ∷ xs) 1) (slice_index (x ∷ xs) 2) (slice_index (x ∷ xs) 3)) (record { character = Plain x; taken = 1 })) e

characters-plain : (word : List ℕ) → list_any (λ b. b == 92) word ≡ false → characters word ≡ map (λ b. Plain b) word
characters-plain [] none = characters-empty
characters-plain (x ∷ xs) none =
    let both = or_parts (x == 92) (list_any (λ b. b == 92) xs) none in
    front-first (x ∷ xs) (omega arith)
    ∙ ap (λ (f : Front). f.character ∷ characters (drop f.taken (x ∷ xs))) (front-plain x xs both.0)
    ∙ ap (λ (cs : List Character). Plain x ∷ cs) (characters-plain xs both.1)

none-bad : (word : List ℕ) → list_any is_bad (map (λ b. Plain b) word) ≡ false
none-bad [] = refl
none-bad (x ∷ xs) = none-bad xs

slash-plain : (word : List ℕ) → list_any is_slash (map (λ b. Plain b) word) ≡ list_any (λ b. b == 47) word
slash-plain [] = refl
slash-plain (x ∷ xs) = ap (λ (b : Bool). (x == 47) || b) (slash-plain xs)

pub full-plain : (word : List ℕ) → list_any (λ b. b == 92) word ≡ false → is_full word ≡ list_any (λ b. b == 47) word
full-plain word none = ap (list_any is_slash) (characters-plain word none) ∙ slash-plain word

-- ---- and its parts its pieces

onto_first-bytes : (x : ℕ) (rest : List (List Character)) → map bytes_of (onto_first (Plain x) rest) ≡ onto_first x (map bytes_of rest)
onto_first-bytes x [] = refl
onto_first-bytes x (first ∷ more) = refl

split-plain : (word : List ℕ) → map bytes_of (slice_split is_slash (map (λ b. Plain b) word)) ≡ slice_split (λ b. b == 47) word
split-plain [] = refl
split-plain (x ∷ xs) = by (x == 47) (split-plain xs)
  where
    by : (b : Bool) → map bytes_of (slice_split is_slash (map (λ b. Plain b) xs)) ≡ slice_split (λ b. b == 47) xs
        → map bytes_of (cond b ([] ∷ slice_split is_slash (map (λ b. Plain b) xs)) (onto_first (Plain x) (slice_split is_slash (map (λ b. Plain b) xs)))) ≡ cond b ([] ∷ slice_split (λ b. b == 47) xs) (onto_first x (slice_split (λ b. b == 47) xs))
    by true rest = ap (λ (ps : List (List ℕ)). [] ∷ ps) rest
    by false rest = onto_first-bytes x (slice_split is_slash (map (λ b. Plain b) xs)) ∙ ap (onto_first x) rest

module _ (word : List ℕ) (none : list_any (λ b. b == 92) word ≡ false) where
  parts-plain : parts word ≡ pieces 47 word
  unfolding pieces
  parts-plain = ap (λ (cs : List Character). map bytes_of (slice_split is_slash cs)) (characters-plain word none) ∙ split-plain word

  bad-plain : list_any is_bad_component (pieces 47 word) ≡ has_bad_component word
  bad-plain =
      ap (λ (b : Bool). b || list_any is_bad_component (pieces 47 word)) (sym (none-bad word) ∙ ap (list_any is_bad) (sym (characters-plain word none)))
      ∙ ap (λ (ps : List (List ℕ)). list_any is_bad (characters word) || list_any is_bad_component ps) (sym parts-plain)

  components-plain : filter is_kept (pieces 47 word) ≡ components word
  components-plain = ap (filter is_kept) (sym parts-plain)

-- ---- a word that is read up to a rest, where `bad` and `whole` are those of the whole word

pub record PiecesTo (path rest : List ℕ) (bad : Bool) (whole : List ℕ) : Type 0 where
  pub bad_is : list_any is_bad_component (pieces 47 rest) ≡ bad
  pub path_is : joined_onto path (filter is_kept (pieces 47 rest)) ≡ whole

pub pieces-begun : (path word : List ℕ) → list_any (λ b. b == 92) word ≡ false → PiecesTo path word (has_bad_component word) (joined_onto path (components word))
pieces-begun path word none = record { bad_is = bad-plain word none; path_is = ap (joined_onto path) (components-plain word none) }

module _ (path rest : List ℕ) (bad : Bool) (whole : List ℕ) (last : pieces 47 rest ≡ rest ∷ []) (read : PiecesTo path rest bad whole) where
  pub last-piece-bad : is_bad_component rest ≡ bad
  last-piece-bad = sym (or_false (is_bad_component rest)) ∙ ap (list_any is_bad_component) (sym last) ∙ read.bad_is
    where
      or_false : (b : Bool) → (b || false) ≡ b
      or_false true = refl
      or_false false = refl

  pub last-piece-path : with_part path rest ≡ whole
  last-piece-path = sym (kept-joined path rest [] (is_kept rest)) ∙ ap (λ (ps : List (List ℕ)). joined_onto path (filter is_kept ps)) (sym last) ∙ read.path_is

-- ---- a NUL byte of a word stands in a part of it

or_assoc : (a b c : Bool) → ((a || b) || c) ≡ (a || (b || c))
or_assoc true b c = refl
or_assoc false b c = refl

slash_no_nul : (x : ℕ) → (x == 47) ≡ true → (x == 0) ≡ false
slash_no_nul x e = ap (λ (n : ℕ). n == 0) (eqb-true x 47 e)

separators : (word : List ℕ) → list_any has_separator (slice_split (λ b. b == 47) word) ≡ list_any (λ b. b == 0) word
separators [] = refl
separators (x ∷ xs) = by (x == 47) refl (slice_split (λ b. b == 47) xs) (separators xs)
  where
    by : (b : Bool) → (x == 47) ≡ b → (ps : List (List ℕ)) → list_any has_separator ps ≡ list_any (λ b. b == 0) xs
        → list_any has_separator (cond b ([] ∷ ps) (onto_first x ps)) ≡ ((x == 0) || list_any (λ b. b == 0) xs)
    by true e ps rest = rest ∙ ap (λ (b : Bool). b || list_any (λ b. b == 0) xs) (sym (slash_no_nul x e))
    by false e [] rest =
        or_assoc ((x == 47) || (x == 0)) false false ∙ ap (λ (b : Bool). (b || (x == 0)) || false) e ∙ ap (λ (b : Bool). (x == 0) || b) rest
    by false e (first ∷ more) rest =
        or_assoc ((x == 47) || (x == 0)) (has_separator first) (list_any has_separator more)
        ∙ ap (λ (b : Bool). (b || (x == 0)) || (has_separator first || list_any has_separator more)) e
        ∙ ap (λ (b : Bool). (x == 0) || b) rest

or_right : (a b : Bool) → b ≡ true → (a || b) ≡ true
or_right true b e = refl
or_right false b e = e

some_bad : (ps : List (List ℕ)) → list_any has_separator ps ≡ true → list_any is_bad_component ps ≡ true
some_bad [] e = e
some_bad (p ∷ ps) e = by (has_separator p) refl e (some_bad ps)
  where
    by : (b : Bool) → has_separator p ≡ b → (b || list_any has_separator ps) ≡ true → (list_any has_separator ps ≡ true → list_any is_bad_component ps ≡ true)
        → list_any is_bad_component (p ∷ ps) ≡ true
    by true has e more = ap (λ (b : Bool). b || list_any is_bad_component ps) (or_right (bytes_eq p (codes "..")) (has_separator p) has)
    by false has e more = or_right (is_bad_component p) (list_any is_bad_component ps) (more e)

pub nul-bad : (word : List ℕ) → list_any (λ b. b == 92) word ≡ false → list_any (λ b. b == 0) word ≡ true → has_bad_component word ≡ true
unfolding pieces
nul-bad word none nul = sym (bad-plain word none) ∙ some_bad (pieces 47 word) (separators word ∙ nul)

-- the parts of a rest have no separators
abbrev pub AreNames : List ℕ → Type 0
AreNames rest = list_any has_separator (pieces 47 rest) ≡ false

pub names-begun : (word : List ℕ) → list_any (λ b. b == 0) word ≡ false → AreNames word
unfolding pieces
names-begun word none = separators word ∙ none

pub name-last : (rest : List ℕ) → pieces 47 rest ≡ rest ∷ [] → AreNames rest → has_separator rest ≡ false
name-last rest last are = (or_parts (has_separator rest) false (sym (ap (list_any has_separator) last) ∙ are)).0

-- ---- a name alone, and simple words

pub name-alone : (word : List ℕ) → list_any (λ b. b == 47) word ≡ false → pieces 47 word ≡ word ∷ []
unfolding pieces
name-alone [] none = refl
name-alone (x ∷ xs) none =
    let both = or_parts (x == 47) (list_any (λ b. b == 47) xs) none in
    ap (λ (t : Bool). cond t ([] ∷ slice_split (λ b. b == 47) xs) (onto_first x (slice_split (λ b. b == 47) xs))) both.0
    ∙ ap (onto_first x) (name-alone xs both.1)

same-parts : (word other part : List ℕ) → pieces 47 word ≡ part ∷ pieces 47 other → is_kept part ≡ false → is_bad_component part ≡ false → has_separator part ≡ false → HasPartsOf word other
same-parts word other part cut kept bad none = record {
  kept = sym (ap (filter is_kept) cut ∙ ap (λ (b : Bool). cond b (part ∷ filter is_kept (pieces 47 other)) (filter is_kept (pieces 47 other))) kept);
  bad = sym (ap (list_any is_bad_component) cut ∙ ap (λ (b : Bool). b || list_any is_bad_component (pieces 47 other)) bad);
  separators = sym (ap (list_any has_separator) cut ∙ ap (λ (b : Bool). b || list_any has_separator (pieces 47 other)) none);
}

dot-cut : (word : List ℕ) → bytes_eq (take 2 word) (codes "./") ≡ true → pieces 47 word ≡ codes "." ∷ pieces 47 (drop 2 word)
unfolding pieces
dot-cut [] is = absurd (false≢true is)
dot-cut (x ∷ []) is = absurd (false≢true (sym (and_false (x == 46)) ∙ is))
  where
    and_false : (b : Bool) → (b && false) ≡ false
    and_false true = refl
    and_false false = refl
dot-cut (x ∷ y ∷ word) is =
    let one = and_parts (x == 46) ((y == 47) && true) is in
    let two = and_parts (y == 47) true one.1 in
    ap (λ (n : ℕ). slice_split (λ b. b == 47) (n ∷ y ∷ word)) (eqb-true x 46 one.0)
    ∙ ap (λ (n : ℕ). slice_split (λ b. b == 47) (46 ∷ n ∷ word)) (eqb-true y 47 two.0)

pub dot-dropped : (word rest : List ℕ) → bytes_eq (take 2 word) (codes "./") ≡ true → rest ≡ drop 2 word → HasPartsOf word rest
dot-dropped word rest is at =
    same-parts word rest (codes ".") (dot-cut word is ∙ ap (λ (r : List ℕ). codes "." ∷ pieces 47 r) (sym at)) refl refl refl

pub pieces-same : (path word rest : List ℕ) (bad : Bool) (whole : List ℕ) → HasPartsOf word rest → PiecesTo path word bad whole → PiecesTo path rest bad whole
pieces-same path word rest bad whole same read = record {
  bad_is = same.bad ∙ read.bad_is;
  path_is = ap (joined_onto path) same.kept ∙ read.path_is;
}

simple-kept : (ps : List (List ℕ)) → list_all is_simple_part ps ≡ true → filter is_kept ps ≡ ps
simple-kept [] simple = refl
simple-kept ([] ∷ ps) simple = absurd (false≢true simple)
simple-kept ((b ∷ p) ∷ ps) simple =
    let both = and_parts (not (b == 46)) (list_all is_simple_part ps) simple in
    ap (λ (t : Bool). cond (not (t && bytes_eq p [])) ((b ∷ p) ∷ filter is_kept ps) (filter is_kept ps)) (not-true (b == 46) both.0)
    ∙ ap (λ (l : List (List ℕ)). (b ∷ p) ∷ l) (simple-kept ps both.1)

simple-lawful : (ps : List (List ℕ)) → list_all is_simple_part ps ≡ true → list_any has_separator ps ≡ false → list_any is_bad_component ps ≡ false
simple-lawful [] simple none = refl
simple-lawful ([] ∷ ps) simple none = absurd (false≢true simple)
simple-lawful ((b ∷ p) ∷ ps) simple none =
    let both = and_parts (not (b == 46)) (list_all is_simple_part ps) simple in
    let nones = or_parts (has_separator (b ∷ p)) (list_any has_separator ps) none in
    ap (λ (t : Bool). ((t && bytes_eq p (46 ∷ [])) || has_separator (b ∷ p)) || list_any is_bad_component ps) (not-true (b == 46) both.0)
    ∙ ap (λ (t : Bool). t || list_any is_bad_component ps) nones.0 ∙ simple-lawful ps both.1 nones.1

simple-joined : (ps : List (List ℕ)) → list_all is_simple_part ps ≡ true → joined_onto [] ps ≡ join_with_byte 47 ps
simple-joined [] simple = refl
simple-joined ([] ∷ ps) simple = absurd (false≢true simple)
simple-joined ((b ∷ p) ∷ ps) simple = joined_onto-slashed b p ps ∙ sym (join_with_byte-slashed (b ∷ p) ps)

module _ (word : List ℕ) (simple : is_simple word ≡ true) where
  pub simple-bad : AreNames word → list_any is_bad_component (pieces 47 word) ≡ false
  simple-bad are = simple-lawful (pieces 47 word) simple are

  simple-whole : joined_onto [] (filter is_kept (pieces 47 word)) ≡ word
  unfolding pieces
  simple-whole = ap (joined_onto []) (simple-kept (pieces 47 word) simple) ∙ simple-joined (pieces 47 word) simple ∙ join_with_byte-slice_split 47 word

pub simple-written : (path rest new : List ℕ) (bad : Bool) (whole : List ℕ) → length path ≡ 0 → is_simple rest ≡ true → PiecesTo path rest bad whole → new ≡ path ++ rest → new ≡ whole
simple-written [] rest new bad whole none simple read e = e ∙ sym (simple-whole rest simple) ∙ read.path_is
simple-written (x ∷ path) rest new bad whole none simple read e = absurd (omega (arith, none))
