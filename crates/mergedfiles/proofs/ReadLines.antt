-- Lines between newlines, and fields between colons, read back.
use Rattle.std.proofs.Common.{◌≡◌, ℕ, ◌<◌, ◌≤◌, ◌==◌, ◌||◌, ◌&&◌, not, true, false, List, [], ◌∷◌, ◌++◌, length, decimal, refl, ap, ◌∙◌, append_assoc, arith, inl, inr}
use Rattle.std.specs.Char.{digit_value}
use Rattle.std.specs.List.{list_any, list_all, slice_split, AllByRecursion}
use Rattle.std.specs.Str.Parse.{AllDigits}
use Rattle.std.proofs.lemmas.Bool.{cases_Bool, ne_eqb, and_parts, not-true, or_parts, or_from, and_right}
use Rattle.std.proofs.lemmas.Fmt.{decimal_is_IsNumeral}
use Rattle.std.proofs.lemmas.List.Elements.{All-from_recursion}
use Rattle.std.proofs.lemmas.List.Splits.{slice_split_at, slice_split_none}
use Rattle.idtext.specs.Names.{is_lawful_name, is_separator, is_skipped}
use Rattle.idtext.specs.Pieces.{lines, pieces, fields_of}
use Rattle.idtext.specs.Words.{is_white}
use Rattle.idtext.proofs.EachByte.{each-piece, onto-each, without-last}
use Rattle.idtext.proofs.PieceLemmas.{lines-cut}
use Rattle.accounts.specs.Lines.{is_compat}
use Rattle.mergedfiles.specs.Texts.{field}

-- ---- texts without a byte

abbrev pub Lacks : ℕ → List ℕ → Type 0
Lacks b bytes = AllByRecursion (λ c. (c == b) ≡ false) bytes

pub lacks-append : (b : ℕ) (xs ys : List ℕ) → Lacks b xs → Lacks b ys → Lacks b (xs ++ ys)
lacks-append b [] ys p q = q
lacks-append b (x ∷ xs) ys p q = (p.0, lacks-append b xs ys p.1 q)

-- digits are neither colons nor newlines
digits-lack : (b : ℕ) → 10 ≤ digit_value b → (ds : List ℕ) → AllDigits 10 ds → Lacks b ds
digits-lack b other [] all = tt
digits-lack b other (c ∷ cs) all = (ne_eqb c b (λ e. let low : digit_value b < 10 = rw (← e) all.0 in omega (arith, low, other)), digits-lack b other cs all.1)

pub decimal-lacks : (b v : ℕ) → 10 ≤ digit_value b → v ≤ 4294967294 → Lacks b (decimal v)
decimal-lacks b v other small = digits-lack b other (decimal v) (decimal_is_IsNumeral v (omega (arith, small))).0.1

-- neither a colon nor a newline
abbrev pub IsPlain : List ℕ → Type 0
IsPlain text = Lacks 58 text × Lacks 10 text

bytes-plain : (n : List ℕ) → list_any is_separator n ≡ false → IsPlain n
bytes-plain [] none = (tt, tt)
bytes-plain (c ∷ cs) none =
    let parts = or_parts (is_separator c) (list_any is_separator cs) none in
    let nul = or_parts ((c == 44 || c == 58) || c == 10) (c == 0) parts.0 in
    let newline = or_parts (c == 44 || c == 58) (c == 10) nul.0 in
    let rest = bytes-plain cs parts.1 in
    (((or_parts (c == 44) (c == 58) newline.0).1, rest.0), (newline.1, rest.1))

pub name-plain : (n : List ℕ) → is_lawful_name n ≡ true → IsPlain n
name-plain n lawful = bytes-plain n (not-true (list_any is_separator n) (and_parts _ (not (list_any is_separator n)) lawful).1)

pub decimal-plain : (v : ℕ) → v ≤ 4294967294 → IsPlain (decimal v)
decimal-plain v small = (decimal-lacks 58 v (omega arith) small, decimal-lacks 10 v (omega arith) small)

-- ---- pieces

cut-lacks : (s : ℕ) (text : List ℕ) → AllByRecursion (Lacks s) (slice_split (λ b. b == s) text)
cut-lacks s [] = (tt, tt)
cut-lacks s (x ∷ xs) = elim (cases_Bool (x == s)) [
  | inl t ↦ rw t (tt, cut-lacks s xs)
  | inr f ↦ rw f (onto-each (λ b. (b == s) ≡ false) x f (slice_split (λ b. b == s) xs) (cut-lacks s xs))
]

-- no piece has the separator, and none has a byte that the text does not have
pub pieces-cut : (s : ℕ) (text : List ℕ) → AllByRecursion (Lacks s) (pieces s text)
unfolding pieces
pieces-cut s text = cut-lacks s text

pub pieces-lack : (b s : ℕ) (text : List ℕ) → Lacks b text → AllByRecursion (Lacks b) (pieces s text)
pieces-lack b s text lacks = each-piece (λ c. (c == b) ≡ false) s text lacks

pub lines-lack : (text : List ℕ) → AllByRecursion (Lacks 10) (lines text)
unfolding lines
lines-lack text = without-last (Lacks 10) (pieces 10 text) (pieces-cut 10 text)

pub both-hold : {X : Type 0} (P Q : X → Type 0) (xs : List X) → AllByRecursion P xs → AllByRecursion Q xs → AllByRecursion (λ x. P x × Q x) xs
both-hold P Q [] p q = tt
both-hold P Q (x ∷ xs) p q = ((p.0, q.0), both-hold P Q xs p.1 q.1)

pub fields-plain : (line : List ℕ) → Lacks 10 line → AllByRecursion IsPlain (fields_of line)
fields-plain line lacks = both-hold (Lacks 58) (Lacks 10) (pieces 58 line) (pieces-cut 58 line) (pieces-lack 10 58 line lacks)

-- ---- what stands before a separator

pub piece-first : (s : ℕ) (first rest : List ℕ) → (s == s) ≡ true → Lacks s first → pieces s (first ++ s ∷ rest) ≡ first ∷ pieces s rest
unfolding pieces
piece-first s first rest same lacks = slice_split_at (λ b. b == s) first s rest (All-from_recursion (λ b. (b == s) ≡ false) first lacks) same

pub piece-last : (s : ℕ) (last : List ℕ) → Lacks s last → pieces s last ≡ last ∷ []
unfolding pieces
piece-last s last lacks = slice_split_none (λ b. b == s) last (All-from_recursion (λ b. (b == s) ≡ false) last lacks)

pub field-first : (first rest : List ℕ) → IsPlain first → fields_of (field first ++ rest) ≡ first ∷ fields_of rest
field-first first rest plain = ap (pieces 58) (append_assoc first (58 ∷ []) rest) ∙ piece-first 58 first rest refl plain.0

pub field-last : (last : List ℕ) → IsPlain last → fields_of last ≡ last ∷ []
field-last last plain = piece-last 58 last plain.0

pub line-first : (line rest : List ℕ) → Lacks 10 line → lines ((line ++ 10 ∷ []) ++ rest) ≡ line ∷ lines rest
line-first line rest lacks = ap lines (append_assoc line (10 ∷ []) rest) ∙ lines-cut (line ++ 10 ∷ rest) line rest (piece-first 10 line rest refl lacks)

pub field-lacks : (first rest : List ℕ) → IsPlain first → Lacks 10 rest → Lacks 10 (field first ++ rest)
field-lacks first rest plain lacks = lacks-append 10 (field first) rest (lacks-append 10 first (58 ∷ []) plain.1 (refl, tt)) lacks

-- ---- a line that begins with a lawful name

colon-not-white : (n rest : List ℕ) → list_all is_white (field n ++ rest) ≡ false
colon-not-white [] rest = refl
colon-not-white (c ∷ cs) rest = and_right (is_white c) _ (colon-not-white cs rest)

-- a lawful name begins with no number sign, plus or minus
no-sign : (c : ℕ) (cs : List ℕ) → is_lawful_name (c ∷ cs) ≡ true → ((c == 35 || c == 43) ≡ false) × ((c == 45) ≡ false)
no-sign c cs lawful =
    let fronts = (and_parts (not (length (c ∷ cs) == 0) && not ((c == 35 || c == 43) || c == 45)) (not (list_any is_separator (c ∷ cs))) lawful).0 in
    or_parts (c == 35 || c == 43) (c == 45) (not-true ((c == 35 || c == 43) || c == 45) (and_parts (not (length (c ∷ cs) == 0)) (not ((c == 35 || c == 43) || c == 45)) fronts).1)

pub name-kept : (n rest : List ℕ) → is_lawful_name n ≡ true → is_skipped (field n ++ rest) ≡ false
name-kept [] rest lawful = absurd (cc)
name-kept (c ∷ cs) rest lawful =
    let signs = no-sign c cs lawful in
    or_from _ (c == 35) (colon-not-white (c ∷ cs) rest) (or_parts (c == 35) (c == 43) signs.0).0

pub name-not_compat : (n rest : List ℕ) → is_lawful_name n ≡ true → is_compat (field n ++ rest) ≡ false
name-not_compat [] rest lawful = absurd (cc)
name-not_compat (c ∷ cs) rest lawful =
    let signs = no-sign c cs lawful in
    or_from (c == 43) (c == 45) (or_parts (c == 35) (c == 43) signs.0).1 signs.1
