-- Lines with their newlines, and lines without them.
use Rattle.std.proofs.Common.{◌≡◌, ℕ, zero, suc, ◌≤◌, ◌==◌, ◌||◌, Bool, true, false, cond, List, [], ◌∷◌, ◌++◌, map, take, length, refl, sym, ap, ◌∙◌, ⊎_elim, ◌⊎◌, inl, inr, arith, append-nil, length-append}
use Rattle.std.specs.List.{list_any, onto_first}
use Rattle.std.proofs.lemmas.Bool.{false≢true}
use Rattle.std.proofs.lemmas.List.Folds.{list_any-append}
use Rattle.std.proofs.lemmas.List.Splits.{slice_split_none}
use Rattle.idtext.specs.Pieces.{lines, pieces}
use Rattle.idtext.proofs.PieceLemmas.{lines-empty, lines-last}
use Rattle.certcheck.specs.Laws.{lines_with_newlines}
use Rattle.certcheck.specs.Reading.{is_cut}
use Rattle.certcheck.proofs.TextLines.{HasFirst, all_plain, cut_back, cut_tail, ended, first_line, lines_first, neither, plain_cut}

-- ---- a first line

ended_first : (line rest : List ℕ) → list_any (λ b. b == 10) line ≡ false → lines_with_newlines (line ++ 10 ∷ rest) ≡ ended line ∷ lines_with_newlines rest
ended_first [] rest plain = refl
ended_first (b ∷ bytes) rest plain =
    let both = neither (b == 10) (list_any (λ d. d == 10) bytes) plain in
    ap (λ (x : Bool). cond x ((10 ∷ []) ∷ lines_with_newlines (bytes ++ 10 ∷ rest)) (onto_first b (lines_with_newlines (bytes ++ 10 ∷ rest)))) both.0
    ∙ ap (onto_first b) (ended_first bytes rest both.1)

one_line : (b : ℕ) (bytes : List ℕ) → list_any (λ d. d == 10) (b ∷ bytes) ≡ false → lines_with_newlines (b ∷ bytes) ≡ (b ∷ bytes) ∷ []
one_line b [] plain =
    ap (λ (x : Bool). cond x ((10 ∷ []) ∷ []) ((b ∷ []) ∷ [])) (neither (b == 10) false plain).0
one_line b (c ∷ bytes) plain =
    let both = neither (b == 10) (list_any (λ d. d == 10) (c ∷ bytes)) plain in
    ap (λ (x : Bool). cond x ((10 ∷ []) ∷ lines_with_newlines (c ∷ bytes)) (onto_first b (lines_with_newlines (c ∷ bytes)))) both.0
    ∙ ap (onto_first b) (one_line c bytes both.1)

no_newline : (b : ℕ) (bytes : List ℕ) → list_any (λ d. d == 10) (b ∷ bytes) ≡ false → lines (b ∷ bytes) ≡ (b ∷ bytes) ∷ []
unfolding pieces
no_newline b bytes plain = lines-last (b ∷ bytes) (omega arith) (slice_split_none (λ d. d == 10) (b ∷ bytes) (all_plain (b ∷ bytes) plain))

-- ---- all lines

-- a last line without a newline, or none
abbrev pub IsLast : List ℕ → List (List ℕ) → Type 0
IsLast text last =
    ((last ≡ []) × (is_cut text ≡ false)) ⊎ ((line : List ℕ) × (last ≡ line ∷ []) × (list_any (λ b. b == 10) line ≡ false) × (is_cut text ≡ true))

-- the lines that have their newline, and a last line without one or none
pub record HasLines (text : List ℕ) : Type 0 where
  pub front : List (List ℕ)
  pub last : List (List ℕ)
  pub bare : lines text ≡ front ++ last
  pub whole : lines_with_newlines text ≡ map ended front ++ last
  pub ends : IsLast text last

pub cut_behind : (line rest : List ℕ) → is_cut (line ++ 10 ∷ rest) ≡ is_cut rest
cut_behind line rest = cut_back line 10 rest ∙ behind rest
  where
    behind : (bytes : List ℕ) → is_cut (10 ∷ bytes) ≡ is_cut bytes
    behind [] = refl
    behind (c ∷ bytes) = cut_tail 10 c bytes

last_same : (text text' : List ℕ) (last : List (List ℕ)) → is_cut text ≡ is_cut text' → IsLast text' last → IsLast text last
last_same text text' last same (inl none) = inl (none.0, same ∙ none.1)
last_same text text' last same (inr some) = inr (some.0, some.1, some.2, same ∙ some.3)

lines_up_to : (size : ℕ) (text : List ℕ) → length text ≤ size → HasLines text
lines_up_to size [] l = record { front = []; last = []; bare = lines-empty; whole = refl; ends = inl (refl, refl) }
lines_up_to zero (b ∷ bytes) l = absurd (omega (arith, l))
lines_up_to (suc size) (b ∷ bytes) l =
    ⊎_elim
    (λ (f : HasFirst (b ∷ bytes)).
    let shorter : length f.rest ≤ size = (let long = ap length f.whole ∙ length-append f.line (10 ∷ f.rest) in omega (arith, long, l)) in
    let more = lines_up_to size f.rest shorter in
    record {
      front = f.line ∷ more.front;
      last = more.last;
      bare = ap lines f.whole ∙ lines_first f.line f.rest f.plain ∙ ap (λ ls. f.line ∷ ls) more.bare;
      whole = ap lines_with_newlines f.whole ∙ ended_first f.line f.rest f.plain ∙ ap (λ ls. ended f.line ∷ ls) more.whole;
      ends = last_same (b ∷ bytes) f.rest more.last (ap is_cut f.whole ∙ cut_behind f.line f.rest) more.ends;
    })
    (λ (plain : list_any (λ d. d == 10) (b ∷ bytes) ≡ false).
    record {
      front = [];
      last = (b ∷ bytes) ∷ [];
      bare = no_newline b bytes plain;
      whole = one_line b bytes plain;
      ends = inr (b ∷ bytes, refl, plain, plain_cut b bytes plain);
    })
    (first_line (b ∷ bytes))

pub lines_of_text : (text : List ℕ) → HasLines text
lines_of_text text = lines_up_to (length text) text (omega arith)

-- a text that is not cut
pub all_ended : (text : List ℕ) → is_cut text ≡ false → lines_with_newlines text ≡ map ended (lines text)
all_ended text whole = by (lines_of_text text)
  where
    by : HasLines text → lines_with_newlines text ≡ map ended (lines text)
    by has = ⊎_elim
        (λ (none : (has.last ≡ []) × (is_cut text ≡ false)).
        has.whole ∙ ap (λ ls. map ended has.front ++ ls) none.0 ∙ append-nil (map ended has.front)
        ∙ sym (ap (map ended) (has.bare ∙ ap (λ ls. has.front ++ ls) none.0 ∙ append-nil has.front)))
        (λ (some : (line : List ℕ) × (has.last ≡ line ∷ []) × (list_any (λ b. b == 10) line ≡ false) × (is_cut text ≡ true)).
        absurd (false≢true (sym whole ∙ some.3)))
        has.ends

-- ---- the same first lines

ended_same : (one other : List ℕ) → ended one ≡ ended other → one ≡ other
ended_same [] [] h = refl
ended_same [] (c ∷ []) h = absurd (cc)
ended_same [] (c ∷ d ∷ ds) h = absurd (cc)
ended_same (b ∷ []) [] h = absurd (cc)
ended_same (b ∷ a ∷ bs) [] h = absurd (cc)
ended_same (b ∷ bs) (c ∷ cs) h =
    let first : b ≡ c = cc in
    let rest : ended bs ≡ ended cs = cc in
    ap (λ d. d ∷ bs) first ∙ ap (λ ds. c ∷ ds) (ended_same bs cs rest)

not_plain : (line : List ℕ) → list_any (λ b. b == 10) (ended line) ≡ false → ⊥
not_plain line plain = by (list_any (λ b. b == 10) line) (sym (list_any-append (λ b. b == 10) line (10 ∷ [])) ∙ plain)
  where
    by : (x : Bool) → (x || true) ≡ false → ⊥
    by true h = false≢true (sym h)
    by false h = false≢true (sym h)

-- so many lines are there, and are the same
pub same_front : (count : ℕ) (front last others : List (List ℕ)) → count ≤ length front → take count (map ended front ++ last) ≡ take count (map ended others) → take count front ≡ take count others
same_front zero front last others few h = refl
same_front (suc k) [] last others few h = absurd (omega (arith, few))
same_front (suc k) (f ∷ front) last [] few h = absurd (cc)
same_front (suc k) (f ∷ front) last (o ∷ others) few h =
    let first : ended f ≡ ended o = cc in
    let rest : take k (map ended front ++ last) ≡ take k (map ended others) = cc in
    ap (λ l. l ∷ take k front) (ended_same f o first) ∙ ap (λ ls. o ∷ ls) (same_front k front last others (omega (arith, few)) rest)

-- the last line that would be the same has no newline
pub none_without_newline : (front others : List (List ℕ)) (line : List ℕ) → list_any (λ b. b == 10) line ≡ false → take (suc (length front)) (map ended front ++ line ∷ []) ≡ take (suc (length front)) (map ended others) → ⊥
none_without_newline [] [] line plain h = absurd (cc)
none_without_newline [] (o ∷ others) line plain h =
    let same : line ≡ ended o = cc in
    not_plain o (ap (list_any (λ b. b == 10)) (sym same) ∙ plain)
none_without_newline (f ∷ front) [] line plain h = absurd (cc)
none_without_newline (f ∷ front) (o ∷ others) line plain h =
    none_without_newline front others line plain (let rest : take (suc (length front)) (map ended front ++ line ∷ []) ≡ take (suc (length front)) (map ended others) = cc in rest)

-- no line is left
pub same_all : (front others : List (List ℕ)) → take (suc (length front)) (map ended front) ≡ take (suc (length front)) (map ended others) → front ≡ others
same_all [] [] h = refl
same_all [] (o ∷ others) h = absurd (cc)
same_all (f ∷ front) [] h = absurd (cc)
same_all (f ∷ front) (o ∷ others) h =
    let first : ended f ≡ ended o = cc in
    let rest : take (suc (length front)) (map ended front) ≡ take (suc (length front)) (map ended others) = cc in
    ap (λ l. l ∷ front) (ended_same f o first) ∙ ap (λ ls. o ∷ ls) (same_all front others rest)

-- and the other way round
pub front_same : (count : ℕ) (front last more : List (List ℕ)) → count ≤ length front → take count (map ended front ++ last) ≡ take count (map ended (take count front ++ more))
front_same zero front last more few = refl
front_same (suc k) [] last more few = absurd (omega (arith, few))
front_same (suc k) (f ∷ front) last more few = ap (λ ls. ended f ∷ ls) (front_same k front last more (omega (arith, few)))

pub take_front : (count : ℕ) (front last : List (List ℕ)) → count ≤ length front → take count (front ++ last) ≡ take count front
take_front zero front last few = refl
take_front (suc k) [] last few = absurd (omega (arith, few))
take_front (suc k) (f ∷ front) last few = ap (λ ls. f ∷ ls) (take_front k front last (omega (arith, few)))
