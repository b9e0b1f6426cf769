-- Texts of whole lines, and their lines.
use Rattle.std.proofs.Common.{◌≡◌, ℕ, zero, suc, ◌-◌, ◌≤◌, ◌==◌, ◌||◌, ◌&&◌, not, Bool, true, false, List, [], ◌∷◌, ◌++◌, length, get_or, refl, sym, ap, ◌∙◌, ⊎_elim, ◌⊎◌, inl, inr, arith, append_assoc, append-nil, length-append}
use Rattle.std.specs.List.{All, list_any, flat_map}
use Rattle.std.proofs.lemmas.Bool.{cases_Bool, eqb-true, ne_eqb, false≢true}
use Rattle.std.proofs.lemmas.List.Elements.{All-nil, All-cons}
use Rattle.std.proofs.lemmas.List.Concat.{flat_map-cons}
use Rattle.std.proofs.lemmas.List.Splits.{slice_split_at}
use Rattle.idtext.specs.Pieces.{lines, pieces}
use Rattle.idtext.proofs.PieceLemmas.{lines-cut, lines-empty}
use Rattle.certcheck.specs.Reading.{is_cut}

-- a line and its newline
abbrev pub ended : List ℕ → List ℕ
ended line = line ++ 10 ∷ []

pub neither : (x y : Bool) → (x || y) ≡ false → (x ≡ false) × (y ≡ false)
neither true y e = absurd (cc)
neither false y e = (refl, e)

pub all_plain : (line : List ℕ) → list_any (λ b. b == 10) line ≡ false → All (λ b. (b == 10) ≡ false) line
all_plain [] h = All-nil (λ (b : ℕ). (b == 10) ≡ false)
all_plain (b ∷ bs) h =
    let both = neither (b == 10) (list_any (λ d. d == 10) bs) h in
    All-cons (λ (d : ℕ). (d == 10) ≡ false) b bs both.0 (all_plain bs both.1)

-- the first line, and the others
pub lines_first : (line rest : List ℕ) → list_any (λ b. b == 10) line ≡ false → lines (line ++ 10 ∷ rest) ≡ line ∷ lines rest
unfolding pieces
lines_first line rest plain = lines-cut (line ++ 10 ∷ rest) line rest (slice_split_at (λ b. b == 10) line 10 rest (all_plain line plain) refl)

-- whole lines, one after another
abbrev pub ArePlain : List (List ℕ) → Type 0
ArePlain [] = Unit {0}
ArePlain (l ∷ ls) = (list_any (λ b. b == 10) l ≡ false) × ArePlain ls

pub lines_front : (ls : List (List ℕ)) (rest : List ℕ) → ArePlain ls → lines (flat_map ended ls ++ rest) ≡ ls ++ lines rest
lines_front [] rest plain = refl
lines_front (l ∷ ls) rest plain =
    let whole : flat_map ended (l ∷ ls) ++ rest ≡ l ++ 10 ∷ (flat_map ended ls ++ rest) = ap (λ t. t ++ rest) (flat_map-cons ended l ls) ∙ append_assoc (ended l) (flat_map ended ls) rest ∙ append_assoc l (10 ∷ []) (flat_map ended ls ++ rest) in
    ap lines whole ∙ lines_first l (flat_map ended ls ++ rest) plain.0 ∙ ap (λ xs. l ∷ xs) (lines_front ls rest plain.1)

pub lines_whole : (ls : List (List ℕ)) → ArePlain ls → lines (flat_map ended ls) ≡ ls
lines_whole ls plain = ap lines (sym (append-nil (flat_map ended ls))) ∙ lines_front ls [] plain ∙ ap (λ xs. ls ++ xs) lines-empty ∙ append-nil ls

-- the last byte decides
last_decides : (b : ℕ) (bytes : List ℕ) → is_cut (b ∷ bytes) ≡ not (get_or (b ∷ bytes) (length bytes) 0 == 10)
last_decides b bytes =
    ap (λ x. not x && not (get_or (b ∷ bytes) (suc (length bytes) - 1) 0 == 10)) (ne_eqb (suc (length bytes)) 0 (λ e. absurd (omega (arith, e))))
    ∙ ap (λ k. not (get_or (b ∷ bytes) k 0 == 10)) (omega arith)

pub cut_tail : (b c : ℕ) (bytes : List ℕ) → is_cut (b ∷ c ∷ bytes) ≡ is_cut (c ∷ bytes)
cut_tail b c bytes = last_decides b (c ∷ bytes) ∙ sym (last_decides c bytes)

pub cut_back : (front : List ℕ) (c : ℕ) (back : List ℕ) → is_cut (front ++ c ∷ back) ≡ is_cut (c ∷ back)
cut_back [] c back = refl
cut_back (b ∷ []) c back = cut_tail b c back
cut_back (b ∷ d ∷ front) c back = cut_tail b d (front ++ c ∷ back) ∙ cut_back (d ∷ front) c back

cut_rest : (rest : List ℕ) → is_cut (10 ∷ rest) ≡ false → is_cut rest ≡ false
cut_rest [] h = refl
cut_rest (c ∷ bytes) h = sym (cut_tail 10 c bytes) ∙ h

pub plain_cut : (b : ℕ) (bytes : List ℕ) → list_any (λ d. d == 10) (b ∷ bytes) ≡ false → is_cut (b ∷ bytes) ≡ true
plain_cut b [] h = last_decides b [] ∙ ap not (neither (b == 10) false h).0
plain_cut b (c ∷ bytes) h = cut_tail b c bytes ∙ plain_cut c bytes (neither (b == 10) (list_any (λ d. d == 10) (c ∷ bytes)) h).1

-- the first newline of a text
pub record HasFirst (text : List ℕ) : Type 0 where
  pub line : List ℕ
  pub rest : List ℕ
  pub whole : text ≡ line ++ 10 ∷ rest
  pub plain : list_any (λ b. b == 10) line ≡ false

pub first_line : (text : List ℕ) → HasFirst text ⊎ (list_any (λ b. b == 10) text ≡ false)
first_line [] = inr refl
first_line (b ∷ bytes) =
    ⊎_elim
    (λ (e : (b == 10) ≡ true). inl (record { line = []; rest = bytes; whole = ap (λ d. d ∷ bytes) (eqb-true b 10 e); plain = refl }))
    (λ (e : (b == 10) ≡ false).
    ⊎_elim
    (λ (f : HasFirst bytes). inl (record { line = b ∷ f.line; rest = f.rest; whole = ap (λ t. b ∷ t) f.whole; plain = ap (λ x. x || list_any (λ d. d == 10) f.line) e ∙ f.plain }))
    (λ (n : list_any (λ d. d == 10) bytes ≡ false). inr (ap (λ x. x || list_any (λ d. d == 10) bytes) e ∙ n))
    (first_line bytes))
    (cases_Bool (b == 10))

-- a text that is not cut is its lines, each with a newline
lines_back : (size : ℕ) (text : List ℕ) → length text ≤ size → is_cut text ≡ false → text ≡ flat_map ended (lines text)
lines_back size [] l whole = sym (ap (flat_map ended) lines-empty)
lines_back zero (b ∷ bytes) l whole = absurd (omega arith)
lines_back (suc size) (b ∷ bytes) l whole =
    ⊎_elim
    (λ (f : HasFirst (b ∷ bytes)).
    let shorter : length f.rest ≤ size = (let long = ap length f.whole ∙ length-append f.line (10 ∷ f.rest) in omega (arith, long, l)) in
    let rest = lines_back size f.rest shorter (cut_rest f.rest (sym (cut_back f.line 10 f.rest) ∙ sym (ap is_cut f.whole) ∙ whole)) in
    let split : lines (b ∷ bytes) ≡ f.line ∷ lines f.rest = ap lines f.whole ∙ lines_first f.line f.rest f.plain in
    f.whole ∙ ap (λ t. f.line ++ 10 ∷ t) rest ∙ sym (append_assoc f.line (10 ∷ []) (flat_map ended (lines f.rest))) ∙ sym (flat_map-cons ended f.line (lines f.rest)) ∙ sym (ap (flat_map ended) split))
    (λ (n : list_any (λ d. d == 10) (b ∷ bytes) ≡ false). absurd (false≢true (sym whole ∙ plain_cut b bytes n)))
    (first_line (b ∷ bytes))

pub text_of_lines : (text : List ℕ) → is_cut text ≡ false → text ≡ flat_map ended (lines text)
text_of_lines text whole = lines_back (length text) text (omega arith) whole
