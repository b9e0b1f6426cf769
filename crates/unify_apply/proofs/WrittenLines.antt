-- Lines of words are read back, word by word.
use Rattle.std.proofs.Common.{◌≡◌, ℕ, ◌==◌, true, false, cond, not, List, [], ◌∷◌, ◌++◌, All, refl, ap, ◌∙◌, append_assoc}
use Rattle.std.specs.Prelude.{filter}
use Rattle.std.specs.List.{join_with_byte, list_all, slice_split}
use Rattle.std.proofs.lemmas.Bool.{and_parts, not-true}
use Rattle.std.proofs.lemmas.List.Elements.{All-nil, All-cons, All-append}
use Rattle.std.proofs.lemmas.List.Splits.{slice_split_none, slice_split_at}
use Rattle.idtext.specs.Pieces.{lines, pieces}
use Rattle.idtext.specs.Words.{is_filled, is_white, words}
use Rattle.idtext.proofs.PieceLemmas.{lines-cut, lines-empty}
use Rattle.unify_apply.specs.Laws.{is_inside, is_word, line_of}

-- ---- words

abbrev IsBlack : ℕ → Type 0
IsBlack b = is_white b ≡ false

abbrev IsNoEnd : ℕ → Type 0
IsNoEnd b = (b == 10) ≡ false

black : (word : List ℕ) → list_all is_inside word ≡ true → All IsBlack word
black [] inside = All-nil IsBlack
black (b ∷ bs) inside =
    let parts = and_parts (is_inside b) (list_all is_inside bs) inside in
    All-cons IsBlack b bs
    (not-true (is_white b) (and_parts (not (is_white b)) (not (b == 10)) parts.0).0)
    (black bs parts.1)

no_end : (word : List ℕ) → list_all is_inside word ≡ true → All IsNoEnd word
no_end [] inside = All-nil IsNoEnd
no_end (b ∷ bs) inside =
    let parts = and_parts (is_inside b) (list_all is_inside bs) inside in
    All-cons IsNoEnd b bs
    (not-true (b == 10) (and_parts (not (is_white b)) (not (b == 10)) parts.0).1)
    (no_end bs parts.1)

words-last : (word : List ℕ) → is_word word ≡ true → words word ≡ word ∷ []
unfolding words
words-last word is =
    let parts = and_parts (is_filled word) (list_all is_inside word) is in
    ap (filter is_filled) (slice_split_none is_white word (black word parts.1))
    ∙ ap (λ t. cond t (word ∷ []) []) parts.0

words-more : (word rest : List ℕ) → is_word word ≡ true → words (word ++ 32 ∷ rest) ≡ word ∷ words rest
unfolding words
words-more word rest is =
    let parts = and_parts (is_filled word) (list_all is_inside word) is in
    let others : List (List ℕ) = filter is_filled (slice_split is_white rest) in
    ap (filter is_filled) (slice_split_at is_white word 32 rest (black word parts.1) refl)
    ∙ ap (λ t. cond t (word ∷ others) others) parts.0

words-none : words [] ≡ []
unfolding words
words-none = refl

pub words-joined : (ws : List (List ℕ)) → list_all is_word ws ≡ true → words (join_with_byte 32 ws) ≡ ws
words-joined [] all = words-none
words-joined (w ∷ []) all = words-last w (and_parts (is_word w) true all).0
words-joined (w ∷ v ∷ ws) all =
    let parts = and_parts (is_word w) (list_all is_word (v ∷ ws)) all in
    words-more w (join_with_byte 32 (v ∷ ws)) parts.0
    ∙ ap (λ rest. w ∷ rest) (words-joined (v ∷ ws) parts.1)

-- ---- lines

joined-end : (ws : List (List ℕ)) → list_all is_word ws ≡ true → All IsNoEnd (join_with_byte 32 ws)
joined-end [] all = All-nil IsNoEnd
joined-end (w ∷ []) all =
    no_end w (and_parts (is_filled w) (list_all is_inside w) (and_parts (is_word w) true all).0).1
joined-end (w ∷ v ∷ ws) all =
    let parts = and_parts (is_word w) (list_all is_word (v ∷ ws)) all in
    All-append IsNoEnd w (32 ∷ join_with_byte 32 (v ∷ ws))
    (no_end w (and_parts (is_filled w) (list_all is_inside w) parts.0).1)
    (All-cons IsNoEnd 32 (join_with_byte 32 (v ∷ ws)) refl (joined-end (v ∷ ws) parts.1))

piece-first : (line rest : List ℕ) → All IsNoEnd line → pieces 10 (line ++ 10 ∷ rest) ≡ line ∷ pieces 10 rest
unfolding pieces
piece-first line rest all = slice_split_at (λ b. b == 10) line 10 rest all refl

pub line-first : (ws : List (List ℕ)) (rest : List ℕ) → list_all is_word ws ≡ true
    → lines (line_of ws ++ rest) ≡ join_with_byte 32 ws ∷ lines rest
line-first ws rest all =
    let line : List ℕ = join_with_byte 32 ws in
    ap lines (append_assoc line (10 ∷ []) rest)
    ∙ lines-cut (line ++ 10 ∷ rest) line rest (piece-first line rest (joined-end ws all))

pub no_lines : lines [] ≡ []
no_lines = lines-empty
