-- The words of a first line, and that they are read back.
use Rattle.std.proofs.Common.{◌≡◌, ℕ, Bool, true, false, ◌==◌, All, List, [], ◌∷◌, ◌++◌, refl, ap, ◌∙◌, arith, append-nil}
use Rattle.std.specs.Prelude.{nat_le, map}
use Rattle.std.specs.List.{slice_split}
use Rattle.std.proofs.lemmas.Bool.{and_parts, leb-true, eqb-true}
use Rattle.std.proofs.lemmas.List.Elements.{All-head, All-tail, All-nil, All-cons}
use Rattle.std.proofs.lemmas.List.Splits.{slice_split_at, slice_split_none}
use Rattle.idtext.specs.Escapes.{escaped, unescaped}
use Rattle.idtext.specs.Pieces.{pieces}
use Rattle.idtext.proofs.EscapeLemmas.{escaped-back}
use Rattle.mtree_inv.specs.Logical.{ends_in_backslash}
use Rattle.inventory_text.specs.Writing.{words_text}
use Rattle.inventory_text.specs.Heads.{head_of_words}
use Rattle.inventory_text.specs.ReadBack.{HeadsReadBack, IsBytes}
use Rattle.inventory_text.proofs.Visible.{ends-either, ends-escaped, escaped-visible, is_printed, is_visible, printed-append, visible-printed}

-- ---- words in a line

pub words-printed : (words : List (List ℕ)) → is_printed (words_text words) ≡ true
words-printed [] = refl
words-printed (w ∷ ws) = printed-append (32 ∷ escaped w) (words_text ws) (visible-printed (escaped w) (escaped-visible w)) (words-printed ws)

pub words-end : (words : List (List ℕ)) → ends_in_backslash (words_text words) ≡ false
words-end [] = refl
words-end (w ∷ ws) = ends-either (32 ∷ escaped w) (words_text ws) (ends-either (32 ∷ []) (escaped w) refl (ends-escaped w)) (words-end ws)

pub no_space : (word : List ℕ) → is_visible word ≡ true → All (λ b. (b == 32) ≡ false) word
no_space [] h = All-nil (λ (b : ℕ). (b == 32) ≡ false)
no_space (b ∷ word) h =
    let parts = and_parts (nat_le 33 b) (is_visible word) h in
    All-cons (λ (b : ℕ). (b == 32) ≡ false) b word (other (b == 32) refl parts.0) (no_space word parts.1)
  where
    other : (t : Bool) → (b == 32) ≡ t → nat_le 33 b ≡ true → t ≡ false
    other true e h = absurd (omega (arith, eqb-true b 32 e, leb-true 33 b h))
    other false e h = refl

-- ---- what is read of them

pieces-back : (word : List ℕ) (more : List (List ℕ)) → pieces 32 (escaped word ++ words_text more) ≡ escaped word ∷ map escaped more
unfolding pieces
pieces-back word [] =
    ap (slice_split (λ b. b == 32)) (append-nil (escaped word))
    ∙ slice_split_none (λ b. b == 32) (escaped word) (no_space (escaped word) (escaped-visible word))
pieces-back word (m ∷ ms) =
    slice_split_at (λ b. b == 32) (escaped word) 32 (escaped m ++ words_text ms) (no_space (escaped word) (escaped-visible word)) refl
    ∙ ap (λ ps. escaped word ∷ ps) (pieces-back m ms)

bytes-back : (words : List (List ℕ)) → All IsBytes words → map unescaped (map escaped words) ≡ words
bytes-back [] all = refl
bytes-back (w ∷ ws) all =
    ap (λ (bs : List ℕ). bs ∷ map unescaped (map escaped ws)) (escaped-back w (All-head IsBytes w ws all)).0
    ∙ ap (λ (rest : List (List ℕ)). w ∷ rest) (bytes-back ws (All-tail IsBytes w ws all))

pub head-back : HeadsReadBack
head-back head is =
    let words : List (List ℕ) = head.host ∷ head.time ∷ head.roots in
    ap (λ (ps : List (List ℕ)). head_of_words (map unescaped ps)) (pieces-back head.host (head.time ∷ head.roots))
    ∙ ap head_of_words (bytes-back words (All-cons IsBytes head.host (head.time ∷ head.roots) is.host (All-cons IsBytes head.time head.roots is.time is.roots)))
