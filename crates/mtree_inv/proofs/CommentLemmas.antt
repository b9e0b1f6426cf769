-- Lines that begin with a number sign, and others.
use Rattle.std.proofs.Common.{◌≡◌, ℕ, Bool, true, false, cond, ◌&&◌, List, [], ◌∷◌, refl, sym, ap, ◌∙◌, drop}
use Rattle.std.proofs.lemmas.Bool.{eqb-true, false≢true}
use Rattle.std.specs.Prelude.{codes, filter}
use Rattle.std.specs.List.{slice_split, onto_first}
use Rattle.idtext.specs.Pieces.{begins_with}
use Rattle.idtext.specs.Words.{is_white, is_filled, words}
use Rattle.mtree_inv.specs.Kinds.{Kind, Ignored, Begins, Counts, first_byte_is, kind_of_text, kind_of_words}

-- one that does not
pub other-kind : (text : List ℕ) → first_byte_is 35 text ≡ false → kind_of_text text ≡ kind_of_words (words text)
other-kind [] none = refl
other-kind (b ∷ text) none =
    ap (λ (t : Bool). cond (t && begins_with (drop 1 (codes "# unify inventory ")) text) Begins (cond (t && begins_with (drop 1 (codes "# end ")) text) (Counts (drop 6 (b ∷ text))) (kind_of_words (words (b ∷ text))))) none

-- one that does, and is neither of the two
comment-ignored : (text : List ℕ) → first_byte_is 35 text ≡ true → kind_of_words (words text) ≡ Ignored
unfolding words
comment-ignored [] is = absurd (false≢true is)
comment-ignored (b ∷ text) is = ap (λ (n : ℕ). kind_of_words (words (n ∷ text))) (eqb-true b 35 is) ∙ by (slice_split is_white text)
  where
    by : (parts : List (List ℕ)) → kind_of_words (filter is_filled (onto_first 35 parts)) ≡ Ignored
    by [] = refl
    by (part ∷ parts) = refl

-- a line that its words do not show to say nothing is of the kind that they show
pub kind-by-words : (text : List ℕ) (kind : Kind) → kind_of_words (words text) ≡ kind → (Ignored ≡ kind → ⊥) → kind_of_text text ≡ kind
kind-by-words text kind is other = by (first_byte_is 35 text) refl
  where
    by : (b : Bool) → first_byte_is 35 text ≡ b → kind_of_text text ≡ kind
    by true e = absurd (other (sym (comment-ignored text e) ∙ is))
    by false e = other-kind text e ∙ is

pub comment-kind : (text : List ℕ) → first_byte_is 35 text ≡ true → begins_with (codes "# unify inventory ") text ≡ false → begins_with (codes "# end ") text ≡ false → kind_of_text text ≡ Ignored
comment-kind text is begins ends =
    ap (λ (t : Bool). cond t Begins (cond (begins_with (codes "# end ") text) (Counts (drop 6 text)) (kind_of_words (words text)))) begins
    ∙ ap (λ (t : Bool). cond t (Counts (drop 6 text)) (kind_of_words (words text))) ends ∙ comment-ignored text is
