-- Quotes at the ends of a word are dropped, and nothing else.
use Rattle.std.proofs.Common.{append_assoc, ◌≡◌, ◌≢◌, ℕ, cond, List, [], ◌∷◌, ◌++◌, reverse, refl, sym, ap, ◌∙◌, eqb, eq-eqb}
use Rattle.std.proofs.lemmas.Bool.{eqb-true, false_from_ne_true}
use Rattle.std.proofs.lemmas.List.{append-nil, reverse-append, reverse-reverse}
use Rattle.std.proofs.lemmas.List.Elements.{All-head, All-tail}
use Rattle.std.proofs.lemmas.List.Sorted.{All-permutation, IsPermutation-reverse}
use Rattle.logindefs.specs.Parameters.{without_quotes, without_quotes_in_front}
use Rattle.logindefs.specs.Quotes.{AreQuotes, HasBareEnds, QuotesAreDropped}

drop-quotes : (quotes rest : List ℕ) → AreQuotes quotes → without_quotes_in_front (quotes ++ rest) ≡ without_quotes_in_front rest
unfolding without_quotes_in_front
drop-quotes [] rest all = refl
drop-quotes (b ∷ bs) rest all =
    ap (λ t. cond t (without_quotes_in_front (bs ++ rest)) (b ∷ bs ++ rest)) (eq-eqb b 34 (All-head (λ b. b ≡ 34) b bs all))
    ∙ drop-quotes bs rest (All-tail (λ b. b ≡ 34) b bs all)

none-left : (quotes : List ℕ) → AreQuotes quotes → without_quotes_in_front quotes ≡ []
unfolding without_quotes_in_front
none-left quotes all = ap without_quotes_in_front (sym (append-nil quotes)) ∙ drop-quotes quotes [] all

kept-front : (word : List ℕ) → ((rest : List ℕ) → word ≢ 34 ∷ rest) → without_quotes_in_front word ≡ word
unfolding without_quotes_in_front
kept-front [] bare = refl
kept-front (b ∷ bs) bare =
    ap (λ t. cond t (without_quotes_in_front bs) (b ∷ bs))
    (false_from_ne_true (eqb b 34) (λ e. bare bs (ap (λ c. c ∷ bs) (eqb-true b 34 e))))

-- a word with a first byte that is no quote, and more after it
kept-both : (b : ℕ) (bs more : List ℕ) → ((rest : List ℕ) → b ∷ bs ≢ 34 ∷ rest) → without_quotes_in_front (b ∷ bs ++ more) ≡ b ∷ bs ++ more
kept-both b bs more bare = kept-front (b ∷ bs ++ more) (λ rest e. bare bs (let same : b ≡ 34 = cc in ap (λ c. c ∷ bs) same))

back-bare : (word : List ℕ) → HasBareEnds word → (rest : List ℕ) → reverse word ≢ 34 ∷ rest
back-bare word bare rest e =
    bare.back (reverse rest) (sym (reverse-reverse word) ∙ ap reverse e ∙ reverse-append (34 ∷ []) rest)

turned : (quotes : List ℕ) → AreQuotes quotes → AreQuotes (reverse quotes)
turned quotes all = All-permutation (λ b. b ≡ 34) quotes (reverse quotes) (IsPermutation-reverse quotes) all

back-dropped : (word behind : List ℕ) → HasBareEnds word → AreQuotes behind → reverse (without_quotes_in_front (reverse (word ++ behind))) ≡ word
back-dropped word behind bare all =
    ap (λ w. reverse (without_quotes_in_front w)) (reverse-append word behind)
    ∙ ap reverse (drop-quotes (reverse behind) (reverse word) (turned behind all) ∙ kept-front (reverse word) (back-bare word bare))
    ∙ reverse-reverse word

all-dropped : (front word behind : List ℕ) → AreQuotes front → HasBareEnds word → AreQuotes behind → without_quotes (front ++ (word ++ behind)) ≡ word
unfolding without_quotes_in_front
all-dropped front [] behind quotes bare all =
    ap (λ w. reverse (without_quotes_in_front (reverse w))) (drop-quotes front behind quotes ∙ none-left behind all)
all-dropped front (b ∷ bs) behind quotes bare all =
    ap (λ w. reverse (without_quotes_in_front (reverse w))) (drop-quotes front (b ∷ bs ++ behind) quotes ∙ kept-both b bs behind bare.front)
    ∙ back-dropped (b ∷ bs) behind bare all

pub quotes-dropped : QuotesAreDropped
quotes-dropped front word behind quotes bare all =
    ap without_quotes (append_assoc front word behind) ∙ all-dropped front word behind quotes bare all
