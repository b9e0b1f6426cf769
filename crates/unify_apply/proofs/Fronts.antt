-- The front of a text, what is behind it, and its last byte.
use Rattle.std.proofs.Common.{◌≡◌, ◌≢◌, ◌-◌, Bool, true, false, cond, ℕ, suc, zero, List, [], ◌∷◌, ◌++◌, drop, length, take, refl, ap, ◌∙◌, arith, length-append}
use Rattle.std.specs.Prelude.{Decides}
use Rattle.std.specs.Str.{bytes_eq}
use Rattle.std.proofs.lemmas.Slice.Eq.{bytes_eq-Decides}
use Rattle.idtext.specs.Pieces.{begins_with}
use Rattle.unify_apply.specs.Ends.{without_end}

join-parts : (n : ℕ) (text : List ℕ) → text ≡ take n text ++ drop n text
join-parts zero text = refl
join-parts (suc n) [] = refl
join-parts (suc n) (b ∷ bs) = ap (λ t. b ∷ t) (join-parts n bs)

pub front-of : (front rest : List ℕ) → take (length front) (front ++ rest) ≡ front
front-of [] rest = refl
front-of (b ∷ bs) rest = ap (λ t. b ∷ t) (front-of bs rest)

pub behind : (front rest : List ℕ) → drop (length front) (front ++ rest) ≡ rest
behind [] rest = refl
behind (b ∷ bs) rest = behind bs rest

pub front-is : (front text : List ℕ) → begins_with front text ≡ true
    → text ≡ front ++ drop (length front) text
front-is front text is =
    join-parts (length front) text
    ∙ ap (λ t. t ++ drop (length front) text)
    ((bytes_eq-Decides (take (length front) text) front).0 is)

pub begins : (front text : List ℕ)
    → Decides (begins_with front text) ((rest : List ℕ) × (text ≡ front ++ rest))
begins front text = (
  λ is. (drop (length front) text, front-is front text is),
  λ h. (bytes_eq-Decides (take (length front) text) front).1
      (ap (take (length front)) h.1 ∙ front-of front h.0),
)

pub last-of : (end b : ℕ) (text : List ℕ) → without_end (end ∷ []) (text ++ b ∷ []) ≡ cond (bytes_eq (b ∷ []) (end ∷ [])) text (text ++ b ∷ [])
last-of end b text =
    let whole : List ℕ = text ++ b ∷ [] in
    let long = length-append text (b ∷ []) in
    let less : length whole - 1 ≡ length text = omega (arith, long) in
    ap (λ n. cond (bytes_eq (drop n whole) (end ∷ [])) (take n whole) whole) less
    ∙ ap (λ d. cond (bytes_eq d (end ∷ [])) (take (length text) whole) whole) (behind text (b ∷ []))
    ∙ ap (λ t. cond (bytes_eq (b ∷ []) (end ∷ [])) t whole) (front-of text (b ∷ []))

other-byte : (end b : ℕ) → b ≢ end → bytes_eq (b ∷ []) (end ∷ []) ≡ false
other-byte end b apart = by (bytes_eq (b ∷ []) (end ∷ [])) refl
  where
    by : (t : Bool) → bytes_eq (b ∷ []) (end ∷ []) ≡ t → t ≡ false
    by true is = let same = (bytes_eq-Decides (b ∷ []) (end ∷ [])).0 is in absurd (apart (cc))
    by false is = refl

pub other-end : (end : ℕ) (text : List ℕ) (b : ℕ) → b ≢ end → without_end (end ∷ []) (text ++ b ∷ []) ≡ text ++ b ∷ []
other-end end text b apart = last-of end b text ∙ ap (λ t. cond t text (text ++ b ∷ [])) (other-byte end b apart)
