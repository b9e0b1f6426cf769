-- The users of a list are the texts between its commas that are not empty.
use Rattle.std.proofs.Common.{◌≡◌, ◌≢◌, ◌⊎◌, ℕ, zero, suc, ◌<◌, Bool, true, false, not, cond, ◌==◌, List, [], ◌∷◌, ◌++◌, length, filter, All, Contains, refl, sym, ap, ◌∙◌, arith, inl, inr, subst}
use Rattle.std.specs.List.{slice_split, onto_first, join_with_byte}
use Rattle.std.proofs.lemmas.Bool.{cases_Bool, eq-eqb, ne_eqb, true≢false}
use Rattle.std.proofs.lemmas.List.{append-nil, append_assoc}
use Rattle.std.proofs.lemmas.List.Elements.{All-nil, All-cons, All-contains, All-filter, filter-append, filter_passes, Contains-append_right, Contains-get_or}
use Rattle.std.proofs.lemmas.List.Splits.{slice_split_none, length-slice_split, join_with_byte-slice_split}
use Rattle.idtext.specs.Pieces.{pieces}
use Rattle.accounts.specs.Members.{EndsInComma, BeginsWithComma, StandsBetweenCommas, MayBeListed, ListsHaveTheirMembers, MembersStandInOrder}
use Rattle.accounts.specs.Rows.{members_of}

-- ---- pieces

onto-append : (x : ℕ) (ps qs : List (List ℕ)) → 0 < length ps → onto_first x (ps ++ qs) ≡ onto_first x ps ++ qs
onto-append x [] qs some = absurd (omega (arith, some))
onto-append x (p ∷ ps) qs some = refl

-- a text that is cut at one of its separators
split-two : (s : ℕ) (xs ys : List ℕ) → slice_split (λ b. b == s) (xs ++ s ∷ ys) ≡ slice_split (λ b. b == s) xs ++ slice_split (λ b. b == s) ys
split-two s [] ys = ap (λ b. cond b ([] ∷ slice_split (λ b. b == s) ys) (onto_first s (slice_split (λ b. b == s) ys))) (eq-eqb s s refl)
split-two s (x ∷ xs) ys = by (x == s) (split-two s xs ys)
  where
    by : (b : Bool) → slice_split (λ b. b == s) (xs ++ s ∷ ys) ≡ slice_split (λ b. b == s) xs ++ slice_split (λ b. b == s) ys → cond b ([] ∷ slice_split (λ b. b == s) (xs ++ s ∷ ys)) (onto_first x (slice_split (λ b. b == s) (xs ++ s ∷ ys))) ≡ cond b ([] ∷ slice_split (λ b. b == s) xs) (onto_first x (slice_split (λ b. b == s) xs)) ++ slice_split (λ b. b == s) ys
    by true cut = ap (λ l. [] ∷ l) cut
    by false cut = ap (onto_first x) cut ∙ onto-append x (slice_split (λ b. b == s) xs) (slice_split (λ b. b == s) ys) (omega (arith, length-slice_split (λ b. b == s) xs))

pub pieces-two : (s : ℕ) (xs ys : List ℕ) → pieces s (xs ++ s ∷ ys) ≡ pieces s xs ++ pieces s ys
unfolding pieces
pieces-two s xs ys = split-two s xs ys

-- a text without the separator is one piece
other : (s : ℕ) (text : List ℕ) → ¬ Contains text s → All (λ b. (b == s) ≡ false) text
other s text lacks k d lt = ne_eqb _ s (λ e. lacks (subst (Contains text) e (Contains-get_or text k d lt)))

pub pieces-one : (s : ℕ) (text : List ℕ) → ¬ Contains text s → pieces s text ≡ text ∷ []
unfolding pieces
pieces-one s text lacks = slice_split_none (λ b. b == s) text (other s text lacks)

-- and no piece has it
lacks-more : (s x : ℕ) (text : List ℕ) → (x == s) ≡ false → ¬ Contains text s → ¬ Contains (x ∷ text) s
lacks-more s x text apart lacks (zero, lt, e) = true≢false (sym (eq-eqb x s e) ∙ apart)
lacks-more s x text apart lacks (suc k, lt, e) = lacks (k, omega (arith, lt), e)

lacks-onto : (s x : ℕ) → (x == s) ≡ false → (ps : List (List ℕ)) → All (λ p. ¬ Contains p s) ps → All (λ p. ¬ Contains p s) (onto_first x ps)
lacks-onto s x apart [] all = All-cons (λ p. ¬ Contains p s) (x ∷ []) [] (lacks-more s x [] apart (λ c. omega (arith, c.1))) (All-nil (λ p. ¬ Contains p s))
lacks-onto s x apart (p ∷ ps) all = All-cons (λ p. ¬ Contains p s) (x ∷ p) ps (lacks-more s x p apart (all 0 [] (omega arith))) (λ k d lt. all (suc k) d (omega (arith, lt)))

split-lack : (s : ℕ) (text : List ℕ) → All (λ p. ¬ Contains p s) (slice_split (λ b. b == s) text)
split-lack s [] = All-cons (λ p. ¬ Contains p s) [] [] (λ c. omega (arith, c.1)) (All-nil (λ p. ¬ Contains p s))
split-lack s (x ∷ xs) = elim (cases_Bool (x == s)) [
  | inl t ↦ rw t (All-cons (λ p. ¬ Contains p s) [] (slice_split (λ b. b == s) xs) (λ c. omega (arith, c.1)) (split-lack s xs))
  | inr f ↦ rw f (lacks-onto s x f (slice_split (λ b. b == s) xs) (split-lack s xs))
]

pub pieces-lack : (s : ℕ) (text : List ℕ) → All (λ p. ¬ Contains p s) (pieces s text)
unfolding pieces
pieces-lack s text = split-lack s text

pub pieces-joined : (s : ℕ) (text : List ℕ) → join_with_byte s (pieces s text) ≡ text
unfolding pieces
pieces-joined s text = join_with_byte-slice_split s text

-- ---- in which order the users stand

filled : (user : List ℕ) → user ≢ [] → not (length user == 0) ≡ true
filled [] some = absurd (some refl)
filled (b ∷ bs) some = ap not (ne_eqb (length (b ∷ bs)) 0 (λ e. omega (arith, e)))

not-empty : (user : List ℕ) → not (length user == 0) ≡ true → user ≢ []
not-empty user is e = absurd (cc)

of-none : members_of [] ≡ []
unfolding members_of pieces
of-none = refl

of-one : (user : List ℕ) → MayBeListed user → members_of user ≡ user ∷ []
unfolding members_of
of-one user may = ap (filter (λ name. not (length name == 0))) (pieces-one 44 user may.1) ∙ ap (λ b. cond b (user ∷ []) []) (filled user may.0)

of-more : (list rest : List ℕ) → members_of (list ++ 44 ∷ rest) ≡ members_of list ++ members_of rest
unfolding members_of
of-more list rest = ap (filter (λ name. not (length name == 0))) (pieces-two 44 list rest) ∙ filter-append (λ name. not (length name == 0)) (pieces 44 list) (pieces 44 rest)

pub members_in_order : MembersStandInOrder
members_in_order = record { none = of-none; one = of-one; more = of-more }

-- ---- who they are

each-stands : (front : List ℕ) → (front ≡ []) ⊎ EndsInComma front → (ps : List (List ℕ)) → All (λ p. StandsBetweenCommas p (front ++ join_with_byte 44 ps)) ps
each-stands front from [] = All-nil (λ p. StandsBetweenCommas p (front ++ []))
each-stands front from (p ∷ []) =
    All-cons (λ q. StandsBetweenCommas q (front ++ p)) p [] (record { front = front; behind = []; there = sym (append-nil (front ++ p)); from = from; up_to = inl refl }) (All-nil (λ q. StandsBetweenCommas q (front ++ p)))
each-stands front from (p ∷ q ∷ ps) =
    let rest = join_with_byte 44 (q ∷ ps) in
    All-cons (λ u. StandsBetweenCommas u (front ++ (p ++ 44 ∷ rest))) p (q ∷ ps) (record { front = front; behind = 44 ∷ rest; there = sym (append_assoc front p (44 ∷ rest)); from = from; up_to = inr (rest, refl) })
    (subst (λ l. All (λ u. StandsBetweenCommas u l) (q ∷ ps)) (append_assoc (front ++ p) (44 ∷ []) rest ∙ append_assoc front p (44 ∷ rest)) (each-stands ((front ++ p) ++ 44 ∷ []) (inr (front ++ p, refl)) (q ∷ ps)))

on-list : (list user : List ℕ) → Contains (members_of list) user → MayBeListed user × StandsBetweenCommas user list
unfolding members_of
on-list list user has =
    let ps = pieces 44 list in
    let test = λ (name : List ℕ). not (length name == 0) in
    let some = All-contains (λ p. test p ≡ true) (filter test ps) user (filter_passes test ps) has in
    let lacks = All-contains (λ p. ¬ Contains p 44) (filter test ps) user (All-filter test (λ p. ¬ Contains p 44) ps (pieces-lack 44 list)) has in
    let stand = subst (λ l. All (λ p. StandsBetweenCommas p l) ps) (pieces-joined 44 list) (each-stands [] (inl refl) ps) in
    ((not-empty user some, lacks), All-contains (λ p. StandsBetweenCommas p list) (filter test ps) user (All-filter test (λ p. StandsBetweenCommas p list) ps stand) has)

first : (user behind : List ℕ) → MayBeListed user → (behind ≡ []) ⊎ BeginsWithComma behind → Contains (members_of (user ++ behind)) user
first user behind may (inl e) =
    subst (λ l. Contains l user) (sym (ap (λ l. members_of (user ++ l)) e ∙ ap members_of (append-nil user) ∙ of-one user may)) (0, omega arith, refl)
first user behind may (inr after) =
    subst (λ l. Contains l user) (sym (ap (λ l. members_of (user ++ l)) after.1 ∙ of-more user after.0 ∙ ap (λ l. l ++ members_of after.0) (of-one user may))) (0, omega arith, refl)

later : (front rest user : List ℕ) → (front ≡ []) ⊎ EndsInComma front → Contains (members_of rest) user → Contains (members_of (front ++ rest)) user
later front rest user (inl e) has = subst (λ l. Contains (members_of (l ++ rest)) user) (sym e) has
later front rest user (inr before) has =
    subst (λ l. Contains l user) (sym (ap (λ l. members_of (l ++ rest)) before.1 ∙ ap members_of (append_assoc before.0 (44 ∷ []) rest) ∙ of-more before.0 rest)) (Contains-append_right (members_of before.0) (members_of rest) user has)

listed : (list user : List ℕ) → MayBeListed user × StandsBetweenCommas user list → Contains (members_of list) user
listed list user is =
    subst (λ l. Contains (members_of l) user) (sym (is.1.there ∙ append_assoc is.1.front user is.1.behind)) (later is.1.front (user ++ is.1.behind) user is.1.from (first user is.1.behind is.0 is.1.up_to))

pub members_exact : ListsHaveTheirMembers
members_exact list user = (on-list list user, listed list user)
