-- The heads of names stand in the order of the names.
use Rattle.std.proofs.Common.{◌≡◌, ℕ, zero, suc, ◌+◌, ◌*◌, ◌^◌, ◌<◌, ◌≤◌, false, List, [], ◌∷◌, length, map, get_or, refl, sym, ◌∙◌, ap, subst, arith, inl, inr, true≢false}
use Rattle.std.specs.Borrow.{Bor}
use Rattle.std.specs.List.{All}
use Rattle.std.specs.List.Sorted.{IsSorted}
use Rattle.std.specs.Cmp.{nat_cmp_is}
use Rattle.std.specs.Cmp.Lexicographic.{slice_cmp}
use Rattle.std.specs.declared.cmp.Ordering.{Ordering}
use Rattle.std.specs.declared.cmp.Ordering.TheVariants.{Less, Equal, Greater}
use Rattle.std.specs.Ordering.{nat_cmp, ordering_then, is_lt}
use Rattle.std.proofs.lemmas.Bool.{cases_eq, cases_lt}
use Rattle.std.proofs.lemmas.Nat.{pow-add, pow_below}
use Rattle.std.proofs.lemmas.List.{length-map, get_or-map}
use Rattle.std.proofs.lemmas.List.Elements.{All-head, All-tail}
use Rattle.hosts_join.specs.Heads.{HasItsHead, Headed, head_after, head_of, named}

-- one byte more is taken
pub taken : (n left head byte : ℕ) (rest others : List ℕ) → left ≡ suc n → rest ≡ byte ∷ others → head_after left head rest ≡ head_after n (head * 256 + byte) others
unfolding head_after
taken n left head byte rest others some is = (λ i. head_after (some i) head (is i))

-- or a zero, after the last
pub none_taken : (n left head : ℕ) (rest : List ℕ) → left ≡ suc n → rest ≡ [] → head_after left head rest ≡ head_after n (head * 256 + 0) rest
unfolding head_after
none_taken n left head rest some is = (λ i. head_after (some i) head (is i)) ∙ ap (λ h. head_after n h []) (omega arith) ∙ ap (head_after n (head * 256 + 0)) (sym is)

-- a number with one byte more
pub grown : (head byte k : ℕ) → head < 2 ^ (8 * k) → byte < 256 → head * 256 + byte < 2 ^ (8 * (k + 1))
grown head byte k small one =
    let more : 2 ^ (8 * (k + 1)) ≡ 2 ^ (8 * k) * 256 = ap (λ n. 2 ^ n) (omega arith) ∙ pow-add 2 (8 * k) 8 in
    omega (arith, small, one, more)

-- seven bytes leave room for one more
pub few : (head k : ℕ) → head < 2 ^ (8 * k) → k < 8 → head < 2 ^ 56
few head k small h = elim (cases_lt (8 * k) 56) [
  | inl less ↦ omega (arith, small, pow_below (8 * k) 56 less)
  | inr le ↦
      let seven : k ≡ 7 = omega (arith, h, le) in
      subst (λ n. head < 2 ^ (8 * n)) seven small
]

-- what is ahead stays ahead
ahead : (n a b : ℕ) (xs ys : List ℕ) → All (λ x. x < 256) xs → a < b → head_after n a xs < head_after n b ys
unfolding head_after
ahead zero a b xs ys bytes h = h
ahead (suc n) a b [] [] bytes h = ahead n (a * 256) (b * 256) [] [] bytes (omega (arith, h))
ahead (suc n) a b [] (y ∷ ys) bytes h = ahead n (a * 256) (b * 256 + y) [] ys bytes (omega (arith, h))
ahead (suc n) a b (x ∷ xs) [] bytes h = ahead n (a * 256 + x) (b * 256) xs [] (All-tail (λ x. x < 256) x xs bytes) (omega (arith, h, All-head (λ x. x < 256) x xs bytes))
ahead (suc n) a b (x ∷ xs) (y ∷ ys) bytes h = ahead n (a * 256 + x) (b * 256 + y) xs ys (All-tail (λ x. x < 256) x xs bytes) (omega (arith, h, All-head (λ x. x < 256) x xs bytes))

-- nothing is before the end of a name
least : (n a b : ℕ) (ys : List ℕ) → a ≤ b → head_after n a [] ≤ head_after n b ys
unfolding head_after
least zero a b ys h = h
least (suc n) a b [] h = least n (a * 256) (b * 256) [] (omega (arith, h))
least (suc n) a b (y ∷ ys) h = least n (a * 256) (b * 256 + y) ys (omega (arith, h))

-- the name with the lower head is first
first : (n a : ℕ) (xs ys : List ℕ) → All (λ x. x < 256) xs → All (λ y. y < 256) ys → head_after n a xs < head_after n a ys → slice_cmp nat_cmp ys xs ≡ Greater
unfolding head_after
first zero a xs ys bytes bytes' h = absurd (omega (arith, h))
first (suc n) a [] [] bytes bytes' h = absurd (omega (arith, h))
first (suc n) a [] (y ∷ ys) bytes bytes' h = refl
first (suc n) a (x ∷ xs) [] bytes bytes' h = absurd (omega (arith, h, least n (a * 256) (a * 256 + x) xs (omega arith)))
first (suc n) a (x ∷ xs) (y ∷ ys) bytes bytes' h = elim (cases_lt x y) [
  | inl less ↦ ap (λ o. ordering_then o (slice_cmp nat_cmp ys xs)) (sym (nat_cmp_is y x Greater less))
  | inr le ↦ elim (cases_eq x y) [
    | inl same ↦
        let here : head_after n (a * 256 + x) xs < head_after n (a * 256 + x) ys = subst (λ v. head_after n (a * 256 + x) xs < head_after n (a * 256 + v) ys) (sym same) h in
        ap (λ o. ordering_then o (slice_cmp nat_cmp ys xs)) (sym (nat_cmp_is y x Equal (sym same)))
        ∙ first n (a * 256 + x) xs ys (All-tail (λ x. x < 256) x xs bytes) (All-tail (λ y. y < 256) y ys bytes') here
    | inr other ↦
        let less : y < x = omega (arith, le, other) in
        absurd (omega (arith, h, ahead n (a * 256 + y) (a * 256 + x) ys xs (All-tail (λ y. y < 256) y ys bytes') (omega (arith, less))))
  ]
]

abbrev Named : Type 0
Named = Bor (List ℕ) × ℕ

abbrev by_name : Named → Named → Ordering
by_name p q = ordering_then (slice_cmp nat_cmp p.0.now q.0.now) (nat_cmp p.1 q.1)

abbrev by_head : Headed → Headed → Ordering
by_head p q = ordering_then (nat_cmp p.0 q.0) (by_name (named p) (named q))

in_order : (p q : Headed) → HasItsHead p → HasItsHead q → is_lt (by_head q p) ≡ false → is_lt (by_name (named q) (named p)) ≡ false
in_order p q has has' h = elim (cases_lt q.0 p.0) [
  | inl less ↦ absurd (true≢false (ap (λ o. is_lt (ordering_then o (by_name (named q) (named p)))) (nat_cmp_is q.0 p.0 Less less) ∙ h))
  | inr le ↦ elim (cases_eq q.0 p.0) [
    | inl same ↦ ap (λ o. is_lt (ordering_then o (by_name (named q) (named p)))) (nat_cmp_is q.0 p.0 Equal same) ∙ h
    | inr other ↦
        let less : head_of (named p).0.now < head_of (named q).0.now = omega (arith, le, other, has.is, has'.is) in
        ap (λ o. is_lt (ordering_then o (nat_cmp (named q).1 (named p).1))) (first 8 0 (named p).0.now (named q).0.now has.bytes has'.bytes less)
  ]
]

-- names that are sorted by their heads first are sorted
pub named_ascend : (xs : List Headed) → All HasItsHead xs → IsSorted by_head xs → IsSorted by_name (map named xs)
named_ascend xs heads s = λ k d low high.
    let d' : Headed = (0, (record { ref_ptr = (0, 0); now = [] }, 0)) in
    let high' : k + 1 < length xs = omega (arith, length-map xs named) in
    let here : k < length xs = omega arith in
    rw (get_or-map named xs (k + 1) d' d high', get_or-map named xs k d' d here) (in_order (get_or xs k d') (get_or xs (k + 1) d') (heads k d' here) (heads (k + 1) d' high') (s k d' low high'))
