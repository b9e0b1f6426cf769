-- Steps of loops over rows and users.
use Rattle.std.proofs.Common.{◌≡◌, ℕ, zero, suc, ◌+◌, ◌<◌, Bool, true, false, not, cond, List, [], ◌∷◌, ◌++◌, length, map, take, get_or, Option, Some, None, refl, sym, ◌∙◌, ap, inl, inr, arith, append_assoc}
use Rattle.std.proofs.lemmas.List.Elements.{filter_map-append}
use Rattle.std.specs.Borrow.{Bor}
use Rattle.std.specs.List.{filter_map, cons_option, join_with_byte, enumerate_from, list_any, flat_map}
use Rattle.std.specs.Str.{bytes_eq}
use Rattle.std.proofs.lemmas.Bool.{cases_Bool}
use Rattle.std.proofs.lemmas.List.{take_more, map-append, append-nil, length-take, length-map}
use Rattle.hosts_join.specs.Accounts.{first_appearances}
use Rattle.hosts_join.proofs.Grouping.{first_appearances-push}
use Rattle.accounts.specs.Rows.{members_of}
use Rattle.std.proofs.lemmas.List.Concat.{flat_map-append}
use Rattle.mergedfiles.specs.Rows.{GroupRow, first_of, all_members}
use Rattle.mergedfiles.specs.Seen.{group_seen}
use Rattle.mergedfiles.specs.declared.rows.GroupOn.{GroupOn}

pub nothing-first : {Y : Type 0} (o : Option Y) (ys : List Y) → cons_option o ys ≡ [] → (o ≡ None) × (ys ≡ [])
nothing-first None ys e = (refl, e)
nothing-first (Some y) ys e = absurd (cc)

-- the first that f gives, after those where it gives nothing
pub first_found : {X Y : Type 0} (f : X → Option Y) (xs : List X) (i : ℕ) (d : X) (y : Y) → i < length xs → filter_map f (take i xs) ≡ [] → f (get_or xs i d) ≡ Some y → first_of (filter_map f xs) ≡ Some y
first_found f [] i d y h none some = absurd (omega arith)
first_found f (z ∷ xs) zero d y h none some = rw some refl
first_found f (z ∷ xs) (suc i) d y h none some =
    let parts = nothing-first (f z) (filter_map f (take i xs)) none in
    rw parts.0 (first_found f xs i d y (omega arith) parts.1 some)

-- one item more that f gives nothing of
pub none_more : {X Y : Type 0} (f : X → Option Y) (xs : List X) (i : ℕ) (d : X) → i < length xs → filter_map f (take i xs) ≡ [] → f (get_or xs i d) ≡ None → filter_map f (take (i + 1) xs) ≡ []
none_more f xs i d h none this = ap (filter_map f) (take_more xs i d h) ∙ filter_map-append f (take i xs) (get_or xs i d ∷ []) ∙ ap (λ t. t ++ filter_map f (get_or xs i d ∷ [])) none ∙ ap (λ o. cons_option o []) this

any-texts : (n : List ℕ) (seen : List (Bor (List ℕ))) → list_any (bytes_eq n) (map (λ (user : Bor (List ℕ)). user.now) seen) ≡ list_any (λ (k : Bor (List ℕ)). bytes_eq n k.now) seen
any-texts n [] = refl
any-texts n (k ∷ seen) = elim (cases_Bool (bytes_eq n k.now)) [ inl t ↦ rw t refl | inr f ↦ rw f (any-texts n seen) ]

-- a set and a list that keep the same users
pub same_users : (keys keys' once once' : List (Bor (List ℕ))) (x : Bor (List ℕ)) (b f : Bool) → keys' ≡ cond b keys (keys ++ x ∷ []) → f ≡ not b → keys ≡ once → (f ≡ true → once' ≡ once ++ x ∷ []) → (f ≡ false → once' ≡ once) → keys' ≡ once'
same_users keys keys' once once' x true f e a s added kept = e ∙ s ∙ sym (kept a)
same_users keys keys' once once' x false f e a s added kept = e ∙ ap (λ ks. ks ++ x ∷ []) s ∙ sym (added a)

-- one user more
pub once_more : (seen users : List (Bor (List ℕ))) (i : ℕ) (d : Bor (List ℕ)) → i < length users
    → map (λ (user : Bor (List ℕ)). user.now) seen ≡ first_appearances (map (λ (user : Bor (List ℕ)). user.now) (take i users))
    → map (λ (user : Bor (List ℕ)). user.now) (cond (list_any (λ (k : Bor (List ℕ)). bytes_eq (get_or users i d).now k.now) seen) seen (seen ++ get_or users i d ∷ [])) ≡ first_appearances (map (λ (user : Bor (List ℕ)). user.now) (take (i + 1) users))
once_more seen users i d h told =
    let more : map (λ (user : Bor (List ℕ)). user.now) (take (i + 1) users) ≡ map (λ (user : Bor (List ℕ)). user.now) (take i users) ++ (get_or users i d).now ∷ [] =
    ap (map (λ (user : Bor (List ℕ)). user.now)) (take_more users i d h) ∙ map-append (λ (user : Bor (List ℕ)). user.now) (take i users) (get_or users i d ∷ []) in
    let pushed = first_appearances-push (map (λ (user : Bor (List ℕ)). user.now) (take i users)) (get_or users i d).now in
    let any = any-texts (get_or users i d).now seen in
    rw (more, pushed, ← told, any) (elim (cases_Bool (list_any (λ (k : Bor (List ℕ)). bytes_eq (get_or users i d).now k.now) seen)) [
      | inl t ↦ rw t refl
      | inr f ↦ rw f (map-append (λ (user : Bor (List ℕ)). user.now) seen (get_or users i d ∷ []))
    ])

-- one more text after a comma
join-push : (xs : List (List ℕ)) (x : List ℕ) → 0 < length xs → join_with_byte 44 (xs ++ x ∷ []) ≡ join_with_byte 44 xs ++ 44 ∷ x
join-push [] x h = absurd (omega arith)
join-push (y ∷ []) x h = refl
join-push (y ∷ z ∷ xs) x h = ap (λ t. y ++ 44 ∷ t) (join-push (z ∷ xs) x (omega arith)) ∙ sym (append_assoc y (44 ∷ join_with_byte 44 (z ∷ xs)) (44 ∷ x))

pub joined_first : (users : List (Bor (List ℕ))) (i : ℕ) (d : Bor (List ℕ)) → i < length users → i ≡ 0
    → join_with_byte 44 (map (λ (user : Bor (List ℕ)). user.now) (take (i + 1) users)) ≡ (get_or users i d).now
joined_first users i d h none = rw (take_more users i d h, none) refl

pub joined_more : (users : List (Bor (List ℕ))) (i : ℕ) (d : Bor (List ℕ)) → i < length users → 0 < i
    → join_with_byte 44 (map (λ (user : Bor (List ℕ)). user.now) (take (i + 1) users)) ≡ join_with_byte 44 (map (λ (user : Bor (List ℕ)). user.now) (take i users)) ++ 44 ∷ (get_or users i d).now
joined_more users i d h some =
    let front = map (λ (user : Bor (List ℕ)). user.now) (take i users) in
    let long : 0 < length front = omega (arith, length-map (take i users) (λ (user : Bor (List ℕ)). user.now), length-take i users) in
    ap (λ t. join_with_byte 44 (map (λ (user : Bor (List ℕ)). user.now) t)) (take_more users i d h)
    ∙ ap (join_with_byte 44) (map-append (λ (user : Bor (List ℕ)). user.now) (take i users) (get_or users i d ∷ []))
    ∙ join-push front (get_or users i d).now long

enumerate-push : {X : Type 0} (n : ℕ) (xs : List X) (x : X) → enumerate_from n (xs ++ x ∷ []) ≡ enumerate_from n xs ++ (n + length xs, x) ∷ []
enumerate-push n [] x = let e : n ≡ n + 0 = omega arith in ap (λ k. (k, x) ∷ []) e
enumerate-push n (y ∷ xs) x = let e : n + 1 + length xs ≡ n + suc (length xs) = omega arith in
    ap (λ t. (n, y) ∷ t) (enumerate-push (n + 1) xs x ∙ ap (λ k. enumerate_from (n + 1) xs ++ (k, x) ∷ []) e)

pub enumerate_more : (xs : List ℕ) (i : ℕ) → i < length xs → enumerate_from 0 (take (i + 1) xs) ≡ enumerate_from 0 (take i xs) ++ (i, get_or xs i 0) ∷ []
enumerate_more xs i h =
    let e : 0 + length (take i xs) ≡ i = omega (arith, length-take i xs) in
    ap (enumerate_from 0) (take_more xs i 0 h) ∙ enumerate-push 0 (take i xs) (get_or xs i 0) ∙ ap (λ k. enumerate_from 0 (take i xs) ++ (k, get_or xs i 0) ∷ []) e

-- the users of one row more
pub members_more : (xs : List GroupOn) (i : ℕ) (d : GroupOn) (old new : List (List ℕ)) → i < length xs → old ≡ all_members (map group_seen (take i xs)) → new ≡ old ++ members_of (group_seen (get_or xs i d)).row.members → new ≡ all_members (map group_seen (take (i + 1) xs))
members_more xs i d old new h before after =
    after ∙ ap (λ t. t ++ members_of (group_seen (get_or xs i d)).row.members) before
    ∙ ap (λ t. all_members (map group_seen (take i xs)) ++ t) (sym (append-nil (members_of (group_seen (get_or xs i d)).row.members)))
    ∙ sym (flat_map-append (λ (g : GroupRow). members_of g.row.members) (map group_seen (take i xs)) (group_seen (get_or xs i d) ∷ []))
    ∙ ap all_members (sym (map-append group_seen (take i xs) (get_or xs i d ∷ [])))
    ∙ ap (λ t. all_members (map group_seen t)) (sym (take_more xs i d h))

-- one row more
pub rows_more : {X : Type 0} (f : X → List ℕ) (xs : List X) (i : ℕ) (d : X) (old new row : List ℕ) → i < length xs → old ≡ flat_map f (take i xs) → new ≡ old ++ row → row ≡ f (get_or xs i d) → new ≡ flat_map f (take (i + 1) xs)
rows_more f xs i d old new row h before after is =
    after ∙ ap (λ t. t ++ row) before ∙ ap (λ t. flat_map f (take i xs) ++ t) (is ∙ sym (append-nil (f (get_or xs i d)))) ∙ sym (flat_map-append f (take i xs) (get_or xs i d ∷ [])) ∙ ap (flat_map f) (sym (take_more xs i d h))

-- one item more that f may give something of
pub given_more : {X Y : Type 0} (f : X → Option Y) (xs : List X) (i : ℕ) (d : X) → i < length xs → filter_map f (take (i + 1) xs) ≡ filter_map f (take i xs) ++ cons_option (f (get_or xs i d)) []
given_more f xs i d h = ap (filter_map f) (take_more xs i d h) ∙ filter_map-append f (take i xs) (get_or xs i d ∷ [])

pub one_given : {Y : Type 0} (before all next : List Y) (o : Option Y) (y : Y) → before ≡ all → o ≡ Some y → next ≡ before ++ y ∷ [] → next ≡ all ++ cons_option o []
one_given before all next o y a b c = rw (b, ← a) c

pub none_given : {Y : Type 0} (before all : List Y) (o : Option Y) → before ≡ all → o ≡ None → before ≡ all ++ cons_option o []
none_given before all o a b = rw (b, append-nil) a

-- what is told of one name more
pub told_more : {A X P : Type 0} (f : P → List A) (see : X → P) (start : List A) (xs : List X) (i : ℕ) (d : X) (old new row : List A) → i < length xs → old ≡ start ++ flat_map f (map see (take i xs)) → new ≡ old ++ row → row ≡ f (see (get_or xs i d)) → new ≡ start ++ flat_map f (map see (take (i + 1) xs))
told_more f see start xs i d old new row h before after is =
    after ∙ ap (λ t. t ++ row) before ∙ append_assoc start (flat_map f (map see (take i xs))) row
    ∙ ap (λ t. start ++ t) (ap (λ t. flat_map f (map see (take i xs)) ++ t) (is ∙ sym (append-nil (f (see (get_or xs i d))))) ∙ sym (flat_map-append f (map see (take i xs)) (see (get_or xs i d) ∷ []))
    ∙ ap (flat_map f) (sym (map-append see (take i xs) (get_or xs i d ∷ [])) ∙ ap (map see) (sym (take_more xs i d h))))
