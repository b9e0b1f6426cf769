-- The names of a written map, and their numbers.
use Rattle.std.proofs.Common.{◌≡◌, ℕ, zero, suc, ◌<◌, ◌≤◌, ◌||◌, Bool, true, false, List, [], ◌∷◌, ◌++◌, length, map, get_or, Option, Some, None, refl, sym, ap, ◌∙◌, arith, inl, inr}
use Rattle.std.specs.List.{list_any, AllByRecursion}
use Rattle.std.specs.Str.{bytes_eq}
use Rattle.std.proofs.lemmas.Bool.{cases_Bool, cases_lt}
use Rattle.std.proofs.lemmas.List.{get_or_past, map_push}
use Rattle.std.proofs.lemmas.List.Folds.{list_any-append}
use Rattle.std.proofs.lemmas.List.Elements.{recursion_from_All}
use Rattle.idtext.specs.Names.{is_lawful_name}
use Rattle.hosts_join.specs.Accounts.{Account, Accounts, Pair, no_account, place_of}
use Rattle.hosts_join.specs.Pairs.{number_of}
use Rattle.hosts_join.specs.Rules.{account, is_name}
use Rattle.hosts_join.proofs.Grouping.{bytes_same, bytes_refl, bytes_sym}
use Rattle.ownership.specs.Mappings.{IsMapping, number_at, number_under}
use Rattle.mergedfiles.specs.Order.{put, in_order, by_bytes}
use Rattle.unify_texts.specs.WrittenMap.{pair_for, numbered, SayMapping, IsMappingOf, WrittenMapsReadBack}
use Rattle.unify_texts.proofs.MapLines.{place_named}
use Rattle.unify_texts.proofs.MapBack.{IsPair, FreshAfter, listed, listed-some, read_back}

-- ---- names in order are the same names

-- no name stands twice
abbrev NotTwice : List (List ℕ) → Type 0
NotTwice [] = Unit {0}
NotTwice (n ∷ ns) = (list_any (bytes_eq n) ns ≡ false) × NotTwice ns

module _ (before : List ℕ → List ℕ → Bool) where
  any-put : (t : List ℕ → Bool) (x : List ℕ) (ys : List (List ℕ)) → list_any t (put before x ys) ≡ (t x || list_any t ys)
  any-put t x [] = refl
  any-put t x (y ∷ ys) = elim (cases_Bool (before x y)) [ inl e ↦ rw e refl | inr e ↦ rw (e, any-put t x ys) (turned (t x) (t y) (list_any t ys)) ]
    where
      turned : (p q r : Bool) → (q || (p || r)) ≡ (p || (q || r))
      turned true true r = refl
      turned true false r = refl
      turned false q r = refl

  any-ordered : (t : List ℕ → Bool) (xs : List (List ℕ)) → list_any t (in_order before xs) ≡ list_any t xs
  unfolding in_order
  any-ordered t [] = refl
  any-ordered t (x ∷ xs) = any-put t x (in_order before xs) ∙ ap (λ b. t x || b) (any-ordered t xs)

  all-put : (P : List ℕ → Type 0) (x : List ℕ) (ys : List (List ℕ)) → P x → AllByRecursion P ys → AllByRecursion P (put before x ys)
  all-put P x [] p all = (p, tt)
  all-put P x (y ∷ ys) p all = elim (cases_Bool (before x y)) [ inl e ↦ rw e (p, all) | inr e ↦ rw e (all.0, all-put P x ys p all.1) ]

  pub all-ordered : (P : List ℕ → Type 0) (xs : List (List ℕ)) → AllByRecursion P xs → AllByRecursion P (in_order before xs)
  unfolding in_order
  all-ordered P [] all = tt
  all-ordered P (x ∷ xs) all = all-put P x (in_order before xs) all.0 (all-ordered P xs all.1)

  neither : (p q : Bool) → (p || q) ≡ false → (p ≡ false) × (q ≡ false)
  neither true q e = absurd (cc)
  neither false q e = (refl, e)

  once-put : (x : List ℕ) (ys : List (List ℕ)) → list_any (bytes_eq x) ys ≡ false → NotTwice ys → NotTwice (put before x ys)
  once-put x [] new once = (refl, tt)
  once-put x (y ∷ ys) new once =
      let apart = neither (bytes_eq x y) (list_any (bytes_eq x) ys) new in
      elim (cases_Bool (before x y)) [
        | inl e ↦ rw e (new, once)
        | inr e ↦ rw e (any-put (bytes_eq y) x ys ∙ ap (λ b. b || list_any (bytes_eq y) ys) (bytes_sym y x ∙ apart.0) ∙ once.0, once-put x ys apart.1 once.1)
      ]

  once-ordered : (xs : List (List ℕ)) → NotTwice xs → NotTwice (in_order before xs)
  unfolding in_order
  once-ordered [] once = tt
  once-ordered (x ∷ xs) once = once-put x (in_order before xs) (any-ordered (bytes_eq x) xs ∙ once.0) (once-ordered xs once.1)

-- ---- the names of joined accounts

abbrev pub names_of : List Account → List (List ℕ)
names_of xs = map (λ (x : Account). x.name) xs

other_name : (n : List ℕ) (xs : List Account) → ((j : ℕ) → j < length xs → n ≡ (get_or xs j no_account).name → ⊥) → list_any (bytes_eq n) (names_of xs) ≡ false
other_name n [] other = refl
other_name n (x ∷ xs) other = elim (cases_Bool (bytes_eq n x.name)) [
  | inl t ↦ absurd (other zero (omega arith) (bytes_same n x.name t))
  | inr f ↦ rw f (other_name n xs (λ j l e. other (suc j) (omega (arith, l)) e))
]

differ_once : (xs : List Account) → ((i j : ℕ) → i < length xs → j < length xs → (get_or xs i no_account).name ≡ (get_or xs j no_account).name → i ≡ j) → NotTwice (names_of xs)
differ_once [] differ = tt
differ_once (x ∷ xs) differ = (
  other_name x.name xs (λ j l e. let same : zero ≡ suc j = differ zero (suc j) (omega arith) (omega (arith, l)) e in absurd (omega (arith, same))),
  differ_once xs (λ i j a b e. let same : suc i ≡ suc j = differ (suc i) (suc j) (omega (arith, a)) (omega (arith, b)) e in omega (arith, same)),
)

any-names : (n : List ℕ) (xs : List Account) → list_any (bytes_eq n) (names_of xs) ≡ is_name xs n
any-names n [] = refl
any-names n (x ∷ xs) = ap (λ b. bytes_eq n x.name || b) (any-names n xs)

all_names : (xs : List Account) → AllByRecursion (λ (x : Account). is_lawful_name x.name ≡ true) xs → AllByRecursion (λ n. is_lawful_name n ≡ true) (names_of xs)
all_names [] all = tt
all_names (x ∷ xs) all = (all.0, all_names xs all.1)

any_here : (t : Account → Bool) (xs : List Account) (i : ℕ) → i < length xs → t (get_or xs i no_account) ≡ true → list_any t xs ≡ true
any_here t [] i h e = absurd (omega (arith, h))
any_here t (x ∷ xs) zero h e = rw e refl
any_here t (x ∷ xs) (suc i) h e = elim (cases_Bool (t x)) [ inl p ↦ rw p refl | inr p ↦ rw p (any_here t xs i (omega (arith, h)) e) ]

-- ---- a mapping of them

number_small : (m : List ℕ) (o : Option ℕ) → IsMapping m → number_under m o 0 ≤ 4294967294
number_small m None is = omega arith
number_small m (Some i) is = elim (cases_lt i (length m)) [
  | inl l ↦ is.ids i 0 l
  | inr l ↦ let none : number_at m i ≡ 0 = get_or_past m i 0 l in omega (arith, none)
]

module _ (a : Accounts) (m : List ℕ) (is : IsMappingOf a m) where
  abbrev pair : List ℕ → Pair
  pair n = pair_for a m n

  pairs_lawful : (ns : List (List ℕ)) → AllByRecursion (λ n. is_lawful_name n ≡ true) ns → AllByRecursion IsPair (map pair ns)
  pairs_lawful [] all = tt
  pairs_lawful (n ∷ ns) all = ((all.0, number_small m (place_of a.names n) is.numbers), pairs_lawful ns all.1)

  listed-pairs : (n : List ℕ) (ns : List (List ℕ)) → listed n (map pair ns) ≡ list_any (bytes_eq n) ns
  listed-pairs n [] = refl
  listed-pairs n (o ∷ ns) = ap (λ b. bytes_eq n o || b) (listed-pairs n ns)

  found : (n : List ℕ) (ns : List (List ℕ)) → list_any (bytes_eq n) ns ≡ true → number_of (map pair ns) n ≡ Some (number_under m (place_of a.names n) 0)
  found n [] there = absurd (cc)
  found n (o ∷ ns) there = elim (cases_Bool (bytes_eq n o)) [
    | inl t ↦ let e : o ≡ n = sym (bytes_same n o t) in rw t (ap (λ k. Some (number_under m (place_of a.names k) 0)) e)
    | inr f ↦ let there' = rw f at there in rw f (found n ns there')
  ]

  -- seen are the names so far
  pairs_fresh : (seen ns : List (List ℕ)) → AllByRecursion (λ n. list_any (bytes_eq n) seen ≡ false) ns → NotTwice ns → FreshAfter (map pair seen) (map pair ns)
  pairs_fresh seen [] new once = tt
  pairs_fresh seen (n ∷ ns) new once =
      (listed-pairs n seen ∙ new.0, rw (← map_push pair seen n) (pairs_fresh (seen ++ n ∷ []) ns (new_more n ns new.1 once.0) once.1))
    where
      new_more : (n : List ℕ) (ns : List (List ℕ)) → AllByRecursion (λ o. list_any (bytes_eq o) seen ≡ false) ns → list_any (bytes_eq n) ns ≡ false → AllByRecursion (λ o. list_any (bytes_eq o) (seen ++ n ∷ []) ≡ false) ns
      new_more n [] new other = tt
      new_more n (o ∷ ns) new other = elim (cases_Bool (bytes_eq n o)) [
        | inl t ↦ let other' = rw t at other in absurd (cc)
        | inr f ↦ let other' = rw f at other in (list_any-append (bytes_eq o) seen (n ∷ []) ∙ ap (λ b. b || (bytes_eq o n || false)) new.0 ∙ ap (λ b. b || false) (bytes_sym o n ∙ f), new_more n ns new.1 other')
      ]

  all_new : (ns : List (List ℕ)) → AllByRecursion (λ n. list_any (bytes_eq n) [] ≡ false) ns
  all_new [] = tt
  all_new (n ∷ ns) = (refl, all_new ns)

  pub map_pairs : AllByRecursion IsPair (numbered a m)
  map_pairs = pairs_lawful (by_bytes a) (all-ordered _ (λ n. is_lawful_name n ≡ true) (names_of a.names) (all_names a.names (recursion_from_All (λ (x : Account). is_lawful_name x.name ≡ true) a.names is.lawful.lawful)))

  pub map_fresh : FreshAfter [] (numbered a m)
  map_fresh = pairs_fresh [] (by_bytes a) (all_new (by_bytes a)) (once-ordered _ (names_of a.names) (differ_once a.names is.lawful.names_differ))

  pub map_says : SayMapping a m (numbered a m)
  map_says = record {
    numbers = λ i h.
        let n = (account a i).name in
        let there : list_any (bytes_eq n) (by_bytes a) ≡ true = any-ordered _ (bytes_eq n) (names_of a.names) ∙ any-names n a.names ∙ any_here (λ x. bytes_eq n x.name) a.names i h (bytes_refl n) in
        found n (by_bytes a) there ∙ ap (λ o. Some (number_under m o 0)) (place_named a i is.lawful h);
    names = λ n. listed-some n (numbered a m) ∙ listed-pairs n (by_bytes a) ∙ any-ordered _ (bytes_eq n) (names_of a.names) ∙ any-names n a.names;
  }

pub written_map_reads_back : WrittenMapsReadBack
written_map_reads_back site m users groups = record {
  pairs = record { users = numbered site.users m.users; groups = numbered site.groups m.groups };
  read = read_back (numbered site.users m.users) (numbered site.groups m.groups) (map_pairs site.users m.users users) (map_pairs site.groups m.groups groups) (map_fresh site.users m.users users) (map_fresh site.groups m.groups groups);
  users = map_says site.users m.users users;
  groups = map_says site.groups m.groups groups;
}
