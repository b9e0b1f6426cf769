-- The map that is written is a pins text.
use Rattle.std.proofs.Common.{◌≡◌, ℕ, zero, suc, ◌+◌, ◌<◌, ◌≤◌, ◌==◌, Bool, true, false, List, [], ◌∷◌, ◌++◌, length, map, flat_map, get_or, Some, None, Ok, refl, sym, ap, ◌∙◌, append_assoc, append-nil, length-append, arith, inl, inr}
use Rattle.std.specs.Prelude.{is_some, nat_lt}
use Rattle.std.specs.List.{list_any, AllByRecursion}
use Rattle.std.specs.Str.{bytes_eq}
use Rattle.std.proofs.lemmas.Bool.{cases_Bool, eqb-true, lt-ltb}
use Rattle.std.proofs.lemmas.List.{length-map}
use Rattle.idtext.specs.First.{first_fault, unless}
use Rattle.idtext.specs.Pieces.{lines as lines_of}
use Rattle.idtext.proofs.FirstLemmas.{judged_next, judged_done}
use Rattle.hosts_join.specs.Accounts.{Account, Accounts, Pair, no_account, place_of}
use Rattle.hosts_join.specs.PairLines.{pair_line_of}
use Rattle.hosts_join.specs.Pairs.{number_of}
use Rattle.hosts_join.specs.PinPairs.{PinPairs}
use Rattle.hosts_join.specs.PinsText.{pins_of, pins_fault, pins_on, may_stand, is_new_pin}
use Rattle.hosts_join.specs.Rules.{account}
use Rattle.hosts_join.specs.declared.Which.{Which}
use Rattle.hosts_join.specs.declared.Which.TheVariants.{User, Group}
use Rattle.hosts_join.specs.declared.pair_lines.PairLine.TheVariants.{Given}
use Rattle.hosts_join.proofs.Grouping.{bytes_refl}
use Rattle.ownership.specs.Mappings.{number_at, number_under}
use Rattle.ownership.specs.declared.mapping.Mappings.{Mappings}
use Rattle.hosts_join.specs.Site.{Joined}
use Rattle.mergedfiles.specs.Order.{by_bytes}
use Rattle.unify_texts.specs.declared.map_text.MapText.{MapText}
use Rattle.unify_texts.specs.Maps.{numbering_of}
use Rattle.unify_texts.specs.WrittenMap.{map_line, map_text, numbered, pair_for, IsMappingOf}
use Rattle.unify_texts.proofs.MapLines.{place_named}
use Rattle.unify_texts.proofs.MapBack.{IsPair, FreshAfter, bare, have, have_more, line_back, listed, listed-some, no_groups, both, both_lines, both_given}
use Rattle.unify_texts.proofs.MapNames.{names_of, all-ordered, map_pairs, map_fresh}

-- ---- the numbers of a mapping

-- whether some pair has the number
abbrev is_used : ℕ → List Pair → Bool
is_used v ps = list_any (λ (q : Pair). v == q.number) ps

-- no pair has the number of one before it
abbrev NewNumbers : List Pair → List Pair → Type 0
NewNumbers seen [] = Unit {0}
NewNumbers seen (p ∷ ps) = (is_used p.number seen ≡ false) × NewNumbers (seen ++ p ∷ []) ps

all_push : {X : Type 0} (P : X → Type 0) (xs : List X) (x : X) → AllByRecursion P xs → P x → AllByRecursion P (xs ++ x ∷ [])
all_push P [] x all p = (p, tt)
all_push P (y ∷ xs) x all p = (all.0, all_push P xs x all.1 p)

module _ (a : Accounts) (m : List ℕ) (is : IsMappingOf a m) where
  -- the name of an account
  abbrev IsNamed : List ℕ → Type 0
  IsNamed n = (i : ℕ) × (i < length a.names) × ((account a i).name ≡ n)

  -- the name of an account, and its number
  abbrev IsOf : Pair → Type 0
  IsOf p = (i : ℕ) × (i < length a.names) × ((account a i).name ≡ p.name) × (number_at m i ≡ p.number)

  same_name : (p q : Pair) → IsOf p → IsOf q → p.number ≡ q.number → p.name ≡ q.name
  same_name p q of_p of_q e =
      let len = is.len in
      let low_p = of_p.1 in
      let low_q = of_q.1 in
      let same : of_p.0 ≡ of_q.0 = is.numbers.distinct of_p.0 of_q.0 (omega (arith, len, low_p)) (omega (arith, len, low_q)) (of_p.3 ∙ e ∙ sym of_q.3) in
      sym of_p.2 ∙ ap (λ i. (account a i).name) same ∙ of_q.2

  number_new : (p : Pair) (seen : List Pair) → IsOf p → AllByRecursion IsOf seen → listed p.name seen ≡ false → is_used p.number seen ≡ false
  number_new p [] of had new = refl
  number_new p (q ∷ seen) of had new = elim (cases_Bool (bytes_eq p.name q.name)) [
    | inl t ↦ let new' = rw t at new in absurd (cc)
    | inr f ↦
        let new' = rw f at new in
        elim (cases_Bool (p.number == q.number)) [
          | inl t ↦
              let e : p.name ≡ q.name = same_name p q of had.0 (eqb-true p.number q.number t) in
              let hit : true ≡ false = sym (bytes_refl p.name) ∙ ap (bytes_eq p.name) e ∙ f in
              absurd (cc)
          | inr g ↦ rw g (number_new p seen of had.1 new')
        ]
  ]

  numbers_new : (seen ps : List Pair) → AllByRecursion IsOf seen → AllByRecursion IsOf ps → FreshAfter seen ps → NewNumbers seen ps
  numbers_new seen [] had all fresh = tt
  numbers_new seen (p ∷ ps) had all fresh = (number_new p seen all.0 had fresh.0, numbers_new (seen ++ p ∷ []) ps (all_push IsOf seen p had all.0) all.1 fresh.1)

  each_named : (xs : List Account) → ((i : ℕ) → i < length xs → IsNamed (get_or xs i no_account).name) → AllByRecursion IsNamed (names_of xs)
  each_named [] each = tt
  each_named (x ∷ xs) each = (each zero (omega arith), each_named xs (λ i h. each (suc i) (omega (arith, h))))

  pairs_of : (ns : List (List ℕ)) → AllByRecursion IsNamed ns → AllByRecursion IsOf (map (pair_for a m) ns)
  pairs_of [] all = tt
  pairs_of (n ∷ ns) all =
      let i = all.0.0 in
      let found : place_of a.names n ≡ Some i = ap (place_of a.names) (sym all.0.2) ∙ place_named a i is.lawful all.0.1 in
      ((i, all.0.1, all.0.2, sym (ap (λ o. number_under m o 0) found)), pairs_of ns all.1)

  map_numbers : NewNumbers [] (numbered a m)
  map_numbers = numbers_new [] (numbered a m) tt (pairs_of (by_bytes a) (all-ordered _ IsNamed (names_of a.names) (each_named a.names (λ i h. (i, h, refl))))) (map_fresh a m is)

-- ---- lines of a pins text

fine_line : (kind : Which) (before : List (List ℕ)) (p : Pair) → IsPair p → length before < 1048576 → listed p.name (have kind (numbering_of before)) ≡ false → is_used p.number (have kind (numbering_of before)) ≡ false → pins_fault before (bare kind p) ≡ None
fine_line kind before p is few fresh new =
    let unnamed : is_some (number_of (have kind (numbering_of before)) p.name) ≡ false = listed-some p.name (have kind (numbering_of before)) ∙ fresh in
    let fine : is_new_pin (have kind (numbering_of before)) p.name p.number ≡ true = rw (new, unnamed) refl in
    let good : may_stand (pins_on before) (pair_line_of (bare kind p)) ≡ true = ap (may_stand (pins_on before)) (line_back kind p is) ∙ at kind fine in
    let short : nat_lt (length before) 1048576 ≡ true = lt-ltb (length before) 1048576 few in
    rw (short, good) refl
  where
    at : (k : Which) → is_new_pin (have k (numbering_of before)) p.name p.number ≡ true → may_stand (pins_on before) (Given k p.name p.number) ≡ true
    at User e = e
    at Group e = e

lines_pass : (kind : Which) (before : List (List ℕ)) (ps : List Pair) (rest : List (List ℕ)) → AllByRecursion IsPair ps → length before + length ps ≤ 1048576 → FreshAfter (have kind (numbering_of before)) ps → NewNumbers (have kind (numbering_of before)) ps → first_fault pins_fault before (map (bare kind) ps ++ rest) ≡ first_fault pins_fault (before ++ map (bare kind) ps) rest
lines_pass kind before [] rest all few fresh new = ap (λ b. first_fault pins_fault b rest) (sym (append-nil before))
lines_pass kind before (p ∷ ps) rest all few fresh new =
    let line = bare kind p in
    let left = map (bare kind) ps ++ rest in
    let had : have kind (numbering_of (before ++ line ∷ [])) ≡ have kind (numbering_of before) ++ p ∷ [] = have_more kind before p all.0 in
    let few' : length (before ++ line ∷ []) + length ps ≤ 1048576 = rw length-append (omega (arith, few)) in
    let fresh' : FreshAfter (have kind (numbering_of (before ++ line ∷ []))) ps = rw had fresh.1 in
    let new' : NewNumbers (have kind (numbering_of (before ++ line ∷ []))) ps = rw had new.1 in
    let fine : pins_fault before line ≡ None = fine_line kind before p all.0 (omega (arith, few)) fresh.0 new.0 in
    sym (judged_next pins_fault before line left (first_fault pins_fault before (line ∷ left)) fine refl)
    ∙ lines_pass kind (before ++ line ∷ []) ps rest all.1 few' fresh' new'
    ∙ ap (λ b. first_fault pins_fault b rest) (append_assoc before (line ∷ []) (map (bare kind) ps))

all_fine : (us gs : List Pair) → AllByRecursion IsPair us → AllByRecursion IsPair gs → FreshAfter [] us → FreshAfter [] gs → NewNumbers [] us → NewNumbers [] gs → length us + length gs ≤ 1048576 → first_fault pins_fault [] (both us gs) ≡ None
all_fine us gs all_us all_gs fresh_us fresh_gs new_us new_gs few =
    let none : have Group (numbering_of (map (bare User) us)) ≡ [] = no_groups us all_us in
    let fresh : FreshAfter (have Group (numbering_of (map (bare User) us))) gs = rw none fresh_gs in
    let new : NewNumbers (have Group (numbering_of (map (bare User) us))) gs = rw none new_gs in
    let few_gs : length (map (bare User) us) + length gs ≤ 1048576 = rw (length-map us (bare User)) few in
    lines_pass User [] us (map (bare Group) gs) all_us (omega (arith, few)) fresh_us new_us
    ∙ ap (first_fault pins_fault (map (bare User) us)) (sym (append-nil (map (bare Group) gs)))
    ∙ lines_pass Group (map (bare User) us) gs [] all_gs few_gs fresh new
    ∙ judged_done pins_fault (both us gs) (first_fault pins_fault (both us gs) []) refl

many : (us gs : List Pair) → length (both us gs) ≡ length us + length gs
many us gs = length-append (map (bare User) us) (map (bare Group) gs) ∙ ap (λ k. k + length (map (bare Group) gs)) (length-map us (bare User)) ∙ ap (λ k. length us + k) (length-map gs (bare Group))

abbrev pins_with : MapText → PinPairs
pins_with t = record { users = t.users; groups = t.groups; reserved_users = []; reserved_groups = [] }

pins_back : (us gs : List Pair) → AllByRecursion IsPair us → AllByRecursion IsPair gs → FreshAfter [] us → FreshAfter [] gs → NewNumbers [] us → NewNumbers [] gs → length (lines_of (flat_map (map_line User) us ++ flat_map (map_line Group) gs)) ≤ 1048576 → pins_of (flat_map (map_line User) us ++ flat_map (map_line Group) gs) ≡ Ok (pins_with (record { users = us; groups = gs }))
unfolding pins_of
pins_back us gs all_us all_gs fresh_us fresh_gs new_us new_gs few =
    let said : lines_of (flat_map (map_line User) us ++ flat_map (map_line Group) gs) ≡ both us gs = both_lines us gs all_us all_gs in
    let as_many : length (lines_of (flat_map (map_line User) us ++ flat_map (map_line Group) gs)) ≡ length us + length gs = ap (λ (ls : List (List ℕ)). length ls) said ∙ many us gs in
    let none : first_fault pins_fault [] (both us gs) ≡ None = all_fine us gs all_us all_gs fresh_us fresh_gs new_us new_gs (omega (arith, as_many, few)) in
    let given : pins_on (both us gs) ≡ pins_with (record { users = us; groups = gs }) = ap pins_with (both_given us gs all_us all_gs) in
    ap (λ ls. unless (first_fault pins_fault [] ls) (pins_on ls)) said ∙ ap (λ f. unless f (pins_on (both us gs))) none ∙ ap (λ t. Ok t) given

-- the pins of a written map
pub written_pins : (site : Joined) (m : Mappings) → IsMappingOf site.users m.users → IsMappingOf site.groups m.groups → length (lines_of (map_text site m)) ≤ 1048576 → pins_of (map_text site m) ≡ Ok (record { users = numbered site.users m.users; groups = numbered site.groups m.groups; reserved_users = []; reserved_groups = [] })
written_pins site m users groups few = pins_back (numbered site.users m.users) (numbered site.groups m.groups) (map_pairs site.users m.users users) (map_pairs site.groups m.groups groups) (map_fresh site.users m.users users) (map_fresh site.groups m.groups groups) (map_numbers site.users m.users users) (map_numbers site.groups m.groups groups) few
