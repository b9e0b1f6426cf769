-- The order of names by their numbers, and by their bytes.
use Rattle.std.proofs.Common.{◌≡◌, ℕ, ◌<◌, Bool, true, false, List, [], length, map, get_or, refl, sym, ◌∙◌, ap, inl, inr, arith}
use Rattle.std.specs.List.{IsDistinct, enumerate_from, range_with_len}
use Rattle.std.specs.List.Sorted.{IsPermutation, IsSorted, IsSortedBy}
use Rattle.std.specs.Cmp.Lexicographic.{slice_cmp}
use Rattle.std.specs.declared.cmp.Ordering.TheVariants.{Less, Greater}
use Rattle.std.specs.Ordering.{nat_cmp, is_lt, is_eq}
use Rattle.std.specs.Str.{bytes_eq}
use Rattle.std.proofs.lemmas.Bool.{cases_Bool, ltb-true, ltb-false, true≢false}
use Rattle.std.proofs.Math.Dec.{ltb}
use Rattle.std.specs.Cmp.{nat_cmp_is}
use Rattle.std.proofs.lemmas.Cmp.{nat_cmp_total, nat_list_cmp_total}
use Rattle.std.proofs.lemmas.List.{length-map, get_or-map, get_or_default}
use Rattle.std.proofs.lemmas.List.FromFn.{fill_by_all, get_or-enumerate_from, length-enumerate_from}
use Rattle.std.proofs.lemmas.List.Sorted.{IsPermutation-map}
use Rattle.std.proofs.lemmas.Map.Keys.{IsDistinct-from_apart}
use Rattle.std.proofs.lemmas.Map.Text.{is_eq-slice_cmp}
use Rattle.hosts_join.specs.Accounts.{Account, Accounts, no_account}
use Rattle.hosts_join.specs.Order.{name_at, AreInByteOrder}
use Rattle.hosts_join.specs.Lawful.{AreLawfulAccounts}
use Rattle.hosts_join.specs.Rules.{account}
use Rattle.hosts_join.proofs.Grouping.{bytes_same}
use Rattle.ownership.specs.Mappings.{AreDistinct}
use Rattle.mergedfiles.specs.Order.{by_number, by_bytes}
use Rattle.mergedfiles.proofs.Ordering.{in-order}

-- a test that would tell the impossible fails
not-tied : (b : Bool) → (b ≡ true → ⊥) → b ≡ false
not-tied true f = absurd (f refl)
not-tied false f = refl

nat-same : (x y : ℕ) → is_eq (nat_cmp x y) ≡ true → x ≡ y
nat-same x y e = elim (cases_Bool (ltb x y)) [
  | inl t ↦ absurd (true≢false (sym e ∙ ap is_eq (sym (nat_cmp_is x y Less (ltb-true x y t)))))
  | inr f ↦ elim (cases_Bool (ltb y x)) [
    | inl t ↦ absurd (true≢false (sym e ∙ ap is_eq (sym (nat_cmp_is x y Greater (ltb-true y x t)))))
    | inr g ↦ omega (arith, ltb-false x y f, ltb-false y x g)
  ]
]

pub numbers-differ : (m : List ℕ) → AreDistinct m → IsDistinct (λ (p q : ℕ × ℕ). is_eq (nat_cmp p.1 q.1)) (enumerate_from 0 m)
numbers-differ m differ = IsDistinct-from_apart (λ (p q : ℕ × ℕ). is_eq (nat_cmp p.1 q.1)) (enumerate_from 0 m) (λ i j d low high.
    let high' : j < length m = omega (arith, length-enumerate_from 0 m) in
    let low' : i < length m = omega arith in
    rw (get_or-enumerate_from 0 m i d low', get_or-enumerate_from 0 m j d high') (not-tied (is_eq (nat_cmp (get_or m i d.1) (get_or m j d.1))) (λ e. never i j d.1 low high' (nat-same (get_or m i d.1) (get_or m j d.1) e))))
  where
    never : (i j d : ℕ) → i < j → j < length m → get_or m i d ≡ get_or m j d → ⊥
    never i j d low high e =
        let low' : i < length m = omega arith in
        let same : i ≡ j = differ i j low' high (sym (get_or_default m i d 0 low') ∙ e ∙ get_or_default m j d 0 high) in
        omega arith

pub number-order : (m : List ℕ) (ps : List (ℕ × ℕ)) → AreDistinct m → IsPermutation (enumerate_from 0 m) ps → IsSortedBy (λ (p q : ℕ × ℕ). is_lt (nat_cmp p.1 q.1)) ps → ps ≡ by_number m
number-order m ps differ perm sorted = in-order nat_cmp_total (λ (p : ℕ × ℕ). p.1) (enumerate_from 0 m) ps perm sorted (numbers-differ m differ)

names-differ : (a : Accounts) → AreLawfulAccounts a → IsDistinct (λ (n o : List ℕ). is_eq (slice_cmp nat_cmp n o)) (map (λ (x : Account). x.name) a.names)
names-differ a lawful = IsDistinct-from_apart (λ (n o : List ℕ). is_eq (slice_cmp nat_cmp n o)) (map (λ (x : Account). x.name) a.names) (λ i j d low high.
    let high' : j < length a.names = omega (arith, length-map a.names (λ (x : Account). x.name)) in
    let low' : i < length a.names = omega arith in
    rw (get_or-map (λ (x : Account). x.name) a.names i no_account d low', get_or-map (λ (x : Account). x.name) a.names j no_account d high', is_eq-slice_cmp (account a i).name (account a j).name) (not-tied (bytes_eq (account a i).name (account a j).name) (λ e.
    let same : i ≡ j = lawful.names_differ i j low' high' (bytes_same (account a i).name (account a j).name e) in omega arith)))

name-order : (a : Accounts) (ns : List (List ℕ)) → AreLawfulAccounts a → IsPermutation (map (λ (x : Account). x.name) a.names) ns → IsSorted (slice_cmp nat_cmp) ns → ns ≡ by_bytes a
name-order a ns lawful perm sorted = in-order nat_list_cmp_total (λ (n : List ℕ). n) (map (λ (x : Account). x.name) a.names) ns perm sorted (names-differ a lawful)

all-names : (names : List Account) → map (name_at names) (range_with_len 0 (length names)) ≡ map (λ (x : Account). x.name) names
all-names names = sym (fill_by_all (name_at names) (map (λ (x : Account). x.name) names) (length names) [] (length-map names (λ (x : Account). x.name)) (λ k low. get_or-map (λ (x : Account). x.name) names k no_account [] low))

-- the names at places in byte order
pub in-byte-order : (a : Accounts) (order : List ℕ) → AreLawfulAccounts a → AreInByteOrder a.names order → map (name_at a.names) order ≡ by_bytes a
in-byte-order a order lawful is =
    let places = IsPermutation-map (name_at a.names) (range_with_len 0 (length a.names)) order is.each_once in
    name-order a (map (name_at a.names) order) lawful (rw (all-names a.names) at places) is.ascending
