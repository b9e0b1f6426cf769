-- What a search that found something says of it.
use Rattle.std.proofs.Common.{◌≡◌, ℕ, zero, suc, ◌<◌, Bool, true, false, cond, List, [], ◌∷◌, ◌⊎◌, length, get_or, map, filter, find, Contains, Option, Some, None, refl, sym, ap, ◌∙◌, inl, inr, arith}
use Rattle.std.specs.Option.{option_map}
use Rattle.std.specs.Ordering.{is_lt, nat_cmp}
use Rattle.std.specs.Cmp.Lexicographic.{slice_cmp}
use Rattle.std.proofs.lemmas.List.{get_or_default}
use Rattle.idtext.specs.First.{or_else}
use Rattle.hosts_join.specs.Accounts.{place}
use Rattle.hosts_join.specs.Rules.{first_some}
use Rattle.certcheck.specs.Check.{least_below, least_name, lesser, passes}

-- ---- one of several

-- where either gives something, what follows from each follows
pub from_either : {X : Type 0} (P : X → Type 0) (o other : Option X) (x : X) → (o ≡ Some x → P x) → (other ≡ Some x → P x) → or_else o other ≡ Some x → P x
from_either P None other x one two h = two h
from_either P (Some y) other x one two h = one h

pub mapped : {X Y : Type 0} (f : X → Y) (o : Option X) (y : Y) → option_map f o ≡ Some y → (x : X) × (o ≡ Some x) × (f x ≡ y)
mapped f None y h = absurd (cc)
mapped f (Some x) y h = (x, refl, cc)

pub passed_at : (test : ℕ → Bool) (o : Option ℕ) → passes test o ≡ true → (i : ℕ) × (o ≡ Some i) × (test i ≡ true)
passed_at test None h = absurd (cc)
passed_at test (Some i) h = (i, refl, h)

-- ---- elements of lists

pub at_index : {X : Type 0} (xs : List X) (i : ℕ) (d : X) → i < length xs → Contains xs (get_or xs i d)
at_index xs i d l = (i, l, get_or_default xs i (get_or xs i d) d l)

later : {X : Type 0} (y : X) (ys : List X) (x : X) → Contains ys x → Contains (y ∷ ys) x
later y ys x there = (suc there.0, omega (arith, there.1), there.2)

pub from_map : {X Y : Type 0} (f : X → Y) (xs : List X) (y : Y) → Contains (map f xs) y → (x : X) × Contains xs x × (f x ≡ y)
from_map f [] y there = absurd (omega (arith, there.1))
from_map f (x ∷ xs) y (zero, lt, e) = (x, (zero, omega arith, refl), e)
from_map f (x ∷ xs) y (suc k, lt, e) = let more = from_map f xs y (k, omega (arith, lt), e) in (more.0, later x xs more.0 more.1, more.2)

pub from_filter : {X : Type 0} (test : X → Bool) (xs : List X) (x : X) → Contains (filter test xs) x → Contains xs x × (test x ≡ true)
from_filter test [] x there = absurd (omega (arith, there.1))
from_filter test (y ∷ ys) x there = by (test y) refl (λ within. from_filter test ys x within) there
  where
    by : (b : Bool) → test y ≡ b → (Contains (filter test ys) x → Contains ys x × (test x ≡ true)) → Contains (cond b (y ∷ filter test ys) (filter test ys)) x → Contains (y ∷ ys) x × (test x ≡ true)
    by true is rest (zero, lt, e) = ((zero, omega arith, e), ap test (sym e) ∙ is)
    by true is rest (suc k, lt, e) = let more = rest (k, omega (arith, lt), e) in (later y ys x more.0, more.1)
    by false is rest within = let more = rest within in (later y ys x more.0, more.1)

pub from_find : {X : Type 0} (test : X → Bool) (xs : List X) (x : X) → find test xs ≡ Some x → Contains xs x × (test x ≡ true)
from_find test [] x h = absurd (cc)
from_find test (y ∷ ys) x h = by (test y) refl (λ e. from_find test ys x e) h
  where
    by : (b : Bool) → test y ≡ b → (find test ys ≡ Some x → Contains ys x × (test x ≡ true)) → cond b (Some y) (find test ys) ≡ Some x → Contains (y ∷ ys) x × (test x ≡ true)
    by true is rest e = let same : y ≡ x = cc in ((zero, omega arith, same), ap test (sym same) ∙ is)
    by false is rest e = let more = rest e in (later y ys x more.0, more.1)

pub from_first : {X Y : Type 0} (f : X → Option Y) (xs : List X) (y : Y) → first_some f xs ≡ Some y → (x : X) × Contains xs x × (f x ≡ Some y)
from_first f [] y h = absurd (cc)
from_first f (x ∷ xs) y h = by (f x) refl (λ e. from_first f xs y e) h
  where
    by : (o : Option _) → f x ≡ o → (first_some f xs ≡ Some y → (z : _) × Contains xs z × (f z ≡ Some y)) → or_else o (first_some f xs) ≡ Some y → (z : _) × Contains (x ∷ xs) z × (f z ≡ Some y)
    by (Some z) is rest e = (x, (zero, omega arith, refl), is ∙ e)
    by None is rest e = let more = rest e in (more.0, later x xs more.0 more.1, more.2)

pub from_place : {X : Type 0} (test : X → Bool) (xs : List X) (i : ℕ) (d : X) → place test xs ≡ Some i → (i < length xs) × (test (get_or xs i d) ≡ true)
from_place test [] i d h = absurd (cc)
from_place test (x ∷ xs) i d h = by (test x) refl i (λ j e. from_place test xs j d e) h
  where
    by : (b : Bool) → test x ≡ b → (i : ℕ) → ((j : ℕ) → place test xs ≡ Some j → (j < length xs) × (test (get_or xs j d) ≡ true)) → cond b (Some 0) (option_map suc (place test xs)) ≡ Some i → (i < length (x ∷ xs)) × (test (get_or (x ∷ xs) i d) ≡ true)
    by true is zero rest e = (omega arith, is)
    by true is (suc j) rest e = absurd (let off : 0 ≡ suc j = cc in omega (arith, off))
    by false is i rest e =
        let it = mapped suc (place test xs) i e in
        let more = rest it.0 it.1 in
        let same = it.2 in (omega (arith, more.0, same), ap (λ n. test (get_or (x ∷ xs) n d)) (sym same) ∙ more.1)

-- ---- the least

lesser_is : (n : List ℕ) (o : Option (List ℕ)) (m : List ℕ) → lesser (Some n) o ≡ Some m → (n ≡ m) ⊎ (o ≡ Some m)
lesser_is n None m h = inl (cc)
lesser_is n (Some k) m h = by (is_lt (slice_cmp nat_cmp k n)) h
  where
    by : (b : Bool) → cond b (Some k) (Some n) ≡ Some m → (n ≡ m) ⊎ (Some k ≡ Some m)
    by true e = inr e
    by false e = inl (cc)

-- the least name is one of the names
pub from_least : (ns : List (List ℕ)) (m : List ℕ) → least_name ns ≡ Some m → Contains ns m
unfolding least_name
from_least [] m h = absurd (cc)
from_least (n ∷ ns) m h = by (lesser_is n (least_name ns) m h) (λ e. from_least ns m e)
  where
    by : (n ≡ m) ⊎ (least_name ns ≡ Some m) → (least_name ns ≡ Some m → Contains ns m) → Contains (n ∷ ns) m
    by (inl e) rest = (zero, omega arith, e)
    by (inr e) rest = later n ns m (rest e)

if_passed : (test : ℕ → Bool) (n v : ℕ) (b : Bool) → test n ≡ b → cond b (Some n) None ≡ Some v → test v ≡ true
if_passed test n v true is e = let same : n ≡ v = cc in ap test (sym same) ∙ is
if_passed test n v false is e = absurd (cc)

-- the least number that passes does so
pub below_passes : (test : ℕ → Bool) (n v : ℕ) → least_below test n ≡ Some v → test v ≡ true
unfolding least_below
below_passes test zero v h = absurd (cc)
below_passes test (suc n) v h = from_either (λ u. test u ≡ true) (least_below test n) (cond (test n) (Some n) None) v (λ e. below_passes test n v e) (λ e. if_passed test n v (test n) refl e) h
