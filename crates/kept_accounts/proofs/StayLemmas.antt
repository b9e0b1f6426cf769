-- Which names stay as they are, by the numbers that they have on hosts.
use Rattle.std.proofs.Common.{◌≡◌, ℕ, zero, suc, Bool, true, false, cond, List, [], ◌∷◌, map, refl, sym, ap, ◌∙◌, subst, arith, inl, inr, bytes_eq}
use Rattle.std.specs.Prelude.{◌⊎◌, ◌↔◌, ◌||◌, filter, flat_map}
use Rattle.std.specs.List.{Contains, list_all}
use Rattle.std.proofs.Math.Bool.{or-true}
use Rattle.std.proofs.lemmas.Bool.{and_from, and_parts, or_cases}
use Rattle.std.proofs.lemmas.List.Elements.{Contains-append_cases}
use Rattle.std.proofs.lemmas.Map.Views.{Contains-from_any}
use Rattle.std.proofs.lemmas.Slice.Eq.{bytes_eq-Decides}
use Rattle.hosts_join.proofs.Grouping.{bytes_refl}
use Rattle.hosts_join.specs.Kinds.{user_rows, group_rows}
use Rattle.hosts_join.specs.RangeLists.{lies_in_some}
use Rattle.hosts_join.specs.declared.host.Host.{Host}
use Rattle.keep_text.specs.declared.keep_text.Kept.{Kept}
use Rattle.kept_accounts.specs.Keeping.{is_among, is_kept, numbers_of, stays}
use Rattle.kept_accounts.specs.Laws.{HasNumber, KeptNamesStay, Stays}
use Rattle.kept_accounts.proofs.ReservedLemmas.{in-filter, in-flat_map, in-map}

-- ---- what stands in a list that is made from another

later : {X : Type 0} (y : X) (ys : List X) (x : X) → Contains ys x → Contains (y ∷ ys) x
later y ys x there = (suc there.0, omega (arith, there.1), there.2)

from-map : {X Y : Type 0} (f : X → Y) (xs : List X) (y : Y) → Contains (map f xs) y → (x : X) × Contains xs x × (f x ≡ y)
from-map f [] y there = absurd (omega (arith, there.1))
from-map f (x ∷ xs) y (zero, lt, e) = (x, (zero, omega arith, refl), e)
from-map f (x ∷ xs) y (suc k, lt, e) = let more = from-map f xs y (k, omega (arith, lt), e) in (more.0, later x xs more.0 more.1, more.2)

from-filter : {X : Type 0} (test : X → Bool) (xs : List X) (x : X) → Contains (filter test xs) x → Contains xs x × (test x ≡ true)
from-filter test [] x there = absurd (omega (arith, there.1))
from-filter test (y ∷ ys) x there = by (test y) refl (λ within. from-filter test ys x within) there
  where
    by : (b : Bool) → test y ≡ b → (Contains (filter test ys) x → Contains ys x × (test x ≡ true)) → Contains (cond b (y ∷ filter test ys) (filter test ys)) x → Contains (y ∷ ys) x × (test x ≡ true)
    by true is rest (zero, lt, e) = ((zero, omega arith, e), ap test (sym e) ∙ is)
    by true is rest (suc k, lt, e) = let more = rest (k, omega (arith, lt), e) in (later y ys x more.0, more.1)
    by false is rest within = let more = rest within in (later y ys x more.0, more.1)

-- the item whose list has it
pub record IsGiven {X Y : Type 0} (f : X → List Y) (xs : List X) (y : Y) : Type 0 where
  pub item : X
  pub among : Contains xs item
  pub gives : Contains (f item) y

from-flat_map : {X Y : Type 0} (f : X → List Y) (xs : List X) (y : Y) → Contains (flat_map f xs) y → IsGiven f xs y
from-flat_map f [] y there = absurd (omega (arith, there.1))
from-flat_map f (x ∷ xs) y there = by (Contains-append_cases (f x) (flat_map f xs) y there) (λ within. from-flat_map f xs y within)
  where
    by : Contains (f x) y ⊎ Contains (flat_map f xs) y → (Contains (flat_map f xs) y → IsGiven f xs y) → IsGiven f (x ∷ xs) y
    by (inl here) rest = record { item = x; among = (zero, omega arith, refl); gives = here }
    by (inr more) rest = let it = rest more in record { item = it.item; among = later x xs it.item it.among; gives = it.gives }

-- ---- tests over lists

all-at : {X : Type 0} (test : X → Bool) (xs : List X) (x : X) → list_all test xs ≡ true → Contains xs x → test x ≡ true
all-at test [] x all there = absurd (omega (arith, there.1))
all-at test (y ∷ ys) x all (zero, lt, e) = ap test (sym e) ∙ (and_parts (test y) (list_all test ys) all).0
all-at test (y ∷ ys) x all (suc k, lt, e) = all-at test ys x (and_parts (test y) (list_all test ys) all).1 (k, omega (arith, lt), e)

all-from : {X : Type 0} (test : X → Bool) (xs : List X) → ((x : X) → Contains xs x → test x ≡ true) → list_all test xs ≡ true
all-from test [] each = refl
all-from test (y ∷ ys) each = and_from (test y) (list_all test ys) (each y (zero, omega arith, refl)) (all-from test ys (λ x there. each x (later y ys x there)))

among-from : (names : List (List ℕ)) (name : List ℕ) → Contains names name → is_among names name ≡ true
among-from [] name there = absurd (omega (arith, there.1))
among-from (n ∷ ns) name (zero, lt, e) = ap (λ b. b || is_among ns name) ((bytes_eq-Decides name n).1 (sym e))
among-from (n ∷ ns) name (suc k, lt, e) = ap (λ b. bytes_eq name n || b) (among-from ns name (k, omega (arith, lt), e)) ∙ or-true (bytes_eq name n)

-- ---- a name with its numbers

stays-is : (keep : Kept) (name : List ℕ) (numbers : List ℕ) → stays keep name numbers ≡ true → (number : ℕ) × Contains numbers number × ((is_among keep.names name ≡ true) ⊎ (list_all (lies_in_some keep.ranges) numbers ≡ true))
stays-is keep name [] h = absurd (cc)
stays-is keep name (n ∷ ns) h = (n, (zero, omega arith, refl), or_cases (is_among keep.names name) (list_all (lies_in_some keep.ranges) (n ∷ ns)) h)

stays-so : (keep : Kept) (name : List ℕ) (numbers : List ℕ) (number : ℕ) → Contains numbers number → (is_among keep.names name ≡ true) ⊎ (list_all (lies_in_some keep.ranges) numbers ≡ true) → stays keep name numbers ≡ true
stays-so keep name [] number there either = absurd (omega (arith, there.1))
stays-so keep name (n ∷ ns) number there (inl listed) = ap (λ b. b || list_all (lies_in_some keep.ranges) (n ∷ ns)) listed
stays-so keep name (n ∷ ns) number there (inr all) = ap (λ b. is_among keep.names name || b) all ∙ or-true (is_among keep.names name)

module _ (keep : Kept) (rows_on : Host → List (List ℕ × ℕ)) (hosts : List Host) (name : List ℕ) where
  abbrev rows : List (List ℕ × ℕ)
  rows = flat_map rows_on hosts

  abbrev is_its : List ℕ × ℕ → Bool
  is_its row = bytes_eq name row.0

  had-among : (number : ℕ) → HasNumber rows_on hosts name number → Contains (numbers_of rows name) number
  had-among number had =
      in-map (λ (row : List ℕ × ℕ). row.1) (filter is_its rows) (name, number)
      (in-filter is_its rows (name, number) (in-flat_map rows_on hosts had.host (name, number) had.is_host had.is_row) (bytes_refl name))

  among-had : (number : ℕ) → Contains (numbers_of rows name) number → HasNumber rows_on hosts name number
  among-had number among =
      let row = from-map (λ (r : List ℕ × ℕ). r.1) (filter is_its rows) number among in
      let passed = from-filter is_its rows row.0 row.1 in
      let given = from-flat_map rows_on hosts row.0 passed.0 in
      let named : row.0.0 ≡ name = sym ((bytes_eq-Decides name row.0.0).0 passed.1) in
      let same : row.0 ≡ (name, number) = λ i. (named i, row.2 i) in
      record { host = given.item; is_host = given.among; is_row = subst (λ (r : List ℕ × ℕ). Contains (rows_on given.item) r) same given.gives }

  pub kept-stays : (is_kept keep rows name ≡ true) ↔ Stays keep rows_on hosts name
  kept-stays = (there, back)
    where
      listed : (is_among keep.names name ≡ true) ⊎ (list_all (lies_in_some keep.ranges) (numbers_of rows name) ≡ true) → Contains keep.names name ⊎ ((number : ℕ) → HasNumber rows_on hosts name number → lies_in_some keep.ranges number ≡ true)
      listed (inl is) = inl (Contains-from_any (λ x y e. (bytes_eq-Decides x y).0 e) name keep.names is)
      listed (inr all) = inr (λ number had. all-at (lies_in_some keep.ranges) (numbers_of rows name) number all (had-among number had))

      told : Contains keep.names name ⊎ ((number : ℕ) → HasNumber rows_on hosts name number → lies_in_some keep.ranges number ≡ true) → (is_among keep.names name ≡ true) ⊎ (list_all (lies_in_some keep.ranges) (numbers_of rows name) ≡ true)
      told (inl among) = inl (among-from keep.names name among)
      told (inr each) = inr (all-from (lies_in_some keep.ranges) (numbers_of rows name) (λ number among. each number (among-had number among)))

      there : is_kept keep rows name ≡ true → Stays keep rows_on hosts name
      there kept =
          let it = stays-is keep name (numbers_of rows name) kept in
          record { number = it.0; had = among-had it.0 it.1; as_listed = listed it.2 }

      back : Stays keep rows_on hosts name → is_kept keep rows name ≡ true
      back it = stays-so keep name (numbers_of rows name) it.number (had-among it.number it.had) (told it.as_listed)

pub kept_names_stay : KeptNamesStay
kept_names_stay keep hosts name = (kept-stays keep.users (λ host. user_rows host.users) hosts name, kept-stays keep.groups (λ host. group_rows host.groups) hosts name)
