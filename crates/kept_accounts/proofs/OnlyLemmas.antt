-- Which numbers are reserved, and which a host spares: those that stay, and no others.
use Rattle.std.proofs.Common.{◌≡◌, ◌⊎◌, inl, inr, ℕ, ◌≤◌, ◌||◌, Bool, true, false, cond, List, [], ◌∷◌, ◌++◌, map, refl, sym, ap, ◌∙◌, arith, bytes_eq}
use Rattle.std.specs.Prelude.{◌&&◌, ◌↔◌, filter, flat_map, if◌then◌else◌}
use Rattle.std.specs.List.{Any, list_any}
use Rattle.std.proofs.Math.Bool.{or-true}
use Rattle.std.proofs.lemmas.Bool.{and_from, and_parts, le-leb, leb-true, or_cases}
use Rattle.std.proofs.lemmas.List.Folds.{Any-from_list_any, list_any-append, list_any-from_Any}
use Rattle.std.proofs.lemmas.Slice.Eq.{bytes_eq-Decides}
use Rattle.logindefs.specs.Ranges.{in_range}
use Rattle.logindefs.specs.declared.ranges.IdRange.{IdRange}
use Rattle.accounts.proofs.ListLemmas.{list_any-map}
use Rattle.accounts.specs.Rows.{Passwd, Group}
use Rattle.hosts_join.specs.RangeLists.{lies_in_some}
use Rattle.hosts_join.specs.Rules.{is_reserved}
use Rattle.hosts_join.specs.declared.host.Host.{Host}
use Rattle.hosts_join.specs.declared.reserving.Reserved.{Reserved}
use Rattle.keep_text.specs.declared.keep_text.Kept.{Kept}
use Rattle.kept_accounts.specs.Keeping.{is_kept_user, is_kept_group}
use Rattle.kept_accounts.specs.Laws.{HostSparesItsOwn, NumberStays, OnlyWhatStaysIsReserved}
use Rattle.kept_accounts.specs.Others.{kept_numbers, spared, unowned_on}
use Rattle.kept_accounts.specs.Reserving.{by_files, by_name, by_range, only, reserved_by, reserved_on}
use Rattle.kept_accounts.specs.declared.reserving.UnownedNumber.{UnownedNumber}

-- ---- what a test tells

-- the test tells whether it holds
abbrev Tells : Bool → Type 0 → Type 0
Tells b P = (b ≡ true) ↔ P

as-told : {P : Type 0} (a b : Bool) → a ≡ b → Tells b P → Tells a P
as-told a b same told = (λ e. told.0 (sym same ∙ e), λ it. same ∙ told.1 it)

tells-both : {P Q : Type 0} (a b : Bool) → Tells a P → Tells b Q → Tells (a && b) (P × Q)
tells-both a b first second = (
  λ e. (first.0 (and_parts a b e).0, second.0 (and_parts a b e).1),
  λ it. and_from a b (first.1 it.0) (second.1 it.1),
)

tells-one_of : {P Q R : Type 0} (a b c : Bool) → Tells a P → Tells b Q → Tells c R → Tells ((a || b) || c) (P ⊎ (Q ⊎ R))
tells-one_of {P} {Q} {R} a b c first second third = (λ e. there (or_cases (a || b) c e), back)
  where
    front : (a ≡ true) ⊎ (b ≡ true) → P ⊎ (Q ⊎ R)
    front (inl e) = inl (first.0 e)
    front (inr e) = inr (inl (second.0 e))

    there : ((a || b) ≡ true) ⊎ (c ≡ true) → P ⊎ (Q ⊎ R)
    there (inl e) = front (or_cases a b e)
    there (inr e) = inr (inr (third.0 e))

    back : P ⊎ (Q ⊎ R) → ((a || b) || c) ≡ true
    back (inl it) = ap (λ t. (t || b) || c) (first.1 it)
    back (inr (inl it)) = ap (λ t. (a || t) || c) (second.1 it) ∙ ap (λ t. t || c) (or-true a)
    back (inr (inr it)) = ap (λ t. (a || b) || t) (third.1 it) ∙ or-true (a || b)

tells-any : {X : Type 0} (p : X → Bool) (P : X → Type 0) (xs : List X) → ((x : X) → Tells (p x) (P x)) → Tells (list_any p xs) (Any P xs)
tells-any p P xs told = (
  λ e. let at = Any-from_list_any p xs e in (at.0, at.1, at.2, at.3, (told at.1).0 at.4),
  λ at. list_any-from_Any p xs (at.0, at.1, at.2, at.3, (told at.1).1 at.4),
)

-- where the test is asked at all
tells-where : {X : Type 0} {P : Type 0} (p : X → Bool) (xs : List X) (b : Bool) → Tells (list_any p xs) P → Tells (list_any p (if b then xs else [])) ((b ≡ true) × P)
tells-where p xs true told = (λ e. (refl, told.0 e), λ it. told.1 it.1)
tells-where p xs false told = (λ e. absurd (cc), λ it. absurd (cc))

-- ---- tests over lists that are made from others

any-filter : {X : Type 0} (p test : X → Bool) (xs : List X) → list_any p (filter test xs) ≡ list_any (λ x. test x && p x) xs
any-filter p test [] = refl
any-filter p test (x ∷ xs) = by (test x) (any-filter p test xs)
  where
    by : (b : Bool) → list_any p (filter test xs) ≡ list_any (λ y. test y && p y) xs → list_any p (cond b (x ∷ filter test xs) (filter test xs)) ≡ ((b && p x) || list_any (λ y. test y && p y) xs)
    by true later = ap (λ b. p x || b) later
    by false later = later

any-flat_map : {X Y : Type 0} (p : Y → Bool) (f : X → List Y) (xs : List X) → list_any p (flat_map f xs) ≡ list_any (λ x. list_any p (f x)) xs
any-flat_map p f [] = refl
any-flat_map p f (x ∷ xs) = list_any-append p (f x) (flat_map f xs) ∙ ap (λ b. list_any p (f x) || b) (any-flat_map p f xs)

any-three : {X : Type 0} (p : X → Bool) (xs ys zs : List X) → list_any p (xs ++ ys ++ zs) ≡ ((list_any p xs || list_any p ys) || list_any p zs)
any-three p xs ys zs = list_any-append p (xs ++ ys) zs ∙ ap (λ b. b || list_any p zs) (list_any-append p xs ys)

-- ---- a number

module _ (n : ℕ) where
  abbrev in_it : IdRange → Bool
  in_it range = in_range range n

  abbrev has : Reserved → Bool
  has reserved = in_range reserved.numbers n

  tells-range : (range : IdRange) → Tells (in_range range n) ((range.low ≤ n) × (n ≤ range.high))
  tells-range range = (
    λ e. let both = and_parts _ _ e in (leb-true range.low n both.0, leb-true n range.high both.1),
    λ it. and_from _ _ (le-leb range.low n it.0) (le-leb n range.high it.1),
  )

  tells-only : (m : ℕ) → Tells (in_range (only m) n) (m ≡ n)
  tells-only m = (
    λ e. let both = (tells-range (only m)).0 e in omega (arith, both.0, both.1),
    λ same. (tells-range (only m)).1 (omega (arith, same), omega (arith, same)),
  )

  tells-ranges : (ranges : List IdRange) → Tells (lies_in_some ranges n) (Any (λ range. (range.low ≤ n) × (n ≤ range.high)) ranges)
  tells-ranges ranges = tells-any in_it (λ range. (range.low ≤ n) × (n ≤ range.high)) ranges tells-range

  -- the rows of a kept name that have the number
  module _ {Row : Type 0} (name : Row → List ℕ) (number : Row → ℕ) (kept : List ℕ → Bool) where
    abbrev pairs : List Row → List (List ℕ × ℕ)
    pairs rows = map (λ row. (name row, number row)) rows

    abbrev is_kept_with : Row → Bool
    is_kept_with row = kept (name row) && in_range (only (number row)) n

    abbrev KeptWith : Row → Type 0
    KeptWith row = (kept (name row) ≡ true) × (number row ≡ n)

    tells-rows : (rows : List Row) → Tells (list_any is_kept_with rows) (Any KeptWith rows)
    tells-rows rows = tells-any is_kept_with KeptWith rows (λ row. tells-both (kept (name row)) (in_range (only (number row)) n) (λ e. e, λ e. e) (tells-only (number row)))

    of-pairs : (rows : List Row) → list_any (λ (row : List ℕ × ℕ). in_range (only row.1) n) (filter (λ row. kept row.0) (pairs rows)) ≡ list_any is_kept_with rows
    of-pairs rows =
        any-filter (λ (row : List ℕ × ℕ). in_range (only row.1) n) (λ row. kept row.0) (pairs rows)
        ∙ list_any-map (λ (row : List ℕ × ℕ). kept row.0 && in_range (only row.1) n) (λ row. (name row, number row)) rows

    tells-spared : (rows : List Row) → Tells (lies_in_some (kept_numbers kept (pairs rows)) n) (Any KeptWith rows)
    tells-spared rows =
        as-told _ (list_any is_kept_with rows) (list_any-map in_it (λ (row : List ℕ × ℕ). only row.1) (filter (λ row. kept row.0) (pairs rows)) ∙ of-pairs rows) (tells-rows rows)

    module _ (rows_of : Host → List Row) where
      abbrev listed : Host → List (List ℕ × ℕ)
      listed host = pairs (rows_of host)

      tells-reserved_on : (host : Host) → Tells (is_reserved (reserved_on kept listed host) n) (Any KeptWith (rows_of host))
      tells-reserved_on host =
          as-told _ (list_any is_kept_with (rows_of host)) (list_any-map has (by_name host) (filter (λ row. kept row.0) (listed host)) ∙ of-pairs (rows_of host)) (tells-rows (rows_of host))

      tells-reserved : (hosts : List Host) → Tells (is_reserved (flat_map (reserved_on kept listed) hosts) n) (Any (λ host. Any KeptWith (rows_of host)) hosts)
      tells-reserved hosts =
          as-told _ (list_any (λ host. is_reserved (reserved_on kept listed host) n) hosts) (any-flat_map has (reserved_on kept listed) hosts)
          (tells-any (λ host. is_reserved (reserved_on kept listed host) n) (λ host. Any KeptWith (rows_of host)) hosts tells-reserved_on)

      -- what is reserved of a kind
      tells-reserved_by : (keep : Kept) (hosts : List Host) (unowned : List UnownedNumber) → Tells (is_reserved (reserved_by kept listed keep hosts unowned) n) (NumberStays keep n (Any (λ host. Any KeptWith (rows_of host)) hosts) (Any (λ found. found.number ≡ n) unowned))
      tells-reserved_by keep hosts unowned =
          let ranges = as-told _ (lies_in_some keep.ranges n) (list_any-map has by_range keep.ranges) (tells-ranges keep.ranges) in
          let files = as-told _ (list_any (λ (u : UnownedNumber). in_range (only u.number) n) unowned) (list_any-map has by_files unowned)
          (tells-any (λ (u : UnownedNumber). in_range (only u.number) n) (λ u. u.number ≡ n) unowned (λ u. tells-only u.number)) in
          as-told _ _ (any-three has (map by_range keep.ranges) (flat_map (reserved_on kept listed) hosts) (if keep.unowned then map by_files unowned else []))
          (tells-one_of _ _ _ ranges (tells-reserved hosts) (tells-where has (map by_files unowned) keep.unowned files))

    -- what a host spares of a kind
    tells-spared_by : (keep : Kept) (rows : List Row) (host : Host) (unowned : List UnownedNumber) → Tells (lies_in_some (spared keep kept (pairs rows) (unowned_on host unowned)) n) (NumberStays keep n (Any KeptWith rows) (Any (λ found. (found.host ≡ host.name) × (found.number ≡ n)) unowned))
    tells-spared_by keep rows host unowned =
        let here : UnownedNumber → Bool = λ u. bytes_eq u.host host.name in
        let is_it : UnownedNumber → Bool = λ u. in_range (only u.number) n in
        let files = as-told _ (list_any (λ u. here u && is_it u) unowned) (list_any-map in_it (λ (u : UnownedNumber). only u.number) (filter here unowned) ∙ any-filter is_it here unowned)
        (tells-any (λ u. here u && is_it u) (λ (u : UnownedNumber). (u.host ≡ host.name) × (u.number ≡ n)) unowned (λ u. tells-both (here u) (is_it u) (bytes_eq-Decides u.host host.name) (tells-only u.number))) in
        as-told _ _ (any-three in_it keep.ranges (kept_numbers kept (pairs rows)) (if keep.unowned then unowned_on host unowned else []))
        (tells-one_of _ _ _ (tells-ranges keep.ranges) (tells-spared rows) (tells-where in_it (unowned_on host unowned) keep.unowned files))

-- ---- laws

pub only_what_stays : OnlyWhatStaysIsReserved
only_what_stays keep hosts unowned n = (
  tells-reserved_by n (λ (row : Passwd). row.name) (λ (row : Passwd). row.uid) (is_kept_user keep hosts) (λ host. host.users) keep.users hosts unowned.users,
  tells-reserved_by n (λ (row : Group). row.name) (λ (row : Group). row.gid) (is_kept_group keep hosts) (λ host. host.groups) keep.groups hosts unowned.groups,
)

pub spares_its_own : HostSparesItsOwn
spares_its_own keep hosts unowned host n = (
  tells-spared_by n (λ (row : Passwd). row.name) (λ (row : Passwd). row.uid) (is_kept_user keep hosts) keep.users host.users host unowned.users,
  tells-spared_by n (λ (row : Group). row.name) (λ (row : Group). row.gid) (is_kept_group keep hosts) keep.groups host.groups host unowned.groups,
)
