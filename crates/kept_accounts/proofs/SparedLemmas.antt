-- The numbers that a host spares without its kept rows.
use Rattle.std.proofs.Common.{◌≡◌, ◌⊎◌, inl, inr, ℕ, zero, suc, ◌<◌, ◌||◌, Bool, true, false, cond, List, [], ◌∷◌, ◌++◌, length, map, get_or, refl, sym, ap, ◌∙◌, subst, arith, Some, eqb, bytes_eq}
use Rattle.std.specs.Prelude.{filter, find, flat_map, if◌then◌else◌}
use Rattle.std.specs.List.{list_any, Contains}
use Rattle.std.specs.Option.{option_map}
use Rattle.std.proofs.Math.Bool.{or-true}
use Rattle.std.proofs.lemmas.Bool.{eqb-true, le-leb, false≢true}
use Rattle.std.proofs.lemmas.List.Elements.{Contains-append_right}
use Rattle.std.proofs.lemmas.List.Folds.{list_any-append}
use Rattle.std.proofs.lemmas.Slice.Eq.{bytes_eq-Decides}
use Rattle.logindefs.specs.Ranges.{in_range}
use Rattle.logindefs.specs.declared.ranges.IdRange.{IdRange}
use Rattle.accounts.proofs.ListLemmas.{list_any-map}
use Rattle.accounts.specs.Rows.{Passwd, Group}
use Rattle.hosts_join.specs.Kinds.{user_rows, group_rows}
use Rattle.hosts_join.specs.RangeLists.{lies_in_some}
use Rattle.hosts_join.specs.Rules.{is_reserved}
use Rattle.hosts_join.specs.declared.host.Host.{Host}
use Rattle.hosts_join.specs.declared.reserving.Reserved.{Reserved}
use Rattle.hosts_join.specs.declared.reserving.Reserver.TheVariants as by
use Rattle.keep_text.specs.declared.keep_text.Kept.{Kept}
use Rattle.keep_text.specs.declared.keep_text.KeepText.{KeepText}
use Rattle.kept_accounts.specs.Keeping.{is_kept_user, is_kept_group}
use Rattle.kept_accounts.specs.Laws.{NamedAreLeftOrSpared, SparedAreReserved, UnownedAreSpared, alone}
use Rattle.kept_accounts.specs.Others.{kept_numbers, other_rows, spared, unowned_on, without}
use Rattle.kept_accounts.specs.Reserving.{UnownedNumbers, by_files, by_name, by_range, only, reserved_by, reserved_groups, reserved_on, reserved_users}
use Rattle.kept_accounts.specs.declared.reserving.UnownedNumber.{UnownedNumber}
use Rattle.kept_accounts.proofs.OtherLemmas.{other_users_agree, other_groups_agree}
use Rattle.kept_accounts.proofs.ReservedLemmas.{in-map, in-filter}

any-left : {X : Type 0} (p : X → Bool) (xs ys : List X) → list_any p xs ≡ true → list_any p (xs ++ ys) ≡ true
any-left p xs ys e = list_any-append p xs ys ∙ ap (λ b. b || list_any p ys) e

any-right : {X : Type 0} (p : X → Bool) (xs ys : List X) → list_any p ys ≡ true → list_any p (xs ++ ys) ≡ true
any-right p xs ys e = list_any-append p xs ys ∙ ap (λ b. list_any p xs || b) e ∙ or-true (list_any p xs)

any-there : {X Y : Type 0} (p : Y → Bool) (f : X → List Y) (xs : List X) (x : X) → Contains xs x → list_any p (f x) ≡ true → list_any p (flat_map f xs) ≡ true
any-there {X} {Y} p f xs x there here = at xs there.0 there.1 there.2
  where
    at : (zs : List X) (k : ℕ) → k < length zs → get_or zs k x ≡ x → list_any p (flat_map f zs) ≡ true
    at [] k lt e = absurd (omega (arith, lt))
    at (z ∷ zs) zero lt e = any-left p (f z) (flat_map f zs) (ap (λ (w : X). list_any p (f w)) e ∙ here)
    at (z ∷ zs) (suc k) lt e = any-right p (f z) (flat_map f zs) (at zs k (omega (arith, lt)) e)

any-parts : {X : Type 0} (p : X → Bool) (xs ys : List X) → list_any p (xs ++ ys) ≡ true → (list_any p xs ≡ true) ⊎ (list_any p ys ≡ true)
any-parts p xs ys e = by (list_any p xs) (sym (list_any-append p xs ys) ∙ e)
  where
    by : (b : Bool) → (b || list_any p ys) ≡ true → (b ≡ true) ⊎ (list_any p ys ≡ true)
    by true is = inl refl
    by false is = inr is

-- one that passes a test too is one
any-of : {X : Type 0} (p test : X → Bool) (xs : List X) → list_any p (filter test xs) ≡ true → list_any p xs ≡ true
any-of p test [] e = e
any-of p test (x ∷ xs) e = by (test x) e (any-of p test xs)
  where
    by : (b : Bool) → list_any p (cond b (x ∷ filter test xs) (filter test xs)) ≡ true → (list_any p (filter test xs) ≡ true → list_any p xs ≡ true) → (p x || list_any p xs) ≡ true
    by true is later = head (p x) is later
      where
        head : (h : Bool) → (h || list_any p (filter test xs)) ≡ true → (list_any p (filter test xs) ≡ true → list_any p xs ≡ true) → (h || list_any p xs) ≡ true
        head true here further = refl
        head false here further = further here
    by false is later = ap (λ b. p x || b) (later is) ∙ or-true (p x)

any-in : {X : Type 0} (p : X → Bool) (xs : List X) (x : X) → Contains xs x → p x ≡ true → list_any p xs ≡ true
any-in {X} p xs x there passes = at xs there.0 there.1 there.2
  where
    at : (ys : List X) (k : ℕ) → k < length ys → get_or ys k x ≡ x → list_any p ys ≡ true
    at [] k lt e = absurd (omega (arith, lt))
    at (y ∷ ys) zero lt e = ap (λ b. b || list_any p ys) (ap p e ∙ passes)
    at (y ∷ ys) (suc k) lt e = ap (λ b. p y || b) (at ys k (omega (arith, lt)) e) ∙ or-true (p y)

-- ---- what is left of a host

-- unowned: of both kinds, as they were told
pub host-left : (keep : KeepText) (user group : List ℕ → Bool) (unowned : UnownedNumbers) (host : Host) (name : List ℕ) (users : List Passwd) (groups : List Group) (spared_users spared_groups : List IdRange) (uids gids : List UnownedNumber)
    → name ≡ host.name → users ≡ other_rows (λ row. row.name) user host.users → groups ≡ other_rows (λ row. row.name) group host.groups
    → uids ≡ unowned.users → gids ≡ unowned.groups
    → spared_users ≡ spared keep.users user (user_rows host.users) (unowned_on host uids)
    → spared_groups ≡ spared keep.groups group (group_rows host.groups) (unowned_on host gids)
    → record host { name = name; users = users; groups = groups; spared_users = spared_users; spared_groups = spared_groups } ≡ without keep user group unowned host
host-left keep user group unowned host name users groups spared_users spared_groups uids gids named is_users is_groups are_uids are_gids of_users of_groups =
    let all_users = of_users ∙ ap (λ (us : List UnownedNumber). spared keep.users user (user_rows host.users) (unowned_on host us)) are_uids in
    let all_groups = of_groups ∙ ap (λ (us : List UnownedNumber). spared keep.groups group (group_rows host.groups) (unowned_on host us)) are_gids in
    λ i. record host { name = named i; users = is_users i; groups = is_groups i; spared_users = all_users i; spared_groups = all_groups i }

-- ---- what is spared is reserved

kept-reserved : (kept : List ℕ → Bool) (listed : Host → List (List ℕ × ℕ)) (host : Host) (n : ℕ) → lies_in_some (kept_numbers kept (listed host)) n ≡ true → is_reserved (reserved_on kept listed host) n ≡ true
kept-reserved kept listed host n lies =
    let rows : List (List ℕ × ℕ) = filter (λ row. kept row.0) (listed host) in
    list_any-map (λ (r : Reserved). in_range r.numbers n) (by_name host) rows
    ∙ sym (list_any-map (λ (r : IdRange). in_range r n) (λ (row : List ℕ × ℕ). only row.1) rows)
    ∙ lies

files-reserved : (host : Host) (unowned : List UnownedNumber) (n : ℕ) → lies_in_some (unowned_on host unowned) n ≡ true → is_reserved (map by_files unowned) n ≡ true
files-reserved host unowned n lies =
    let has : UnownedNumber → Bool = λ u. in_range (only u.number) n in
    let here : UnownedNumber → Bool = λ u. bytes_eq u.host host.name in
    list_any-map (λ (r : Reserved). in_range r.numbers n) by_files unowned
    ∙ any-of has here unowned (sym (list_any-map (λ (r : IdRange). in_range r n) (λ (u : UnownedNumber). only u.number) (filter here unowned)) ∙ lies)

kind-reserved : (keep : Kept) (kept : List ℕ → Bool) (listed : Host → List (List ℕ × ℕ)) (hosts : List Host) (unowned : List UnownedNumber) (host : Host) (n : ℕ) → Contains hosts host → lies_in_some (spared keep kept (listed host) (unowned_on host unowned)) n ≡ true → is_reserved (reserved_by kept listed keep hosts unowned) n ≡ true
kind-reserved keep kept listed hosts unowned host n there lies =
    last (any-parts in_it (keep.ranges ++ kept_numbers kept (listed host)) (if keep.unowned then unowned_on host unowned else []) lies)
  where
    in_it : IdRange → Bool
    in_it r = in_range r n

    has : Reserved → Bool
    has r = in_range r.numbers n

    names : List Reserved
    names = flat_map (reserved_on kept listed) hosts

    files : List Reserved
    files = if keep.unowned then map by_files unowned else []

    asked : (b : Bool) → lies_in_some (if b then unowned_on host unowned else []) n ≡ true → is_reserved (if b then map by_files unowned else []) n ≡ true
    asked true is = files-reserved host unowned n is
    asked false is = is

    front : (list_any in_it keep.ranges ≡ true) ⊎ (list_any in_it (kept_numbers kept (listed host)) ≡ true) → list_any has (map by_range keep.ranges ++ names) ≡ true
    front (inl is) = any-left has (map by_range keep.ranges) names (list_any-map has by_range keep.ranges ∙ is)
    front (inr is) = any-right has (map by_range keep.ranges) names (any-there has (reserved_on kept listed) hosts host there (kept-reserved kept listed host n is))

    last : (list_any in_it (keep.ranges ++ kept_numbers kept (listed host)) ≡ true) ⊎ (list_any in_it (if keep.unowned then unowned_on host unowned else []) ≡ true) → is_reserved (reserved_by kept listed keep hosts unowned) n ≡ true
    last (inl is) = any-left has (map by_range keep.ranges ++ names) files (front (any-parts in_it keep.ranges (kept_numbers kept (listed host)) is))
    last (inr is) = any-right has (map by_range keep.ranges ++ names) files (asked keep.unowned is)

pub spared_reserved : SparedAreReserved
spared_reserved keep hosts unowned host n there = (
  kind-reserved keep.users (is_kept_user keep hosts) (λ h. user_rows h.users) hosts unowned.users host n there,
  kind-reserved keep.groups (is_kept_group keep hosts) (λ h. group_rows h.groups) hosts unowned.groups host n there,
)

-- ---- a number that the table names is left or spared

only-has : (n : ℕ) → in_range (only n) n ≡ true
only-has n = rw (le-leb n n (omega arith)) refl

-- a kept row has the number
abbrev kept_has : (List ℕ → Bool) → ℕ → List (List ℕ × ℕ) → Bool
kept_has kept n rows = list_any (λ (row : List ℕ × ℕ). in_range (only row.1) n) (filter (λ (row : List ℕ × ℕ). kept row.0) rows)

kept-spared : (keep : Kept) (kept : List ℕ → Bool) (rows : List (List ℕ × ℕ)) (unowned : List IdRange) (n : ℕ) → kept_has kept n rows ≡ true → lies_in_some (spared keep kept rows unowned) n ≡ true
kept-spared keep kept rows unowned n found =
    let in_it : IdRange → Bool = λ r. in_range r n in
    any-left in_it (keep.ranges ++ kept_numbers kept rows) (if keep.unowned then unowned else [])
    (any-right in_it keep.ranges (kept_numbers kept rows)
    (list_any-map in_it (λ (row : List ℕ × ℕ). only row.1) (filter (λ row. kept row.0) rows) ∙ found))

module _ {Row : Type 0} (name : Row → List ℕ) (number : Row → ℕ) (kept : List ℕ → Bool) (n : ℕ) (named : List ℕ) where
  abbrev has_it : Row → Bool
  has_it row = eqb n (number row)

  abbrev pairs : List Row → List (List ℕ × ℕ)
  pairs rows = map (λ row. (name row, number row)) rows

  found-kept : (rows : List Row) → kept named ≡ true → option_map name (find has_it rows) ≡ Some named → kept_has kept n (pairs rows) ≡ true
  found-kept [] keeps e = absurd (cc)
  found-kept (row ∷ rows) keeps e = by (has_it row) (kept (name row)) refl refl e (found-kept rows keeps)
    where
      by : (b k : Bool) → has_it row ≡ b → kept (name row) ≡ k → option_map name (cond b (Some row) (find has_it rows)) ≡ Some named
          → (option_map name (find has_it rows) ≡ Some named → kept_has kept n (pairs rows) ≡ true)
          → list_any (λ (r : List ℕ × ℕ). in_range (only r.1) n) (cond k ((name row, number row) ∷ filter (λ (r : List ℕ × ℕ). kept r.0) (pairs rows)) (filter (λ (r : List ℕ × ℕ). kept r.0) (pairs rows))) ≡ true
      by true true is stays e further =
          let same : n ≡ number row = eqb-true n (number row) is in
          ap (λ b. b || kept_has kept n (pairs rows)) (ap (λ m. in_range (only m) n) (sym same) ∙ only-has n)
      by true false is stays e further =
          let same : name row ≡ named = cc in
          absurd (false≢true (sym stays ∙ ap kept same ∙ keeps))
      by false true is stays e further = ap (λ b. in_range (only (number row)) n || b) (further e) ∙ or-true (in_range (only (number row)) n)
      by false false is stays e further = further e

  left-or-spared : (keep : Kept) (unowned : List IdRange) (rows : List Row) → option_map name (find has_it rows) ≡ Some named
      → (option_map name (find has_it (other_rows name kept rows)) ≡ Some named) ⊎ (kept named ≡ true)
      → (option_map name (find has_it (other_rows name kept rows)) ≡ Some named) ⊎ (lies_in_some (spared keep kept (pairs rows) unowned) n ≡ true)
  left-or-spared keep unowned rows e (inl left) = inl left
  left-or-spared keep unowned rows e (inr keeps) = inr (kept-spared keep kept (pairs rows) unowned n (found-kept rows keeps e))

pub named_left_or_spared : NamedAreLeftOrSpared
named_left_or_spared keep hosts unowned host n named = (
  λ e. left-or-spared (λ (row : Passwd). row.name) (λ (row : Passwd). row.uid) (is_kept_user keep hosts) n named keep.users (unowned_on host unowned.users) host.users e ((other_users_agree (is_kept_user keep hosts) host.users n named).1 e),
  λ e. left-or-spared (λ (row : Group). row.name) (λ (row : Group). row.gid) (is_kept_group keep hosts) n named keep.groups (unowned_on host unowned.groups) host.groups e ((other_groups_agree (is_kept_group keep hosts) host.groups n named).1 e),
)

-- ---- a number of files without an account

unowned-here : (keep : Kept) (kept : List ℕ → Bool) (rows : List (List ℕ × ℕ)) (host : Host) (unowned : List UnownedNumber) (found : UnownedNumber) → found.host ≡ host.name → keep.unowned ≡ true → Contains unowned found → lies_in_some (spared keep kept rows (unowned_on host unowned)) found.number ≡ true
unowned-here keep kept rows host unowned found same stays there =
    let in_it : IdRange → Bool = λ r. in_range r found.number in
    let here : UnownedNumber → Bool = λ u. bytes_eq u.host host.name in
    any-right in_it (keep.ranges ++ kept_numbers kept rows) (if keep.unowned then unowned_on host unowned else [])
    (ap (λ b. lies_in_some (if b then unowned_on host unowned else []) found.number) stays
    ∙ list_any-map in_it (λ (u : UnownedNumber). only u.number) (filter here unowned)
    ∙ any-in (λ (u : UnownedNumber). in_range (only u.number) found.number) (filter here unowned) found (in-filter here unowned found there ((bytes_eq-Decides found.host host.name).1 same)) (only-has found.number))

unowned-reserved : (keep : Kept) (kept : List ℕ → Bool) (listed : Host → List (List ℕ × ℕ)) (hosts : List Host) (unowned : List UnownedNumber) (found : UnownedNumber) → keep.unowned ≡ true → Contains unowned found → Contains (reserved_by kept listed keep hosts unowned) (by_files found)
unowned-reserved keep kept listed hosts unowned found stays there =
    Contains-append_right (map by_range keep.ranges ++ flat_map (reserved_on kept listed) hosts) (if keep.unowned then map by_files unowned else []) (by_files found)
    (subst (λ b. Contains (if b then map by_files unowned else []) (by_files found)) (sym stays) (in-map by_files unowned found there))

pub unowned_spared : UnownedAreSpared
unowned_spared keep hosts unowned host found same = (
  λ stays there. (
    unowned-here keep.users (is_kept_user keep hosts) (user_rows host.users) host unowned.users found same stays there,
    subst (λ (name : List ℕ). Contains (reserved_users keep hosts unowned.users) (alone found.number (by.Unowned name))) same
        (unowned-reserved keep.users (is_kept_user keep hosts) (λ h. user_rows h.users) hosts unowned.users found stays there),
  ),
  λ stays there. (
    unowned-here keep.groups (is_kept_group keep hosts) (group_rows host.groups) host unowned.groups found same stays there,
    subst (λ (name : List ℕ). Contains (reserved_groups keep hosts unowned.groups) (alone found.number (by.Unowned name))) same
        (unowned-reserved keep.groups (is_kept_group keep hosts) (λ h. group_rows h.groups) hosts unowned.groups found stays there),
  ),
)
