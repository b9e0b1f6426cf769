-- The numbers that are reserved, and what an empty text keeps.
use Rattle.std.proofs.Common.{◌≡◌, ℕ, zero, suc, ◌<◌, Bool, true, false, cond, not, List, [], ◌∷◌, ◌++◌, length, map, get_or, refl, sym, ap, ◌∙◌, subst, arith, Ok}
use Rattle.std.specs.Prelude.{filter, flat_map, if◌then◌else◌}
use Rattle.std.specs.List.{Contains}
use Rattle.std.proofs.Math.Path.{fun_ext}
use Rattle.std.proofs.lemmas.List.{append-nil}
use Rattle.std.proofs.lemmas.List.Elements.{Contains-append_left, Contains-append_right}
use Rattle.idtext.specs.First.{first_fault, unless}
use Rattle.idtext.specs.Pieces.{lines as lines_of, pieces}
use Rattle.accounts.specs.Rows.{Passwd, Group}
use Rattle.hosts_join.specs.Kinds.{user_rows, group_rows}
use Rattle.hosts_join.specs.declared.host.Host.{Host}
use Rattle.keep_text.specs.KeepTexts.{keep_of, keep_fault, kept_on, nothing_kept}
use Rattle.keep_text.specs.declared.keep_text.Kept.{Kept}
use Rattle.keep_text.specs.declared.keep_text.KeepText.{KeepText}
use Rattle.kept_accounts.specs.Keeping.{keeps, is_kept, is_kept_user, is_kept_group, users_on, groups_on, numbers_of, stays}
use Rattle.kept_accounts.specs.Laws.{KeepsNothing, KeepingDecides, EmptyTextKeepsNothing, KeptNumbersAreReserved, NumbersDecide}
use Rattle.kept_accounts.specs.Others.{kept_numbers, without}
use Rattle.kept_accounts.specs.Reserving.{by_name, by_range, by_files, only, reserved_on, reserved_by}
use Rattle.kept_accounts.specs.declared.reserving.UnownedNumber.{UnownedNumber}

pub numbers_decide : NumbersDecide
numbers_decide keep rows others name same = ap (stays keep name) same

pub keeping_decides : KeepingDecides
keeping_decides keep hosts users groups is_users is_groups =
    let user : keeps users ≡ is_kept_user keep hosts = fun_ext is_users.names_are in
    let group : keeps groups ≡ is_kept_group keep hosts = fun_ext is_groups.names_are in
    record {
      others = λ unowned host. ap (λ (kept : List ℕ → Bool). without keep kept (keeps groups) unowned host) user ∙ ap (λ (kept : List ℕ → Bool). without keep (is_kept_user keep hosts) kept unowned host) group;
      uids = λ unowned. ap (λ (kept : List ℕ → Bool). reserved_by kept (λ h. user_rows h.users) keep.users hosts unowned) user;
      gids = λ unowned. ap (λ (kept : List ℕ → Bool). reserved_by kept (λ h. group_rows h.groups) keep.groups hosts unowned) group;
    }

-- ---- members of lists that are made from others

pub in-map : {X Y : Type 0} (f : X → Y) (xs : List X) (x : X) → Contains xs x → Contains (map f xs) (f x)
in-map {X} {Y} f xs x there = at xs there.0 there.1 there.2
  where
    at : (ys : List X) (k : ℕ) → k < length ys → get_or ys k x ≡ x → Contains (map f ys) (f x)
    at [] k lt e = absurd (omega (arith, lt))
    at (y ∷ ys) zero lt e = (zero, omega arith, ap f e)
    at (y ∷ ys) (suc k) lt e = let more = at ys k (omega (arith, lt)) e in (suc more.0, omega (arith, more.1), more.2)

pub in-filter : {X : Type 0} (test : X → Bool) (xs : List X) (x : X) → Contains xs x → test x ≡ true → Contains (filter test xs) x
in-filter {X} test xs x there passes = at xs there.0 there.1 there.2
  where
    at : (ys : List X) (k : ℕ) → k < length ys → get_or ys k x ≡ x → Contains (filter test ys) x
    at [] k lt e = absurd (omega (arith, lt))
    at (y ∷ ys) zero lt e = by (test y) (ap test e ∙ passes)
      where
        by : (b : Bool) → b ≡ true → Contains (cond b (y ∷ filter test ys) (filter test ys)) x
        by true is = (zero, omega arith, e)
        by false is = absurd (cc)
    at (y ∷ ys) (suc k) lt e = by (test y) (at ys k (omega (arith, lt)) e)
      where
        by : (b : Bool) → Contains (filter test ys) x → Contains (cond b (y ∷ filter test ys) (filter test ys)) x
        by true more = (suc more.0, omega (arith, more.1), more.2)
        by false more = more

pub in-flat_map : {X Y : Type 0} (f : X → List Y) (xs : List X) (x : X) (y : Y) → Contains xs x → Contains (f x) y → Contains (flat_map f xs) y
in-flat_map {X} {Y} f xs x y there here = at xs there.0 there.1 there.2
  where
    at : (zs : List X) (k : ℕ) → k < length zs → get_or zs k x ≡ x → Contains (flat_map f zs) y
    at [] k lt e = absurd (omega (arith, lt))
    at (z ∷ zs) zero lt e = Contains-append_left (f z) (flat_map f zs) y (subst (λ (w : X). Contains (f w) y) (sym e) here)
    at (z ∷ zs) (suc k) lt e = Contains-append_right (f z) (flat_map f zs) y (at zs k (omega (arith, lt)) e)

-- ---- a kept name's number on a host

reserved_there : (kept : List ℕ → Bool) (listed : Host → List (List ℕ × ℕ)) (keep : Kept) (hosts : List Host) (unowned : List UnownedNumber) (host : Host) (row : List ℕ × ℕ) → Contains hosts host → Contains (listed host) row → kept row.0 ≡ true → Contains (reserved_by kept listed keep hosts unowned) (by_name host row)
reserved_there kept listed keep hosts unowned host row is_host is_row is_kept =
    let here : Contains (reserved_on kept listed host) (by_name host row) = in-map (by_name host) (filter (λ r. kept r.0) (listed host)) row (in-filter (λ r. kept r.0) (listed host) row is_row is_kept) in
    Contains-append_left (map by_range keep.ranges ++ flat_map (reserved_on kept listed) hosts) (if keep.unowned then map by_files unowned else []) (by_name host row)
    (Contains-append_right (map by_range keep.ranges) (flat_map (reserved_on kept listed) hosts) (by_name host row)
    (in-flat_map (reserved_on kept listed) hosts host (by_name host row) is_host here))

pub kept_reserved : KeptNumbersAreReserved
kept_reserved keep hosts unowned host row is_host = (
  λ is_row kept. reserved_there (is_kept_user keep hosts) (λ h. user_rows h.users) keep.users hosts unowned host row is_host is_row kept,
  λ is_row kept. reserved_there (is_kept_group keep hosts) (λ h. group_rows h.groups) keep.groups hosts unowned host row is_host is_row kept,
)

-- ---- an empty text

filter-all : {X : Type 0} (test : X → Bool) → ((x : X) → test x ≡ true) → (xs : List X) → filter test xs ≡ xs
filter-all test each [] = refl
filter-all test each (x ∷ xs) = ap (λ b. cond b (x ∷ filter test xs) (filter test xs)) (each x) ∙ ap (λ rest. x ∷ rest) (filter-all test each xs)

filter-no : {X : Type 0} (test : X → Bool) → ((x : X) → test x ≡ false) → (xs : List X) → filter test xs ≡ []
filter-no test none [] = refl
filter-no test none (x ∷ xs) = ap (λ b. cond b (x ∷ filter test xs) (filter test xs)) (none x) ∙ filter-no test none xs

flat_map-no : {X Y : Type 0} (f : X → List Y) → ((x : X) → f x ≡ []) → (xs : List X) → flat_map f xs ≡ []
flat_map-no f none [] = refl
flat_map-no f none (x ∷ xs) = ap (λ front. front ++ flat_map f xs) (none x) ∙ flat_map-no f none xs

stays-not : (name : List ℕ) (numbers : List ℕ) → stays nothing_kept name numbers ≡ false
stays-not name [] = refl
stays-not name (n ∷ ns) = refl

not_kept : (rows : List (List ℕ × ℕ)) (name : List ℕ) → is_kept nothing_kept rows name ≡ false
not_kept rows name = stays-not name (numbers_of rows name)

none_reserved : (rows : List (List ℕ × ℕ)) (listed : Host → List (List ℕ × ℕ)) (hosts : List Host) (unowned : List UnownedNumber) → reserved_by (is_kept nothing_kept rows) listed nothing_kept hosts unowned ≡ []
none_reserved rows listed hosts unowned =
    append-nil (flat_map (reserved_on (is_kept nothing_kept rows) listed) hosts)
    ∙ flat_map-no (reserved_on (is_kept nothing_kept rows) listed) (λ host. ap (map (by_name host)) (filter-no (λ row. is_kept nothing_kept rows row.0) (λ row. not_kept rows row.0) (listed host))) hosts

abbrev no_keep : KeepText
no_keep = record { users = nothing_kept; groups = nothing_kept }

none_kept : (hosts : List Host) → KeepsNothing no_keep hosts
none_kept hosts = record {
  users = not_kept (users_on hosts);
  groups = not_kept (groups_on hosts);
  uids = none_reserved (users_on hosts) (λ h. user_rows h.users) hosts;
  gids = none_reserved (groups_on hosts) (λ h. group_rows h.groups) hosts;
  others = λ unowned host.
      let rows = filter-all (λ (row : Passwd). not (is_kept_user no_keep hosts row.name)) (λ row. ap not (not_kept (users_on hosts) row.name)) host.users in
      let more = filter-all (λ (row : Group). not (is_kept_group no_keep hosts row.name)) (λ row. ap not (not_kept (groups_on hosts) row.name)) host.groups in
      let uids = append-nil (kept_numbers (is_kept_user no_keep hosts) (user_rows host.users)) ∙ ap (map (λ (row : List ℕ × ℕ). only row.1)) (filter-no (λ (row : List ℕ × ℕ). is_kept_user no_keep hosts row.0) (λ row. not_kept (users_on hosts) row.0) (user_rows host.users)) in
      let gids = append-nil (kept_numbers (is_kept_group no_keep hosts) (group_rows host.groups)) ∙ ap (map (λ (row : List ℕ × ℕ). only row.1)) (filter-no (λ (row : List ℕ × ℕ). is_kept_group no_keep hosts row.0) (λ row. not_kept (groups_on hosts) row.0) (group_rows host.groups)) in
      λ i. record host { users = rows i; groups = more i; spared_users = uids i; spared_groups = gids i };
}

lines-nil : lines_of [] ≡ []
unfolding lines_of pieces
lines-nil = refl

empty-text : (keep : KeepText) → keep_of [] ≡ Ok keep → no_keep ≡ keep
unfolding keep_of first_fault
empty-text keep e =
    let read : Ok no_keep ≡ Ok keep = sym (ap (λ ls. unless (first_fault keep_fault [] ls) (kept_on ls)) lines-nil) ∙ e in
    cc

pub empty_keeps_nothing : EmptyTextKeepsNothing
empty_keeps_nothing keep hosts e = subst (λ (k : KeepText). KeepsNothing k hosts) (empty-text keep e) (none_kept hosts)
