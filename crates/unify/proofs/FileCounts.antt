-- One file more, counted at the row that has its number.
use Rattle.std.proofs.Common.{◌≡◌, ℕ, zero, suc, ◌+◌, ◌<◌, ◌≤◌, Bool, true, false, cond, List, [], ◌∷◌, ◌++◌, length, map, set, get_or, Option, Some, None, refl, sym, ap, subst, ◌∙◌, arith, ◌==◌, replicate, position, nat_eq, inl, inr}
use Rattle.std.specs.List.{All, count_by, find}
use Rattle.std.specs.Prelude.{IfNone, IfSome, ◌||◌, is_none, not}
use Rattle.std.specs.Option.{is_some, option_map}
use Rattle.std.proofs.lemmas.Bool.{cases_Bool, eq-eqb, eqb-true, false_from_ne_true}
use Rattle.std.proofs.lemmas.List.Elements.{All-cons, All-head, All-nil, All-tail}
use Rattle.std.proofs.lemmas.List.Sums.{count_by-le-length, sum_by_push}
use Rattle.std.proofs.lemmas.List.Quantifiers.{position-Some}
use Rattle.accounts.specs.Laws.{IsGroupTable, IsPasswdTable}
use Rattle.accounts.specs.Rows.{Group, Passwd}
use Rattle.accounts.proofs.KnownLemmas.{find-none, find-some}
use Rattle.accounts.proofs.ListLemmas.{position-map}
use Rattle.hosts_join.specs.Hosts.{allows_gid, allows_uid, spares_group, spares_user}
use Rattle.hosts_join.specs.Kinds.{group_at, user_at}
use Rattle.hosts_join.specs.declared.host.Host.{Host}
use Rattle.mtree_inv.specs.declared.entry.Entry.{Entry}
use Rattle.site_tables.specs.Hosts.{owner_fault}
use Rattle.unify.specs.RowFiles.{row_files}
use Rattle.unify.proofs.Counts.{AreApart, apart}

module _ {R E : Type 0} (number : R → ℕ) (of : E → ℕ) where
  abbrev owned : List E → R → ℕ
  owned files r = count_by (λ e. of e == number r) files

  pushed : (files : List E) (e : E) (r : R) → owned (files ++ e ∷ []) r ≡ owned files r + cond {A = ℕ} (of e == number r) 1 0
  pushed files e r = sum_by_push (λ (x : E). cond {A = ℕ} (of x == number r) 1 0) files e

  -- rows of another number own as many as before
  others : (rows : List R) (files : List E) (e : E) → All (λ q. (of e == number q) ≡ false) rows → map (owned (files ++ e ∷ [])) rows ≡ map (owned files) rows
  others [] files e none = refl
  others (r ∷ rows) files e none =
      let is = λ (q : R). (of e == number q) ≡ false in
      let head : owned (files ++ e ∷ []) r ≡ owned files r = pushed files e r ∙ ap (λ (b : Bool). owned files r + cond {A = ℕ} b 1 0) (All-head is r rows none) ∙ omega arith in
      λ i. head i ∷ others rows files e (All-tail is r rows none) i

  -- the row that has its number owns one more
  one_more : (rows : List R) (place : ℕ) (d : R) (files : List E) (e : E) → place < length rows → AreApart number rows → of e ≡ number (get_or rows place d)
      → map (owned (files ++ e ∷ [])) rows ≡ set (map (owned files) rows) place (get_or (map (owned files) rows) place 0 + 1)
  one_more [] place d files e within apart same = absurd (omega (arith, within))
  one_more (r ∷ rows) zero d files e within apart same =
      let hit : (of e == number r) ≡ true = eq-eqb (of e) (number r) same in
      let head : owned (files ++ e ∷ []) r ≡ owned files r + 1 = pushed files e r ∙ ap (λ (b : Bool). owned files r + cond {A = ℕ} b 1 0) hit in
      let none = subst (λ n. All (λ q. (n == number q) ≡ false) rows) (sym same) apart.0 in
      λ i. head i ∷ others rows files e none i
  one_more (r ∷ rows) (suc place) d files e within apart same =
      let far : (number r == number (get_or rows place d)) ≡ false = apart.0 place d (omega (arith, within)) in
      let miss : (of e == number r) ≡ false = false_from_ne_true (of e == number r) (λ t.
      let hit : (number r == number (get_or rows place d)) ≡ true = eq-eqb (number r) (number (get_or rows place d)) (sym (eqb-true (of e) (number r) t) ∙ same) in
      let bad : true ≡ false = sym hit ∙ far in
      absurd (cc)) in
      let head : owned (files ++ e ∷ []) r ≡ owned files r = pushed files e r ∙ ap (λ (b : Bool). owned files r + cond {A = ℕ} b 1 0) miss ∙ omega arith in
      λ i. head i ∷ one_more rows place d files e (omega (arith, within)) apart.1 same i

  -- a row owns no more files than there are
  room_at : (rows : List R) (place : ℕ) (files : List E) → get_or (map (owned files) rows) place 0 ≤ length files
  room_at [] place files = omega arith
  room_at (r ∷ rows) zero files = count_by-le-length (λ e. of e == number r) files
  room_at (r ∷ rows) (suc place) files = room_at rows place files

  pub none_yet : (rows : List R) → map (owned []) rows ≡ replicate (length rows) 0
  none_yet [] = refl
  none_yet (r ∷ rows) = ap (λ ns. 0 ∷ ns) (none_yet rows)

  -- a number that is no row's
  missed : (rows : List R) (n : ℕ) → find (λ r. n == number r) rows ≡ None → All (λ q. (n == number q) ≡ false) rows
  missed [] n none = All-nil (λ q. (n == number q) ≡ false)
  missed (r ∷ rows) n none = elim (cases_Bool (n == number r)) [
    | inl t ↦ let bad = rw t at none in absurd (cc)
    | inr f ↦ All-cons (λ q. (n == number q) ≡ false) r rows f (missed rows n (rw f at none))
  ]

  -- counts for none
  pub none_more : (rows : List R) (files : List E) (e : E) → find (λ r. of e == number r) rows ≡ None → map (owned (files ++ e ∷ [])) rows ≡ map (owned files) rows
  none_more rows files e none = others rows files e (missed rows (of e) none)

-- ---- the place of the row that has a number

none_there : {F : Type 0} (user group : Bool) (e f : F) → group ≡ false → false ≡ is_none (cond user (cond group None (Some e)) (Some f))
none_there true true e f g = absurd (cc)
none_there true false e f g = refl
none_there false group e f g = refl

-- a number with a row, or spared
pub refused_place : (place : Option ℕ) (none spared : Bool) → is_some place ≡ not none → none ≡ true → spared ≡ false → (is_some place || spared) ≡ false
refused_place place none spared is there not_spared = ap (λ b. b || spared) (is ∙ ap not there) ∙ not_spared

pub allowed_place : (place : Option ℕ) (none spared : Bool) → is_some place ≡ not none → none ≡ false → (is_some place || spared) ≡ true
allowed_place place none spared is there = ap (λ b. b || spared) (is ∙ ap not there)

pub spared_place : (place : Option ℕ) (spared : Bool) → spared ≡ true → (is_some place || spared) ≡ true
spared_place (Some at) spared is = refl
spared_place None spared is = is

pub no_row : Passwd
no_row = record { line = 0; name = []; password = []; uid = 0; gid = 0; comment = []; home = []; shell = [] }

pub no_group_row : Group
no_group_row = record { line = 0; name = []; password = []; gid = 0; members = [] }

module _ (host : Host) (file : Entry) where
  abbrev user_place : Option ℕ
  user_place = position (λ (r : Passwd). nat_eq file.uid r.uid) host.users

  abbrev group_place : Option ℕ
  group_place = position (λ (r : Group). nat_eq file.gid r.gid) host.groups

  of_user : position (nat_eq file.uid) (map (λ (r : Passwd). r.uid) host.users) ≡ user_place
  of_user = position-map (nat_eq file.uid) (λ (r : Passwd). r.uid) host.users

  of_group : position (nat_eq file.gid) (map (λ (r : Group). r.gid) host.groups) ≡ group_place
  of_group = position-map (nat_eq file.gid) (λ (r : Group). r.gid) host.groups

  abbrev named_user : Option Passwd → Bool
  named_user o = is_some (option_map (λ (r : Passwd). r.name) o)

  abbrev named_group : Option Group → Bool
  named_group o = is_some (option_map (λ (r : Group). r.name) o)

  no_user_row : user_place ≡ None → find (λ (r : Passwd). nat_eq file.uid r.uid) host.users ≡ None
  no_user_row none = find-none (nat_eq file.uid) (λ (r : Passwd). r.uid) host.users (of_user ∙ none)

  no_group_row_there : group_place ≡ None → find (λ (r : Group). nat_eq file.gid r.gid) host.groups ≡ None
  no_group_row_there none = find-none (nat_eq file.gid) (λ (r : Group). r.gid) host.groups (of_group ∙ none)

  user_told : (place : Option ℕ) → user_place ≡ place → is_some (user_at host.users file.uid) ≡ is_some place
  user_told None here = ap named_user (no_user_row here)
  user_told (Some user) here = ap named_user (find-some (nat_eq file.uid) (λ (r : Passwd). r.uid) host.users user no_row (of_user ∙ here))

  group_told : (place : Option ℕ) → group_place ≡ place → is_some (group_at host.groups file.gid) ≡ is_some place
  group_told None here = ap named_group (no_group_row_there here)
  group_told (Some group) here = ap named_group (find-some (nat_eq file.gid) (λ (r : Group). r.gid) host.groups group no_group_row (of_group ∙ here))

  -- the host allows the number that it has a row for, or spares
  pub user_allowed : (place : Option ℕ) (allowed : Bool) → user_place ≡ place → (is_some place || spares_user host file.uid) ≡ allowed → allows_uid host file.uid ≡ allowed
  user_allowed place allowed here is = ap (λ b. b || spares_user host file.uid) (user_told place here) ∙ is

  pub group_allowed : (place : Option ℕ) (allowed : Bool) → group_place ≡ place → (is_some place || spares_group host file.gid) ≡ allowed → allows_gid host file.gid ≡ allowed
  group_allowed place allowed here is = ap (λ b. b || spares_group host file.gid) (group_told place here) ∙ is

  pub user_refused : allows_uid host file.uid ≡ false → false ≡ is_none (owner_fault host [] file)
  user_refused refused = rw refused refl

  pub group_refused : allows_gid host file.gid ≡ false → false ≡ is_none (owner_fault host [] file)
  group_refused refused = none_there (allows_uid host file.uid) (allows_gid host file.gid) _ _ refused

  pub both_allowed : allows_uid host file.uid ≡ true → allows_gid host file.gid ≡ true → true ≡ is_none (owner_fault host [] file)
  both_allowed user group = rw (user, group) refl

  one_user_more : (place : ℕ) (files : List Entry) → IsPasswdTable host.users → user_place ≡ Some place
      → (row_files host (files ++ file ∷ [])).users ≡ set (row_files host files).users place (get_or (row_files host files).users place 0 + 1)
  one_user_more place files table here =
      let at = position-Some (λ (r : Passwd). nat_eq file.uid r.uid) host.users place no_row here in
      one_more (λ (r : Passwd). r.uid) (λ (e : Entry). e.uid) host.users place no_row files file at.0 (apart (λ (r : Passwd). r.uid) host.users table.numbers_differ) (eqb-true file.uid (get_or host.users place no_row).uid at.1)

  one_group_more : (place : ℕ) (files : List Entry) → IsGroupTable host.groups → group_place ≡ Some place
      → (row_files host (files ++ file ∷ [])).groups ≡ set (row_files host files).groups place (get_or (row_files host files).groups place 0 + 1)
  one_group_more place files table here =
      let at = position-Some (λ (r : Group). nat_eq file.gid r.gid) host.groups place no_group_row here in
      one_more (λ (r : Group). r.gid) (λ (e : Entry). e.gid) host.groups place no_group_row files file at.0 (apart (λ (r : Group). r.gid) host.groups table.numbers_differ) (eqb-true file.gid (get_or host.groups place no_group_row).gid at.1)

  -- counts that have one more at the place, or stay where there is none
  pub users_more : (place : Option ℕ) (files : List Entry) (old new : List ℕ) → IsPasswdTable host.users → user_place ≡ place → old ≡ (row_files host files).users
      → IfSome place (λ at. new ≡ set old at (get_or old at 0 + 1)) → IfNone place (new ≡ old) → new ≡ (row_files host (files ++ file ∷ [])).users
  users_more (Some place) files old new table here were counted stays =
      counted ∙ ap (λ ns. set ns place (get_or ns place 0 + 1)) were ∙ sym (one_user_more place files table here)
  users_more None files old new table here were counted stays =
      stays ∙ were ∙ sym (none_more (λ (r : Passwd). r.uid) (λ (e : Entry). e.uid) host.users files file (no_user_row here))

  pub groups_more : (place : Option ℕ) (files : List Entry) (old new : List ℕ) → IsGroupTable host.groups → group_place ≡ place → old ≡ (row_files host files).groups
      → IfSome place (λ at. new ≡ set old at (get_or old at 0 + 1)) → IfNone place (new ≡ old) → new ≡ (row_files host (files ++ file ∷ [])).groups
  groups_more (Some place) files old new table here were counted stays =
      counted ∙ ap (λ ns. set ns place (get_or ns place 0 + 1)) were ∙ sym (one_group_more place files table here)
  groups_more None files old new table here were counted stays =
      stays ∙ were ∙ sym (none_more (λ (r : Group). r.gid) (λ (e : Entry). e.gid) host.groups files file (no_group_row_there here))

  -- there is room at the place, if there is one
  pub users_room : (place : Option ℕ) (files : List Entry) (old : List ℕ) (most : ℕ) → old ≡ (row_files host files).users → length files ≤ most → IfSome place (λ at. get_or old at 0 ≤ most)
  users_room None files old most were few = tt
  users_room (Some place) files old most were few = omega (arith, few, ap (λ ns. get_or ns place 0) were, room_at (λ (r : Passwd). r.uid) (λ (e : Entry). e.uid) host.users place files)

  pub groups_room : (place : Option ℕ) (files : List Entry) (old : List ℕ) (most : ℕ) → old ≡ (row_files host files).groups → length files ≤ most → IfSome place (λ at. get_or old at 0 ≤ most)
  groups_room None files old most were few = tt
  groups_room (Some place) files old most were few = omega (arith, few, ap (λ ns. get_or ns place 0) were, room_at (λ (r : Group). r.gid) (λ (e : Entry). e.gid) host.groups place files)
