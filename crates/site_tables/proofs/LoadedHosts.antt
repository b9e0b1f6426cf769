-- What is known of a host that was loaded, by its texts.
use Rattle.std.proofs.Common.{◌≡◌, ℕ, ◌≤◌, Bool, true, false, not, cond, List, [], ◌∷◌, ◌++◌, length, map, get_or, Option, Some, None, Ok, refl, subst, inl, inr, ◌==◌, nat_lt}
use Rattle.std.specs.List.{All, slice_get}
use Rattle.std.proofs.lemmas.Bool.{cases_Bool, both_ways, and_from, false_from_ne_true, ltb-false}
use Rattle.std.proofs.lemmas.List.Elements.{All-nil, All-cons, All-contains, All-map}
use Rattle.std.proofs.lemmas.Option.{get_or_from_slice_get, slice_get-get_or, slice_get_within}
use Rattle.idtext.specs.First.{each, first_fault}
use Rattle.idtext.proofs.FirstLemmas.{none_of_both}
use Rattle.idtext.proofs.OkLemmas.{bind_ok, ok_same, unless_ok, each-ok}
use Rattle.accounts.specs.Tables.{passwd_table, group_table}
use Rattle.accounts.proofs.LawLemmas.{passwd-law, group-law}
use Rattle.logindefs.specs.declared.ranges.IdRange.{IdRange}
use Rattle.logindefs.specs.declared.ranges.HostRanges.{HostRanges}
use Rattle.logindefs.specs.Ranges.{AreApart, IsHostRanges, apart, in_range, ranges_of, share}
use Rattle.logindefs.proofs.SetLemmas.{shared-both}
use Rattle.hosts_join.specs.Checks.{hosts_checked, is_host_name, name_fault, primary_checked}
use Rattle.hosts_join.specs.Hosts.{IsLawfulHost}
use Rattle.hosts_join.specs.declared.host.Host.{Host}
use Rattle.hosts_join.specs.declared.texts.HostText.{HostText}
use Rattle.mergedfiles.specs.ReadBack.{WasRead}
use Rattle.unify_texts.specs.declared.bundle_line.FileName.TheVariants as file
use Rattle.site_tables.specs.declared.host.Loaded.{Loaded}
use Rattle.site_tables.specs.Hosts.{host_of, sparing_none}
use Rattle.site_tables.specs.Sparing.{SparesNothing}
use Rattle.unify_texts.specs.Told.{in_file}
use Rattle.site_tables.specs.Told.{in_site}
use Rattle.site_tables.proofs.Owners.{file_ok}
use Rattle.site_tables.proofs.SiteSteps.{site_ok}

-- ---- a host

not-shared : (r s : IdRange) → share r s ≡ false → AreApart r s
not-shared r s none number there = false_from_ne_true (in_range s number) (λ t. both_ways (share r s) none ((shared-both r s).1 (number, and_from (in_range r number) (in_range s number) there t)))

apart-ok : (given ranges : HostRanges) → apart given ≡ Ok ranges → IsHostRanges ranges
unfolding apart
apart-ok given ranges h = elim (cases_Bool (share given.uid given.sys_uid)) [
  | inl t ↦ let h' = rw t at h in absurd (cc)
  | inr f ↦ elim (cases_Bool (share given.gid given.sys_gid)) [
    | inl t ↦ let h' = rw (f, t) at h in absurd (cc)
    | inr g ↦ let h' = rw (f, g) at h in subst IsHostRanges (ok_same given ranges h') (record { uids_apart = not-shared given.uid given.sys_uid f; gids_apart = not-shared given.gid given.sys_gid g })
  ]
]

ranges-law : (text : List ℕ) (ranges : HostRanges) → ranges_of text ≡ Ok ranges → IsHostRanges ranges
unfolding ranges_of
ranges-law text ranges h = let step = bind_ok _ apart ranges h in apart-ok step.0 ranges step.2

-- what is known of a host that was loaded, by its texts
pub record IsReadFrom (text : HostText) (loaded : Loaded) : Type 0 where
  pub ranges : ranges_of text.logindefs ≡ Ok loaded.host.ranges
  pub users : passwd_table text.passwd ≡ Ok loaded.host.users
  pub groups : group_table text.group ≡ Ok loaded.host.groups
  pub primary : primary_checked loaded.host ≡ Ok tt
  pub named : text.name ≡ loaded.host.name
  pub inventory : text.mtree ≡ loaded.mtree
  pub unsparing : SparesNothing loaded.host

pub of-texts : (text : HostText) (loaded : Loaded) → host_of text ≡ Ok loaded → IsReadFrom text loaded
unfolding host_of
of-texts text loaded h =
    let ranges = bind_ok (in_file text.name file.LoginDefs (ranges_of text.logindefs)) _ loaded h in
    let users = bind_ok (in_file text.name file.Passwd (passwd_table text.passwd)) _ loaded ranges.2 in
    let groups = bind_ok (in_file text.name file.Group (group_table text.group)) _ loaded users.2 in
    let made : Host = sparing_none text.name ranges.0 users.0 groups.0 in
    let primary = bind_ok (in_site (primary_checked made)) _ loaded groups.2 in
    subst (IsReadFrom text) (ok_same (record { host = made; mtree = text.mtree }) loaded primary.2)
    (record {
      ranges = file_ok text.name file.LoginDefs (ranges_of text.logindefs) ranges.0 ranges.1;
      users = file_ok text.name file.Passwd (passwd_table text.passwd) users.0 users.1;
      groups = file_ok text.name file.Group (group_table text.group) groups.0 groups.1;
      primary = site_ok (primary_checked made) primary.0 primary.1;
      named = refl;
      inventory = refl;
      unsparing = record { users = refl; groups = refl };
    })

-- its tables are those of its texts
pub tables-of : (text : HostText) (loaded : Loaded) → host_of text ≡ Ok loaded → (passwd_table text.passwd ≡ Ok loaded.host.users) × (group_table text.group ≡ Ok loaded.host.groups)
tables-of text loaded h = let of = of-texts text loaded h in (of.users, of.groups)

-- a host that was loaded has the name and the inventory of its texts
pub as_loaded : (text : HostText) (loaded : Loaded) → host_of text ≡ Ok loaded → (text.name ≡ loaded.host.name) × (text.mtree ≡ loaded.mtree)
as_loaded text loaded h = let of = of-texts text loaded h in (of.named, of.inventory)

passed : {F : Type 0} (b : Bool) (e : F) (rest : Option F) → cond (not b) (Some e) rest ≡ None → b ≡ true
passed true e rest h = refl
passed false e rest h = absurd (cc)

all-named : (before texts : List HostText) → first_fault name_fault before texts ≡ None → All (λ t. is_host_name t.name ≡ true) texts
unfolding first_fault
all-named before [] h = All-nil (λ (t : HostText). is_host_name t.name ≡ true)
all-named before (t ∷ texts) h =
    let both = none_of_both (name_fault before t) (first_fault name_fault (before ++ t ∷ []) texts) h in
    All-cons (λ (t : HostText). is_host_name t.name ≡ true) t texts (passed (is_host_name t.name) _ _ both.0) (all-named (before ++ t ∷ []) texts both.1)

-- a list of hosts that is in order
list-checked : (texts : List HostText) (u : Unit {0}) → hosts_checked texts ≡ Ok u → (length texts ≤ 64) × (first_fault name_fault [] texts ≡ None)
unfolding hosts_checked
list-checked texts u h = elim (cases_Bool (length texts == 0)) [
  | inl t ↦ let h' = rw t at h in absurd (cc)
  | inr f ↦ elim (cases_Bool (nat_lt 64 (length texts))) [
    | inl t ↦ let h' = rw (f, t) at h in absurd (cc)
    | inr g ↦ let h' = rw (f, g) at h in (ltb-false 64 (length texts) g, (unless_ok (first_fault name_fault [] texts) tt u h').0)
  ]
]

pub texts-named : (texts : List HostText) (u : Unit {0}) → hosts_checked texts ≡ Ok u → All (λ t. is_host_name t.name ≡ true) texts
texts-named texts u h = all-named [] texts (list-checked texts u h).1

pub hosts-few : (texts : List HostText) (u : Unit {0}) → hosts_checked texts ≡ Ok u → length texts ≤ 64
hosts-few texts u h = (list-checked texts u h).0

pub all-at : {X : Type 0} (P : X → Type 0) (xs : List X) (k : ℕ) (x : X) → All P xs → slice_get xs k ≡ Some x → P x
all-at P xs k x all h = All-contains P xs x all (k, slice_get_within xs k x h, get_or_from_slice_get xs k x x h)

-- ---- the hosts that were loaded

loaded-all : (P : Host → Type 0) (texts : List HostText) (loaded : List Loaded) → each host_of texts ≡ Ok loaded → ((k : ℕ) (text : HostText) (l : Loaded) → slice_get texts k ≡ Some text → IsReadFrom text l → P l.host) → All P (map (λ l. l.host) loaded)
loaded-all P texts loaded h says =
    All-map P (λ (l : Loaded). l.host) loaded
    (λ k d m.
    let from = each-ok host_of texts loaded h k (get_or loaded k d) (slice_get-get_or loaded k d m) in
    says k from.0 (get_or loaded k d) from.1 (of-texts from.0 (get_or loaded k d) from.2))

pub loaded-lawful : (texts : List HostText) (loaded : List Loaded) → each host_of texts ≡ Ok loaded → All IsLawfulHost (map (λ l. l.host) loaded)
loaded-lawful texts loaded h =
    loaded-all IsLawfulHost texts loaded h (λ k text l at of. record {
      ranges = ranges-law text.logindefs l.host.ranges of.ranges;
      users = passwd-law text.passwd l.host.users of.users;
      groups = group-law text.group l.host.groups of.groups;
    })

-- a host that was loaded was read
pub loaded-read : (texts : List HostText) (loaded : List Loaded) → each host_of texts ≡ Ok loaded → All WasRead (map (λ l. l.host) loaded)
loaded-read texts loaded h = loaded-all WasRead texts loaded h (λ k text l at of. record { passwd = text.passwd; users = of.users; group = text.group; groups = of.groups; primary = of.primary })

-- it spares nothing
pub loaded-unsparing : (texts : List HostText) (loaded : List Loaded) → each host_of texts ≡ Ok loaded → All SparesNothing (map (λ l. l.host) loaded)
loaded-unsparing texts loaded h = loaded-all SparesNothing texts loaded h (λ k text l at of. of.unsparing)

-- the hosts that were loaded have the names that the list gives them
pub loaded-named : (texts : List HostText) (loaded : List Loaded) → each host_of texts ≡ Ok loaded → All (λ t. is_host_name t.name ≡ true) texts → All (λ h. is_host_name h.name ≡ true) (map (λ l. l.host) loaded)
loaded-named texts loaded h named =
    loaded-all (λ (x : Host). is_host_name x.name ≡ true) texts loaded h (λ k text l at of. subst (λ n. is_host_name n ≡ true) of.named (all-at (λ (t : HostText). is_host_name t.name ≡ true) texts k text named at))
