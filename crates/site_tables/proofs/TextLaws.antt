-- What a site is before its inventories are read, in words of the texts.
use Rattle.std.proofs.Common.{◌≡◌, ℕ, Bool, true, false, cond, not, ◌&&◌, ◌||◌, List, [], ◌∷◌, map, get_or, None, Some, Ok, inl, inr, refl, sym, ap, subst, ◌∙◌}
use Rattle.std.specs.Prelude.{Decides, ◌↔◌, ◌==◌, bytes_eq, filter, find, is_some}
use Rattle.std.specs.List.{AllZip, Any, Contains, list_any}
use Rattle.std.proofs.lemmas.Bool.{and_from, and_parts, false≢true}
use Rattle.std.proofs.lemmas.List.Elements.{All-contains, All-contains_itself, All-filter, filter_passes}
use Rattle.std.proofs.lemmas.Slice.Eq.{bytes_eq-Decides}
use Rattle.idtext.specs.First.{◌>>=◌, each, first_fault, unless}
use Rattle.idtext.proofs.OkLemmas.{bind_ok, ok_same, unless_ok}
use Rattle.accounts.proofs.ListLemmas.{list_any-map}
use Rattle.accounts.specs.Rows.{Passwd, Group}
use Rattle.hosts_join.specs.Accounts.{Accounts}
use Rattle.hosts_join.specs.Checks.{gid_fault, hosts_checked, primary_checked}
use Rattle.hosts_join.specs.PinPairs.{PinPairs}
use Rattle.hosts_join.specs.Rules.{is_name, is_reserved}
use Rattle.hosts_join.specs.Site.{Joined, joined_site}
use Rattle.hosts_join.specs.declared.fault.SiteFault.TheVariants.{NoPrimaryGroup}
use Rattle.hosts_join.specs.declared.host.Host.{Host}
use Rattle.hosts_join.specs.declared.reserving.Reserved.{Reserved}
use Rattle.hosts_join.specs.declared.texts.HostText.{HostText}
use Rattle.keep_text.specs.declared.keep_text.Kept.{Kept}
use Rattle.keep_text.specs.declared.keep_text.KeepText.{KeepText}
use Rattle.kept_accounts.specs.Keeping.{is_kept_group, is_kept_user}
use Rattle.kept_accounts.specs.Laws.{NumberStays}
use Rattle.kept_accounts.specs.Others.{other_rows, without_kept}
use Rattle.kept_accounts.specs.Reserving.{UnownedNumbers, reserved_groups, reserved_users}
use Rattle.kept_accounts.proofs.OnlyLemmas.{only_what_stays, spares_its_own}
use Rattle.kept_accounts.proofs.ReservedLemmas.{in-filter}
use Rattle.kept_accounts.proofs.StayLemmas.{kept_names_stay}
use Rattle.unify_texts.specs.Maps.{map_of}
use Rattle.site_tables.specs.Mapped.{cost_begun, mapped_names, names_checked}
use Rattle.site_tables.specs.Hosts.{host_of, sparing_none}
use Rattle.site_tables.specs.MapLaws.{IsSomeGroup, IsSomeUser}
use Rattle.site_tables.specs.Others.{Others, others_loaded, pinned_site}
use Rattle.site_tables.specs.Begun.{site_begun}
use Rattle.site_tables.specs.TextLaws.{AreOfTexts, BegunCountsAreOfTexts, BegunSitesAreOfTexts, GroupStays, HasStayingGroup, HasStayingUser, HavePrimaryGroups, HostsAreOfTheirTexts, IsCostOfTexts, IsLeftOf, IsLoadedFrom, IsOfText, IsOfTexts, UserStays}
use Rattle.site_tables.specs.Told.{in_site}
use Rattle.site_tables.specs.declared.host.Loaded.{Loaded}
use Rattle.site_tables.specs.declared.rules.KeepRules.{KeepRules}
use Rattle.site_tables.proofs.AnyDecides.{any_decides, find_decides, some_found}
use Rattle.site_tables.proofs.FaultLaws.{same_number}
use Rattle.unify_texts.proofs.FirstFaults.{all_pass, none_fails}
use Rattle.site_tables.proofs.MapLaws.{maps_are_whole}
use Rattle.site_tables.proofs.LoadedHosts.{of-texts}
use Rattle.site_tables.proofs.ReadSites.{AreLoaded, ArePinned, are-loaded, are-pinned, reserved-are}
use Rattle.site_tables.proofs.SiteNames.{named_somewhere}
use Rattle.site_tables.proofs.SiteSteps.{together}

-- ---- the primary groups

pub gid_told : (host : Host) (row : Passwd) → Decides (is_some (find (λ (group : Group). row.gid == group.gid) host.groups)) (Any (λ (group : Group). group.gid ≡ row.gid) host.groups)
gid_told host row = find_decides (λ (group : Group). row.gid == group.gid) (λ group. group.gid ≡ row.gid) (λ group. same_number row.gid group.gid) host.groups

pub passes : {F : Type 0} (b : Bool) (f : F) → cond b None (Some f) ≡ None → b ≡ true
passes true f h = refl
passes false f h = absurd (cc)

has_primary : (host : Host) → primary_checked host ≡ Ok tt → HavePrimaryGroups host
unfolding primary_checked
has_primary host h k d lt =
    let none = (unless_ok (first_fault (gid_fault host) [] host.users) (tt {0}) tt h).0 in
    let row = get_or host.users k d in
    (gid_told host row).0 (passes (is_some (find (λ (group : Group). row.gid == group.gid) host.groups)) (NoPrimaryGroup host.name row.name) (none_fails (gid_fault host []) [] host.users none k d lt))

primary_back : (host : Host) → HavePrimaryGroups host → primary_checked host ≡ Ok tt
unfolding primary_checked
primary_back host has =
    ap (λ f. unless f (tt {0}))
    (all_pass (gid_fault host []) [] host.users
    (λ k d lt. let row = get_or host.users k d in ap (λ b. cond b None (Some (NoPrimaryGroup host.name row.name))) ((gid_told host row).1 (has k d lt))))

-- ---- a host in full

loaded_from_text : (text : HostText) (loaded : Loaded) → host_of text ≡ Ok loaded → IsLoadedFrom text loaded
loaded_from_text text loaded h =
    let of = of-texts text loaded h in
    record {
      host = record { named = sym of.named; ranges = of.ranges; users = of.users; groups = of.groups };
      primary = has_primary loaded.host of.primary;
      spares = of.unsparing;
      inventory = sym of.inventory;
    }

loaded_back : (text : HostText) (loaded : Loaded) → IsLoadedFrom text loaded → host_of text ≡ Ok loaded
unfolding host_of
loaded_back text loaded is =
    let made : Host = sparing_none text.name loaded.host.ranges loaded.host.users loaded.host.groups in
    rw (is.host.ranges, is.host.users, is.host.groups)
    (ap (λ r. in_site r >>= λ (primary : Unit {0}). Ok (record { host = made; mtree = text.mtree })) (primary_back made is.primary)
    ∙ (λ i. Ok (record {
      host = record {
        name = sym is.host.named i;
        ranges = loaded.host.ranges;
        users = loaded.host.users;
        groups = loaded.host.groups;
        spared_users = sym is.spares.users i;
        spared_groups = sym is.spares.groups i;
      };
      mtree = sym is.inventory i;
    })))

pub hosts_are_of_their_texts : HostsAreOfTheirTexts
hosts_are_of_their_texts text loaded = (loaded_from_text text loaded, loaded_back text loaded)

full_of_texts : (texts : List HostText) (loaded : List Loaded) → each host_of texts ≡ Ok loaded → AllZip IsOfText texts (map (λ (l : Loaded). l.host) loaded)
unfolding each
full_of_texts [] loaded h = subst (λ ls. AllZip IsOfText [] (map (λ (l : Loaded). l.host) ls)) (ok_same [] loaded h) tt
full_of_texts (t ∷ texts) loaded h =
    let first = bind_ok (host_of t) (λ y. each host_of texts >>= λ ys. Ok (y ∷ ys)) loaded h in
    let rest = bind_ok (each host_of texts) (λ ys. Ok (first.0 ∷ ys)) loaded first.2 in
    subst (λ ls. AllZip IsOfText (t ∷ texts) (map (λ (l : Loaded). l.host) ls)) (ok_same (first.0 ∷ rest.0) loaded rest.2)
    ((loaded_from_text t first.0 first.1).host, full_of_texts texts rest.0 rest.1)

-- ---- what is joined of it

pub denied : {P : Type 0} (b : Bool) → (b ≡ true) ↔ P → (not b ≡ true) ↔ (P → ⊥)
denied {P} b told = (λ e p. false≢true (sym (ap not (told.1 p)) ∙ e), λ never. by b refl never)
  where
    by : (c : Bool) → b ≡ c → (P → ⊥) → not b ≡ true
    by true is never = absurd (never (told.0 is))
    by false is never = ap not is

any_with : {X : Type 0} (P Q : X → Type 0) (xs : List X) → ((x : X) → P x ↔ Q x) → Any P xs ↔ Any Q xs
any_with P Q xs same = (λ at. (at.0, at.1, at.2, at.3, (same at.1).0 at.4), λ at. (at.0, at.1, at.2, at.3, (same at.1).1 at.4))

number_stays_with : {P Q R : Type 0} (keep : Kept) (n : ℕ) → P ↔ Q → NumberStays keep n P R ↔ NumberStays keep n Q R
number_stays_with {P} {Q} {R} keep n same = (there, back)
  where
    there : NumberStays keep n P R → NumberStays keep n Q R
    there (inl listed) = inl listed
    there (inr (inl had)) = inr (inl (same.0 had))
    there (inr (inr found)) = inr (inr found)

    back : NumberStays keep n Q R → NumberStays keep n P R
    back (inl listed) = inl listed
    back (inr (inl had)) = inr (inl (same.1 had))
    back (inr (inr found)) = inr (inr found)

both : {P Q R : Type 0} → P ↔ Q → Q ↔ R → P ↔ R
both one other = (λ p. other.0 (one.0 p), λ r. one.1 (other.1 r))

is_so : {P : Type 0} (a b : Bool) → a ≡ b → (b ≡ true) ↔ P → (a ≡ true) ↔ P
is_so a b same told = (λ e. told.0 (sym same ∙ e), λ p. same ∙ told.1 p)

from_filter : {X : Type 0} (test : X → Bool) (xs : List X) (x : X) → Contains (filter test xs) x → Contains xs x × (test x ≡ true)
from_filter test xs x there = (
  All-contains (Contains xs) (filter test xs) x (All-filter test (Contains xs) xs (All-contains_itself xs)) there,
  All-contains (λ y. test y ≡ true) (filter test xs) x (filter_passes test xs) there,
)

left_rows : {Row : Type 0} (name : Row → List ℕ) (kept : List ℕ → Bool) (Stay : List ℕ → Type 0) → ((n : List ℕ) → (kept n ≡ true) ↔ Stay n) → (rows : List Row) (row : Row)
    → Contains (other_rows name kept rows) row ↔ (Contains rows row × (Stay (name row) → ⊥))
left_rows name kept Stay told rows row =
    let away = denied (kept (name row)) (told (name row)) in (
      λ there. let is = from_filter (λ r. not (kept (name r))) rows row there in (is.0, away.0 is.1),
      λ is. in-filter (λ r. not (kept (name r))) rows row is.0 (away.1 is.1),
    )

module _ (keep : KeepText) (full : List Host) where
  user_told : (name : List ℕ) → (is_kept_user keep full name ≡ true) ↔ UserStays keep full name
  user_told name = (kept_names_stay keep full name).0

  group_told : (name : List ℕ) → (is_kept_group keep full name ≡ true) ↔ GroupStays keep full name
  group_told name = (kept_names_stay keep full name).1

  user_has : (uid : ℕ) (rows : List Passwd) → Any (λ row. (is_kept_user keep full row.name ≡ true) × (row.uid ≡ uid)) rows ↔ HasStayingUser keep full uid rows
  user_has uid rows = any_with (λ row. (is_kept_user keep full row.name ≡ true) × (row.uid ≡ uid)) (λ row. UserStays keep full row.name × (row.uid ≡ uid)) rows
      (λ row. (λ is. ((user_told row.name).0 is.0, is.1), λ is. ((user_told row.name).1 is.0, is.1)))

  group_has : (gid : ℕ) (rows : List Group) → Any (λ row. (is_kept_group keep full row.name ≡ true) × (row.gid ≡ gid)) rows ↔ HasStayingGroup keep full gid rows
  group_has gid rows = any_with (λ row. (is_kept_group keep full row.name ≡ true) × (row.gid ≡ gid)) (λ row. GroupStays keep full row.name × (row.gid ≡ gid)) rows
      (λ row. (λ is. ((group_told row.name).0 is.0, is.1), λ is. ((group_told row.name).1 is.0, is.1)))

  module _ (unowned : UnownedNumbers) where
    left_of : (was : Host) → IsLeftOf keep full unowned was (without_kept keep full unowned was)
    left_of was = record {
      named = refl;
      ranges = refl;
      users = left_rows (λ (row : Passwd). row.name) (is_kept_user keep full) (UserStays keep full) user_told was.users;
      groups = left_rows (λ (row : Group). row.name) (is_kept_group keep full) (GroupStays keep full) group_told was.groups;
      spared_users = λ uid. both (spares_its_own keep full unowned was uid).0 (number_stays_with keep.users uid (user_has uid was.users));
      spared_groups = λ gid. both (spares_its_own keep full unowned was gid).1 (number_stays_with keep.groups gid (group_has gid was.groups));
    }

    all_left_of : (hosts : List Host) → AllZip (IsLeftOf keep full unowned) hosts (map (without_kept keep full unowned) hosts)
    all_left_of [] = tt
    all_left_of (host ∷ hosts) = (left_of host, all_left_of hosts)

    reserved_uid : (uid : ℕ) → (is_reserved (reserved_users keep full unowned.users) uid ≡ true) ↔ NumberStays keep.users uid (Any (λ host. HasStayingUser keep full uid host.users) full) (Any (λ found. found.number ≡ uid) unowned.users)
    reserved_uid uid = both (only_what_stays keep full unowned uid).0 (number_stays_with keep.users uid (any_with (λ host. Any (λ row. (is_kept_user keep full row.name ≡ true) × (row.uid ≡ uid)) host.users) (λ host. HasStayingUser keep full uid host.users) full (λ host. user_has uid host.users)))

    reserved_gid : (gid : ℕ) → (is_reserved (reserved_groups keep full unowned.groups) gid ≡ true) ↔ NumberStays keep.groups gid (Any (λ host. HasStayingGroup keep full gid host.groups) full) (Any (λ found. found.number ≡ gid) unowned.groups)
    reserved_gid gid = both (only_what_stays keep full unowned gid).1 (number_stays_with keep.groups gid (any_with (λ host. Any (λ row. (is_kept_group keep full row.name ≡ true) × (row.gid ≡ gid)) host.groups) (λ host. HasStayingGroup keep full gid host.groups) full (λ host. group_has gid host.groups)))

-- ---- the names of the accounts

any-filter : {X : Type 0} (p test : X → Bool) (xs : List X) → list_any p (filter test xs) ≡ list_any (λ x. test x && p x) xs
any-filter p test [] = refl
any-filter p test (x ∷ xs) = by (test x) (any-filter p test xs)
  where
    by : (b : Bool) → list_any p (filter test xs) ≡ list_any (λ y. test y && p y) xs → list_any p (cond b (x ∷ filter test xs) (filter test xs)) ≡ ((b && p x) || list_any (λ y. test y && p y) xs)
    by true later = ap (λ b. p x || b) later
    by false later = later

-- whether a name is one of a kind that is joined
module _ {Row : Type 0} (name : Row → List ℕ) (rows : Host → List Row) (kept : List ℕ → Bool) (Stay : List ℕ → Type 0) (told : (n : List ℕ) → (kept n ≡ true) ↔ Stay n) (left : Host → Host) (are : (host : Host) → rows (left host) ≡ other_rows name kept (rows host)) (n : List ℕ) where
  abbrev IsLeft : Row → Type 0
  IsLeft row = (Stay (name row) → ⊥) × (name row ≡ n)

  abbrev Has : Host → Type 0
  Has host = Any (λ row. name row ≡ n) (rows host)

  left_here : (row : Row) → Decides (not (kept (name row)) && bytes_eq n (name row)) (IsLeft row)
  left_here row =
      let away = denied (kept (name row)) (told (name row)) in
      let same = bytes_eq-Decides n (name row) in (
        λ e. let parts = and_parts (not (kept (name row))) (bytes_eq n (name row)) e in (away.0 parts.0, sym (same.0 parts.1)),
        λ is. and_from (not (kept (name row))) (bytes_eq n (name row)) (away.1 is.0) (same.1 (sym is.1)),
      )

  left_on : (host : Host) → Decides (is_some (find (λ row. bytes_eq n (name row)) (rows (left host)))) (Any IsLeft (rows host))
  left_on host =
      is_so (is_some (find (λ row. bytes_eq n (name row)) (rows (left host)))) (list_any (λ row. not (kept (name row)) && bytes_eq n (name row)) (rows host))
      (ap (λ rs. is_some (find (λ row. bytes_eq n (name row)) rs)) (are host) ∙ some_found (λ row. bytes_eq n (name row)) (other_rows name kept (rows host)) ∙ any-filter (λ row. bytes_eq n (name row)) (λ row. not (kept (name row))) (rows host))
      (any_decides (λ row. not (kept (name row)) && bytes_eq n (name row)) IsLeft left_here (rows host))

  names_left : (full : List Host) → (list_any (λ host. is_some (find (λ row. bytes_eq n (name row)) (rows host))) (map left full) ≡ true) ↔ (Any Has full × (Stay n → ⊥))
  names_left full =
      both
      (is_so (list_any (λ host. is_some (find (λ row. bytes_eq n (name row)) (rows host))) (map left full)) (list_any (λ host. is_some (find (λ row. bytes_eq n (name row)) (rows (left host)))) full)
      (list_any-map (λ host. is_some (find (λ row. bytes_eq n (name row)) (rows host))) left full)
      (any_decides (λ host. is_some (find (λ row. bytes_eq n (name row)) (rows (left host)))) (λ host. Any IsLeft (rows host)) left_on full)) (
        λ at. let row = at.4 in ((at.0, at.1, at.2, at.3, (row.0, row.1, row.2, row.3, row.4.1)), λ stay. row.4.0 (subst Stay (sym row.4.1) stay)),
        λ is. let at = is.0 in let row = at.4 in (at.0, at.1, at.2, at.3, (row.0, row.1, row.2, row.3, (λ stay. is.1 (subst Stay row.4 stay), row.4))),
      )

-- ---- the hosts of a site

module _ (texts : List HostText) (rules : KeepRules) (others : Others) (from : AreLoaded texts rules others) where
  abbrev full : List Host
  full = map (λ (l : Loaded). l.host) from.loaded

  abbrev keep : KeepText
  keep = from.by.keep

  abbrev are_of_texts : AreOfTexts texts rules others.hosts
  are_of_texts = record {
    keep = keep;
    keep_is = from.by.read;
    full = full;
    full_are = full_of_texts texts from.loaded from.hosts_are;
    left = subst (λ (o : Others). AllZip (IsLeftOf keep full rules.unowned) full o.hosts) from.by.are (all_left_of keep full rules.unowned full);
  }

  module _ (pins_text : List ℕ) (joined : Joined) (pinned : ArePinned others pins_text joined) where
    abbrev left : Host → Host
    left = without_kept keep full rules.unowned

    abbrev hosts_are : map left full ≡ others.hosts
    hosts_are = ap (λ (o : Others). o.hosts) from.by.are

    abbrev reserved : (others.reserved_users ≡ joined.users.reserved) × (others.reserved_groups ≡ joined.groups.reserved)
    reserved = reserved-are others pins_text joined pinned

    abbrev pins : PinPairs
    pins = pinned.pins

    is_join : joined_site others.hosts (record pins { reserved_users = joined.users.reserved; reserved_groups = joined.groups.reserved }) ≡ Ok joined
    is_join = (λ i. joined_site others.hosts (record pins { reserved_users = sym reserved.0 i; reserved_groups = sym reserved.1 i })) ∙ pinned.joined_is

    abbrev all_pins : PinPairs
    all_pins = record pins { reserved_users = others.reserved_users; reserved_groups = others.reserved_groups }

    user_names : (n : List ℕ) → (is_name joined.users.names n ≡ true) ↔ (IsSomeUser full n × (UserStays keep full n → ⊥))
    user_names n =
        is_so (is_name joined.users.names n) (list_any (λ (h : Host). is_some (find (λ (r : Passwd). bytes_eq n r.name) h.users)) (map left full))
        (ap (λ (a : Accounts). is_name a.names n) (together others.hosts all_pins joined pinned.joined_is).users
        ∙ named_somewhere (λ (r : Passwd). r.name) (λ (r : Passwd). r.uid) (λ (h : Host). h.users) (λ (h : Host). h.ranges.uid) (λ (h : Host). h.ranges.sys_uid) others.hosts n
        ∙ ap (list_any (λ (h : Host). is_some (find (λ (r : Passwd). bytes_eq n r.name) h.users))) (sym hosts_are))
        (names_left (λ (r : Passwd). r.name) (λ (h : Host). h.users) (is_kept_user keep full) (UserStays keep full) (user_told keep full) left (λ host. refl) n full)

    group_names : (n : List ℕ) → (is_name joined.groups.names n ≡ true) ↔ (IsSomeGroup full n × (GroupStays keep full n → ⊥))
    group_names n =
        is_so (is_name joined.groups.names n) (list_any (λ (h : Host). is_some (find (λ (r : Group). bytes_eq n r.name) h.groups)) (map left full))
        (ap (λ (a : Accounts). is_name a.names n) (together others.hosts all_pins joined pinned.joined_is).groups
        ∙ named_somewhere (λ (r : Group). r.name) (λ (r : Group). r.gid) (λ (h : Host). h.groups) (λ (h : Host). h.ranges.gid) (λ (h : Host). h.ranges.sys_gid) others.hosts n
        ∙ ap (list_any (λ (h : Host). is_some (find (λ (r : Group). bytes_eq n r.name) h.groups))) (sym hosts_are))
        (names_left (λ (r : Group). r.name) (λ (h : Host). h.groups) (is_kept_group keep full) (GroupStays keep full) (group_told keep full) left (λ host. refl) n full)

    uids_reserved : reserved_users keep full rules.unowned.users ≡ joined.users.reserved
    uids_reserved = ap (λ (o : Others). o.reserved_users) from.by.are ∙ reserved.0

    gids_reserved : reserved_groups keep full rules.unowned.groups ≡ joined.groups.reserved
    gids_reserved = ap (λ (o : Others). o.reserved_groups) from.by.are ∙ reserved.1

-- ---- a site that was begun

pub begun_sites_are_of_texts : BegunSitesAreOfTexts
unfolding site_begun
begun_sites_are_of_texts texts rules begun is =
    let listed = bind_ok (in_site (hosts_checked texts)) _ begun is in
    let loading = bind_ok (others_loaded texts rules.keep) _ begun listed.2 in
    let others = loading.0 in
    let joining = bind_ok (pinned_site others rules.pins) _ begun loading.2 in
    let joined = joining.0 in
    let from = are-loaded texts rules.keep others loading.1 in
    let pinned = are-pinned others rules.pins joined joining.1 in
    let unowned = rules.keep.unowned in
    subst (IsOfTexts texts rules) (ok_same (record { hosts = others.hosts; joined = joined }) begun joining.2)
    (record {
      hosts = are_of_texts texts rules.keep others from;
      pins = pinned.pins;
      pins_are = pinned.pins_are;
      joined = is_join texts rules.keep others from rules.pins joined pinned;
      users = user_names texts rules.keep others from rules.pins joined pinned;
      groups = group_names texts rules.keep others from rules.pins joined pinned;
      reserved_users = λ uid.
          is_so (is_reserved joined.users.reserved uid) (is_reserved (reserved_users from.by.keep (map (λ (l : Loaded). l.host) from.loaded) unowned.users) uid)
          (ap (λ (rs : List Reserved). is_reserved rs uid) (sym (uids_reserved texts rules.keep others from rules.pins joined pinned)))
          (reserved_uid from.by.keep (map (λ (l : Loaded). l.host) from.loaded) unowned uid);
      reserved_groups = λ gid.
          is_so (is_reserved joined.groups.reserved gid) (is_reserved (reserved_groups from.by.keep (map (λ (l : Loaded). l.host) from.loaded) unowned.groups) gid)
          (ap (λ (rs : List Reserved). is_reserved rs gid) (sym (gids_reserved texts rules.keep others from rules.pins joined pinned)))
          (reserved_gid from.by.keep (map (λ (l : Loaded). l.host) from.loaded) unowned gid);
      users_are = sym (uids_reserved texts rules.keep others from rules.pins joined pinned);
      groups_are = sym (gids_reserved texts rules.keep others from rules.pins joined pinned);
    })

pub begun_counts_are_of_texts : BegunCountsAreOfTexts
unfolding cost_begun
begun_counts_are_of_texts texts keep map_text begun is =
    let listed = bind_ok (in_site (hosts_checked texts)) _ begun is in
    let loading = bind_ok (others_loaded texts keep) _ begun listed.2 in
    let others = loading.0 in
    let mapping = bind_ok (mapped_names map_text others.hosts) _ begun loading.2 in
    let reading = bind_ok (map_of map_text) _ mapping.0 mapping.1 in
    let checking = bind_ok (names_checked reading.0 others.hosts) _ mapping.0 reading.2 in
    let same : reading.0 ≡ mapping.0 = ok_same reading.0 mapping.0 checking.2 in
    subst (IsCostOfTexts texts keep map_text) (ok_same (record { hosts = others.hosts; names = mapping.0 }) begun mapping.2)
    (record {
      hosts = are_of_texts texts keep others (are-loaded texts keep others loading.1);
      map = reading.1 ∙ ap (λ m. Ok m) same;
      whole = (maps_are_whole mapping.0 others.hosts).passed.0 (ap (λ m. names_checked m others.hosts) (sym same) ∙ checking.1);
    })
