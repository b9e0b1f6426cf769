-- What is reserved of a site can be told.
use Rattle.std.proofs.Common.{◌≡◌, ℕ, ◌<◌, ◌≤◌, ◌++◌, ◌==◌, Bool, true, List, [], ◌∷◌, length, map, get_or, Result, Ok, Err, not, if◌then◌else◌, inl, inr, refl, ap, subst, ◌∙◌, arith}
use Rattle.std.specs.List.{All, AllByRecursion, filter, flat_map, list_all}
use Rattle.std.proofs.lemmas.Bool.{and_parts, cases_Bool, cond_both}
use Rattle.std.proofs.lemmas.Bool.Decides.{nat_tests}
use Rattle.std.proofs.lemmas.List.{get_or-map, length-map}
use Rattle.std.proofs.lemmas.List.Elements.{All-append, All-cons, All-filter, All-from_recursion, All-head, All-map, All-nil, All-tail, All-weaker, recursion_from_All}
use Rattle.std.proofs.lemmas.Option.{slice_get-get_or}
use Rattle.idtext.specs.First.{each}
use Rattle.idtext.specs.Names.{is_lawful_name}
use Rattle.idtext.specs.Numbers.{greatest_id}
use Rattle.idtext.proofs.OkLemmas.{bind_ok, each-ok, ok_same}
use Rattle.accounts.specs.Laws.{AreIds}
use Rattle.accounts.specs.Rows.{Passwd, Group}
use Rattle.mtree_inv.specs.Files.{AreFiles}
use Rattle.mtree_inv.specs.declared.entry.Entry.{Entry}
use Rattle.mtree_inv.proofs.LawfulLemmas.{inventory-files}
use Rattle.hosts_join.specs.Checks.{hosts_checked, is_host_byte, is_host_name}
use Rattle.hosts_join.specs.Hosts.{IsLawfulHost}
use Rattle.hosts_join.specs.Kinds.{group_rows, user_rows}
use Rattle.hosts_join.specs.declared.host.Host.{Host}
use Rattle.hosts_join.specs.declared.reserving.Reserved.{Reserved}
use Rattle.hosts_join.specs.declared.texts.HostText.{HostText}
use Rattle.keep_text.specs.KeepLaws.{IsLawfulKept}
use Rattle.keep_text.specs.declared.keep_text.Kept.{Kept}
use Rattle.keep_text.specs.declared.keep_text.KeepText.{KeepText}
use Rattle.keep_text.proofs.KeepBack.{read_keeps_are_lawful}
use Rattle.kept_accounts.specs.Keeping.{is_kept_group, is_kept_user}
use Rattle.kept_accounts.specs.Reserving.{UnownedNumbers, by_files, by_name, by_range, no_numbers, reserved_by, reserved_on}
use Rattle.kept_accounts.specs.declared.reserving.UnownedNumber.{UnownedNumber}
use Rattle.survey.specs.Unowned.{each_once, is_unowned_gid, is_unowned_uid, on_host, unowned_gids, unowned_uids, unowned_with}
use Rattle.unify_texts.specs.ReservedBack.{IsShown, IsTellable}
use Rattle.unify_texts.specs.declared.fault.Fault.{Fault}
use Rattle.site_tables.specs.declared.host.Loaded.{Loaded}
use Rattle.site_tables.specs.Hosts.{host_of}
use Rattle.site_tables.specs.Loading.{loaded_from}
use Rattle.site_tables.specs.Others.{Others, keep_read}
use Rattle.site_tables.specs.Survey.{found_on, inventory_of, keeps_unowned, listed_of, sparing_ranges, surveyed_hosts, unowned_over}
use Rattle.site_tables.specs.Told.{in_site}
use Rattle.site_tables.proofs.ReadSites.{are-loaded, are-pinned, reserved-are}
use Rattle.site_tables.proofs.Owners.{file_ok}
use Rattle.site_tables.proofs.LoadedHosts.{all-at, loaded-lawful, loaded-named, tables-of, texts-named}
use Rattle.site_tables.proofs.SiteSteps.{site_ok}
use Rattle.unify_laws.specs.Reserved.{IsOfBytes, ReservedNumbersAreTellable}
use Rattle.unify_laws.proofs.HostTexts.{begun_steps}
use Rattle.unify_laws.proofs.RowBytes.{AreBytes, groups-bytes, users-bytes}

-- ---- names

filled : (name : List ℕ) → is_lawful_name name ≡ true → 0 < length name
filled [] lawful = absurd (cc)
filled (b ∷ name) lawful = omega arith

shown : (name : List ℕ) → is_lawful_name name ≡ true → AreBytes name → IsShown name
shown name lawful bytes = record { some = filled name lawful; bytes = All-from_recursion (λ b. b < 256) name bytes }

host-byte : (b : ℕ) → is_host_byte b ≡ true → b < 256
host-byte b is = grind (arith, nat_tests)

host-bytes : (name : List ℕ) → list_all is_host_byte name ≡ true → AreBytes name
host-bytes [] is = tt
host-bytes (b ∷ name) is = let both = and_parts (is_host_byte b) (list_all is_host_byte name) is in (host-byte b both.0, host-bytes name both.1)

host-shown : (name : List ℕ) → is_host_name name ≡ true → IsShown name
host-shown [] is = absurd (cc)
host-shown (b ∷ name) is =
    let parts = and_parts _ (list_all is_host_byte (b ∷ name)) (and_parts _ _ is).1 in
    record { some = omega arith; bytes = All-from_recursion (λ c. c < 256) (b ∷ name) (host-bytes (b ∷ name) parts.1) }

-- ---- rows

record IsRow (row : List ℕ × ℕ) : Type 0 where
  name : IsShown row.0
  number : row.1 ≤ greatest_id

module _ {Row : Type 0} (name : Row → List ℕ) (number : Row → ℕ) where
  lawful-names : (rows : List Row) → list_all is_lawful_name (map name rows) ≡ true → AllByRecursion (λ row. is_lawful_name (name row) ≡ true) rows
  lawful-names [] is = tt
  lawful-names (row ∷ rows) is = let both = and_parts (is_lawful_name (name row)) (list_all is_lawful_name (map name rows)) is in (both.0, lawful-names rows both.1)

  are-rows : (rows : List Row) → list_all is_lawful_name (map name rows) ≡ true → AreIds (map number rows) → AllByRecursion (λ row. AreBytes (name row)) rows → All IsRow (map (λ row. (name row, number row)) rows)
  are-rows rows lawful ids bytes =
      let named = All-from_recursion (λ row. is_lawful_name (name row) ≡ true) rows (lawful-names rows lawful) in
      let byted = All-from_recursion (λ row. AreBytes (name row)) rows bytes in
      All-map IsRow (λ row. (name row, number row)) rows (λ k d within. record {
        name = shown (name (get_or rows k d)) (named k d within) (byted k d within);
        number = subst (λ v. v ≤ greatest_id) (get_or-map number rows k d 0 within) (ids k (omega (arith, within, length-map rows number)));
      })

-- a host whose rows are such
record HasRows (host : Host) : Type 0 where
  named : IsShown host.name
  users : All IsRow (user_rows host.users)
  groups : All IsRow (group_rows host.groups)

-- ---- what is reserved

all-flat : {X Y : Type 0} (P : Y → Type 0) (f : X → List Y) (xs : List X) → All (λ x. All P (f x)) xs → All P (flat_map f xs)
all-flat P f [] all = All-nil P
all-flat P f (x ∷ xs) all = All-append P (f x) (flat_map f xs) (All-head (λ y. All P (f y)) x xs all) (all-flat P f xs (All-tail (λ y. All P (f y)) x xs all))

-- a number that files of a host have, and no account of it
record IsFound (found : UnownedNumber) : Type 0 where
  host : IsShown found.host
  number : found.number ≤ greatest_id

module _ (kept : List ℕ → Bool) (rows : Host → List (List ℕ × ℕ)) (keep : Kept) (hosts : List Host) (unowned : List UnownedNumber) where
  all-tellable : IsLawfulKept keep → All (λ host. IsShown host.name) hosts → All (λ host. All IsRow (rows host)) hosts → All IsFound unowned → All IsTellable (reserved_by kept rows keep hosts unowned)
  all-tellable lawful named are found =
      All-append IsTellable (map by_range keep.ranges ++ flat_map (reserved_on kept rows) hosts) (if keep.unowned then map by_files unowned else [])
      (All-append IsTellable (map by_range keep.ranges) (flat_map (reserved_on kept rows) hosts)
      (All-map IsTellable by_range keep.ranges (λ k d within. let range = lawful.ranges_are_of_ids k d within in record { low = omega (arith, range.0, range.1); by = range.1 }))
      (all-flat IsTellable (reserved_on kept rows) hosts (λ k d within.
      let host = get_or hosts k d in
      let told = All-weaker IsRow (λ row. IsTellable (by_name host row)) (λ row is. record { low = is.number; by = (refl, named k d within, is.name) }) in
      All-map IsTellable (by_name host) (filter (λ row. kept row.0) (rows host)) (told (filter (λ row. kept row.0) (rows host)) (All-filter (λ row. kept row.0) IsRow (rows host) (are k d within))))))
      (cond_both keep.unowned (map by_files unowned) [] (λ (rs : List Reserved). All IsTellable rs) (λ stays. All-map IsTellable by_files unowned (λ k d within. let is = found k d within in record { low = is.number; by = (refl, is.host) })) (λ none. All-nil IsTellable))

-- ---- what a survey finds

record AreFound (found : UnownedNumbers) : Type 0 where
  users : All IsFound found.users
  groups : All IsFound found.groups

all-once : (P : ℕ → Type 0) (numbers : List ℕ) → All P numbers → All P (each_once numbers)
all-once P [] all = all
all-once P (x ∷ xs) all = All-cons P x (filter (λ other. not (x == other)) (each_once xs)) (All-head P x xs all) (All-filter (λ other. not (x == other)) P (each_once xs) (all-once P xs (All-tail P x xs all)))

found-on : (number : Entry → ℕ) (test : ℕ → Bool) (host : Host) (files : List Entry) → IsShown host.name → All (λ f. number f ≤ greatest_id) files → All IsFound (on_host host (each_once (filter test (map number files))))
found-on number test host files named ids =
    let numbers = each_once (filter test (map number files)) in
    let all = all-once (λ v. v ≤ greatest_id) (filter test (map number files)) (All-filter test (λ v. v ≤ greatest_id) (map number files) (All-map (λ v. v ≤ greatest_id) number files ids)) in
    All-map IsFound (λ v. record { host = host.name; number = v }) numbers (λ k d within. record { host = named; number = all k d within })

record IsListed (listed : Host × List Entry) : Type 0 where
  named : IsShown listed.0.name
  files : AreFiles listed.1

found-over : (found : UnownedNumbers) (listed : List (Host × List Entry)) → AreFound found → AllByRecursion IsListed listed → AreFound (unowned_over found listed)
found-over found [] were all = were
found-over found (x ∷ listed) were all =
    let files = all.0.files.lawful in
    found-over (unowned_with found x.0 x.1) listed
    (record {
      users = All-append IsFound found.users (on_host x.0 (unowned_uids x.0 x.1)) were.users (found-on (λ f. f.uid) (is_unowned_uid x.0) x.0 x.1 all.0.named (λ k d within. (files k d within).uid));
      groups = All-append IsFound found.groups (on_host x.0 (unowned_gids x.0 x.1)) were.groups (found-on (λ f. f.gid) (is_unowned_gid x.0) x.0 x.1 all.0.named (λ k d within. (files k d within).gid));
    })
    all.1

-- hosts with inventories are those hosts
loaded-named-all : (P : Host → Type 0) (hosts : List Host) (mtrees : List (List ℕ)) → AllByRecursion P hosts → AllByRecursion (λ (l : Loaded). P l.host) (loaded_from hosts mtrees)
loaded-named-all P [] mtrees all = tt
loaded-named-all P (h ∷ hosts) [] all = tt
loaded-named-all P (h ∷ hosts) (m ∷ mtrees) all = (all.0, loaded-named-all P hosts mtrees all.1)

is-listed : (l : Loaded) (listed : Host × List Entry) → IsShown l.host.name → listed_of l ≡ Ok listed → IsListed listed
is-listed l listed named is =
    let read = bind_ok (inventory_of l.host l.mtree) (λ files. Ok (l.host, files)) listed is in
    subst IsListed (ok_same (l.host, read.0) listed read.2) (record { named = named; files = (inventory-files 16777216 l.mtree read.0 (file_ok l.host.name _ _ read.0 read.1)).0 })

each-listed : (loaded : List Loaded) (listed : List (Host × List Entry)) → All (λ (l : Loaded). IsShown l.host.name) loaded → each listed_of loaded ≡ Ok listed → All IsListed listed
each-listed loaded listed named is k d within =
    let from = each-ok listed_of loaded listed is k (get_or listed k d) (slice_get-get_or listed k d within) in
    is-listed from.0 (get_or listed k d) (all-at (λ (l : Loaded). IsShown l.host.name) loaded k from.0 named from.1) from.2

are-found : (hosts : List Host) (inventories : List (List ℕ)) (unowned : UnownedNumbers) → AllByRecursion (λ (h : Host). IsShown h.name) hosts → found_on hosts inventories ≡ Ok unowned → AreFound unowned
are-found hosts inventories unowned named is =
    let listing = bind_ok (each listed_of (loaded_from hosts inventories)) (λ listed. Ok (unowned_over no_numbers listed)) unowned is in
    let loaded = loaded-named-all (λ h. IsShown h.name) hosts inventories named in
    let listed = each-listed (loaded_from hosts inventories) listing.0 (All-from_recursion _ (loaded_from hosts inventories) loaded) listing.1 in
    subst AreFound (ok_same (unowned_over no_numbers listing.0) unowned listing.2)
    (found-over no_numbers listing.0 (record { users = All-nil IsFound; groups = All-nil IsFound }) (recursion_from_All IsListed listing.0 listed))

-- ---- hosts that were loaded

at-map : (P : Host → Type 0) (loaded : List Loaded) (k : ℕ) (d : Loaded) → k < length loaded → All P (map (λ l. l.host) loaded) → P (get_or loaded k d).host
at-map P loaded k d within all =
    let host = (get_or loaded k d).host in
    subst P (get_or-map (λ (l : Loaded). l.host) loaded k d host within) (all k host (omega (arith, within, length-map loaded (λ (l : Loaded). l.host))))

named-hosts : (texts : List HostText) (u : Unit {0}) → hosts_checked texts ≡ Ok u → (loaded : List Loaded) → each host_of texts ≡ Ok loaded → All (λ (h : Host). IsShown h.name) (map (λ l. l.host) loaded)
named-hosts texts u listed loaded are =
    All-weaker (λ (h : Host). is_host_name h.name ≡ true) (λ h. IsShown h.name) (λ h. host-shown h.name) (map (λ l. l.host) loaded) (loaded-named texts loaded are (texts-named texts u listed))

-- ---- of a site

surveyed-named : (texts : List HostText) (keep : Result KeepText Fault) (hosts : List Host) → surveyed_hosts texts keep ≡ Ok hosts → All (λ (h : Host). IsShown h.name) hosts
surveyed-named texts (Err f) hosts is = subst (λ hs. All (λ (h : Host). IsShown h.name) hs) (ok_same [] hosts is) (All-nil (λ (h : Host). IsShown h.name))
surveyed-named texts (Ok keep) hosts is = elim (cases_Bool (keeps_unowned keep)) [
  | inl t ↦
      let all = rw t at is in
      let checked = bind_ok (in_site (hosts_checked texts)) _ hosts all in
      let loading = bind_ok (each host_of texts) (λ loaded. Ok (map (λ (l : Loaded). sparing_ranges keep l.host) loaded)) hosts checked.2 in
      let named = named-hosts texts checked.0 (site_ok (hosts_checked texts) checked.0 checked.1) loading.0 loading.1 in
      subst (λ hs. All (λ (h : Host). IsShown h.name) hs) (ok_same _ hosts loading.2)
      (All-map (λ (h : Host). IsShown h.name) (λ (l : Loaded). sparing_ranges keep l.host) loading.0 (λ k d within. (at-map (λ (h : Host). IsShown h.name) loading.0 k d within named)))
  | inr f ↦ let none = rw f at is in subst (λ hs. All (λ (h : Host). IsShown h.name) hs) (ok_same [] hosts none) (All-nil (λ (h : Host). IsShown h.name))
]

has-rows : (texts : List HostText) (u : Unit {0}) → hosts_checked texts ≡ Ok u → All IsOfBytes texts → (loaded : List Loaded) → each host_of texts ≡ Ok loaded → All HasRows (map (λ l. l.host) loaded)
has-rows texts u listed bytes loaded are = All-map HasRows (λ (l : Loaded). l.host) loaded (λ k d within.
    let l = get_or loaded k d in
    let from = each-ok host_of texts loaded are k l (slice_get-get_or loaded k d within) in
    let tables = tables-of from.0 l from.2 in
    let text = all-at IsOfBytes texts k from.0 bytes from.1 in
    let lawful = at-map IsLawfulHost loaded k d within (loaded-lawful texts loaded are) in
    record {
      named = at-map (λ h. IsShown h.name) loaded k d within (named-hosts texts u listed loaded are);
      users = are-rows (λ (r : Passwd). r.name) (λ r. r.uid) l.host.users lawful.users.lawful lawful.users.ids (users-bytes from.0.passwd l.host.users (recursion_from_All (λ b. b < 256) from.0.passwd text.passwd) tables.0);
      groups = are-rows (λ (r : Group). r.name) (λ r. r.gid) l.host.groups lawful.groups.lawful lawful.groups.ids (groups-bytes from.0.group l.host.groups (recursion_from_All (λ b. b < 256) from.0.group text.group) tables.1);
    })

pub reserved_numbers_are_tellable : ReservedNumbersAreTellable
reserved_numbers_are_tellable texts rules hosts inventories begun bytes surveying found is =
    let s = begun_steps texts rules begun is in
    let from = are-loaded texts rules.keep s.others s.others_are in
    let keep = from.by.keep in
    let full : List Host = map (λ l. l.host) from.loaded in
    let rows = has-rows texts s.listed s.listed_are bytes from.loaded from.hosts_are in
    let named = All-weaker HasRows (λ h. IsShown h.name) (λ h it. it.named) full rows in
    let unowned = are-found hosts inventories rules.keep.unowned (recursion_from_All (λ (h : Host). IsShown h.name) hosts (surveyed-named texts (keep_read rules.keep.text) hosts surveying)) found in
    let lawful = read_keeps_are_lawful rules.keep.text keep from.by.read in
    let reserved = reserved-are s.others rules.pins begun.joined (are-pinned s.others rules.pins begun.joined s.joined_is) in
    record {
      users = subst (λ rs. All IsTellable rs) (ap (λ (o : Others). o.reserved_users) from.by.are ∙ reserved.0)
          (all-tellable (is_kept_user keep full) (λ h. user_rows h.users) keep.users full rules.keep.unowned.users lawful.users named (All-weaker HasRows (λ h. All IsRow (user_rows h.users)) (λ h it. it.users) full rows) unowned.users);
      groups = subst (λ rs. All IsTellable rs) (ap (λ (o : Others). o.reserved_groups) from.by.are ∙ reserved.1)
          (all-tellable (is_kept_group keep full) (λ h. group_rows h.groups) keep.groups full rules.keep.unowned.groups lawful.groups named (All-weaker HasRows (λ h. All IsRow (group_rows h.groups)) (λ h it. it.groups) full rows) unowned.groups);
    }
