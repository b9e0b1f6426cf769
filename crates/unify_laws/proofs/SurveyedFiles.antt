-- The numbers that a survey finds are enough: by them a host allows all of its files.
use Rattle.std.proofs.Common.{◌≡◌, ◌⊎◌, inl, inr, ℕ, zero, suc, ◌<◌, ◌++◌, ◌||◌, Bool, true, false, not, List, [], ◌∷◌, length, map, get_or, Option, Some, None, Ok, refl, sym, ap, subst, ◌∙◌}
use Rattle.std.specs.Prelude.{is_some, option_map, if◌then◌else◌}
use Rattle.std.specs.List.{All, Any, Contains, slice_get}
use Rattle.std.proofs.Math.Bool.{or-true}
use Rattle.std.proofs.lemmas.List.{get_or_default}
use Rattle.std.proofs.lemmas.List.Elements.{Contains-append_left, Contains-append_right}
use Rattle.std.proofs.lemmas.List.Folds.{list_any-append}
use Rattle.std.proofs.lemmas.Option.{same_Some, slice_get-map}
use Rattle.idtext.specs.First.{each}
use Rattle.idtext.proofs.OkLemmas.{bind_ok, ok_same}
use Rattle.logindefs.specs.Ranges.{in_range}
use Rattle.logindefs.specs.declared.ranges.IdRange.{IdRange}
use Rattle.mtree_inv.specs.declared.entry.Entry.{Entry}
use Rattle.hosts_join.specs.Checks.{hosts_checked}
use Rattle.hosts_join.specs.Hosts.{allows_gid, allows_uid, spares_group, spares_user}
use Rattle.hosts_join.specs.Kinds.{group_at, group_rows, user_at, user_rows}
use Rattle.hosts_join.specs.RangeLists.{lies_in_some}
use Rattle.hosts_join.specs.declared.host.Host.{Host}
use Rattle.hosts_join.specs.declared.texts.HostText.{HostText}
use Rattle.keep_text.specs.KeepTexts.{keep_of}
use Rattle.keep_text.specs.declared.keep_text.Kept.{Kept}
use Rattle.keep_text.specs.declared.keep_text.KeepText.{KeepText}
use Rattle.kept_accounts.specs.Keeping.{is_kept_group, is_kept_user}
use Rattle.kept_accounts.specs.Others.{kept_numbers, spared, unowned_on, without_kept}
use Rattle.kept_accounts.specs.Reserving.{UnownedNumbers, no_numbers}
use Rattle.kept_accounts.specs.declared.reserving.UnownedNumber.{UnownedNumber}
use Rattle.kept_accounts.proofs.ReservedLemmas.{in-map}
use Rattle.kept_accounts.proofs.SparedLemmas.{named_left_or_spared, unowned_spared}
use Rattle.survey.specs.Unowned.{is_unowned_gid, is_unowned_uid, on_host, unowned_gids, unowned_uids, unowned_with}
use Rattle.survey.proofs.OnceLemmas.{among-once}
use Rattle.site_tables.specs.declared.host.Loaded.{Loaded}
use Rattle.site_tables.specs.declared.rules.KeepRules.{KeepRules}
use Rattle.site_tables.specs.Hosts.{host_of}
use Rattle.site_tables.specs.Loading.{loaded_from}
use Rattle.site_tables.specs.Others.{Others, keep_read, others_loaded}
use Rattle.site_tables.specs.Survey.{found_on, inventory_of, keeps_unowned, listed_of, sparing_hosts, sparing_ranges, surveyed, surveyed_hosts, unowned_over}
use Rattle.site_tables.specs.Told.{in_keep, in_site}
use Rattle.site_tables.proofs.ReadSites.{are-loaded}
use Rattle.unify_laws.specs.Laws.{SurveyedFilesAreAllowed}
use Rattle.unify_laws.specs.Texts.{mtrees}
use Rattle.unify_laws.proofs.Installed.{mapped-there}
use Rattle.unify_laws.proofs.OnePiece.{pairs_at}

-- ---- what was found stands among all that was

-- a number on a host
abbrev on : Host → ℕ → UnownedNumber
on host number = record { host = host.name; number = number }

-- kind: the numbers of one kind, those of users or of groups; unowned: what a host adds to them
module _ (kind : UnownedNumbers → List UnownedNumber) (unowned : Host → List Entry → List ℕ) (adds : (found : UnownedNumbers) (host : Host) (files : List Entry) → kind (unowned_with found host files) ≡ kind found ++ on_host host (unowned host files)) where
  found-stays : (found : UnownedNumbers) (listed : List (Host × List Entry)) (u : UnownedNumber) → Contains (kind found) u → Contains (kind (unowned_over found listed)) u
  found-stays found [] u there = there
  found-stays found (x ∷ listed) u there =
      found-stays (unowned_with found x.0 x.1) listed u (subst (λ us. Contains us u) (sym (adds found x.0 x.1)) (Contains-append_left (kind found) (on_host x.0 (unowned x.0 x.1)) u there))

  is-found : (found : UnownedNumbers) (listed : List (Host × List Entry)) (k : ℕ) (host : Host) (files : List Entry) (n : ℕ) → slice_get listed k ≡ Some (host, files) → Contains (unowned host files) n → Contains (kind (unowned_over found listed)) (on host n)
  is-found found [] k host files n here is = absurd (cc)
  is-found found (x ∷ listed) zero host files n here is =
      let same : x ≡ (host, files) = same_Some x (host, files) here in
      let mine = subst (λ (p : Host × List Entry). Contains (on_host p.0 (unowned p.0 p.1)) (on host n)) (sym same) (in-map (on host) (unowned host files) n is) in
      found-stays (unowned_with found x.0 x.1) listed (on host n) (subst (λ us. Contains us (on host n)) (sym (adds found x.0 x.1)) (Contains-append_right (kind found) (on_host x.0 (unowned x.0 x.1)) (on host n) mine))
  is-found found (x ∷ listed) (suc k) host files n here is = is-found (unowned_with found x.0 x.1) listed k host files n here is

-- ---- a number of a file

in-front : (ranges more : List IdRange) (n : ℕ) → lies_in_some ranges n ≡ true → lies_in_some (ranges ++ more) n ≡ true
in-front ranges more n is = list_any-append (λ (r : IdRange). in_range r n) ranges more ∙ ap (λ b. b || lies_in_some more n) is

listed-spared : (keep : Kept) (kept : List ℕ → Bool) (rows : List (List ℕ × ℕ)) (unowned : List IdRange) (n : ℕ) → lies_in_some keep.ranges n ≡ true → lies_in_some (spared keep kept rows unowned) n ≡ true
listed-spared keep kept rows unowned n is = let numbers = kept_numbers kept rows in in-front (keep.ranges ++ numbers) (if keep.unowned then unowned else []) n (in-front keep.ranges numbers n is)

-- a number that is left its name, or spared, is allowed; so is one without a name, if it is spared where it is listed and where it is not
number-allowed : (told left : Option (List ℕ)) (listed spares : Bool) → ((name : List ℕ) → told ≡ Some name → (left ≡ Some name) ⊎ (spares ≡ true)) → (listed ≡ true → spares ≡ true) → (not (is_some told || listed) ≡ true → spares ≡ true) → (is_some left || spares) ≡ true
number-allowed (Some name) left listed spares named inside found = elim (named name refl) [
  | inl there ↦ ap (λ (o : Option (List ℕ)). is_some o || spares) there
  | inr is ↦ ap (λ b. is_some left || b) is ∙ or-true (is_some left)
]
number-allowed None left true spares named inside found = ap (λ b. is_some left || b) (inside refl) ∙ or-true (is_some left)
number-allowed None left false spares named inside found = ap (λ b. is_some left || b) (found refl) ∙ or-true (is_some left)

module _ (keep : KeepText) (hosts : List Host) (unowned : UnownedNumbers) (full : Host) where
  -- what is left of the host
  abbrev left : Host
  left = without_kept keep hosts unowned full

  abbrev sparing : Host
  sparing = sparing_ranges keep full

  uid-allowed : keep.users.unowned ≡ true → (uid : ℕ) → (is_unowned_uid sparing uid ≡ true → Contains unowned.users (on full uid)) → allows_uid left uid ≡ true
  uid-allowed stays uid found =
      number-allowed (user_at full.users uid) (user_at left.users uid) (lies_in_some keep.users.ranges uid) (spares_user left uid)
      (λ name. (named_left_or_spared keep hosts unowned full uid name).0) (listed-spared keep.users (is_kept_user keep hosts) (user_rows full.users) (unowned_on full unowned.users) uid) (λ alone. ((unowned_spared keep hosts unowned full (on full uid) refl).0 stays (found alone)).0)

  gid-allowed : keep.groups.unowned ≡ true → (gid : ℕ) → (is_unowned_gid sparing gid ≡ true → Contains unowned.groups (on full gid)) → allows_gid left gid ≡ true
  gid-allowed stays gid found =
      number-allowed (group_at full.groups gid) (group_at left.groups gid) (lies_in_some keep.groups.ranges gid) (spares_group left gid)
      (λ name. (named_left_or_spared keep hosts unowned full gid name).1) (listed-spared keep.groups (is_kept_group keep hosts) (group_rows full.groups) (unowned_on full unowned.groups) gid) (λ alone. ((unowned_spared keep hosts unowned full (on full gid) refl).1 stays (found alone)).0)

-- ---- of a site

-- the hosts were surveyed by these inventories, with these files
record IsSurveyed (keep : KeepText) (unowned : UnownedNumbers) (loaded : List Loaded) (inventories : List (List ℕ)) : Type 0 where
  listed : List (Host × List Entry)
  are : each listed_of (loaded_from (map (λ l. sparing_ranges keep l.host) loaded) inventories) ≡ Ok listed
  numbers : unowned_over no_numbers listed ≡ unowned

survey-of : (texts : List HostText) (keep_text : List ℕ) (keep : KeepText) (unowned : UnownedNumbers) (loaded : List Loaded) (hosts : List Host) (inventories : List (List ℕ)) → keep_of keep_text ≡ Ok keep → surveyed_hosts texts (keep_read keep_text) ≡ Ok hosts
    → found_on hosts inventories ≡ Ok unowned → each host_of texts ≡ Ok loaded → keeps_unowned keep ≡ true → IsSurveyed keep unowned loaded inventories
survey-of texts keep_text keep unowned loaded hosts inventories read surveying found tables keeps =
    let spare : sparing_hosts texts keep ≡ Ok hosts = ap (λ r. surveyed_hosts texts (in_keep r)) (sym read) ∙ surveying in
    let all = rw keeps at spare in
    let checked = bind_ok (in_site (hosts_checked texts)) _ hosts all in
    let loading = bind_ok (each host_of texts) _ hosts checked.2 in
    let same : loading.0 ≡ loaded = ok_same loading.0 loaded (sym loading.1 ∙ tables) in
    let are : hosts ≡ map (λ (l : Loaded). sparing_ranges keep l.host) loaded = sym (ok_same _ hosts loading.2) ∙ ap (map (λ (l : Loaded). sparing_ranges keep l.host)) same in
    let listing = bind_ok (each listed_of (loaded_from hosts inventories)) (λ listed. Ok (unowned_over no_numbers listed)) unowned found in
    record {
      listed = listing.0;
      are = ap (λ hs. each listed_of (loaded_from hs inventories)) (sym are) ∙ listing.1;
      numbers = ok_same (unowned_over no_numbers listing.0) unowned listing.2;
    }

-- a file is among those that have its number
any-file : (number : Entry → ℕ) (files : List Entry) (k : ℕ) (d : Entry) → k < length files → Any (λ f. number f ≡ number (get_or files k d)) files
any-file number files k d within = (k, get_or files k d, within, get_or_default files k (get_or files k d) d within, refl)

-- a host allows all files of its inventory, by the numbers that were found of such inventories
pub found_files_are_allowed : (texts : List HostText) (rules : KeepRules) (keep : KeepText) (others : Others) (hosts : List Host) (inventories : List (List ℕ)) → keep_of rules.text ≡ Ok keep → surveyed_hosts texts (keep_read rules.text) ≡ Ok hosts
    → found_on hosts inventories ≡ Ok rules.unowned → others_loaded texts rules ≡ Ok others → (h : ℕ) (host : Host) (inventory : List ℕ) (files : List Entry) → slice_get others.hosts h ≡ Some host → slice_get inventories h ≡ Some inventory
    → inventory_of host inventory ≡ Ok files → (keep.users.unowned ≡ true → All (λ f. allows_uid host f.uid ≡ true) files) × (keep.groups.unowned ≡ true → All (λ f. allows_gid host f.gid ≡ true) files)
found_files_are_allowed texts rules keep others hosts inventories read surveying found loads h host inventory files here there lists =
    let unowned = rules.unowned in
    let from = are-loaded texts rules others loads in
    let full : List Host = map (λ l. l.host) from.loaded in
    let kept : from.by.keep ≡ keep = ok_same from.by.keep keep (sym from.by.read ∙ read) in
    let same : map (without_kept keep full unowned) full ≡ others.hosts = ap (λ (k : KeepText). map (without_kept k full unowned) full) (sym kept) ∙ ap (λ (o : Others). o.hosts) from.by.are in
    let left_at = mapped-there (without_kept keep full unowned) (slice_get full h) host (sym (slice_get-map (without_kept keep full unowned) full h) ∙ ap (λ (hs : List Host). slice_get hs h) same ∙ here) in
    let one = left_at.0 in
    let loaded_at = mapped-there (λ (l : Loaded). l.host) (slice_get from.loaded h) one (sym (slice_get-map (λ (l : Loaded). l.host) from.loaded h) ∙ left_at.1) in
    let spares : Host = sparing_ranges keep one in
    let spares_at : slice_get (map (λ (l : Loaded). sparing_ranges keep l.host) from.loaded) h ≡ Some spares =
    slice_get-map (λ (l : Loaded). sparing_ranges keep l.host) from.loaded h ∙ ap (λ (o : Option Loaded). option_map (λ (l : Loaded). sparing_ranges keep l.host) o) loaded_at.1 ∙ ap (λ (x : Host). Some (sparing_ranges keep x)) loaded_at.2 in
    let listed : keeps_unowned keep ≡ true → (survey : IsSurveyed keep unowned from.loaded inventories) × (fs : List Entry) × (inventory_of spares inventory ≡ Ok fs) × (slice_get survey.listed h ≡ Some (spares, fs)) = λ keeps.
    let survey = survey-of texts rules.text keep unowned from.loaded hosts inventories read surveying found from.hosts_are keeps in
    let its_files = pairs_at (λ l. inventory_of l.host l.mtree) (map (λ (l : Loaded). sparing_ranges keep l.host) from.loaded) inventories survey.listed h spares inventory survey.are spares_at there in
    (survey, its_files.0, its_files.1, its_files.2) in
    let its = λ (fs : List Entry) (is : inventory_of spares inventory ≡ Ok fs). ok_same fs files (sym is ∙ ap (λ (x : Host). inventory_of x inventory) left_at.2 ∙ lists) in (
      λ stays k d within.
          let at = listed (ap (λ b. b || keep.groups.unowned) stays) in
          let there_is = subst (λ fs. slice_get at.0.listed h ≡ Some (spares, fs)) (its at.1 at.2) at.3 in
          let uid = (get_or files k d).uid in
          subst (λ (x : Host). allows_uid x uid ≡ true) left_at.2
          (uid-allowed keep full unowned one stays uid (λ alone. subst (λ (u : UnownedNumbers). Contains u.users (on one uid)) at.0.numbers
          (is-found (λ found. found.users) unowned_uids (λ found host files. refl) no_numbers at.0.listed h spares files uid there_is ((among-once (is_unowned_uid spares) (λ (f : Entry). f.uid) files uid).1 (any-file (λ (f : Entry). f.uid) files k d within, alone))))),
      λ stays k d within.
          let at = listed (ap (λ b. keep.users.unowned || b) stays ∙ or-true keep.users.unowned) in
          let there_is = subst (λ fs. slice_get at.0.listed h ≡ Some (spares, fs)) (its at.1 at.2) at.3 in
          let gid = (get_or files k d).gid in
          subst (λ (x : Host). allows_gid x gid ≡ true) left_at.2
          (gid-allowed keep full unowned one stays gid (λ alone. subst (λ (u : UnownedNumbers). Contains u.groups (on one gid)) at.0.numbers
          (is-found (λ found. found.groups) unowned_gids (λ found host files. refl) no_numbers at.0.listed h spares files gid there_is ((among-once (is_unowned_gid spares) (λ (f : Entry). f.gid) files gid).1 (any-file (λ (f : Entry). f.gid) files k d within, alone))))),
    )

pub surveyed_files_are_allowed : SurveyedFilesAreAllowed
unfolding surveyed
surveyed_files_are_allowed texts rules keep others read found loads h host text files here there lists =
    let step = bind_ok (surveyed_hosts texts (keep_read rules.text)) (λ hosts. found_on hosts (mtrees texts)) rules.unowned found in
    let mtree_at : slice_get (mtrees texts) h ≡ Some text.mtree = slice_get-map (λ (t : HostText). t.mtree) texts h ∙ ap (λ (o : Option HostText). option_map (λ (t : HostText). t.mtree) o) there in
    found_files_are_allowed texts rules keep others step.0 (mtrees texts) read step.1 step.2 loads h host text.mtree files here mtree_at lists
