-- Which numbers a survey finds, in words of the texts.
use Rattle.std.proofs.Common.{◌≡◌, ◌⊎◌, ℕ, zero, suc, ◌<◌, Bool, true, false, ◌||◌, List, [], ◌∷◌, map, Option, None, Some, Result, Ok, inl, inr, refl, sym, ap, subst, ◌∙◌, arith}
use Rattle.std.specs.Prelude.{◌↔◌, option_map}
use Rattle.std.specs.List.{Any, Contains, slice_get}
use Rattle.std.proofs.Math.Bool.{or-true}
use Rattle.std.proofs.lemmas.Option.{same_Some, slice_get-map}
use Rattle.idtext.specs.First.{◌>>=◌, each}
use Rattle.idtext.proofs.OkLemmas.{bind_ok, each-ok, ok_same}
use Rattle.mtree_inv.specs.Inventory.{inventory}
use Rattle.mtree_inv.specs.declared.entry.Entry.{Entry}
use Rattle.hosts_join.specs.Checks.{hosts_checked}
use Rattle.hosts_join.specs.declared.host.Host.{Host}
use Rattle.hosts_join.specs.declared.texts.HostText.{HostText}
use Rattle.keep_text.specs.KeepTexts.{keep_of}
use Rattle.keep_text.specs.declared.keep_text.KeepText.{KeepText}
use Rattle.kept_accounts.specs.Reserving.{UnownedNumbers, no_numbers}
use Rattle.kept_accounts.specs.declared.reserving.UnownedNumber.{UnownedNumber}
use Rattle.survey.specs.Laws.{IsUnownedOn}
use Rattle.survey.specs.Unowned.{unowned_with}
use Rattle.survey.proofs.FoundLemmas.{only_unowned_found}
use Rattle.unify_texts.specs.declared.bundle_line.FileName.TheVariants as file
use Rattle.site_tables.specs.FaultLaws.{LiesInOne}
use Rattle.site_tables.specs.Hosts.{host_of}
use Rattle.site_tables.specs.Loading.{loaded_from}
use Rattle.site_tables.specs.Others.{keep_read}
use Rattle.site_tables.specs.Survey.{found_on, inventory_of, keeps_unowned, listed_of, sparing_hosts, sparing_ranges, surveyed, surveyed_hosts, unowned_over}
use Rattle.site_tables.specs.SurveyLaws.{AreUnowned, IsOnSome, IsUnownedGid, IsUnownedUid, SurveyedTextsFindUnowned, SurveysFindUnowned}
use Rattle.site_tables.specs.Told.{in_keep, in_site}
use Rattle.site_tables.specs.declared.host.Loaded.{Loaded}
use Rattle.site_tables.proofs.Owners.{file_ok}
use Rattle.site_tables.proofs.LoadedHosts.{of-texts}

-- ---- hosts with their files, one after the other

-- one of them adds the number
abbrev Adds : ((Host × List Entry) → Type 0) → List (Host × List Entry) → Type 0
Adds Is listed = (k : ℕ) × (here : Host × List Entry) × (slice_get listed k ≡ Some here) × Is here

adds-first : (Is : (Host × List Entry) → Type 0) (x : Host × List Entry) (listed : List (Host × List Entry)) → Is x → Adds Is (x ∷ listed)
adds-first Is x listed is = (0, x, refl, is)

adds-later : (Is : (Host × List Entry) → Type 0) (x : Host × List Entry) (listed : List (Host × List Entry)) → Adds Is listed → Adds Is (x ∷ listed)
adds-later Is x listed it = (suc it.0, it.1, it.2, it.3)

adds-which : (Is : (Host × List Entry) → Type 0) (x : Host × List Entry) (listed : List (Host × List Entry)) → Adds Is (x ∷ listed) → Is x ⊎ Adds Is listed
adds-which Is x listed (zero, here, there, is) = inl (subst Is (sym (same_Some x here there)) is)
adds-which Is x listed (suc k, here, there, is) = inr (k, here, there, is)

-- kind: the numbers of one kind
module _ (kind : UnownedNumbers → List UnownedNumber) (u : UnownedNumber) (Is : (Host × List Entry) → Type 0) (one : (before : UnownedNumbers) (here : Host × List Entry) → Contains (kind (unowned_with before here.0 here.1)) u ↔ (Contains (kind before) u ⊎ Is here)) where
  abbrev FoundOver : UnownedNumbers → List (Host × List Entry) → Type 0
  FoundOver before listed = Contains (kind (unowned_over before listed)) u ↔ (Contains (kind before) u ⊎ Adds Is listed)

  none-more : (before : UnownedNumbers) → FoundOver before []
  none-more before = (λ there. inl there, none)
    where
      none : Contains (kind before) u ⊎ Adds Is [] → Contains (kind before) u
      none (inl there) = there
      none (inr it) = let at : slice_get [] it.0 ≡ Some it.1 = it.2 in absurd (cc)

  one-more : (before : UnownedNumbers) (x : Host × List Entry) (listed : List (Host × List Entry)) → FoundOver (unowned_with before x.0 x.1) listed → FoundOver before (x ∷ listed)
  one-more before x listed rest = (λ there. first (rest.0 there), λ is. rest.1 (back is))
    where
      second : Contains (kind before) u ⊎ Is x → Contains (kind before) u ⊎ Adds Is (x ∷ listed)
      second (inl there) = inl there
      second (inr is) = inr (adds-first Is x listed is)

      first : Contains (kind (unowned_with before x.0 x.1)) u ⊎ Adds Is listed → Contains (kind before) u ⊎ Adds Is (x ∷ listed)
      first (inl there) = second ((one before x).0 there)
      first (inr it) = inr (adds-later Is x listed it)

      which : Is x ⊎ Adds Is listed → Contains (kind (unowned_with before x.0 x.1)) u ⊎ Adds Is listed
      which (inl is) = inl ((one before x).1 (inr is))
      which (inr it) = inr it

      back : Contains (kind before) u ⊎ Adds Is (x ∷ listed) → Contains (kind (unowned_with before x.0 x.1)) u ⊎ Adds Is listed
      back (inl there) = inl ((one before x).1 (inl there))
      back (inr it) = which (adds-which Is x listed it)

  found-over : (before : UnownedNumbers) (listed : List (Host × List Entry)) → FoundOver before listed
  found-over before [] = none-more before
  found-over before (x ∷ listed) = one-more before x listed (found-over (unowned_with before x.0 x.1) listed)

  found-all : (Contains (kind no_numbers) u → ⊥) → (listed : List (Host × List Entry)) → Contains (kind (unowned_over no_numbers listed)) u ↔ Adds Is listed
  found-all none listed = (λ there. by ((found-over no_numbers listed).0 there), λ it. (found-over no_numbers listed).1 (inr it))
    where
      by : Contains (kind no_numbers) u ⊎ Adds Is listed → Adds Is listed
      by (inl there) = absurd (none there)
      by (inr it) = it

-- ---- the hosts and their inventories

-- what stands at an index gives what stands there
pub record GivesThere {A B F : Type 0} (f : A → Result B F) (x : A) (ys : List B) (k : ℕ) : Type 0 where
  pub given : B
  pub there : slice_get ys k ≡ Some given
  pub gives : f x ≡ Ok given

gives-from : {A B F : Type 0} (f : A → Result B F) (x z : A) (xs : List A) (y : B) (ys : List B) (k : ℕ) → f z ≡ Ok y → slice_get (z ∷ xs) k ≡ Some x → ((j : ℕ) → slice_get xs j ≡ Some x → GivesThere f x ys j) → GivesThere f x (y ∷ ys) k
gives-from f x z xs y ys zero gave here later = record { given = y; there = refl; gives = ap f (sym (same_Some z x here)) ∙ gave }
gives-from f x z xs y ys (suc j) gave here later = let it = later j here in record { given = it.given; there = it.there; gives = it.gives }

pub each-gives : {A B F : Type 0} (f : A → Result B F) (xs : List A) (ys : List B) → each f xs ≡ Ok ys → (k : ℕ) (x : A) → slice_get xs k ≡ Some x → GivesThere f x ys k
unfolding each
each-gives f [] ys h k x here = absurd (cc)
each-gives f (z ∷ xs) ys h k x here =
    let first = bind_ok (f z) (λ y. each f xs >>= λ zs. Ok (y ∷ zs)) ys h in
    let rest = bind_ok (each f xs) (λ zs. Ok (first.0 ∷ zs)) ys first.2 in
    subst (λ all. GivesThere f x all k) (ok_same (first.0 ∷ rest.0) ys rest.2) (gives-from f x z xs first.0 rest.0 k first.1 here (λ j at. each-gives f xs rest.0 rest.1 j x at))

-- a host that stands with a text, and both apart
pub apart : (hosts : List Host) (mtrees : List (List ℕ)) (k : ℕ) (l : Loaded) → slice_get (loaded_from hosts mtrees) k ≡ Some l → (slice_get hosts k ≡ Some l.host) × (slice_get mtrees k ≡ Some l.mtree)
apart [] mtrees k l at = absurd (cc)
apart (host ∷ hosts) [] k l at = absurd (cc)
apart (host ∷ hosts) (mtree ∷ mtrees) zero l at = (ap (option_map (λ (x : Loaded). x.host)) at, ap (option_map (λ (x : Loaded). x.mtree)) at)
apart (host ∷ hosts) (mtree ∷ mtrees) (suc k) l at = apart hosts mtrees k l at

pub paired : (hosts : List Host) (mtrees : List (List ℕ)) (k : ℕ) (host : Host) (mtree : List ℕ) → slice_get hosts k ≡ Some host → slice_get mtrees k ≡ Some mtree → slice_get (loaded_from hosts mtrees) k ≡ Some (record { host = host; mtree = mtree })
paired [] mtrees k host mtree here there = absurd (cc)
paired (h ∷ hosts) [] k host mtree here there = absurd (cc)
paired (h ∷ hosts) (m ∷ mtrees) zero host mtree here there = λ i. Some (record { host = same_Some h host here i; mtree = same_Some m mtree there i })
paired (h ∷ hosts) (m ∷ mtrees) (suc k) host mtree here there = paired hosts mtrees k host mtree here there

-- a host with its files is listed where its inventory is read as these
pub listed-read : (l : Loaded) (host : Host) (files : List Entry) → listed_of l ≡ Ok (host, files) → (l.host ≡ host) × (inventory 16777216 l.mtree ≡ Ok files)
listed-read l host files h =
    let reading = bind_ok (inventory_of l.host l.mtree) (λ fs. Ok (l.host, fs)) (host, files) h in
    let same : (l.host, reading.0) ≡ (host, files) = ok_same (l.host, reading.0) (host, files) reading.2 in
    (ap (λ (p : Host × List Entry). p.0) same, file_ok l.host.name file.Mtree (inventory 16777216 l.mtree) files (reading.1 ∙ ap (λ (p : Host × List Entry). Ok p.1) same))

-- ---- of a site

nothing-among : (u : UnownedNumber) → Contains [] u → ⊥
nothing-among u there = let lt : there.0 < 0 = there.1 in absurd (omega (arith, lt))

module _ (keep : KeepText) (texts : List HostText) (mtrees : List (List ℕ)) (loaded : List Loaded) (loaded_are : each host_of texts ≡ Ok loaded)
    (listed : List (Host × List Entry)) (listed_are : each listed_of (loaded_from (map (λ (l : Loaded). sparing_ranges keep l.host) loaded) mtrees) ≡ Ok listed) where
  abbrev spare : Loaded → Host
  spare l = sparing_ranges keep l.host

  -- a host that is listed with its files, its texts, and what they give
  record Listed (here : Host × List Entry) (text : HostText) (mtree : List ℕ) : Type 0 where
    full : Loaded
    told : host_of text ≡ Ok full
    host_is : here.0 ≡ spare full
    read : inventory 16777216 mtree ≡ Ok here.1

  record Placed (k : ℕ) (here : Host × List Entry) : Type 0 where
    text : HostText
    mtree : List ℕ
    text_at : slice_get texts k ≡ Some text
    mtree_at : slice_get mtrees k ≡ Some mtree
    is : Listed here text mtree

  some-mapped : (host : Host) (o : Option Loaded) → option_map spare o ≡ Some host → (l : Loaded) × (o ≡ Some l) × (spare l ≡ host)
  some-mapped host (Some l) h = (l, refl, same_Some (spare l) host h)
  some-mapped host None h = absurd (cc)

  placed : (k : ℕ) (here : Host × List Entry) → slice_get listed k ≡ Some here → Placed k here
  placed k here at =
      let from = each-ok listed_of (loaded_from (map spare loaded) mtrees) listed listed_are k here at in
      let l = from.0 in
      let both = apart (map spare loaded) mtrees k l from.1 in
      let read = listed-read l here.0 here.1 from.2 in
      let full = some-mapped l.host (slice_get loaded k) (sym (slice_get-map spare loaded k) ∙ both.0) in
      let text = each-ok host_of texts loaded loaded_are k full.0 full.1 in
      record { text = text.0; mtree = l.mtree; text_at = text.1; mtree_at = both.1; is = record { full = full.0; told = text.2; host_is = sym read.0 ∙ sym full.2; read = read.1 } }

  -- a host and an inventory at one index are listed
  listing : (k : ℕ) (text : HostText) (mtree : List ℕ) → slice_get texts k ≡ Some text → slice_get mtrees k ≡ Some mtree → (here : Host × List Entry) × (slice_get listed k ≡ Some here) × Listed here text mtree
  listing k text mtree text_at mtree_at =
      let full = each-gives host_of texts loaded loaded_are k text text_at in
      let host : Host = spare full.given in
      let host_at : slice_get (map spare loaded) k ≡ Some host = slice_get-map spare loaded k ∙ ap (option_map spare) full.there in
      let l : Loaded = record { host = host; mtree = mtree } in
      let here = each-gives listed_of (loaded_from (map spare loaded) mtrees) listed listed_are k l (paired (map spare loaded) mtrees k host mtree host_at mtree_at) in
      let read = listed-read l here.given.0 here.given.1 here.gives in
      (here.given, here.there, record { full = full.given; told = full.gives; host_is = sym read.0; read = read.1 })

  module _ (u : UnownedNumber) where
    abbrev IsUid : (Host × List Entry) → Type 0
    IsUid here = IsUnownedOn here.0 u (Any (λ file. file.uid ≡ u.number) here.1) (Any (λ row. row.uid ≡ u.number) here.0.users) (LiesInOne here.0.spared_users u.number)

    abbrev IsGid : (Host × List Entry) → Type 0
    IsGid here = IsUnownedOn here.0 u (Any (λ file. file.gid ≡ u.number) here.1) (Any (λ row. row.gid ≡ u.number) here.0.groups) (LiesInOne here.0.spared_groups u.number)

    uid_there : Adds IsUid listed → IsOnSome (λ text mtree. IsUnownedUid keep text mtree u) texts mtrees
    uid_there it =
        let at = placed it.0 it.1 it.2 in
        let of = of-texts at.text at.is.full at.is.told in
        let found : IsUid (spare at.is.full, it.1.1) = subst (λ (h : Host). IsUid (h, it.1.1)) at.is.host_is it.3 in (
          it.0,
          at.text,
          at.mtree,
          at.text_at,
          at.mtree_at,
          record {
            on_host = found.on_host ∙ sym of.named;
            files = it.1.1;
            read = at.is.read;
            of_a_file = found.owns_files;
            users = at.is.full.host.users;
            told = of.users;
            of_no_user = found.has_no_account;
            not_listed = found.is_not_spared;
          },
        )

    uid_back : IsOnSome (λ text mtree. IsUnownedUid keep text mtree u) texts mtrees → Adds IsUid listed
    uid_back it =
        let is = it.5 in
        let at = listing it.0 it.1 it.2 it.3 it.4 in
        let of = of-texts it.1 at.2.full at.2.told in
        let files : is.files ≡ at.0.1 = ok_same is.files at.0.1 (sym is.read ∙ at.2.read) in
        let rows : is.users ≡ at.2.full.host.users = ok_same is.users at.2.full.host.users (sym is.told ∙ of.users) in
        let found : IsUid (spare at.2.full, at.0.1) = record {
          on_host = is.on_host ∙ of.named;
          owns_files = subst (λ fs. Any (λ file. file.uid ≡ u.number) fs) files is.of_a_file;
          has_no_account = subst (λ rs. Any (λ row. row.uid ≡ u.number) rs → ⊥) rows is.of_no_user;
          is_not_spared = is.not_listed;
        } in
        (it.0, at.0, at.1, subst (λ (h : Host). IsUid (h, at.0.1)) (sym at.2.host_is) found)

    gid_there : Adds IsGid listed → IsOnSome (λ text mtree. IsUnownedGid keep text mtree u) texts mtrees
    gid_there it =
        let at = placed it.0 it.1 it.2 in
        let of = of-texts at.text at.is.full at.is.told in
        let found : IsGid (spare at.is.full, it.1.1) = subst (λ (h : Host). IsGid (h, it.1.1)) at.is.host_is it.3 in (
          it.0,
          at.text,
          at.mtree,
          at.text_at,
          at.mtree_at,
          record {
            on_host = found.on_host ∙ sym of.named;
            files = it.1.1;
            read = at.is.read;
            of_a_file = found.owns_files;
            groups = at.is.full.host.groups;
            told = of.groups;
            of_no_group = found.has_no_account;
            not_listed = found.is_not_spared;
          },
        )

    gid_back : IsOnSome (λ text mtree. IsUnownedGid keep text mtree u) texts mtrees → Adds IsGid listed
    gid_back it =
        let is = it.5 in
        let at = listing it.0 it.1 it.2 it.3 it.4 in
        let of = of-texts it.1 at.2.full at.2.told in
        let files : is.files ≡ at.0.1 = ok_same is.files at.0.1 (sym is.read ∙ at.2.read) in
        let rows : is.groups ≡ at.2.full.host.groups = ok_same is.groups at.2.full.host.groups (sym is.told ∙ of.groups) in
        let found : IsGid (spare at.2.full, at.0.1) = record {
          on_host = is.on_host ∙ of.named;
          owns_files = subst (λ fs. Any (λ file. file.gid ≡ u.number) fs) files is.of_a_file;
          has_no_account = subst (λ rs. Any (λ row. row.gid ≡ u.number) rs → ⊥) rows is.of_no_group;
          is_not_spared = is.not_listed;
        } in
        (it.0, at.0, at.1, subst (λ (h : Host). IsGid (h, at.0.1)) (sym at.2.host_is) found)

  are_unowned : AreUnowned keep texts mtrees (unowned_over no_numbers listed)
  are_unowned = record {
    users = λ u.
        let all = found-all (λ (n : UnownedNumbers). n.users) u (IsUid u) (λ before here. (only_unowned_found before here.0 here.1 u).0) (nothing-among u) listed in
        (λ there. uid_there u (all.0 there), λ is. all.1 (uid_back u is));
    groups = λ u.
        let all = found-all (λ (n : UnownedNumbers). n.groups) u (IsGid u) (λ before here. (only_unowned_found before here.0 here.1 u).1) (nothing-among u) listed in
        (λ there. gid_there u (all.0 there), λ is. all.1 (gid_back u is));
  }

-- ---- where the keep text says so

keeps_either : (a b : Bool) → (a ≡ true) ⊎ (b ≡ true) → (a || b) ≡ true
keeps_either a b (inl is) = ap (λ x. x || b) is
keeps_either a b (inr is) = ap (λ x. a || x) is ∙ or-true a

module _ (texts : List HostText) (keep_text : List ℕ) (keep : KeepText) (hosts : List Host) (mtrees : List (List ℕ)) (found : UnownedNumbers) (read : keep_of keep_text ≡ Ok keep)
    (surveying : surveyed_hosts texts (keep_read keep_text) ≡ Ok hosts) (finding : found_on hosts mtrees ≡ Ok found) where
  spare_is : sparing_hosts texts keep ≡ Ok hosts
  spare_is = ap (λ r. surveyed_hosts texts (in_keep r)) (sym read) ∙ surveying

  where_said : keeps_unowned keep ≡ true → AreUnowned keep texts mtrees found
  where_said keeps =
      let all = rw keeps at spare_is in
      let checked = bind_ok (in_site (hosts_checked texts)) _ hosts all in
      let loading = bind_ok (each host_of texts) _ hosts checked.2 in
      let are : map (λ (l : Loaded). sparing_ranges keep l.host) loading.0 ≡ hosts = ok_same _ hosts loading.2 in
      let listing = bind_ok (each listed_of (loaded_from hosts mtrees)) (λ listed. Ok (unowned_over no_numbers listed)) found finding in
      subst (AreUnowned keep texts mtrees) (ok_same _ found listing.2)
      (are_unowned keep texts mtrees loading.0 loading.1 listing.0 (ap (λ hs. each listed_of (loaded_from hs mtrees)) are ∙ listing.1))

  where_not : keeps_unowned keep ≡ false → found ≡ no_numbers
  unfolding each
  where_not keeps =
      let none = rw keeps at spare_is in
      let are : [] ≡ hosts = ok_same [] hosts none in
      sym (ok_same no_numbers found (ap (λ hs. found_on hs mtrees) are ∙ finding))

pub surveys_find_unowned : SurveysFindUnowned
surveys_find_unowned texts keep_text keep hosts mtrees found read surveying finding = record {
  said = λ says. where_said texts keep_text keep hosts mtrees found read surveying finding (keeps_either keep.users.unowned keep.groups.unowned says);
  not_said = λ users groups. where_not texts keep_text keep hosts mtrees found read surveying finding ((λ i. users i || groups i));
}

pub surveyed_texts_find_unowned : SurveyedTextsFindUnowned
unfolding surveyed
surveyed_texts_find_unowned texts keep_text keep found read surveying =
    let mtrees = map (λ (t : HostText). t.mtree) texts in
    let all = bind_ok (surveyed_hosts texts (keep_read keep_text)) (λ hosts. found_on hosts mtrees) found surveying in
    surveys_find_unowned texts keep_text keep all.0 mtrees found read all.1 all.2
