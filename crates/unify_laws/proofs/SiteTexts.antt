-- What a site that was read is, and where its names may stand, in words of the texts.
use Rattle.std.proofs.Common.{◌≡◌, ◌⊎◌, ℕ, zero, suc, ◌<◌, Bool, true, false, List, [], ◌∷◌, length, map, get_or, Option, Some, Ok, All, Contains, inl, inr, refl, sym, ap, subst, ◌∙◌, arith}
use Rattle.std.specs.Prelude.{◌==◌, ◌↔◌, find, is_some, option_map}
use Rattle.std.specs.List.{AllZip, slice_get}
use Rattle.std.specs.Str.{bytes_eq}
use Rattle.std.proofs.lemmas.Bool.{false≢true}
use Rattle.std.proofs.lemmas.List.{get_or_default}
use Rattle.std.proofs.lemmas.List.Elements.{All-contains}
use Rattle.std.proofs.lemmas.List.Folds.{list_any_at}
use Rattle.std.proofs.lemmas.Option.{same_Some, slice_get-map}
use Rattle.idtext.specs.First.{each}
use Rattle.idtext.proofs.OkLemmas.{bind_ok, each-ok, ok_same}
use Rattle.accounts.specs.Laws.{AreDistinct}
use Rattle.accounts.specs.Rows.{Passwd, Group}
use Rattle.accounts.proofs.LawLemmas.{group-law, passwd-law}
use Rattle.logindefs.specs.Ranges.{in_range}
use Rattle.logindefs.specs.declared.ranges.HostRanges.{HostRanges}
use Rattle.mtree_inv.specs.declared.entry.Entry.{Entry}
use Rattle.hosts_join.specs.Accounts.{Account, Accounts, Pair, no_account}
use Rattle.hosts_join.specs.Hosts.{IsLawfulHost}
use Rattle.hosts_join.specs.Kinds.{group_rows-table, user_rows-table}
use Rattle.hosts_join.specs.Laws.{LeavesOut}
use Rattle.hosts_join.specs.Pairs.{number_of}
use Rattle.hosts_join.specs.PinPairs.{PinPairs}
use Rattle.hosts_join.specs.Rules.{account, class_at, in_pool, is_name, is_reserved}
use Rattle.hosts_join.specs.Standings.{AreAllOffered, HostTells, IsFree, IsOffered, IsOutside, IsSomewhereRegular, StandWhereTheyMay, StandsWhereItMay, of_groups, of_users}
use Rattle.hosts_join.specs.declared.Class.{Class}
use Rattle.hosts_join.specs.declared.Class.TheVariants.{Pinned, Regular, System}
use Rattle.hosts_join.specs.declared.host.Host.{Host}
use Rattle.hosts_join.specs.declared.texts.HostText.{HostText}
use Rattle.hosts_join.proofs.Grouping.{bytes_refl}
use Rattle.hosts_join.proofs.Knowing.{told-by}
use Rattle.hosts_join.proofs.SiteLemmas.{pins_are_pins}
use Rattle.hosts_join.proofs.StandingLaws.{numbers_offered, numbers_stand}
use Rattle.hosts_join.proofs.StandingRows.{contains-map, name_in, row-there, rows-named}
use Rattle.kept_accounts.specs.Keeping.{is_kept_group, is_kept_user}
use Rattle.kept_accounts.specs.Reserving.{UnownedNumbers}
use Rattle.kept_accounts.proofs.StayLemmas.{kept_names_stay}
use Rattle.keep_text.specs.declared.keep_text.KeepText.{KeepText}
use Rattle.ownership.specs.Mappings.{MayHave, number_at}
use Rattle.site_tables.specs.declared.host.Loaded.{Loaded}
use Rattle.site_tables.specs.declared.rules.SiteRules.{SiteRules}
use Rattle.site_tables.specs.Told.{in_site}
use Rattle.unify.specs.Count.{site_of}
use Rattle.site_tables.specs.FileLaws.{AreItsFiles}
use Rattle.site_tables.specs.Hosts.{files_of}
use Rattle.site_tables.specs.Loading.{loaded_from}
use Rattle.site_tables.specs.MapLaws.{IsSomeGroup, IsSomeUser}
use Rattle.unify.specs.Outcomes.{hosts_in}
use Rattle.site_tables.specs.Begun.{AreTogether, BegunSite, site_begun}
use Rattle.unify.specs.Reading.{WholeSite}
use Rattle.site_tables.specs.TextLaws.{GroupStays, HasStayingGroup, HasStayingUser, IsLeftOf, IsOfText, IsOfTexts, UserStays}
use Rattle.site_tables.proofs.FileLaws.{files_are_of_inventories}
use Rattle.site_tables.proofs.ReadSites.{others-together}
use Rattle.site_tables.proofs.TextLaws.{begun_sites_are_of_texts}
use Rattle.site_tables.proofs.SiteSteps.{begun_is}
use Rattle.unify_laws.specs.Headline.{HaveOneNumberEach}
use Rattle.unify_laws.specs.SiteTexts.{AreGivenWhereTheyMay, GivenNumbersStandByTexts, NumbersStandByTexts, ReadSitesAreOfTexts, StandByTexts}
use Rattle.unify_laws.specs.Texts.{mtrees}
use Rattle.unify_laws.proofs.HostTexts.{begun_steps}
use Rattle.unify_laws.proofs.Sparing.{numbered_at}
use Rattle.unify_laws.proofs.WholeSites.{Steps, hosts-are, steps}

-- ---- a site that was read

-- a host that is paired with an inventory, and this
apart : (hosts : List Host) (texts : List (List ℕ)) (k : ℕ) (l : Loaded) → slice_get (loaded_from hosts texts) k ≡ Some l → (slice_get hosts k ≡ Some l.host) × (slice_get texts k ≡ Some l.mtree)
apart [] texts k l at = absurd (cc)
apart (host ∷ hosts) [] k l at = absurd (cc)
apart (host ∷ hosts) (mtree ∷ texts) zero l at = (ap (option_map (λ (x : Loaded). x.host)) at, ap (option_map (λ (x : Loaded). x.mtree)) at)
apart (host ∷ hosts) (mtree ∷ texts) (suc k) l at = apart hosts texts k l at

text_at : (mtree : List ℕ) (text : HostText) (o : Option HostText) → o ≡ Some text → option_map (λ (t : HostText). t.mtree) o ≡ Some mtree → mtree ≡ text.mtree
text_at mtree text o is at = same_Some mtree text.mtree (sym at ∙ ap (option_map (λ (t : HostText). t.mtree)) is)

its_files : (hosts : List Host) (texts : List HostText) (read : List (Host × List Entry)) → each site_of (loaded_from hosts (mtrees texts)) ≡ Ok read → (h : ℕ) (host : Host) (files : List Entry) (text : HostText)
    → slice_get read h ≡ Some (host, files) → slice_get texts h ≡ Some text → AreItsFiles (record { host = host; mtree = text.mtree }) files
its_files hosts texts read are h host files text here there =
    let from = each-ok site_of (loaded_from hosts (mtrees texts)) read are h (host, files) here in
    let l = from.0 in
    let mtree : l.mtree ≡ text.mtree = text_at l.mtree text (slice_get texts h) there (sym (slice_get-map (λ (t : HostText). t.mtree) texts h) ∙ (apart hosts (mtrees texts) h l from.1).1) in
    let filed = bind_ok (files_of l) (λ fs. Ok (l.host, fs)) (host, files) from.2 in
    let pair : (l.host, filed.0) ≡ (host, files) = ok_same (l.host, filed.0) (host, files) filed.2 in
    let mine : AreItsFiles l filed.0 = (files_are_of_inventories l filed.0).0 filed.1 in
    subst (λ m. AreItsFiles (record { host = host; mtree = m }) files) mtree (subst (λ (p : Host × List Entry). AreItsFiles (record { host = p.0; mtree = l.mtree }) p.1) pair mine)

-- what comes before the inventories of a site that was read
before : (texts : List HostText) (rules : SiteRules) (site : WholeSite) → (s : Steps texts rules site) → site_begun texts rules ≡ Ok (record { hosts = hosts_in site; joined = site.joined })
before texts rules site s =
    begun_is texts rules s.listed (ap in_site s.listed_are) s.others s.others_are site.joined s.joined_is
    ∙ ap (λ hs. Ok (record { hosts = hs; joined = site.joined })) (hosts-are texts rules site s)

pub read_sites_are_of_texts : ReadSitesAreOfTexts
read_sites_are_of_texts texts rules site read =
    let s = steps texts rules site read in
    record {
      begun = begun_sites_are_of_texts texts rules (record { hosts = hosts_in site; joined = site.joined }) (before texts rules site s);
      files = its_files s.others.hosts texts site.hosts s.files_are;
    }

-- ---- hosts in full, and what is joined of them

-- what the two tell of one kind
-- Stay: a name stays as it is
record TellsAlike (tells : Host → HostTells) (Stay : List ℕ → Type 0) (was host : Host) : Type 0 where
  regular : (tells host).regular ≡ (tells was).regular
  system : (tells host).system ≡ (tells was).system
  to_full : (n : List ℕ) (v : ℕ) → (tells host).name_at v ≡ Some n → (tells was).name_at v ≡ Some n
  to_left : (n : List ℕ) (v : ℕ) → (Stay n → ⊥) → (tells was).name_at v ≡ Some n → (tells host).name_at v ≡ Some n

record IsAlike (tells : Host → HostTells) (Stay : List ℕ → Type 0) (hosts : List Host) (R : Host → Type 0) : Type 0 where
  other : Host
  there : Contains hosts other
  alike : R other

all-there : {X : Type 0} (P : X → Type 0) (xs : List X) → ((x : X) → Contains xs x → P x) → All P xs
all-there P xs each_one k d lt = each_one (get_or xs k d) (k, lt, get_or_default xs k (get_or xs k d) d lt)

module _ (tells : Host → HostTells) (Stay : List ℕ → Type 0) (full left : List Host)
    (from_left : (host : Host) → Contains left host → IsAlike tells Stay full (λ was. TellsAlike tells Stay was host))
    (from_full : (was : Host) → Contains full was → IsAlike tells Stay left (λ host. TellsAlike tells Stay was host)) where
  outside-full : (n : List ℕ) (v : ℕ) → IsOutside tells left n v → IsOutside tells full n v
  outside-full n v out =
      let it = from_left out.host out.there in
      record {
        host = it.other;
        there = it.there;
        has = it.alike.to_full n v out.has;
        not_regular = ap (λ r. in_range r v) (sym it.alike.regular) ∙ out.not_regular;
        not_system = ap (λ r. in_range r v) (sym it.alike.system) ∙ out.not_system;
      }

  outside-left : (n : List ℕ) (v : ℕ) → (Stay n → ⊥) → IsOutside tells full n v → IsOutside tells left n v
  outside-left n v goes out =
      let it = from_full out.host out.there in
      record {
        host = it.other;
        there = it.there;
        has = it.alike.to_left n v goes out.has;
        not_regular = ap (λ r. in_range r v) it.alike.regular ∙ out.not_regular;
        not_system = ap (λ r. in_range r v) it.alike.system ∙ out.not_system;
      }

  regular-full : (n : List ℕ) → IsSomewhereRegular tells left n → IsSomewhereRegular tells full n
  regular-full n somewhere =
      let it = from_left somewhere.host somewhere.there in
      record {
        host = it.other;
        there = it.there;
        number = somewhere.number;
        has = it.alike.to_full n somewhere.number somewhere.has;
        is_regular = ap (λ r. in_range r somewhere.number) (sym it.alike.regular) ∙ somewhere.is_regular;
      }

  regular-left : (n : List ℕ) → (Stay n → ⊥) → IsSomewhereRegular tells full n → IsSomewhereRegular tells left n
  regular-left n goes somewhere =
      let it = from_full somewhere.host somewhere.there in
      record {
        host = it.other;
        there = it.there;
        number = somewhere.number;
        has = it.alike.to_left n somewhere.number goes somewhere.has;
        is_regular = ap (λ r. in_range r somewhere.number) it.alike.regular ∙ somewhere.is_regular;
      }

  module _ (v : ℕ) where
    abbrev IsRegular : Host → Type 0
    IsRegular host = in_range (tells host).regular v ≡ true

    abbrev IsSystem : Host → Type 0
    IsSystem host = in_range (tells host).system v ≡ true

    regulars-full : All IsRegular left → All IsRegular full
    regulars-full all = all-there IsRegular full (λ was there. let it = from_full was there in ap (λ r. in_range r v) (sym it.alike.regular) ∙ All-contains IsRegular left it.other all it.there)

    regulars-left : All IsRegular full → All IsRegular left
    regulars-left all = all-there IsRegular left (λ host there. let it = from_left host there in ap (λ r. in_range r v) it.alike.regular ∙ All-contains IsRegular full it.other all it.there)

    systems-full : All IsSystem left → All IsSystem full
    systems-full all = all-there IsSystem full (λ was there. let it = from_full was there in ap (λ r. in_range r v) (sym it.alike.system) ∙ All-contains IsSystem left it.other all it.there)

    systems-left : All IsSystem full → All IsSystem left
    systems-left all = all-there IsSystem left (λ host there. let it = from_left host there in ap (λ r. in_range r v) it.alike.system ∙ All-contains IsSystem full it.other all it.there)

  module _ (pins : List Pair) (n : List ℕ) (goes : Stay n → ⊥) where
    free-left : IsFree tells full pins n → IsFree tells left pins n
    free-left free = record { unpinned = free.unpinned; inside = λ v out. free.inside v (outside-full n v out) }

    free-full : IsFree tells left pins n → IsFree tells full pins n
    free-full free = record { unpinned = free.unpinned; inside = λ v out. free.inside v (outside-left n v goes out) }

    stands-full : (v : ℕ) → ((other : List ℕ) → IsOutside tells full other v → Stay other → ⊥) → StandsWhereItMay tells left pins n v → StandsWhereItMay tells full pins n v
    stands-full v others s = record {
      pin_kept = s.pin_kept;
      pin_is_no_others = s.pin_is_no_others;
      outside_stays = λ w out. s.outside_stays w (outside-left n w goes out);
      outside_is_no_others = λ other out. s.outside_is_no_others other (outside-left other v (others other out) out);
      regular = λ free somewhere. regulars-full v (s.regular (free-left free) (regular-left n goes somewhere));
      system = λ free none. systems-full v (s.system (free-left free) (λ somewhere. none (regular-full n somewhere)));
    }

    stands-left : (v : ℕ) → StandsWhereItMay tells full pins n v → StandsWhereItMay tells left pins n v
    stands-left v s = record {
      pin_kept = s.pin_kept;
      pin_is_no_others = s.pin_is_no_others;
      outside_stays = λ w out. s.outside_stays w (outside-full n w out);
      outside_is_no_others = λ other out. s.outside_is_no_others other (outside-full other v out);
      regular = λ free somewhere. regulars-left v (s.regular (free-full free) (regular-full n somewhere));
      system = λ free none. systems-left v (s.system (free-full free) (λ somewhere. none (regular-left n goes somewhere)));
    }

-- ---- tables with distinct numbers

module _ {Row : Type 0} (name : Row → List ℕ) (number : Row → ℕ) where
  abbrev pairs : List Row → List (List ℕ × ℕ)
  pairs rows = map (λ r. (name r, number r)) rows

  abbrev at : List Row → ℕ → Option (List ℕ)
  at rows v = option_map name (find (λ r. v == number r) rows)

  from-map : (rows : List Row) (p : List ℕ × ℕ) → Contains (pairs rows) p → (r : Row) × Contains rows r × ((name r, number r) ≡ p)
  from-map [] p there = absurd (omega (arith, there.1))
  from-map (r ∷ rows) p (zero, lt, e) = (r, (zero, omega arith, refl), e)
  from-map (r ∷ rows) p (suc k, lt, e) = let more = from-map rows p (k, omega (arith, lt), e) in (more.0, (suc more.1.0, omega (arith, more.1.1), more.1.2), more.2)

  -- a name that the table gives a number has a row
  has-row : (rows : List Row) (v : ℕ) (n : List ℕ) → at rows v ≡ Some n → (r : Row) × Contains rows r × ◌≡◌ {A = List ℕ × ℕ} (name r, number r) (n, v)
  has-row rows v n is = from-map rows (n, v) (row-there v n (pairs rows) (told-by name number v rows ∙ is))

  row-has : (rows : List Row) → AreDistinct (map (λ (p : List ℕ × ℕ). p.1) (pairs rows)) → (r : Row) → Contains rows r → at rows (number r) ≡ Some (name r)
  row-has rows distinct r there =
      sym (told-by name number (number r) rows) ∙ All-contains (λ (p : List ℕ × ℕ). name_in (pairs rows) p.1 ≡ Some p.0) (pairs rows) (name r, number r) (rows-named (pairs rows) distinct) (contains-map (λ x. (name x, number x)) rows r there)

  -- rows of one table that stand in another too
  at-other : (rows others : List Row) → AreDistinct (map (λ (p : List ℕ × ℕ). p.1) (pairs others)) → (v : ℕ) (n : List ℕ) → ((r : Row) → name r ≡ n → Contains rows r → Contains others r) → at rows v ≡ Some n → at others v ≡ Some n
  at-other rows others distinct v n goes is =
      let has = has-row rows v n is in
      let r = has.0 in
      let named : name r ≡ n = ap (λ (p : List ℕ × ℕ). p.0) has.2 in
      let numbered : number r ≡ v = ap (λ (p : List ℕ × ℕ). p.1) has.2 in
      ap (at others) (sym numbered) ∙ row-has others distinct r (goes r named has.1) ∙ ap (λ m. Some m) named

-- ---- a host in full, and what is joined of it

module _ (keep : KeepText) (full : List Host) where
  user-decided : (n : List ℕ) → UserStays keep full n ⊎ (UserStays keep full n → ⊥)
  user-decided n = by (is_kept_user keep full n) refl
    where
      by : (b : Bool) → is_kept_user keep full n ≡ b → UserStays keep full n ⊎ (UserStays keep full n → ⊥)
      by true is = inl ((kept_names_stay keep full n).0.0 is)
      by false is = inr (λ stay. false≢true (sym is ∙ (kept_names_stay keep full n).0.1 stay))

  group-decided : (n : List ℕ) → GroupStays keep full n ⊎ (GroupStays keep full n → ⊥)
  group-decided n = by (is_kept_group keep full n) refl
    where
      by : (b : Bool) → is_kept_group keep full n ≡ b → GroupStays keep full n ⊎ (GroupStays keep full n → ⊥)
      by true is = inl ((kept_names_stay keep full n).1.0 is)
      by false is = inr (λ stay. false≢true (sym is ∙ (kept_names_stay keep full n).1.1 stay))

  module _ (unowned : UnownedNumbers) (text : HostText) (was host : Host) (of : IsOfText text was) (left : IsLeftOf keep full unowned was host) (lawful : IsLawfulHost host) where
    users-alike : TellsAlike of_users (UserStays keep full) was host
    users-alike = record {
      regular = ap (λ (r : HostRanges). r.uid) left.ranges;
      system = ap (λ (r : HostRanges). r.sys_uid) left.ranges;
      to_full = λ n v is. at-other (λ (r : Passwd). r.name) (λ (r : Passwd). r.uid) host.users was.users (user_rows-table was.users (passwd-law text.passwd was.users of.users)).numbers_differ v n (λ r named there. ((left.users r).0 there).0) is;
      to_left = λ n v goes is. at-other (λ (r : Passwd). r.name) (λ (r : Passwd). r.uid) was.users host.users (user_rows-table host.users lawful.users).numbers_differ v n
          (λ r named there. (left.users r).1 (there, subst (λ m. UserStays keep full m → ⊥) (sym named) goes)) is;
    }

    groups-alike : TellsAlike of_groups (GroupStays keep full) was host
    groups-alike = record {
      regular = ap (λ (r : HostRanges). r.gid) left.ranges;
      system = ap (λ (r : HostRanges). r.sys_gid) left.ranges;
      to_full = λ n v is. at-other (λ (r : Group). r.name) (λ (r : Group). r.gid) host.groups was.groups (group_rows-table was.groups (group-law text.group was.groups of.groups)).numbers_differ v n (λ r named there. ((left.groups r).0 there).0) is;
      to_left = λ n v goes is. at-other (λ (r : Group). r.name) (λ (r : Group). r.gid) was.groups host.groups (group_rows-table host.groups lawful.groups).numbers_differ v n
          (λ r named there. (left.groups r).1 (there, subst (λ m. GroupStays keep full m → ⊥) (sym named) goes)) is;
    }

-- the host in full that stands with what is joined of it, and its text
record Beside (R : HostText → Host → Type 0) (S : Host → Host → Type 0) (texts : List HostText) (full left : List Host) (was host : Host) : Type 0 where
  text : HostText
  was_there : Contains full was
  host_there : Contains left host
  of : R text was
  is : S was host

later-beside : (R : HostText → Host → Type 0) (S : Host → Host → Type 0) (t : HostText) (w h : Host) (texts : List HostText) (full left : List Host) (was host : Host) → Beside R S texts full left was host → Beside R S (t ∷ texts) (w ∷ full) (h ∷ left) was host
later-beside R S t w h texts full left was host it = record {
  text = it.text;
  was_there = (suc it.was_there.0, omega (arith, it.was_there.1), it.was_there.2);
  host_there = (suc it.host_there.0, omega (arith, it.host_there.1), it.host_there.2);
  of = it.of;
  is = it.is;
}

module _ (R : HostText → Host → Type 0) (S : Host → Host → Type 0) where
  beside-left : (texts : List HostText) (full left : List Host) → AllZip R texts full → AllZip S full left → (host : Host) → Contains left host → (was : Host) × Beside R S texts full left was host
  beside-left [] [] [] r s host there = absurd (omega (arith, there.1))
  beside-left [] [] (h ∷ left) r s host there = absurd s
  beside-left [] (w ∷ full) left r s host there = absurd r
  beside-left (t ∷ texts) [] left r s host there = absurd r
  beside-left (t ∷ texts) (w ∷ full) [] r s host there = absurd s
  beside-left (t ∷ texts) (w ∷ full) (h ∷ left) r s host (zero, lt, e) = (w, record { text = t; was_there = (zero, omega arith, refl); host_there = (zero, omega arith, e); of = r.0; is = subst (S w) e s.0 })
  beside-left (t ∷ texts) (w ∷ full) (h ∷ left) r s host (suc k, lt, e) =
      let it = beside-left texts full left r.1 s.1 host (k, omega (arith, lt), e) in
      (it.0, later-beside R S t w h texts full left it.0 host it.1)

  beside-full : (texts : List HostText) (full left : List Host) → AllZip R texts full → AllZip S full left → (was : Host) → Contains full was → (host : Host) × Beside R S texts full left was host
  beside-full [] [] left r s was there = absurd (omega (arith, there.1))
  beside-full [] (w ∷ full) left r s was there = absurd r
  beside-full (t ∷ texts) [] left r s was there = absurd r
  beside-full (t ∷ texts) (w ∷ full) [] r s was there = absurd s
  beside-full (t ∷ texts) (w ∷ full) (h ∷ left) r s was (zero, lt, e) = (h, record { text = t; was_there = (zero, omega arith, e); host_there = (zero, omega arith, refl); of = subst (R t) e r.0; is = subst (λ x. S x h) e s.0 })
  beside-full (t ∷ texts) (w ∷ full) (h ∷ left) r s was (suc k, lt, e) =
      let it = beside-full texts full left r.1 s.1 was (k, omega (arith, lt), e) in
      (it.0, later-beside R S t w h texts full left was it.0 it.1)

-- ---- a number that is offered

offered-free : (a : Accounts) → LeavesOut a (is_reserved a.reserved) → (i v : ℕ) → i < length a.names → IsOffered a i v → is_reserved a.reserved v ≡ false
offered-free a leaves i v within (inl pinned) = leaves.pins i v within pinned
offered-free a leaves i v within (inr pooled) = leaves.pools (class_at a i) v pooled

name-there : (a : Accounts) (i : ℕ) → i < length a.names → is_name a.names (account a i).name ≡ true
name-there a i within = list_any_at (λ (b : Account). bytes_eq (account a i).name b.name) a.names i no_account within (bytes_refl (account a i).name)

module _ (texts : List HostText) (rules : SiteRules) (begun : BegunSite) (is : site_begun texts rules ≡ Ok begun) where
  of : IsOfTexts texts rules begun
  of = begun_sites_are_of_texts texts rules begun is

  together : AreTogether begun.hosts begun.joined
  together =
      let s = begun_steps texts rules begun is in
      subst (λ hs. AreTogether hs begun.joined) s.hosts (others-together texts rules s.listed s.others begun.joined s.listed_are s.others_are s.joined_is)

  abbrev keep : KeepText
  keep = of.hosts.keep

  abbrev full : List Host
  full = of.hosts.full

  abbrev pins : PinPairs
  pins = record of.pins { reserved_users = begun.joined.users.reserved; reserved_groups = begun.joined.groups.reserved }

  abbrev Left : Host → Host → Type 0
  Left was host = IsLeftOf keep full rules.keep.unowned was host

  lawful-at : (host : Host) → Contains begun.hosts host → IsLawfulHost host
  lawful-at host there = All-contains IsLawfulHost begun.hosts host together.lawful there

  users-from-left : (host : Host) → Contains begun.hosts host → IsAlike of_users (UserStays keep full) full (λ was. TellsAlike of_users (UserStays keep full) was host)
  users-from-left host there =
      let it = beside-left IsOfText Left texts full begun.hosts of.hosts.full_are of.hosts.left host there in
      record { other = it.0; there = it.1.was_there; alike = users-alike keep full rules.keep.unowned it.1.text it.0 host it.1.of it.1.is (lawful-at host there) }

  users-from-full : (was : Host) → Contains full was → IsAlike of_users (UserStays keep full) begun.hosts (λ host. TellsAlike of_users (UserStays keep full) was host)
  users-from-full was there =
      let it = beside-full IsOfText Left texts full begun.hosts of.hosts.full_are of.hosts.left was there in
      record { other = it.0; there = it.1.host_there; alike = users-alike keep full rules.keep.unowned it.1.text was it.0 it.1.of it.1.is (lawful-at it.0 it.1.host_there) }

  groups-from-left : (host : Host) → Contains begun.hosts host → IsAlike of_groups (GroupStays keep full) full (λ was. TellsAlike of_groups (GroupStays keep full) was host)
  groups-from-left host there =
      let it = beside-left IsOfText Left texts full begun.hosts of.hosts.full_are of.hosts.left host there in
      record { other = it.0; there = it.1.was_there; alike = groups-alike keep full rules.keep.unowned it.1.text it.0 host it.1.of it.1.is (lawful-at host there) }

  groups-from-full : (was : Host) → Contains full was → IsAlike of_groups (GroupStays keep full) begun.hosts (λ host. TellsAlike of_groups (GroupStays keep full) was host)
  groups-from-full was there =
      let it = beside-full IsOfText Left texts full begun.hosts of.hosts.full_are of.hosts.left was there in
      record { other = it.0; there = it.1.host_there; alike = groups-alike keep full rules.keep.unowned it.1.text was it.0 it.1.of it.1.is (lawful-at it.0 it.1.host_there) }

  -- a name that stays has only reserved numbers
  user-reserved : (name : List ℕ) (v : ℕ) → IsOutside of_users full name v → UserStays keep full name → is_reserved begun.joined.users.reserved v ≡ true
  user-reserved name v out stay =
      let row = has-row (λ (r : Passwd). r.name) (λ (r : Passwd). r.uid) out.host.users v name out.has in
      let named : row.0.name ≡ name = ap (λ (p : List ℕ × ℕ). p.0) row.2 in
      let numbered : row.0.uid ≡ v = ap (λ (p : List ℕ × ℕ). p.1) row.2 in
      let on_host : HasStayingUser keep full v out.host.users = (row.1.0, row.0, row.1.1, row.1.2, (subst (UserStays keep full) (sym named) stay, numbered)) in
      (of.reserved_users v).1 (inr (inl (out.there.0, out.host, out.there.1, out.there.2, on_host)))

  group-reserved : (name : List ℕ) (v : ℕ) → IsOutside of_groups full name v → GroupStays keep full name → is_reserved begun.joined.groups.reserved v ≡ true
  group-reserved name v out stay =
      let row = has-row (λ (r : Group). r.name) (λ (r : Group). r.gid) out.host.groups v name out.has in
      let named : row.0.name ≡ name = ap (λ (p : List ℕ × ℕ). p.0) row.2 in
      let numbered : row.0.gid ≡ v = ap (λ (p : List ℕ × ℕ). p.1) row.2 in
      let on_host : HasStayingGroup keep full v out.host.groups = (row.1.0, row.0, row.1.1, row.1.2, (subst (GroupStays keep full) (sym named) stay, numbered)) in
      (of.reserved_groups v).1 (inr (inl (out.there.0, out.host, out.there.1, out.there.2, on_host)))

  user-goes : (i : ℕ) → i < length begun.joined.users.names → UserStays keep full (account begun.joined.users i).name → ⊥
  user-goes i within = ((of.users (account begun.joined.users i).name).0 (name-there begun.joined.users i within)).1

  group-goes : (i : ℕ) → i < length begun.joined.groups.names → GroupStays keep full (account begun.joined.groups i).name → ⊥
  group-goes i within = ((of.groups (account begun.joined.groups i).name).0 (name-there begun.joined.groups i within)).1

  by_left : StandWhereTheyMay of_users begun.hosts of.pins.users begun.joined.users × StandWhereTheyMay of_groups begun.hosts of.pins.groups begun.joined.groups
  by_left = numbers_stand begun.hosts pins begun.joined together.lawful of.joined

  all_left : AreAllOffered of_users begun.hosts of.pins.users begun.joined.users.reserved begun.joined.users × AreAllOffered of_groups begun.hosts of.pins.groups begun.joined.groups.reserved begun.joined.groups
  all_left =
      let are = pins_are_pins rules.pins of.pins of.pins_are in
      numbers_offered begun.hosts pins begun.joined together.lawful (record { user_pins = are.user_pins; group_pins = are.group_pins }) of.joined

  stand_by_texts : StandByTexts texts rules begun
  stand_by_texts = record {
    of = of;
    users = λ i v within offered.
        let free = offered-free begun.joined.users together.leaves.users i v within offered in
        stands-full of_users (UserStays keep full) full begun.hosts users-from-left users-from-full of.pins.users (account begun.joined.users i).name (user-goes i within) v
        (λ other out stay. false≢true (sym free ∙ user-reserved other v out stay)) (by_left.0 i v within offered);
    groups = λ i v within offered.
        let free = offered-free begun.joined.groups together.leaves.groups i v within offered in
        stands-full of_groups (GroupStays keep full) full begun.hosts groups-from-left groups-from-full of.pins.groups (account begun.joined.groups i).name (group-goes i within) v
        (λ other out stay. false≢true (sym free ∙ group-reserved other v out stay)) (by_left.1 i v within offered);
    all_users = λ i v within id unreserved stands.
        all_left.0 i v within id unreserved (stands-left of_users (UserStays keep full) full begun.hosts users-from-left users-from-full of.pins.users (account begun.joined.users i).name (user-goes i within) v stands);
    all_groups = λ i v within id unreserved stands.
        all_left.1 i v within id unreserved (stands-left of_groups (GroupStays keep full) full begun.hosts groups-from-left groups-from-full of.pins.groups (account begun.joined.groups i).name (group-goes i within) v stands);
  }

pub numbers_stand_by_texts : NumbersStandByTexts
numbers_stand_by_texts texts rules begun is = stand_by_texts texts rules begun is

-- ---- a number that a map gives

-- a name may have the numbers that it is offered
may-offered : (a : Accounts) (i v : ℕ) (c : Class) → class_at a i ≡ c → MayHave a c v → IsOffered a i v
may-offered a i v (Pinned p) is may = inl (is ∙ ap Pinned (sym may))
may-offered a i v Regular is may = inr (ap (λ c. in_pool a c v) is ∙ may)
may-offered a i v System is may = inr (ap (λ c. in_pool a c v) is ∙ may)

module _ (a : Accounts) (m : List ℕ) (given : List Pair) (one : HaveOneNumberEach a m given) where
  given-stands : (tells : Host → HostTells) (hosts : List Host) (pins : List Pair) → StandWhereTheyMay tells hosts pins a → AreGivenWhereTheyMay tells hosts pins given
  given-stands tells hosts pins stand name v is =
      let at = numbered_at a m given one.say name v is in
      let offered : IsOffered a at.0 v = subst (IsOffered a at.0) at.3 (may-offered a at.0 (number_at m at.0) (class_at a at.0) refl (one.admissible.lawful at.0 at.1)) in
      subst (λ n. StandsWhereItMay tells hosts pins n v) (sym at.2) (stand at.0 v at.1 offered)

  named-alike : (P : List ℕ → Type 0) → ((name : List ℕ) → (is_name a.names name ≡ true) ↔ P name) → (name : List ℕ) → (is_some (number_of given name) ≡ true) ↔ P name
  named-alike P are name = (λ h. (are name).0 (sym (one.say.names name) ∙ h), λ p. one.say.names name ∙ (are name).1 p)

pub given_numbers_stand_by_texts : GivenNumbersStandByTexts
given_numbers_stand_by_texts texts rules begun m given is users groups =
    let by = stand_by_texts texts rules begun is in
    let full = by.of.hosts.full in
    let keep = by.of.hosts.keep in
    record {
      of = by.of;
      user_names = named-alike begun.joined.users m.users given.users users (λ name. IsSomeUser full name × (UserStays keep full name → ⊥)) by.of.users;
      group_names = named-alike begun.joined.groups m.groups given.groups groups (λ name. IsSomeGroup full name × (GroupStays keep full name → ⊥)) by.of.groups;
      users = given-stands begun.joined.users m.users given.users users of_users full by.of.pins.users by.users;
      groups = given-stands begun.joined.groups m.groups given.groups groups of_groups full by.of.pins.groups by.groups;
    }
