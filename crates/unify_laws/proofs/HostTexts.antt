-- A host's own passwd and group with their new numbers keep the names that a finished plan keeps.
use Rattle.std.proofs.Common.{◌≡◌, ◌||◌, inl, inr, ℕ, false, List, [], map, Option, Some, None, Ok, refl, sym, ap, subst, ◌∙◌}
use Rattle.std.specs.List.{Contains, slice_get}
use Rattle.std.proofs.lemmas.Bool.{or_parts}
use Rattle.std.proofs.lemmas.List.Elements.{All-weaker}
use Rattle.std.proofs.lemmas.Option.{get_or_from_slice_get, same_Some, slice_get-map, slice_get_within}
use Rattle.idtext.proofs.OkLemmas.{bind_ok, each-ok, ok_same}
use Rattle.accounts.specs.Rows.{Passwd, Group}
use Rattle.mtree_inv.specs.declared.entry.Entry.{Entry}
use Rattle.hosts_join.specs.Accounts.{Accounts, Pair}
use Rattle.hosts_join.specs.Checks.{hosts_checked}
use Rattle.hosts_join.specs.Kinds.{user_at, group_at}
use Rattle.hosts_join.specs.PinPairs.{PinPairs}
use Rattle.hosts_join.specs.Site.{Joined, joined_site}
use Rattle.hosts_join.specs.declared.host.Host.{Host}
use Rattle.hosts_join.specs.declared.texts.HostText.{HostText}
use Rattle.kept_accounts.specs.Reserving.{reserved_groups, reserved_users}
use Rattle.mergedfiles.specs.FullTables.{AreNumberedRows, IsFullGroupFile, IsFullPasswd, IsNumberedHost, IsRenumbered}
use Rattle.ownership.specs.declared.mapping.Mappings.{Mappings}
use Rattle.mergedfiles.proofs.HostUsers.{full_passwd_back}
use Rattle.mergedfiles.proofs.HostGroups.{full_group_back}
use Rattle.reown_plan.specs.declared.plan.Owner.{Owner}
use Rattle.unify_texts.specs.ReservedLines.{keeps_a_name}
use Rattle.unify_texts.specs.WrittenMap.{SayMapping}
use Rattle.site_tables.specs.declared.host.Loaded.{Loaded}
use Rattle.unify.specs.declared.outcome.Outcome.{Outcome}
use Rattle.site_tables.specs.declared.rules.KeepRules.{KeepRules}
use Rattle.site_tables.specs.declared.rules.SiteRules.{SiteRules}
use Rattle.site_tables.specs.Hosts.{host_of}
use Rattle.unify.specs.Whole.{IsWhole}
use Rattle.site_tables.specs.Others.{Others, keeping_nothing, others_loaded, pinned_site, reserving}
use Rattle.site_tables.specs.Begun.{BegunSite, site_begun}
use Rattle.unify.specs.Reading.{WholeSite}
use Rattle.site_tables.specs.Told.{in_site}
use Rattle.site_tables.proofs.LeftHosts.{left}
use Rattle.site_tables.proofs.LoadedHosts.{loaded-read, tables-of}
use Rattle.site_tables.proofs.ReadSites.{AreLoaded, are-loaded, are-pinned, reserved-are}
use Rattle.site_tables.proofs.SiteSteps.{site_ok}
use Rattle.unify_laws.specs.Headline.{Headline, IsNamedAsBefore, IsNewNumber, IsOldOrNamed}
use Rattle.unify_laws.specs.HostTexts.{AreJoinedInFull, BegunSitesAreInFull, EmptyTextsKeepNoName, HostsKeepOwnFiles, IsJoinedInFull, IsJoinedPart, IsTextOf, KeepsOwnFiles, ReadSitesAreInFull, TablesAreOfTexts, own_passwd, own_group}
use Rattle.unify_laws.proofs.InFull.{numbered_rows, own_group_in_full, own_passwd_in_full, primary_groups}
use Rattle.unify_laws.proofs.Installed.{is-paired, mapped-there, paired}
use Rattle.unify_laws.proofs.KeptPart.{kept_part}
use Rattle.unify_laws.proofs.NoneKept.{all-left-read, groups-left, names_reserve, users-left}
use Rattle.unify_laws.proofs.WholeSites.{all-joined, hosts-are, steps}

-- ---- names

-- what is by the pairs the new number of a name is its number, and what is no name's is given to none
by_pairs : (a : Accounts) (m : List ℕ) (pairs : List Pair) → SayMapping a m pairs → (told : Option (List ℕ)) (old new : ℕ) → IsNewNumber told pairs old new → IsRenumbered a m told old new
by_pairs a m pairs say (Some name) old new is = paired a m pairs say name new is
by_pairs a m pairs say None old new is = (is.0, λ name has. is.1 name (is-paired a m pairs say name new has))

module _ (site : WholeSite) (outcome : Outcome) (correct : Headline site outcome) (full host : Host) (text : HostText) where
  -- a file that has by the map the names that it had has them by the host's own new files
  named_by_own : (passwd : IsFullPasswd site.joined correct.mappings full host text.passwd (own_passwd host site.joined correct.mappings text)) (group : IsFullGroupFile site.joined correct.mappings full host text.group (own_group site.joined correct.mappings text))
      → (were_users : List Passwd) (were_groups : List Group) (tree : List ℕ → Option Owner) (file : Entry) → IsNamedAsBefore correct.map were_users were_groups host host tree file → IsNamedAsBefore correct.map passwd.rows group.rows full host tree file
  named_by_own passwd group were_users were_groups tree file named =
      let m = correct.mappings in
      let by = named.by_map in
      record {
        by_map = by;
        user_is = passwd.names_are_kept file.uid by.now.uid (by_pairs site.joined.users m.users correct.map.users correct.users_have_one_number_each.say (user_at host.users file.uid) file.uid by.now.uid by.user);
        group_is = group.names_are_kept file.gid by.now.gid (by_pairs site.joined.groups m.groups correct.map.groups correct.groups_have_one_number_each.say (group_at host.groups file.gid) file.gid by.now.gid by.group);
      }

  old_or_own : (passwd : IsFullPasswd site.joined correct.mappings full host text.passwd (own_passwd host site.joined correct.mappings text)) (group : IsFullGroupFile site.joined correct.mappings full host text.group (own_group site.joined correct.mappings text))
      → (users : List Passwd) (groups : List Group) (tree : List ℕ → Option Owner) (file : Entry) → IsOldOrNamed correct.map users groups host host tree file → IsOldOrNamed correct.map passwd.rows group.rows full host tree file
  old_or_own passwd group users groups tree file (inl old) = inl old
  old_or_own passwd group users groups tree file (inr named) = inr (named_by_own passwd group users groups tree file named)

-- ---- own files

-- no name has the number of a row that is kept
numbered_part : (site : WholeSite) (outcome : Outcome) → IsWhole site → (correct : Headline site outcome) (full host : Host) → IsJoinedPart site.joined full host → IsNumberedHost site.joined correct.mappings full host
numbered_part site outcome whole correct full host part =
    let m = correct.mappings in
    let printed = correct.map in
    let users = correct.users_have_one_number_each in
    let groups = correct.groups_have_one_number_each in
    record {
      users = numbered_rows (λ (row : Passwd). row.name) (λ (row : Passwd). row.uid) site.joined.users m.users printed.users full.users host.users whole.lawful.users users.admissible users.say whole.leaves.users part.users;
      groups = numbered_rows (λ (row : Group). row.name) (λ (row : Group). row.gid) site.joined.groups m.groups printed.groups full.groups host.groups whole.lawful.groups groups.admissible groups.say whole.leaves.groups part.groups;
    }

-- all rows were joined
all_numbered : (site : Joined) (m : Mappings) (full host : Host) → IsNumberedHost site m full host → IsJoinedInFull full host → IsNumberedHost site m host host
all_numbered site m full host is all = record {
  users = subst (λ (rows : List Passwd). AreNumberedRows (λ (row : Passwd). row.name) (λ (row : Passwd). row.uid) site.users m.users rows host.users) all.users is.users;
  groups = subst (λ (rows : List Group). AreNumberedRows (λ (row : Group). row.name) (λ (row : Group). row.gid) site.groups m.groups rows host.groups) all.groups is.groups;
}

pub hosts_keep_own_files : HostsKeepOwnFiles
hosts_keep_own_files site outcome whole correct h full host files text here part users groups =
    let m = correct.mappings in
    let known = whole.each_host h host files here in
    let is = numbered_part site outcome whole correct full host part in
    let passwd : IsFullPasswd site.joined m full host text.passwd (own_passwd host site.joined m text) = full_passwd_back site.joined m full host text.passwd is users in
    let group : IsFullGroupFile site.joined m full host text.group (own_group site.joined m text) = full_group_back site.joined m full host text.group is groups in
    let kept = correct.a_plan_keeps_names h host files here in
    let merged = correct.installed in
    record {
      passwd = passwd;
      group = group;
      primary_kept = primary_groups site.joined m full host text.passwd (own_passwd host site.joined m text) text.group (own_group site.joined m text) is passwd group;
      a_plan_keeps_names = record {
        plan = kept.plan;
        printed = kept.printed;
        records = kept.records;
        read = kept.read;
        begins = kept.begins;
        only_the_device_refuses = kept.only_the_device_refuses;
        at_every_moment = λ asked runs end are image is_image.
            All-weaker (IsOldOrNamed correct.map merged.passwd.rows merged.group.rows host host image.owner) (IsOldOrNamed correct.map passwd.rows group.rows full host image.owner)
            (old_or_own site outcome correct full host text passwd group merged.passwd.rows merged.group.rows image.owner) files (kept.at_every_moment asked runs end are image is_image);
        kept = λ asked runs end are done image is_image.
            All-weaker (IsNamedAsBefore correct.map merged.passwd.rows merged.group.rows host host image.owner) (IsNamedAsBefore correct.map passwd.rows group.rows full host image.owner)
            (named_by_own site outcome correct full host text passwd group merged.passwd.rows merged.group.rows image.owner) files (kept.kept asked runs end are done image is_image);
      };
      passwd_in_full = λ was all.
          own_passwd_in_full site.joined m h host known.lawful known.known (all_numbered site.joined m full host is all) was text.passwd (users ∙ ap (λ (rows : List Passwd). Ok rows) all.users);
      group_in_full = λ all.
          own_group_in_full site.joined m h host known.lawful known.known (all_numbered site.joined m full host is all) text.group (groups ∙ ap (λ (rows : List Group). Ok rows) all.groups);
    }

-- the text of a host tells what its own files are made of
pub text_keeps : (site : WholeSite) (outcome : Outcome) → IsWhole site → (correct : Headline site outcome) (h : ℕ) (host : Host) (files : List Entry) (text : HostText) (loaded : Loaded) → slice_get site.hosts h ≡ Some (host, files)
    → IsTextOf site.joined host text → host_of text ≡ Ok loaded → KeepsOwnFiles site correct.mappings correct.map outcome.plans h loaded.host host files text
text_keeps site outcome whole correct h host files text loaded here is told =
    let same : is.loaded ≡ loaded = ok_same is.loaded loaded (sym is.told ∙ told) in
    subst (λ (l : Loaded). KeepsOwnFiles site correct.mappings correct.map outcome.plans h l.host host files text) same
    (hosts_keep_own_files site outcome whole correct h is.loaded.host host files text here is.part is.passwd is.group)

-- ---- the texts of a host's tables

-- an index that has an item
there-at : {X : Type 0} (xs : List X) (k : ℕ) (x : X) → slice_get xs k ≡ Some x → Contains xs x
there-at xs k x here = (k, slice_get_within xs k x here, get_or_from_slice_get xs k x x here)

-- what is joined of hosts that were loaded from texts
module _ (texts : List HostText) (rules : KeepRules) (others : Others) (from : AreLoaded texts rules others) where
  abbrev full : List Host
  full = map (λ l. l.host) from.loaded

  -- a text is that of the host at its index
  told_at : (h : ℕ) (l : Loaded) (text : HostText) → slice_get from.loaded h ≡ Some l → slice_get texts h ≡ Some text → host_of text ≡ Ok l
  told_at h l text here there =
      let back = each-ok host_of texts from.loaded from.hosts_are h l here in
      ap host_of (sym (same_Some back.0 text (sym back.1 ∙ there))) ∙ back.2

  host_at : (h : ℕ) (host : Host) → slice_get full h ≡ Some host → (l : Loaded) × (slice_get from.loaded h ≡ Some l) × (l.host ≡ host)
  host_at h host here = mapped-there (λ (l : Loaded). l.host) (slice_get from.loaded h) host (sym (slice_get-map (λ (l : Loaded). l.host) from.loaded h) ∙ here)

  pub text_of : (pins_text : List ℕ) (joined : Joined) → pinned_site others pins_text ≡ Ok joined
      → (h : ℕ) (host : Host) (text : HostText) → slice_get others.hosts h ≡ Some host → slice_get texts h ≡ Some text → IsTextOf joined host text
  text_of pins_text joined joined_is h host text here there =
      let keep = from.by.keep in
      let same : map (left keep full rules.unowned) full ≡ others.hosts = ap (λ (o : Others). o.hosts) from.by.are in
      let left_at = mapped-there (left keep full rules.unowned) (slice_get full h) host (sym (slice_get-map (left keep full rules.unowned) full h) ∙ ap (λ (hs : List Host). slice_get hs h) same ∙ here) in
      let at = host_at h left_at.0 left_at.1 in
      let told = told_at h at.0 text at.1 there in
      let tables = tables-of text at.0 told in
      let pinned = are-pinned others pins_text joined joined_is in
      let pins : PinPairs = reserving others pinned.pins in
      let reserved = reserved-are others pins_text joined pinned in
      let whole : joined_site (map (left keep full rules.unowned) full) pins ≡ Ok joined = ap (λ (hs : List Host). joined_site hs pins) same ∙ pinned.joined_is in
      let part = kept_part keep full rules.unowned pins joined left_at.0 (there-at full h left_at.0 left_at.1) whole (ap (λ (o : Others). o.reserved_users) from.by.are ∙ reserved.0) (ap (λ (o : Others). o.reserved_groups) from.by.are ∙ reserved.1) in
      record {
        loaded = at.0;
        told = told;
        passwd = tables.0;
        group = tables.1;
        part = subst (λ (x : Host). IsJoinedPart joined x host) (sym at.2) (subst (IsJoinedPart joined left_at.0) left_at.2 part);
      }

  loaded_in_full : AreJoinedInFull full texts
  loaded_in_full = record {
    read = loaded-read texts from.loaded from.hosts_are;
    each_host = λ h host text l here there told.
        let at = host_at h host here in
        let same : l ≡ at.0 = ok_same l at.0 (sym told ∙ told_at h at.0 text at.1 there) in
        let is : l.host ≡ host = ap (λ (x : Loaded). x.host) same ∙ at.2 in
        record { users = ap (λ (x : Host). x.users) is; groups = ap (λ (x : Host). x.groups) is };
  }

  -- where no name is kept all rows are joined
  pub left_in_full : names_reserve others.reserved_users ≡ false → names_reserve others.reserved_groups ≡ false → AreJoinedInFull others.hosts texts
  left_in_full users groups =
      let keep = from.by.keep in
      let no_user : names_reserve (reserved_users keep full rules.unowned.users) ≡ false = ap (λ (o : Others). names_reserve o.reserved_users) from.by.are ∙ users in
      let no_group : names_reserve (reserved_groups keep full rules.unowned.groups) ≡ false = ap (λ (o : Others). names_reserve o.reserved_groups) from.by.are ∙ groups in
      let whole = loaded_in_full in
      subst (λ (hs : List Host). AreJoinedInFull hs texts) (ap (λ (o : Others). o.hosts) from.by.are) (record {
        read = all-left-read keep full rules.unowned no_user no_group whole.read;
        each_host = λ h host text l here there told.
            let at = mapped-there (left keep full rules.unowned) (slice_get full h) host (sym (slice_get-map (left keep full rules.unowned) full h) ∙ here) in
            let is = whole.each_host h at.0 text l at.1 there told in
            let inside = there-at full h at.0 at.1 in
            record {
              users = is.users ∙ sym (users-left keep full rules.unowned at.0 inside no_user) ∙ ap (λ (x : Host). x.users) at.2;
              groups = is.groups ∙ sym (groups-left keep full rules.unowned at.0 inside no_group) ∙ ap (λ (x : Host). x.groups) at.2;
            };
      })

  pub in_full_where : (pins_text : List ℕ) (joined : Joined) → pinned_site others pins_text ≡ Ok joined → keeps_a_name joined ≡ false → AreJoinedInFull others.hosts texts
  in_full_where pins_text joined joined_is none =
      let reserved = reserved-are others pins_text joined (are-pinned others pins_text joined joined_is) in
      let both = or_parts (names_reserve joined.users.reserved) (names_reserve joined.groups.reserved) none in
      left_in_full (ap names_reserve reserved.0 ∙ both.0) (ap names_reserve reserved.1 ∙ both.1)

-- ---- a site, before its inventories are read

pub record BegunSteps (texts : List HostText) (rules : SiteRules) (begun : BegunSite) : Type 0 where
  pub listed : Unit {0}
  pub listed_are : hosts_checked texts ≡ Ok listed
  pub others : Others
  pub others_are : others_loaded texts rules.keep ≡ Ok others
  pub joined_is : pinned_site others rules.pins ≡ Ok begun.joined
  pub hosts : others.hosts ≡ begun.hosts

pub begun_steps : (texts : List HostText) (rules : SiteRules) (begun : BegunSite) → site_begun texts rules ≡ Ok begun → BegunSteps texts rules begun
unfolding site_begun
begun_steps texts rules begun is =
    let listed = bind_ok (in_site (hosts_checked texts)) _ begun is in
    let others = bind_ok (others_loaded texts rules.keep) _ begun listed.2 in
    let joining = bind_ok (pinned_site others.0 rules.pins) _ begun others.2 in
    let made : BegunSite = record { hosts = others.0.hosts; joined = joining.0 } in
    subst (BegunSteps texts rules) (ok_same made begun joining.2)
    (record {
      listed = listed.0;
      listed_are = site_ok (hosts_checked texts) listed.0 listed.1;
      others = others.0;
      others_are = others.1;
      joined_is = joining.1;
      hosts = refl;
    })

pub tables_are_of_texts : TablesAreOfTexts
tables_are_of_texts texts rules begun h host text is here there =
    let s = begun_steps texts rules begun is in
    text_of texts rules.keep s.others (are-loaded texts rules.keep s.others s.others_are) rules.pins begun.joined s.joined_is h host text (ap (λ (hs : List Host). slice_get hs h) s.hosts ∙ here) there

pub begun_sites_are_in_full : BegunSitesAreInFull
begun_sites_are_in_full texts rules begun is none =
    let s = begun_steps texts rules begun is in
    subst (λ (hs : List Host). AreJoinedInFull hs texts) s.hosts (in_full_where texts rules.keep s.others (are-loaded texts rules.keep s.others s.others_are) rules.pins begun.joined s.joined_is none)

-- with an empty keep text nothing is reserved
pub empty_texts_keep_no_name : EmptyTextsKeepNoName
empty_texts_keep_no_name texts rules begun empty is =
    let s = begun_steps texts rules begun is in
    let unowned = rules.keep.unowned in
    let keep : rules.keep ≡ keeping_nothing unowned = λ j. record rules.keep { text = empty j } in
    let read : others_loaded texts (keeping_nothing unowned) ≡ Ok s.others = ap (others_loaded texts) (sym keep) ∙ s.others_are in
    let all = all-joined texts unowned s.others (are-loaded texts (keeping_nothing unowned) s.others read) read in
    let reserved = reserved-are s.others rules.pins begun.joined (are-pinned s.others rules.pins begun.joined s.joined_is) in
    let users : begun.joined.users.reserved ≡ [] = sym reserved.0 ∙ sym (ap (λ (o : Others). o.reserved_users) all) in
    let groups : begun.joined.groups.reserved ≡ [] = sym reserved.1 ∙ sym (ap (λ (o : Others). o.reserved_groups) all) in
    λ j. names_reserve (users j) || names_reserve (groups j)

-- ---- a site that was read

pub read_sites_are_in_full : ReadSitesAreInFull
read_sites_are_in_full texts rules site read none =
    let s = steps texts rules site read in
    subst (λ (hs : List Host). AreJoinedInFull hs texts) (hosts-are texts rules site s) (in_full_where texts rules.keep s.others (are-loaded texts rules.keep s.others s.others_are) rules.pins site.joined s.joined_is none)
