-- Numbers that stay on their hosts are reserved, and so a map gives them to no name.
use Rattle.std.proofs.Common.{◌≡◌, ℕ, ◌<◌, ◌||◌, ◌++◌, ◌==◌, Bool, true, false, List, [], ◌∷◌, length, map, get_or, Some, None, Result, Ok, if◌then◌else◌, refl, sym, ap, subst, ◌∙◌, arith}
use Rattle.std.specs.List.{Contains, filter, find, flat_map, list_any, slice_get}
use Rattle.std.specs.Option.{is_some, option_map}
use Rattle.std.proofs.lemmas.Bool.{cond_both, or_parts}
use Rattle.std.proofs.lemmas.List.Folds.{list_any-append}
use Rattle.std.proofs.lemmas.Option.{same_Some, slice_get-get_or, slice_get-map, slice_get_within}
use Rattle.idtext.specs.First.{each}
use Rattle.idtext.proofs.OkLemmas.{each-ok, length-each, ok_same}
use Rattle.accounts.proofs.ListLemmas.{list_any-map}
use Rattle.accounts.specs.Rows.{Passwd, Group}
use Rattle.certcheck.proofs.Missing.{any_is_find}
use Rattle.logindefs.specs.Ranges.{in_range}
use Rattle.mtree_inv.specs.declared.entry.Entry.{Entry}
use Rattle.hosts_join.specs.Accounts.{Accounts, Pair}
use Rattle.hosts_join.specs.Hosts.{allows_gid, allows_uid, SparesReserved, spares_group, spares_user}
use Rattle.hosts_join.specs.Kinds.{group_at, group_rows, user_at, user_rows}
use Rattle.hosts_join.specs.Laws.{LeavesOut}
use Rattle.hosts_join.specs.RangeLists.{lies_in_some}
use Rattle.hosts_join.specs.Rules.{is_name, is_reserved}
use Rattle.hosts_join.specs.Site.{Joined}
use Rattle.hosts_join.specs.declared.host.Host.{Host}
use Rattle.hosts_join.specs.declared.reserving.Reserved.{Reserved}
use Rattle.keep_text.specs.declared.keep_text.Kept.{Kept}
use Rattle.kept_accounts.specs.Keeping.{is_kept_group, is_kept_user}
use Rattle.kept_accounts.specs.Others.{without_kept}
use Rattle.kept_accounts.specs.Reserving.{by_files, by_name, by_range, reserved_by, reserved_on}
use Rattle.kept_accounts.specs.declared.reserving.UnownedNumber.{UnownedNumber}
use Rattle.kept_accounts.proofs.ReservedLemmas.{kept_reserved}
use Rattle.site_tables.specs.declared.host.Loaded.{Loaded}
use Rattle.site_tables.specs.Hosts.{host_of}
use Rattle.site_tables.specs.Others.{Others}
use Rattle.site_tables.specs.Begun.{AreTogether}
use Rattle.site_tables.proofs.LoadedHosts.{all-at}
use Rattle.unify.proofs.Reading.{whole-read}
use Rattle.site_tables.proofs.ReadSites.{are-loaded, are-pinned, others-together, reserved-are}
use Rattle.unify.proofs.Whole.{hosts_held}
use Rattle.unify_laws.specs.Headline.{HaveOneNumberEach}
use Rattle.unify_laws.specs.HostTexts.{IsJoinedPart}
use Rattle.unify_laws.specs.KeptNumbers.{HasNoName, LeaveKeptNumbers, NoKeptNumberIsGiven, NoSurveyedNumberIsGiven, NoUnownedNumberIsGiven}
use Rattle.unify_laws.proofs.Counted.{mapped_some}
use Rattle.unify_laws.proofs.HostTexts.{begun_steps, tables_are_of_texts}
use Rattle.unify_laws.proofs.KeptPart.{reserved-alone}
use Rattle.unify_laws.proofs.Sparing.{unreserved}
use Rattle.unify_laws.proofs.SurveyedFiles.{found_files_are_allowed}

-- ---- what is listed, and kept names

in-front : {X : Type 0} (p : X → Bool) (xs ys : List X) → list_any p xs ≡ true → list_any p (xs ++ ys) ≡ true
in-front p xs ys is = list_any-append p xs ys ∙ ap (λ b. b || list_any p ys) is

-- a number that lies in a listed range is reserved
listed-reserved : (kept : List ℕ → Bool) (rows : Host → List (List ℕ × ℕ)) (keep : Kept) (hosts : List Host) (unowned : List UnownedNumber) (number : ℕ) → lies_in_some keep.ranges number ≡ true → is_reserved (reserved_by kept rows keep hosts unowned) number ≡ true
listed-reserved kept rows keep hosts unowned number lies =
    let has : Reserved → Bool = λ r. in_range r.numbers number in
    let ranges : List Reserved = map by_range keep.ranges in
    let names : List Reserved = flat_map (reserved_on kept rows) hosts in
    let files : List Reserved = if keep.unowned then map by_files unowned else [] in
    in-front has (ranges ++ names) files (in-front has ranges names (list_any-map has by_range keep.ranges ∙ lies))

module _ (a : Accounts) (m : List ℕ) (pairs : List Pair) (one : HaveOneNumberEach a m pairs) (leaves : LeavesOut a (is_reserved a.reserved)) where
  -- a number that is reserved is given to none
  reserved-to-none : (number : ℕ) → is_reserved a.reserved number ≡ true → HasNoName pairs number
  reserved-to-none number is name has = unreserved a leaves m pairs one.admissible one.say name number has is

  leave-kept : (kept : List ℕ → Bool) (rows : Host → List (List ℕ × ℕ)) (keep : Kept) (hosts : List Host) (unowned : List UnownedNumber) → reserved_by kept rows keep hosts unowned ≡ a.reserved
      → ((host : Host) (row : List ℕ × ℕ) → Contains hosts host → Contains (rows host) row → kept row.0 ≡ true → Contains (reserved_by kept rows keep hosts unowned) (by_name host row)) → LeaveKeptNumbers pairs keep.ranges kept rows hosts
  leave-kept kept rows keep hosts unowned same alone =
      let here : (number : ℕ) → is_reserved (reserved_by kept rows keep hosts unowned) number ≡ true → HasNoName pairs number = λ number is. reserved-to-none number (ap (λ (rs : List Reserved). is_reserved rs number) (sym same) ∙ is) in
      record {
        listed = λ number lies. here number (listed-reserved kept rows keep hosts unowned number lies);
        of_kept_names = λ name number is has. here number (reserved-alone (reserved_by kept rows keep hosts unowned) has.host (name, number) (alone has.host (name, number) has.is_host has.is_row is));
      }

pub no_kept_number_is_given : NoKeptNumberIsGiven
no_kept_number_is_given texts rules begun m given is users groups =
    let s = begun_steps texts rules begun is in
    let from = are-loaded texts rules.keep s.others s.others_are in
    let keep = from.by.keep in
    let full : List Host = map (λ l. l.host) from.loaded in
    let unowned = rules.keep.unowned in
    let leaves = (others-together texts rules s.listed s.others begun.joined s.listed_are s.others_are s.joined_is).leaves in
    let reserved = reserved-are s.others rules.pins begun.joined (are-pinned s.others rules.pins begun.joined s.joined_is) in
    record {
      keep = keep;
      keep_is = from.by.read;
      loaded = from.loaded;
      loaded_are = from.hosts_are;
      users = leave-kept begun.joined.users m.users given.users users leaves.users (is_kept_user keep full) (λ h. user_rows h.users) keep.users full unowned.users (ap (λ (o : Others). o.reserved_users) from.by.are ∙ reserved.0)
          (λ host row there. (kept_reserved keep full unowned.users host row there).0);
      groups = leave-kept begun.joined.groups m.groups given.groups groups leaves.groups (is_kept_group keep full) (λ h. group_rows h.groups) keep.groups full unowned.groups (ap (λ (o : Others). o.reserved_groups) from.by.are ∙ reserved.1)
          (λ host row there. (kept_reserved keep full unowned.groups host row there).1);
    }

-- ---- files without an account

any-filter_none : {X : Type 0} (p test : X → Bool) (xs : List X) → list_any p xs ≡ false → list_any p (filter test xs) ≡ false
any-filter_none {X} p test [] none = refl
any-filter_none {X} p test (x ∷ xs) none =
    let both = or_parts (p x) (list_any p xs) none in
    let rest = any-filter_none p test xs both.1 in
    let front : list_any p (x ∷ filter test xs) ≡ false = λ j. both.0 j || rest j in
    cond_both (test x) (x ∷ filter test xs) (filter test xs) (λ (ys : List X). list_any p ys ≡ false) (λ passes. front) (λ fails. rest)

-- who has no row in the full table has none among those that are left
none-left : {Row : Type 0} (name : Row → List ℕ) (has test : Row → Bool) (full left : List Row) → left ≡ filter test full → option_map name (find has full) ≡ None → is_some (option_map name (find has left)) ≡ false
none-left name has test full left are none =
    let nowhere : list_any has full ≡ false = any_is_find has full ∙ sym (mapped_some name (find has full)) ∙ ap is_some none in
    mapped_some name (find has left) ∙ sym (any_is_find has left) ∙ ap (list_any has) are ∙ any-filter_none has test full nowhere

is-spared : (told spares : Bool) → told ≡ false → (told || spares) ≡ true → spares ≡ true
is-spared true spares none allowed = absurd (cc)
is-spared false spares none allowed = allowed

-- a number that a host allows its files, and that no account of it has, is reserved
module _ (joined : Joined) (full host : Host) (part : IsJoinedPart joined full host) (spares : SparesReserved joined host) where
  uid-reserved : (uid : ℕ) → allows_uid host uid ≡ true → user_at full.users uid ≡ None → is_reserved joined.users.reserved uid ≡ true
  uid-reserved uid allowed none =
      let no_user = none-left (λ (row : Passwd). row.name) (λ row. uid == row.uid) (λ row. is_name joined.users.names row.name) full.users host.users part.users.joined_are none in
      spares.users uid (is-spared (is_some (user_at host.users uid)) (spares_user host uid) no_user allowed)

  gid-reserved : (gid : ℕ) → allows_gid host gid ≡ true → group_at full.groups gid ≡ None → is_reserved joined.groups.reserved gid ≡ true
  gid-reserved gid allowed none =
      let no_group = none-left (λ (row : Group). row.name) (λ row. gid == row.gid) (λ row. is_name joined.groups.names row.name) full.groups host.groups part.groups.joined_are none in
      spares.groups gid (is-spared (is_some (group_at host.groups gid)) (spares_group host gid) no_group allowed)

pub no_unowned_number_is_given : NoUnownedNumberIsGiven
no_unowned_number_is_given texts rules begun inventories read m given is paired accepted users groups h text loaded host files there told here =
    let s = begun_steps texts rules begun is in
    let together = subst (λ (hs : List Host). AreTogether hs begun.joined) s.hosts (others-together texts rules s.listed s.others begun.joined s.listed_are s.others_are s.joined_is) in
    let whole = whole-read begun.hosts begun.joined inventories read together paired accepted in
    let known = whole.each_host h host files here in
    let first = λ (x : Host × List Entry). x.0 in
    let at : slice_get begun.hosts h ≡ Some host = ap (λ (hs : List Host). slice_get hs h) (hosts_held begun.hosts inventories read paired accepted).0 ∙ slice_get-map first read h ∙ ap (option_map first) here in
    let it = tables_are_of_texts texts rules begun h host text is at there in
    let part : IsJoinedPart begun.joined loaded.host host = subst (λ (l : Loaded). IsJoinedPart begun.joined l.host host) (ok_same it.loaded loaded (sym it.told ∙ told)) it.part in (
      λ k d within none.
          let uid = (get_or files k d).uid in
          reserved-to-none begun.joined.users m.users given.users users whole.leaves.users uid (uid-reserved begun.joined loaded.host host part known.spares uid (known.allowed k d within).user none),
      λ k d within none.
          let gid = (get_or files k d).gid in
          reserved-to-none begun.joined.groups m.groups given.groups groups whole.leaves.groups gid (gid-reserved begun.joined loaded.host host part known.spares gid (known.allowed k d within).group none),
    )

-- what an item gave stands at its index
each-at : {A B F : Type 0} (f : A → Result B F) (xs : List A) (ys : List B) (k : ℕ) (x : A) (y : B) → each f xs ≡ Ok ys → slice_get xs k ≡ Some x → f x ≡ Ok y → slice_get ys k ≡ Some y
each-at {A} {B} f xs ys k x y are here gave =
    let within : k < length ys = omega (arith, slice_get_within xs k x here, length-each f xs ys are) in
    let item = slice_get-get_or ys k y within in
    let back = each-ok f xs ys are k (get_or ys k y) item in
    let same : back.0 ≡ x = same_Some back.0 x (sym back.1 ∙ here) in
    item ∙ ap (λ (z : B). Some z) (ok_same (get_or ys k y) y (sym back.2 ∙ ap f same ∙ gave))

pub no_surveyed_number_is_given : NoSurveyedNumberIsGiven
no_surveyed_number_is_given texts rules keep hosts inventories begun m given keep_is surveying found is users groups h text loaded inventory files there told inventory_at lists =
    let s = begun_steps texts rules begun is in
    let from = are-loaded texts rules.keep s.others s.others_are in
    let full : List Host = map (λ l. l.host) from.loaded in
    let together = others-together texts rules s.listed s.others begun.joined s.listed_are s.others_are s.joined_is in
    let leave : Host → Host = without_kept from.by.keep full rules.keep.unowned in
    let host : Host = leave loaded.host in
    let loaded_at : slice_get from.loaded h ≡ Some loaded = each-at host_of texts from.loaded h text loaded from.hosts_are there told in
    let full_at : slice_get full h ≡ Some loaded.host = slice_get-map (λ (l : Loaded). l.host) from.loaded h ∙ ap (option_map (λ (l : Loaded). l.host)) loaded_at in
    let left_at : slice_get (map leave full) h ≡ Some host = slice_get-map leave full h ∙ ap (option_map leave) full_at in
    let others_at : slice_get s.others.hosts h ≡ Some host = ap (λ (o : Others). slice_get o.hosts h) (sym from.by.are) ∙ left_at in
    let begun_at : slice_get begun.hosts h ≡ Some host = ap (λ (hs : List Host). slice_get hs h) (sym s.hosts) ∙ others_at in
    let it = tables_are_of_texts texts rules begun h host text is begun_at there in
    let part : IsJoinedPart begun.joined loaded.host host = subst (λ (l : Loaded). IsJoinedPart begun.joined l.host host) (ok_same it.loaded loaded (sym it.told ∙ told)) it.part in
    let spares : SparesReserved begun.joined host = all-at (SparesReserved begun.joined) s.others.hosts h host together.spares others_at in
    let allowed = found_files_are_allowed texts rules.keep keep s.others hosts inventories keep_is surveying found s.others_are h host inventory files others_at inventory_at lists in (
      λ stays k d within none.
          let uid = (get_or files k d).uid in
          reserved-to-none begun.joined.users m.users given.users users together.leaves.users uid (uid-reserved begun.joined loaded.host host part spares uid (allowed.0 stays k d within) none),
      λ stays k d within none.
          let gid = (get_or files k d).gid in
          reserved-to-none begun.joined.groups m.groups given.groups groups together.leaves.groups gid (gid-reserved begun.joined loaded.host host part spares gid (allowed.1 stays k d within) none),
    )
