-- The merged passwd and group are read back, and say the map's pairs.
use Rattle.std.proofs.Common.{◌≡◌, ◌⊎◌, ℕ, ◌==◌, List, [], ◌∷◌, get_or, Option, Some, None, refl, sym, ap, subst, ◌∙◌, inl, inr}
use Rattle.std.specs.Prelude.{◌↔◌}
use Rattle.std.specs.List.{All, find, slice_get}
use Rattle.std.specs.Option.{is_some, option_map}
use Rattle.std.specs.Str.{bytes_eq}
use Rattle.std.proofs.lemmas.Bool.{cases_Bool, eqb-true}
use Rattle.std.proofs.lemmas.List.Elements.{All-head, All-tail, All-map, All-weaker}
use Rattle.std.proofs.lemmas.Option.{same_Some, slice_get-get_or, slice_get-map}
use Rattle.accounts.specs.Rows.{Passwd, Group}
use Rattle.mtree_inv.specs.declared.entry.Entry.{Entry}
use Rattle.hosts_join.specs.Accounts.{Account, Accounts, Pair, no_account, place_of}
use Rattle.hosts_join.specs.Kinds.{user_at, group_at}
use Rattle.hosts_join.specs.Laws.{KnowsHost, KnowsItsHosts}
use Rattle.hosts_join.specs.Pairs.{number_of}
use Rattle.hosts_join.specs.Rules.{account}
use Rattle.hosts_join.specs.declared.host.Host.{Host}
use Rattle.hosts_join.proofs.Grouping.{bytes_same}
use Rattle.hosts_join.proofs.Pairing.{place-holds}
use Rattle.ownership.specs.Mappings.{IsAdmissible, number_at}
use Rattle.ownership.specs.declared.mapping.Mappings.{Mappings}
use Rattle.mergedfiles.specs.InPart.{IsMergedPasswdInPart, IsMergedUserInPart, IsNumberedInPart, WasReadInPart}
use Rattle.mergedfiles.specs.ReadBack.{WasRead, IsNumbered, HasNumber, IsMergedGroup, IsMergedPasswd, IsMergedGroupFile}
use Rattle.mergedfiles.proofs.Places.{name-place}
use Rattle.mergedfiles.proofs.ReadUsers.{passwd_in_part_back, passwd_reads_back}
use Rattle.mergedfiles.proofs.ReadGroups.{group_in_part_back}
use Rattle.reown_plan.specs.declared.plan.Owner.{Owner}
use Rattle.reown_plan.specs.Owners.{owner_of}
use Rattle.unify_texts.specs.declared.map_text.MapText.{MapText}
use Rattle.unify_texts.specs.WrittenMap.{SayMapping}
use Rattle.unify.specs.declared.outcome.Outcome.{Outcome}
use Rattle.unify.specs.Whole.{IsWhole}
use Rattle.unify.specs.Outcomes.{IsOutcome, hosts_in}
use Rattle.unify.specs.Reading.{WholeSite}
use Rattle.unify_laws.specs.Headline.{IsNamedAsBefore, IsNewNumber, IsOldOrNamed, KeepsItsNames}
use Rattle.unify_laws.specs.Installed.{AreInstalled}
use Rattle.unify_laws.proofs.Keeping.{is_mapping}

-- ---- the hosts were read

hosts-were-read : (site : WholeSite) → IsWhole site → All WasReadInPart (hosts_in site)
hosts-were-read site whole =
    All-map WasReadInPart (λ (x : Host × List Entry). x.0) site.hosts
    (λ k d l.
    let here = get_or site.hosts k d in
    (whole.each_host k here.0 here.1 (slice_get-get_or site.hosts k d l)).read)

pub mapped-there : {X Y : Type 0} (f : X → Y) (o : Option X) (y : Y) → option_map f o ≡ Some y → (x : X) × (o ≡ Some x) × (f x ≡ y)
mapped-there f None y h = absurd (cc)
mapped-there f (Some x) y h = (x, refl, (cc))

-- and the site knows them
hosts-known : (site : WholeSite) → IsWhole site → KnowsItsHosts (hosts_in site) site.joined
hosts-known site whole h host here =
    let first = λ (x : Host × List Entry). x.0 in
    let at = mapped-there first (slice_get site.hosts h) host (sym (slice_get-map first site.hosts h) ∙ here) in
    subst (KnowsHost site.joined h) at.2 (whole.each_host h at.0.0 at.0.1 at.1).known

-- ---- pairs and rows

module _ (a : Accounts) (m : List ℕ) (pairs : List Pair) (say : SayMapping a m pairs) where
  -- a pair is a name with its number
  pub paired : (n : List ℕ) (v : ℕ) → number_of pairs n ≡ Some v → HasNumber a m n v
  paired n v e =
      let at = name-place a.names n (sym (say.names n) ∙ ap is_some e) in
      let here = place-holds (λ (x : Account). bytes_eq n x.name) a.names at.0 no_account at.1 in
      let same : number_of pairs n ≡ Some (number_at m at.0) = ap (number_of pairs) (bytes_same n (account a at.0).name here.1) ∙ say.numbers at.0 here.0 in
      (at.0, at.1, same_Some (number_at m at.0) v (sym same ∙ e))

  pub is-paired : (n : List ℕ) (v : ℕ) → HasNumber a m n v → number_of pairs n ≡ Some v
  is-paired n v has =
      let here = place-holds (λ (x : Account). bytes_eq n x.name) a.names has.0 no_account has.1 in
      ap (number_of pairs) (bytes_same n (account a has.0).name here.1) ∙ say.numbers has.0 here.0 ∙ ap Some has.2

module _ {Row : Type 0} (name : Row → List ℕ) (number : Row → ℕ) (a : Accounts) (m : List ℕ) (pairs : List Pair) (say : SayMapping a m pairs) where
  -- a row that is looked up by its number is a name with its number
  looked-up : (n : List ℕ) (v : ℕ) (rows : List Row) → All (λ row. HasNumber a m (name row) (number row)) rows → option_map name (find (λ row. v == number row) rows) ≡ Some n → HasNumber a m n v
  looked-up n v [] all e = absurd (cc)
  looked-up n v (row ∷ rows) all e = elim (cases_Bool (v == number row)) [
    | inl t ↦
        let has = All-head (λ row. HasNumber a m (name row) (number row)) row rows all in
        let same : name row ≡ n = same_Some (name row) n (rw t at e) in
        (has.0, ap (place_of a.names) (sym same) ∙ has.1, has.2 ∙ sym (eqb-true v (number row) t))
    | inr f ↦ looked-up n v rows (All-tail (λ row. HasNumber a m (name row) (number row)) row rows all) (rw f at e)
  ]

  pub agree : (rows : List Row) → All (λ row. HasNumber a m (name row) (number row)) rows → ((n : List ℕ) (v : ℕ) → HasNumber a m n v → option_map name (find (λ row. v == number row) rows) ≡ Some n)
      → (n : List ℕ) (v : ℕ) → (option_map name (find (λ row. v == number row) rows) ≡ Some n) ↔ (number_of pairs n ≡ Some v)
  agree rows all found n v = ((λ e. is-paired a m pairs say n v (looked-up n v rows all e)), (λ e. found n v (paired a m pairs say n v e)))

-- ---- the files of a merge

-- what is read back asks for
pub numbered : (site : WholeSite) (m : Mappings) → IsWhole site → IsAdmissible site.joined.users m.users → IsAdmissible site.joined.groups m.groups → IsNumberedInPart (hosts_in site) site.joined m
numbered site m whole by_user by_group =
    let users = is_mapping site.joined.users m.users whole.lawful.users by_user in
    let groups = is_mapping site.joined.groups m.groups whole.lawful.groups by_group in
    record {
      read = hosts-were-read site whole;
      joined = whole.together;
      knows = hosts-known site whole;
      lawful = whole.lawful;
      users = users.numbers;
      for_users = users.len;
      groups = groups.numbers;
      for_groups = groups.len;
    }

-- where all rows of the hosts were joined
pub numbered_in_full : (site : WholeSite) (m : Mappings) → IsWhole site → All WasRead (hosts_in site) → IsAdmissible site.joined.users m.users → IsAdmissible site.joined.groups m.groups → IsNumbered (hosts_in site) site.joined m
numbered_in_full site m whole read by_user by_group =
    let is = numbered site m whole by_user by_group in
    record {
      read = read;
      joined = is.joined;
      lawful = is.lawful;
      users = is.users;
      for_users = is.for_users;
      groups = is.groups;
      for_groups = is.for_groups;
    }

-- a right outcome's passwd and group are read back, and say the pairs that say its mappings
pub are_installed : (site : WholeSite) (outcome : Outcome) → IsWhole site → (o : IsOutcome site outcome) (printed : MapText) → SayMapping site.joined.users o.mappings.users printed.users → SayMapping site.joined.groups o.mappings.groups printed.groups
    → AreInstalled site outcome o.mappings printed
are_installed site outcome whole o printed say_users say_groups =
    let m = o.mappings in
    let ok = o.answered.least.admissible in
    let is = numbered site m whole ok.users ok.groups in
    let passwd : IsMergedPasswdInPart (hosts_in site) site.joined m outcome.passwd = subst (IsMergedPasswdInPart (hosts_in site) site.joined m) (sym o.printed.passwd) (passwd_in_part_back (hosts_in site) site.joined m is) in
    let group : IsMergedGroupFile (hosts_in site) site.joined m outcome.group = subst (IsMergedGroupFile (hosts_in site) site.joined m) (sym o.printed.group) (group_in_part_back (hosts_in site) site.joined m is) in
    record {
      passwd = passwd;
      passwd_in_full = λ read. subst (IsMergedPasswd (hosts_in site) site.joined m) (sym o.printed.passwd) (passwd_reads_back (hosts_in site) site.joined m (numbered_in_full site m whole read ok.users ok.groups));
      group = group;
      users_agree = agree (λ (row : Passwd). row.name) (λ (row : Passwd). row.uid) site.joined.users m.users printed.users say_users passwd.rows
          (All-weaker (IsMergedUserInPart (hosts_in site) site.joined m) (λ row. HasNumber site.joined.users m.users row.name row.uid) (λ row is. is.uid) passwd.rows passwd.say.each_row) passwd.say.each_name;
      groups_agree = agree (λ (row : Group). row.name) (λ (row : Group). row.gid) site.joined.groups m.groups printed.groups say_groups group.rows
          (All-weaker (IsMergedGroup (hosts_in site) site.joined m) (λ row. HasNumber site.joined.groups m.groups row.name row.gid) (λ row is. is.gid) group.rows group.say.each_row) group.say.each_name;
    }

-- tables that say the pairs name the new number as the old one was
as_told : (pairs : List Pair) (at : ℕ → Option (List ℕ)) → ((name : List ℕ) (v : ℕ) → (at v ≡ Some name) ↔ (number_of pairs name ≡ Some v)) → (told : Option (List ℕ)) (old new : ℕ) → IsNewNumber told pairs old new → at new ≡ told
as_told pairs at agree (Some name) old new is = (agree name new).1 is
as_told pairs at agree None old new is = by (at new) refl
  where
    by : (o : Option (List ℕ)) → at new ≡ o → at new ≡ None
    by None e = e
    by (Some name) e = absurd (is.1 name ((agree name new).0 e))

-- a file that has by the map the names that it had has them by these files
pub named_as_before : (site : WholeSite) (outcome : Outcome) (m : Mappings) (printed : MapText) → (installed : AreInstalled site outcome m printed) → (host : Host) (tree : List ℕ → Option Owner) (file : Entry)
    → KeepsItsNames printed host tree file → IsNamedAsBefore printed installed.passwd.rows installed.group.rows host host tree file
named_as_before site outcome m printed installed host tree file kept = record {
  by_map = kept;
  user_is = as_told printed.users (λ uid. user_at installed.passwd.rows uid) installed.users_agree (user_at host.users file.uid) file.uid kept.now.uid kept.user;
  group_is = as_told printed.groups (λ gid. group_at installed.group.rows gid) installed.groups_agree (group_at host.groups file.gid) file.gid kept.now.gid kept.group;
}

pub old_or_named : (site : WholeSite) (outcome : Outcome) (m : Mappings) (printed : MapText) → (installed : AreInstalled site outcome m printed) → (host : Host) (tree : List ℕ → Option Owner) (file : Entry)
    → (tree file.path ≡ Some (owner_of file)) ⊎ KeepsItsNames printed host tree file → IsOldOrNamed printed installed.passwd.rows installed.group.rows host host tree file
old_or_named site outcome m printed installed host tree file (inl old) = inl old
old_or_named site outcome m printed installed host tree file (inr kept) = inr (named_as_before site outcome m printed installed host tree file kept)
