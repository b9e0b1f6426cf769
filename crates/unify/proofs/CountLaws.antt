-- What a count answers, in words of the files, and with which fault it refuses.
use Rattle.std.proofs.Common.{◌≡◌, ◌⊎◌, ℕ, Bool, true, false, cond, not, List, map, Option, None, Some, Result, Ok, Err, inl, inr, refl, sym, ap, ap₂, ◌∙◌, subst}
use Rattle.std.specs.Prelude.{Decides, ◌↔◌, sum_by, if◌then◌else◌}
use Rattle.std.proofs.Math.Path.{fun_ext}
use Rattle.std.proofs.lemmas.Bool.Decides.{Decides-eqb, same_from_decides}
use Rattle.std.proofs.lemmas.Option.{same_Some}
use Rattle.idtext.specs.First.{◌>>=◌, each}
use Rattle.idtext.proofs.OkLemmas.{bind_ok, ok_same}
use Rattle.mtree_inv.specs.declared.entry.Entry.{Entry}
use Rattle.hosts_join.specs.Accounts.{Pair}
use Rattle.hosts_join.specs.Checks.{hosts_checked}
use Rattle.hosts_join.specs.Kinds.{group_at, user_at}
use Rattle.hosts_join.specs.Pairs.{number_of}
use Rattle.hosts_join.specs.declared.host.Host.{Host}
use Rattle.hosts_join.specs.declared.texts.HostText.{HostText}
use Rattle.keep_text.specs.KeepTexts.{keep_of}
use Rattle.unify_texts.specs.Maps.{map_of}
use Rattle.unify_texts.specs.declared.fault.Fault.{Fault}
use Rattle.unify_texts.specs.declared.map_text.MapText.{MapText}
use Rattle.unify.specs.Cost.{changed, cost_of, is_number}
use Rattle.site_tables.specs.Mapped.{BegunCost, cost_begun, mapped_names, names_checked}
use Rattle.unify.specs.Count.{count_of, site_of, total_of}
use Rattle.unify.specs.CountLaws.{ChangesSoMany, ChangedFilesAreCounted, FirstFaultsOfCounts, IsCounted, IsFirstOfCount}
use Rattle.site_tables.specs.Hosts.{host_of}
use Rattle.site_tables.specs.Loading.{loaded_from}
use Rattle.site_tables.specs.Others.{Others, others_loaded, others_of}
use Rattle.site_tables.specs.SiteLaws.{IsRefusedOr, hosts_of, joined_of}
use Rattle.site_tables.specs.Told.{in_keep, in_site}
use Rattle.unify.specs.declared.counting.Cost.{Cost}
use Rattle.site_tables.specs.declared.rules.KeepRules.{KeepRules}
use Rattle.site_tables.proofs.FaultLaws.{bind_err, never_err, assoc}
use Rattle.site_tables.proofs.ReadSites.{are-loaded}
use Rattle.site_tables.proofs.SiteLaws.{keep_told, load_refused, others_given, others_told}
use Rattle.site_tables.proofs.TextLaws.{denied}

-- ---- a file

module _ (pairs : List Pair) where
  abbrev is_changed : Option (List ℕ) → ℕ → Bool
  is_changed None n = false
  is_changed (Some name) n = not (is_number (number_of pairs name) n)

  abbrev Changes : Option (List ℕ) → ℕ → Type 0
  Changes owner n = (name : List ℕ) × (owner ≡ Some name) × (number_of pairs name ≡ Some n → ⊥)

  number_told : (o : Option ℕ) (n : ℕ) → Decides (is_number o n) (o ≡ Some n)
  number_told None n = (λ e. absurd (cc), λ e. absurd (cc))
  number_told (Some m) n = (λ e. ap (λ k. Some k) ((Decides-eqb m n).0 e), λ e. (Decides-eqb m n).1 (same_Some m n e))

  change_told : (owner : Option (List ℕ)) (n : ℕ) → Decides (is_changed owner n) (Changes owner n)
  change_told None n = (λ e. absurd (cc), λ is. let none = is.1 in absurd (cc))
  change_told (Some name) n =
      let away = denied (is_number (number_of pairs name) n) (number_told (number_of pairs name) n) in (
        λ e. (name, refl, away.0 e),
        λ is. away.1 (subst (λ m. number_of pairs m ≡ Some n → ⊥) (sym (same_Some name is.0 is.1)) is.2),
      )

  one_if : (owner : Option (List ℕ)) (n : ℕ) → changed pairs owner n ≡ cond {A = ℕ} (is_changed owner n) 1 0
  one_if None n = refl
  one_if (Some name) n = by (is_number (number_of pairs name) n)
    where
      by : (b : Bool) → (if b then 0 else 1) ≡ cond {A = ℕ} (not b) 1 0
      by true = refl
      by false = refl

  -- the files of one kind: who owns a file, and which number it has
  module _ (owner : Host → Entry → Option (List ℕ)) (number : Entry → ℕ) where
    abbrev ChangesFile : Host → Entry → Type 0
    ChangesFile host file = Changes (owner host file) (number file)

    abbrev in_all : List (Host × List Entry) → ℕ
    in_all sites = sum_by (λ (site : Host × List Entry). sum_by (λ file. changed pairs (owner site.0 file) (number file)) site.1) sites

    are_so_many : (sites : List (Host × List Entry)) → ChangesSoMany ChangesFile sites (in_all sites)
    are_so_many sites tells told =
        ap (λ (one : Host → Entry → ℕ). sum_by (λ (site : Host × List Entry). sum_by (one site.0) site.1) sites)
        (fun_ext (λ host. fun_ext (λ file.
        one_if (owner host file) (number file)
        ∙ ap (λ b. cond {A = ℕ} b 1 0) (same_from_decides (is_changed (owner host file) (number file)) (tells host file) (change_told (owner host file) (number file)) (told host file)))))

    -- and no other number is
    only_so_many : (sites : List (Host × List Entry)) (count : ℕ) → ChangesSoMany ChangesFile sites count → in_all sites ≡ count
    only_so_many sites count are =
        let tells : Host → Entry → Bool = λ host file. is_changed (owner host file) (number file) in
        let told : (host : Host) (file : Entry) → (tells host file ≡ true) ↔ ChangesFile host file = λ host file. change_told (owner host file) (number file) in
        are_so_many sites tells told ∙ sym (are tells told)

abbrev user_of : Host → Entry → Option (List ℕ)
user_of host file = user_at host.users file.uid

abbrev group_of : Host → Entry → Option (List ℕ)
group_of host file = group_at host.groups file.gid

-- ---- a count

module _ (texts : List HostText) (keep : KeepRules) (map_text : List ℕ) where
  abbrev mtrees : List (List ℕ)
  mtrees = map (λ (t : HostText). t.mtree) texts

  abbrev with_map : List Host → MapText → Result Cost Fault
  with_map hosts names = total_of names (each site_of (loaded_from hosts mtrees))

  abbrev with_others : Others → Result Cost Fault
  with_others others = mapped_names map_text others.hosts >>= with_map others.hosts

  abbrev begun_with : Others → MapText → Result BegunCost Fault
  begun_with others names = Ok (record { hosts = others.hosts; names = names })

  abbrev with_begun : BegunCost → Result Cost Fault
  with_begun begun = with_map begun.hosts begun.names

  abbrev begun_others : Others → Result BegunCost Fault
  begun_others others = mapped_names map_text others.hosts >>= begun_with others

  -- what comes before the inventories, and then these
  count_steps : (cost_begun texts keep map_text >>= with_begun) ≡ count_of texts keep map_text
  unfolding cost_begun count_of
  count_steps =
      assoc (in_site (hosts_checked texts)) (λ listed. others_loaded texts keep >>= begun_others) with_begun
      ∙ ap (λ r. in_site (hosts_checked texts) >>= λ listed. r)
      (assoc (others_loaded texts keep) begun_others with_begun
      ∙ ap (λ (f : Others → Result Cost Fault). others_loaded texts keep >>= f) (fun_ext (λ others. assoc (mapped_names map_text others.hosts) (begun_with others) with_begun)))

  counted_there : (cost : Cost) → count_of texts keep map_text ≡ Ok cost → IsCounted texts keep map_text cost
  counted_there cost h =
      let beginning = bind_ok (cost_begun texts keep map_text) with_begun cost (count_steps ∙ h) in
      let begun = beginning.0 in
      let reading = bind_ok (each site_of (loaded_from begun.hosts mtrees)) (λ all. Ok (cost_of begun.names all)) cost beginning.2 in
      let same : cost_of begun.names reading.0 ≡ cost = ok_same (cost_of begun.names reading.0) cost reading.2 in
      record {
        begun = begun;
        begun_is = beginning.1;
        sites = reading.0;
        read = reading.1;
        users = λ tells told. ap (λ (c : Cost). c.users) (sym same) ∙ are_so_many begun.names.users user_of (λ file. file.uid) reading.0 tells told;
        groups = λ tells told. ap (λ (c : Cost). c.groups) (sym same) ∙ are_so_many begun.names.groups group_of (λ file. file.gid) reading.0 tells told;
      }

  counted_back : (cost : Cost) → IsCounted texts keep map_text cost → count_of texts keep map_text ≡ Ok cost
  counted_back cost is =
      let names = is.begun.names in
      sym count_steps
      ∙ ap (λ r. r >>= with_begun) is.begun_is
      ∙ ap (λ r. r >>= λ all. Ok (cost_of names all)) is.read
      ∙ ap₂ (λ u g. Ok (record { users = u; groups = g })) (only_so_many names.users user_of (λ file. file.uid) is.sites cost.users is.users)
      (only_so_many names.groups group_of (λ file. file.gid) is.sites cost.groups is.groups)

  -- ---- the first fault

  module _ (f : Fault) where
    abbrev OfInventories : List Host → Type 0
    OfInventories hosts = each site_of (loaded_from hosts mtrees) ≡ Err f

    abbrev OfNames : List Host → MapText → Type 0
    OfNames hosts names = IsRefusedOr (names_checked names hosts) f (λ named. OfInventories hosts)

    abbrev OfMap : List Host → Type 0
    OfMap hosts = IsRefusedOr (map_of map_text) f (λ names. OfNames hosts names)

    abbrev OfHosts : Type 0
    OfHosts = IsRefusedOr (each host_of texts) f (λ loaded. IsRefusedOr (in_keep (keep_of keep.text)) f (λ said. OfMap (joined_of said (hosts_of loaded) keep.unowned)))

    abbrev checked_names : List Host → MapText → Result MapText Fault
    checked_names hosts names = names_checked names hosts >>= λ named. Ok names

    by_total : (hosts : List Host) (names : MapText) → (each site_of (loaded_from hosts mtrees) ≡ Err f) ⊎ ((all : List (Host × List Entry)) × (each site_of (loaded_from hosts mtrees) ≡ Ok all) × (◌≡◌ {A = Result Cost Fault} (Ok (cost_of names all)) (Err f))) → OfInventories hosts
    by_total hosts names (inl told) = told
    by_total hosts names (inr passed) = never_err (cost_of names passed.0) f passed.2

    by_names : (hosts : List Host) (names : MapText) → (names_checked names hosts ≡ Err f) ⊎ ((named : Unit {0}) × (names_checked names hosts ≡ Ok named) × (◌≡◌ {A = Result MapText Fault} (Ok names) (Err f))) → OfNames hosts names
    by_names hosts names (inl told) = inl told
    by_names hosts names (inr passed) = never_err names f passed.2

    by_map : (hosts : List Host) → (map_of map_text ≡ Err f) ⊎ ((names : MapText) × (map_of map_text ≡ Ok names) × (checked_names hosts names ≡ Err f)) → OfMap hosts
    by_map hosts (inl told) = inl told
    by_map hosts (inr passed) = inr (passed.0, passed.1, by_names hosts passed.0 (bind_err (names_checked passed.0 hosts) (λ named. Ok passed.0) f passed.2))

    by_mapped : (hosts : List Host) → (mapped_names map_text hosts ≡ Err f) ⊎ ((names : MapText) × (mapped_names map_text hosts ≡ Ok names) × (with_map hosts names ≡ Err f)) → OfMap hosts
    by_mapped hosts (inl told) = by_map hosts (bind_err (map_of map_text) (checked_names hosts) f told)
    by_mapped hosts (inr passed) =
        let names = passed.0 in
        let reading = bind_ok (map_of map_text) (checked_names hosts) names passed.1 in
        let checking = bind_ok (names_checked reading.0 hosts) (λ named. Ok reading.0) names reading.2 in
        inr (reading.0, reading.1, inr (checking.0, checking.1, by_total hosts names (bind_err (each site_of (loaded_from hosts mtrees)) (λ all. Ok (cost_of names all)) f passed.2)))

    by_keep : IsRefusedOr (each host_of texts) f (λ l. in_keep (keep_of keep.text) ≡ Err f) → OfHosts
    by_keep (inl l) = inl l
    by_keep (inr (loaded, l, k)) = inr (loaded, l, inl k)

    by_hosts : (others_loaded texts keep ≡ Err f) ⊎ ((others : Others) × (others_loaded texts keep ≡ Ok others) × (with_others others ≡ Err f)) → OfHosts
    by_hosts (inl told) = by_keep (others_told texts keep f told)
    by_hosts (inr passed) =
        let others = passed.0 in
        let from = are-loaded texts keep others passed.1 in
        let same : others_of from.by.keep (hosts_of from.loaded) keep.unowned ≡ others = from.by.are in
        inr (from.loaded, from.hosts_are, inr (from.by.keep, ap in_keep from.by.read, subst (λ (o : Others). OfMap o.hosts) (sym same) (by_mapped others.hosts (bind_err (mapped_names map_text others.hosts) (with_map others.hosts) f passed.2))))

    by_list : (in_site (hosts_checked texts) ≡ Err f) ⊎ ((listed : Unit {0}) × (in_site (hosts_checked texts) ≡ Ok listed) × ((others_loaded texts keep >>= with_others) ≡ Err f)) → IsFirstOfCount texts keep map_text f
    by_list (inl l) = inl l
    by_list (inr passed) = inr (passed.0, passed.1, by_hosts (bind_err (others_loaded texts keep) with_others f passed.2))

    first_there : count_of texts keep map_text ≡ Err f → IsFirstOfCount texts keep map_text f
    unfolding count_of
    first_there e = by_list (bind_err (in_site (hosts_checked texts)) (λ listed. others_loaded texts keep >>= with_others) f e)

    -- ---- and so it is told

    names_refused : (hosts : List Host) (names : MapText) → map_of map_text ≡ Ok names → OfNames hosts names → (mapped_names map_text hosts >>= with_map hosts) ≡ Err f
    names_refused hosts names m (inl told) = ap (λ r. (r >>= checked_names hosts) >>= with_map hosts) m ∙ ap (λ r. (r >>= λ (named : Unit {0}). Ok names) >>= with_map hosts) told
    names_refused hosts names m (inr (named, n, told)) =
        ap (λ r. (r >>= checked_names hosts) >>= with_map hosts) m ∙ ap (λ r. (r >>= λ (named : Unit {0}). Ok names) >>= with_map hosts) n
        ∙ ap (λ r. r >>= λ all. Ok (cost_of names all)) told

    map_refused : (hosts : List Host) → OfMap hosts → (mapped_names map_text hosts >>= with_map hosts) ≡ Err f
    map_refused hosts (inl told) = ap (λ r. (r >>= checked_names hosts) >>= with_map hosts) told
    map_refused hosts (inr (names, m, n)) = names_refused hosts names m n

    hosts_refused : OfHosts → (others_loaded texts keep >>= with_others) ≡ Err f
    hosts_refused (inl h) = ap (λ r. r >>= with_others) (load_refused texts keep f h)
    hosts_refused (inr (loaded, h, inl k)) = ap (λ r. r >>= with_others) (keep_told texts keep loaded h f k)
    hosts_refused (inr (loaded, h, inr (said, k, m))) =
        ap (λ r. r >>= with_others) (others_given texts keep loaded h said k) ∙ map_refused (joined_of said (hosts_of loaded) keep.unowned) m

    first_back : IsFirstOfCount texts keep map_text f → count_of texts keep map_text ≡ Err f
    unfolding count_of
    first_back (inl l) = ap (λ r. r >>= λ (listed : Unit {0}). others_loaded texts keep >>= with_others) l
    first_back (inr (listed, l, h)) = ap (λ r. r >>= λ (listed : Unit {0}). others_loaded texts keep >>= with_others) l ∙ hosts_refused h

pub changed_files_are_counted : ChangedFilesAreCounted
changed_files_are_counted texts keep map_text cost = (counted_there texts keep map_text cost, counted_back texts keep map_text cost)

pub first_faults_of_counts : FirstFaultsOfCounts
first_faults_of_counts texts keep map_text f = (first_there texts keep map_text f, first_back texts keep map_text f)
