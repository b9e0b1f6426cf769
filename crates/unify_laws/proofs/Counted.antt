-- A count of the map that a merge prints.
use Rattle.std.proofs.Common.{◌≡◌, ℕ, Bool, true, List, get_or, Option, Some, None, Ok, refl, sym, ap, ◌∙◌}
use Rattle.std.specs.List.{find, list_all, list_any}
use Rattle.std.specs.Option.{is_some, option_map}
use Rattle.std.specs.Str.{bytes_eq}
use Rattle.std.proofs.lemmas.List.Folds.{list_any_at}
use Rattle.std.proofs.lemmas.List.Sums.{list_all-from_AllPass}
use Rattle.accounts.specs.Rows.{Passwd, Group}
use Rattle.hosts_join.specs.Accounts.{Accounts, Pair}
use Rattle.hosts_join.specs.Checks.{hosts_checked}
use Rattle.hosts_join.specs.Pairs.{number_of}
use Rattle.hosts_join.specs.Rules.{is_name}
use Rattle.hosts_join.specs.declared.host.Host.{Host}
use Rattle.hosts_join.proofs.Grouping.{bytes_refl}
use Rattle.certcheck.proofs.Missing.{any_is_find}
use Rattle.site_tables.specs.Mapped.{has_user, has_group, names_checked}
use Rattle.unify.specs.Count.{count_of}
use Rattle.site_tables.specs.Others.{reserving}
use Rattle.site_tables.specs.Told.{in_site}
use Rattle.site_tables.proofs.ReadSites.{are-pinned}
use Rattle.site_tables.proofs.SiteNames.{named_somewhere}
use Rattle.site_tables.proofs.SiteSteps.{together}
use Rattle.unify_laws.specs.Agreeing.{PrintedMapsAreCounted}
use Rattle.unify_laws.proofs.Costs.{costs_agree}
use Rattle.unify_laws.proofs.Keeping.{map_says_mappings}
use Rattle.unify_laws.proofs.WholeSites.{read_sites_are_whole, steps}

pub mapped_some : {X Y : Type 0} (f : X → Y) (o : Option X) → is_some (option_map f o) ≡ is_some o
mapped_some f None = refl
mapped_some f (Some x) = refl

-- ---- pairs that say the names of accounts, which are those of the hosts' tables

module _ {R : Type 0} (name : R → List ℕ) (table : Host → List R) (pairs : List Pair) (hosts : List Host)
    (had : (n : List ℕ) → is_some (number_of pairs n) ≡ list_any (λ (h : Host). is_some (find (λ x. bytes_eq n (name x)) (table h))) hosts) where
  abbrev has : List ℕ → Host → Bool
  has n h = is_some (find (λ x. bytes_eq n (name x)) (table h))

  each_mapped : list_all (λ (h : Host). list_all (λ x. is_some (number_of pairs (name x))) (table h)) hosts ≡ true
  each_mapped =
      list_all-from_AllPass (λ (h : Host). list_all (λ x. is_some (number_of pairs (name x))) (table h)) hosts
      (λ k d at. let rows = table (get_or hosts k d) in
      list_all-from_AllPass (λ x. is_some (number_of pairs (name x))) rows
      (λ j e within. let n = name (get_or rows j e) in
      had n ∙ list_any_at (has n) hosts k d at (sym (any_is_find (λ x. bytes_eq n (name x)) rows) ∙ list_any_at (λ x. bytes_eq n (name x)) rows j e within (bytes_refl n))))

  each_had : list_all (λ (p : Pair). list_any (has p.name) hosts) pairs ≡ true
  each_had =
      list_all-from_AllPass (λ (p : Pair). list_any (has p.name) hosts) pairs
      (λ k d at. let n = (get_or pairs k d).name in
      let same = λ (p : Pair). bytes_eq n p.name in
      sym (had n) ∙ mapped_some (λ (p : Pair). p.number) (find same pairs) ∙ sym (any_is_find same pairs) ∙ list_any_at same pairs k d at (bytes_refl n))

pub printed_maps_are_counted : PrintedMapsAreCounted
unfolding count_of
printed_maps_are_counted texts rules site outcome read o =
    let s = steps texts rules site read in
    let whole = read_sites_are_whole texts rules site read in
    let back = map_says_mappings site outcome whole o in
    let hosts = s.others.hosts in
    let pinned = are-pinned s.others rules.pins site.joined s.joined_is in
    let joined = together hosts (reserving s.others pinned.pins) site.joined pinned.joined_is in
    let listed : in_site (hosts_checked texts) ≡ Ok s.listed = ap in_site s.listed_are in
    let users : (n : List ℕ) → is_some (number_of back.pairs.users n) ≡ list_any (has_user n) hosts = λ n.
    back.users.names n ∙ ap (λ (a : Accounts). is_name a.names n) joined.users
    ∙ named_somewhere (λ (r : Passwd). r.name) (λ (r : Passwd). r.uid) (λ (h : Host). h.users) (λ (h : Host). h.ranges.uid) (λ (h : Host). h.ranges.sys_uid) hosts n in
    let groups : (n : List ℕ) → is_some (number_of back.pairs.groups n) ≡ list_any (has_group n) hosts = λ n.
    back.groups.names n ∙ ap (λ (a : Accounts). is_name a.names n) joined.groups
    ∙ named_somewhere (λ (r : Group). r.name) (λ (r : Group). r.gid) (λ (h : Host). h.groups) (λ (h : Host). h.ranges.gid) (λ (h : Host). h.ranges.sys_gid) hosts n in
    let checked : names_checked back.pairs hosts ≡ Ok tt = rw (
      each_mapped (λ (r : Passwd). r.name) (λ (h : Host). h.users) back.pairs.users hosts users,
      each_had (λ (r : Passwd). r.name) (λ (h : Host). h.users) back.pairs.users hosts users,
      each_mapped (λ (r : Group). r.name) (λ (h : Host). h.groups) back.pairs.groups hosts groups,
      each_had (λ (r : Group). r.name) (λ (h : Host). h.groups) back.pairs.groups hosts groups,
    ) refl in
    rw (listed, s.others_are, back.read, checked, s.files_are) (ap (λ c. Ok c) (costs_agree site o.mappings back.pairs whole back.users back.groups ∙ sym o.printed.cost))
