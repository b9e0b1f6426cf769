-- Inventories of which no host is left.
use Rattle.std.proofs.Common.{◌≡◌, ℕ, ◌+◌, ◌<◌, ◌≤◌, Bool, true, false, cond, List, [], ◌∷◌, ◌++◌, length, map, take, get_or, Option, Some, None, Ok, sym, ap, subst, ◌∙◌, arith}
use Rattle.std.specs.List.{All}
use Rattle.std.proofs.lemmas.List.{get_or-map, length-map, take_more}
use Rattle.std.proofs.lemmas.List.Sums.{sum_by-le, sum_by_more_le}
use Rattle.std.proofs.lemmas.Option.{slice_get-get_or}
use Rattle.idtext.specs.First.{each}
use Rattle.idtext.proofs.OkLemmas.{bind_ok, each-ok, ok_same}
use Rattle.mtree_inv.specs.declared.entry.Entry.{Entry}
use Rattle.mtree_inv.proofs.FewLemmas.{inventory-few}
use Rattle.hosts_join.specs.Accounts.{Pair}
use Rattle.hosts_join.specs.Kinds.{group_at, user_at}
use Rattle.hosts_join.specs.Pairs.{number_of}
use Rattle.hosts_join.specs.declared.host.Host.{Host}
use Rattle.unify_texts.specs.declared.map_text.MapText.{MapText}
use Rattle.unify.specs.declared.counting.Cost.{Cost}
use Rattle.site_tables.specs.declared.host.Loaded.{Loaded}
use Rattle.unify.specs.Cost.{changed, cost_of, groups_changed, host_cost, is_number, users_changed}
use Rattle.unify.specs.Count.{site_of}
use Rattle.site_tables.specs.Hosts.{files_of}
use Rattle.site_tables.specs.Loading.{loaded_from}
use Rattle.unify.specs.Passes.{InventoriesValue, ended_in, read_in}
use Rattle.unify.specs.RowFiles.{RowFiles, row_files}
use Rattle.unify.specs.Turns.{AreCounting, Pass, seen}
use Rattle.site_tables.proofs.Owners.{files_read}
use Rattle.unify.proofs.Sites.{cost_more}
use Rattle.unify.proofs.Whole.{hosts_held}

abbrev pub IsOver : InventoriesValue → Type 0
IsOver c = ended_in c ≡ length c.hosts

-- ---- the files of each host

-- an inventory has few
pub all_few : (loaded : List Loaded) (read : List (Host × List Entry)) → each site_of loaded ≡ Ok read → All (λ here. length here.1 ≤ 16777216) read
all_few loaded read are = λ k d within.
    let here = get_or read k d in
    let from = each-ok site_of loaded read are k here (slice_get-get_or read k d within) in
    let l = from.0 in
    let filed = bind_ok (files_of l) (λ fs. Ok (l.host, fs)) here from.2 in
    subst (λ (p : Host × List Entry). length p.1 ≤ 16777216) (ok_same (l.host, filed.0) here filed.2) (inventory-few 16777216 l.mtree filed.0 (files_read l filed.0 filed.1).0)

pub read_length : (c : InventoriesValue) (read : List (Host × List Entry)) → IsOver c → read_in c ≡ Ok read → length read ≡ length c.hosts
read_length c read over are = sym (ap length (hosts_held c.hosts c.ended read over are).0 ∙ length-map read (λ (h : Host × List Entry). h.0))

-- the rows of the host at the index count these files of it
pub record AreFilesAt (read : List (Host × List Entry)) (index : ℕ) (host : Host) (rows : RowFiles) : Type 0 where
  pub files : List Entry
  pub within : index < length read
  pub here : get_or read index (host, []) ≡ (host, files)
  pub rows_are : rows ≡ row_files host files
  pub few : length files ≤ 16777216

pub files_at : (p : Pass) → AreCounting p.hosts p.taken.ended p.passed → IsOver (seen p) → (read : List (Host × List Entry)) → read_in (seen p) ≡ Ok read → (index : ℕ) (host : Host) (rows : RowFiles) → index < length p.passed → host ≡ get_or p.hosts index host → rows ≡ get_or p.passed index rows
    → AreFilesAt read index host rows
files_at p inv over read are index host rows left host_is rows_are =
    let at = get_or read index (host, []) in
    let within : index < length read = omega (arith, left, inv.within, read_length (seen p) read over are) in
    let held = (hosts_held p.hosts p.taken.ended read over are).0 in
    let passed : p.passed ≡ map (λ here. row_files here.0 here.1) read = inv.passed_are ∙ ap (map (λ here. row_files here.0 here.1)) (ok_same inv.read read (sym inv.accepted ∙ are)) in
    let host_here : host ≡ at.0 = host_is ∙ ap (λ (hs : List Host). get_or hs index host) held ∙ get_or-map (λ (h : Host × List Entry). h.0) read index (host, []) host within in
    let rows_here : rows ≡ row_files at.0 at.1 = rows_are ∙ ap (λ (rs : List RowFiles). get_or rs index rows) passed ∙ get_or-map (λ (here : Host × List Entry). row_files here.0 here.1) read index (host, []) rows within in
    let all = all_few (loaded_from p.hosts p.taken.ended) read are in
    record {
      files = at.1;
      within = within;
      here = ap (λ (h : Host). (h, at.1)) (sym host_here);
      rows_are = rows_here ∙ ap (λ (h : Host). row_files h at.1) (sym host_here);
      few = all index (host, []) within;
    }

-- ---- the cost of a map

changed_small : (mapping : List Pair) (o : Option (List ℕ)) (number : ℕ) → changed mapping o number ≤ 1
changed_small mapping None number = omega arith
changed_small mapping (Some owner) number = by (is_number (number_of mapping owner) number)
  where
    by : (b : Bool) → cond {A = ℕ} b 0 1 ≤ 1
    by true = omega arith
    by false = omega arith

users_small : (names : MapText) (host : Host) (files : List Entry) → users_changed names host files ≤ length files
users_small names host files = omega (arith, sum_by-le (λ (e : Entry). changed names.users (user_at host.users e.uid) e.uid) 1 files (λ k d l. changed_small names.users (user_at host.users (get_or files k d).uid) (get_or files k d).uid))

groups_small : (names : MapText) (host : Host) (files : List Entry) → groups_changed names host files ≤ length files
groups_small names host files = omega (arith, sum_by-le (λ (e : Entry). changed names.groups (group_at host.groups e.gid) e.gid) 1 files (λ k d l. changed_small names.groups (group_at host.groups (get_or files k d).gid) (get_or files k d).gid))

-- the cost over the hosts before the index
abbrev pub cost_before : MapText → List (Host × List Entry) → ℕ → Cost
cost_before names read index = cost_of names (take index read)

module _ (names : MapText) (read : List (Host × List Entry)) (index : ℕ) (host : Host) (rows : RowFiles) (cost here : Cost) (at : AreFilesAt read index host rows) (so_far : cost ≡ cost_before names read index) (is : here ≡ host_cost names host at.files) where
  pub one_host_more : record { users = cost.users + here.users; groups = cost.groups + here.groups } ≡ cost_before names read (index + 1)
  one_host_more = cost_more names (take index read) host at.files cost here.users here.groups so_far (ap (λ (k : Cost). k.users) is) (ap (λ (k : Cost). k.groups) is)
      ∙ ap (λ (p : Host × List Entry). cost_of names (take index read ++ p ∷ [])) (sym at.here) ∙ ap (cost_of names) (sym (take_more read index (host, []) at.within))

  -- there is room for it
  pub cost_room : (loaded : List Loaded) → each site_of loaded ≡ Ok read → length read ≤ 64 → (cost.users + here.users ≤ 1073741824) × (cost.groups + here.groups ≤ 1073741824)
  cost_room loaded are few =
      let users : Host × List Entry → ℕ = λ p. users_changed names p.0 p.1 in
      let groups : Host × List Entry → ℕ = λ p. groups_changed names p.0 p.1 in
      let few_each = all_few loaded read are in
      let most_users = sum_by-le users 16777216 read (λ k d l. omega (arith, users_small names (get_or read k d).0 (get_or read k d).1, few_each k d l)) in
      let most_groups = sum_by-le groups 16777216 read (λ k d l. omega (arith, groups_small names (get_or read k d).0 (get_or read k d).1, few_each k d l)) in
      let one = ap users at.here in
      let two = ap groups at.here in (
        omega (arith, sum_by_more_le users read index (host, []) at.within, most_users, one, ap (λ (k : Cost). k.users) is, ap (λ (k : Cost). k.users) so_far, few),
        omega (arith, sum_by_more_le groups read index (host, []) at.within, most_groups, two, ap (λ (k : Cost). k.groups) is, ap (λ (k : Cost). k.groups) so_far, few),
      )
