-- The counters of a site with the files of one host more.
use Rattle.std.proofs.Common.{◌≡◌, ℕ, ◌+◌, ◌≤◌, ◌==◌, ◌&&◌, Bool, cond, List, [], ◌∷◌, ◌++◌, length, map, Option, Some, None, refl, sym, subst, ap, ◌∙◌, arith}
use Rattle.std.specs.Prelude.{is_some}
use Rattle.std.specs.List.{count_by, sum}
use Rattle.std.proofs.lemmas.List.{length-map, map-append}
use Rattle.std.proofs.lemmas.List.Elements.{All-head, All-tail}
use Rattle.std.proofs.lemmas.List.Sums.{count_by-le-length, sum_by-append, sum_by-cons}
use Rattle.hosts_join.specs.Accounts.{Account, Accounts, owner}
use Rattle.hosts_join.specs.Hosts.{IsLawfulHost}
use Rattle.hosts_join.specs.Kinds.{user_at, group_at, user_rows, group_rows, user_rows-table, group_rows-table}
use Rattle.hosts_join.specs.Lawful.{AreLawfulAccounts}
use Rattle.hosts_join.specs.Laws.{IsOwnedAsTold, KnowsHost}
use Rattle.hosts_join.specs.Site.{Joined}
use Rattle.hosts_join.specs.declared.host.Host.{Host}
use Rattle.ownership.specs.Counts.{AreWithin, CountFiles, Counted, Tally}
use Rattle.ownership.specs.Files.{Added, File, by_group, by_user, is_place, owned_files, owns}
use Rattle.ownership.specs.HostFiles.{AreOfHost, AreRowCounts, CountsRows, rows_with}
use Rattle.ownership.specs.Within.{IsWithin}
use Rattle.ownership.proofs.CostLemmas.{kept-is}
use Rattle.ownership.proofs.HostCounts.{all_rows, by_rows}
use Rattle.ownership.proofs.RowSums.{rows-within}

-- ---- who has a number on a host has a row of it there

pub owner-told : (names : List Account) (h v : ℕ) (told : Option (List ℕ)) → IsOwnedAsTold names h v told → is_some (owner names h v) ≡ is_some told
owner-told names h v (Some name) is = ap is_some is.1
owner-told names h v None is = ap is_some is

-- ---- files of one kind

-- the files as those of a kind own them, by the number of that kind
abbrev pub files_of : (Added → ℕ) → List Added → List File
files_of of files = map (λ f. record { host = f.host; number = of f }) files

-- the files with an owner of two lists are those of each
pub owned_both : (names : List Account) (of : Added → ℕ) (files more : List Added) → owned_files names (files_of of (files ++ more)) ≡ owned_files names (files_of of files) + owned_files names (files_of of more)
owned_both names of files more =
    ap (owned_files names) (map-append (λ (f : Added). record { host = f.host; number = of f }) files more)
    ∙ sum_by-append (λ (f : File). cond {A = ℕ} (is_some (owner names f.host f.number)) 1 0) (files_of of files) (files_of of more)

-- no more files have an owner than there are
pub owned_few : (names : List Account) (of : Added → ℕ) (files : List Added) → owned_files names (files_of of files) ≤ length files
owned_few names of files =
    let as_many : length (files_of of files) ≡ length files = length-map files (λ (f : Added). record { host = f.host; number = of f }) in
    omega (arith, count_by-le-length (λ (f : File). is_some (owner names f.host f.number)) (files_of of files), as_many)

-- how many pass is counted by the numbers
counted_as : (of : Added → ℕ) (index : ℕ) (p : File → Bool) (here : List Added) → AreOfHost index here
    → count_by p (map (λ f. record { host = f.host; number = of f }) here) ≡ count_by (λ f. p (record { host = index; number = of f })) here
counted_as of index p [] there = refl
counted_as of index p (f ∷ here) there =
    let mine : File = record { host = f.host; number = of f } in
    let first = sum_by-cons (λ (x : File). cond {A = ℕ} (p x) 1 0) mine (map (λ f. record { host = f.host; number = of f }) here) in
    let its = sum_by-cons (λ (x : Added). cond {A = ℕ} (p (record { host = index; number = of x })) 1 0) f here in
    let one : cond {A = ℕ} (p mine) 1 0 ≡ cond {A = ℕ} (p (record { host = index; number = of f })) 1 0 = ap (λ h. cond {A = ℕ} (p (record { host = h; number = of f })) 1 0) (All-head (λ x. x.host ≡ index) f here there) in
    omega (arith, first, its, one, counted_as of index p here (All-tail (λ x. x.host ≡ index) f here there))

-- ---- the files of a host that have an owner and pass are those of its rows whose numbers pass

module _ (site : Joined) (index : ℕ) (host : Host) (here : List Added) (users groups : List ℕ) (lawful : IsLawfulHost host) (known : KnowsHost site index host) (counted : AreRowCounts host here users groups) where
  user_known : (uid : ℕ) → is_some (user_at host.users uid) ≡ is_some (owner site.users.names index uid)
  user_known uid = sym (owner-told site.users.names index uid (user_at host.users uid) (known.users uid))

  group_known : (gid : ℕ) → is_some (group_at host.groups gid) ≡ is_some (owner site.groups.names index gid)
  group_known gid = sym (owner-told site.groups.names index gid (group_at host.groups gid) (known.groups gid))

  pub users-by_rows : (p : ℕ → Bool) → rows_with p (user_rows host.users) users (length users) ≡ count_by (λ f. is_some (owner site.users.names index f.uid) && p f.uid) here
  users-by_rows p = by_rows (λ r. r.name) (λ r. r.uid) (λ f. f.uid) host.users users here (user_rows-table host.users lawful.users).numbers_differ counted.users p
      ∙ (λ i. count_by (λ f. user_known f.uid i && p f.uid) here)

  pub groups-by_rows : (p : ℕ → Bool) → rows_with p (group_rows host.groups) groups (length groups) ≡ count_by (λ f. is_some (owner site.groups.names index f.gid) && p f.gid) here
  groups-by_rows p = by_rows (λ r. r.name) (λ r. r.gid) (λ f. f.gid) host.groups groups here (group_rows-table host.groups lawful.groups).numbers_differ counted.groups p
      ∙ (λ i. count_by (λ f. group_known f.gid i && p f.gid) here)

  module _ (there : AreOfHost index here) where
    -- the files of all rows are those that have an owner
    pub users-all : sum users ≡ owned_files site.users.names (by_user here)
    users-all = all_rows (λ r. r.name) (λ r. r.uid) (λ f. f.uid) host.users users here (user_rows-table host.users lawful.users).numbers_differ counted.users
        ∙ (λ i. count_by (λ f. user_known f.uid i) here)
        ∙ sym (counted_as (λ f. f.uid) index (λ f. is_some (owner site.users.names f.host f.number)) here there)

    pub groups-all : sum groups ≡ owned_files site.groups.names (by_group here)
    groups-all = all_rows (λ r. r.name) (λ r. r.gid) (λ f. f.gid) host.groups groups here (group_rows-table host.groups lawful.groups).numbers_differ counted.groups
        ∙ (λ i. count_by (λ f. group_known f.gid i) here)
        ∙ sym (counted_as (λ f. f.gid) index (λ f. is_some (owner site.groups.names f.host f.number)) here there)

    -- and no more than all files
    pub users-few : sum users ≤ length here
    users-few = omega (arith, users-all, owned_few site.users.names (λ f. f.uid) here)

    pub groups-few : sum groups ≤ length here
    groups-few = omega (arith, groups-all, owned_few site.groups.names (λ f. f.gid) here)

-- a name's files have an owner
owned_place : (i : ℕ) (o : Option ℕ) → (is_some o && is_place i o) ≡ is_place i o
owned_place i None = refl
owned_place i (Some j) = refl

owned_place_and : (i : ℕ) (o : Option ℕ) (b : Bool) → (is_some o && (is_place i o && b)) ≡ (is_place i o && b)
owned_place_and i None b = refl
owned_place_and i (Some j) b = refl

module _ (a : Accounts) (lawful : AreLawfulAccounts a) (of : Added → ℕ) (index : ℕ) (here : List Added) (there : AreOfHost index here) where
  -- counters that take the files of the rows count the files of the host
  pub counts_here : (pairs : List (List ℕ × ℕ)) (files : List ℕ) (old new : List Tally) (earlier : List Added) → ((p : ℕ → Bool) → rows_with p pairs files (length files) ≡ count_by (λ f. is_some (owner a.names index (of f)) && p (of f)) here)
      → CountsRows a.names index pairs files (length files) old new → CountFiles a.names old (files_of of earlier) → CountFiles a.names new (files_of of (earlier ++ here))
  counts_here pairs files old new earlier by rows was = record {
    kept_is = λ i v within.
        let test = λ (f : File). owns a.names i f && (f.number == v) in
        let all = kept-is a (files_of of (earlier ++ here)) i v lawful in
        let before = kept-is a (files_of of earlier) i v lawful in
        let apart = ap (count_by test) (map-append (λ (f : Added). record { host = f.host; number = of f }) earlier here) in
        let both = sum_by-append (λ (f : File). cond {A = ℕ} (test f) 1 0) (files_of of earlier) (files_of of here) in
        let mine = counted_as of index test here there in
        let its = by (λ n. is_place i (owner a.names index n) && (n == v)) ∙ (λ j. count_by (λ f. owned_place_and i (owner a.names index (of f)) (of f == v) j) here) in
        omega (arith, rows.kept i v, was.kept_is i v within, its, all, before, apart, both, mine);
    total_is = λ i within.
        let apart = ap (count_by (owns a.names i)) (map-append (λ (f : Added). record { host = f.host; number = of f }) earlier here) in
        let both = sum_by-append (λ (f : File). cond {A = ℕ} (owns a.names i f) 1 0) (files_of of earlier) (files_of of here) in
        let mine = counted_as of index (owns a.names i) here there in
        let its = by (λ n. is_place i (owner a.names index n)) ∙ (λ j. count_by (λ f. owned_place i (owner a.names index (of f)) j) here) in
        omega (arith, rows.total i, was.total_is i within, its, apart, both, mine);
  }

-- no counter is above the files that were added and those of all rows
pub within_rows : (names : List Account) (index : ℕ) (pairs : List (List ℕ × ℕ)) (files : List ℕ) (rows : ℕ) (old new : List Tally) (added : ℕ) → rows ≤ length files → CountsRows names index pairs files rows old new → AreWithin old added → AreWithin new (added + sum files)
within_rows names index pairs files rows old new added first counted was = record {
  kept_le = λ i v.
      let more = rows-within (λ n. is_place i (owner names index n) && (n == v)) pairs files rows first in
      omega (arith, counted.kept i v, was.kept_le i v, more);
  total_le = λ i.
      let more = rows-within (λ n. is_place i (owner names index n)) pairs files rows first in
      omega (arith, counted.total i, was.total_le i, more);
}

-- the counters of both kinds, when the files of the first rows of a host were added
module _ (users_names groups_names : List Account) (index : ℕ) (user_pairs group_pairs : List (List ℕ × ℕ)) (users groups : List ℕ) (old : Counted) (new_users new_groups : List Tally) (user_files group_files : ℕ)
    (all_users : user_files ≡ old.user_files + sum users) (all_groups : group_files ≡ old.group_files + sum groups) (few_users : user_files ≤ 2147483648) (few_groups : group_files ≤ 2147483648) where
  pub is_within : (user_rows group_rows : ℕ) → user_rows ≤ length users → group_rows ≤ length groups
      → CountsRows users_names index user_pairs users user_rows old.users new_users → CountsRows groups_names index group_pairs groups group_rows old.groups new_groups
      → IsWithin old → IsWithin (record { users = new_users; groups = new_groups; user_files = user_files; group_files = group_files })
  is_within user_rows group_rows first_users first_groups counted_users counted_groups was = record {
    users = subst (AreWithin new_users) (sym all_users) (within_rows users_names index user_pairs users user_rows old.users new_users old.user_files first_users counted_users was.users);
    groups = subst (AreWithin new_groups) (sym all_groups) (within_rows groups_names index group_pairs groups group_rows old.groups new_groups old.group_files first_groups counted_groups was.groups);
    few_users = few_users;
    few_groups = few_groups;
  }
