-- What was merged for one reading of a site's inventories is right for a later one of which each row owns as many files.
use Rattle.std.specs.List.{count_by, find, slice_get}
use Rattle.std.specs.Option.{is_some, option_map}
use Rattle.std.specs.Prelude.{◌&&◌, if◌then◌else◌}
use Rattle.std.proofs.Common.{◌≡◌, ℕ, ◌+◌, ◌*◌, ◌≤◌, suc, Bool, true, List, [], ◌∷◌, length, map, Option, Some, None, Result, Ok, Err, refl, sym, ap, subst, ◌∙◌, arith, ◌==◌, cond}
use Rattle.std.proofs.lemmas.Option.{same_Some, slice_get_within}
use Rattle.std.proofs.lemmas.List.Sums.{sum_by-append}
use Rattle.accounts.specs.Laws.{AreDistinct}
use Rattle.accounts.specs.Rows.{Passwd, Group}
use Rattle.mtree_inv.specs.declared.entry.Entry.{Entry}
use Rattle.hosts_join.specs.Accounts.{Account, Accounts, lines, owner}
use Rattle.hosts_join.specs.Laws.{IsOwnedAsTold}
use Rattle.hosts_join.specs.Rules.{account, class_at, is_free_class}
use Rattle.hosts_join.specs.declared.host.Host.{Host}
use Rattle.hosts_join.proofs.Refusals.{count_by-of-map}
use Rattle.ownership.specs.Costs.{AreLeast, ChangesFewestRows, changes, cost_of}
use Rattle.ownership.specs.Files.{Added, File, has_there, is_place, owned_files, owns}
use Rattle.ownership.specs.Mappings.{number_at}
use Rattle.ownership.specs.declared.mapping.Mappings.{Mappings}
use Rattle.ownership.specs.Sums.{sum_below}
use Rattle.ownership.specs.Weights.{IsFilled, IsFresh, file_weight, free_weight, weight}
use Rattle.ownership.specs.Potentials.{potential_at, value_at}
use Rattle.certcheck.specs.Certificate.{Side}
use Rattle.certcheck.specs.Certified.{IsCertified}
use Rattle.certcheck.specs.Check.{mapping_of, potentials_of}
use Rattle.mergedfiles.specs.Differences.{site_differences}
use Rattle.mergedfiles.specs.Texts.{merged_users, merged_groups}
use Rattle.mergedfiles.specs.Together.{AreJoined}
use Rattle.unify_texts.specs.Figures.{figures_of}
use Rattle.unify_texts.specs.Report.{report_lines, report_of}
use Rattle.unify_texts.specs.declared.fault.Fault.{Fault}
use Rattle.unify.specs.declared.merging.Merged.{Merged}
use Rattle.site_tables.specs.Hosts.{files_of}
use Rattle.unify.specs.Whole.{IsReadHost, IsWhole}
use Rattle.unify.specs.Merging.{IsMerged}
use Rattle.unify.specs.Outcomes.{cost_in, group_files, hosts_in, user_files}
use Rattle.unify.specs.Reading.{WholeSite, files_of_site, added_on, added_from}
use Rattle.unify.specs.RowFiles.{RowFiles}
use Rattle.unify.specs.SecondPass.{HaveSameCounts, or_changed}
use Rattle.unify.proofs.Counts.{apart, as_many}
use Rattle.site_tables.proofs.Owners.{owner-told}
use Rattle.unify.proofs.Reading.{all-owned, read-host}
use Rattle.unify_laws.specs.TwoPasses.{AreReadAgain, SecondReadingIsCorrect, SecondReadingIsRight, read_last}
use Rattle.unify_laws.proofs.Agreeing.{item_at}
use Rattle.unify_laws.proofs.Counted.{mapped_some}
use Rattle.unify_laws.proofs.PassesCorrect.{two_passes_are_correct, with_plans}

-- ---- the files of all hosts

module _ (G : Added → Bool) where
  abbrev on : ℕ → List Entry → ℕ
  on h files = count_by (λ e. G (added_on h e)) files

  -- where as many pass on each host, as many pass on all
  pub on_all : (start : ℕ) (one two : List (Host × List Entry)) → length two ≡ length one
      → ((k : ℕ) (host : Host) (were : List Entry) → slice_get one k ≡ Some (host, were) → (files : List Entry) × (slice_get two k ≡ Some (host, files)) × (on (start + k) were ≡ on (start + k) files))
      → count_by G (added_from start one) ≡ count_by G (added_from start two)
  on_all start [] [] same each = refl
  on_all start [] (y ∷ ys) same each = absurd (omega (arith, same))
  on_all start (x ∷ xs) [] same each = absurd (omega (arith, same))
  on_all start (x ∷ xs) (y ∷ ys) same each =
      let first = each 0 x.0 x.1 refl in
      let is : y ≡ (x.0, first.0) = same_Some y (x.0, first.0) first.1 in
      let start_is : start + 0 ≡ start = omega arith in
      let here : on start x.1 ≡ on start y.1 = subst (λ i. on i x.1 ≡ on i first.0) start_is first.2 ∙ ap (λ (p : Host × List Entry). on start p.1) (sym is) in
      let later : count_by G (added_from (start + 1) xs) ≡ count_by G (added_from (start + 1) ys) =
      on_all (start + 1) xs ys (omega (arith, same)) (λ k host were at.
      let next = each (suc k) host were at in
      let behind : start + suc k ≡ (start + 1) + k = omega arith in
      (next.0, next.1, subst (λ i. on i were ≡ on i next.0) behind next.2)) in
      let tells = λ (f : Added). cond {A = ℕ} (G f) 1 0 in
      omega (
        arith,
        sum_by-append tells (map (added_on start) x.1) (added_from (start + 1) xs),
        sum_by-append tells (map (added_on start) y.1) (added_from (start + 1) ys),
        count_by-of-map G (added_on start) x.1,
        count_by-of-map G (added_on start) y.1,
        here,
        later,
      )

-- ---- files of one kind of which as many pass, whatever is asked of their hosts and numbers that only an account's number passes

abbrev HasOwner : List Account → File → Type 0
HasOwner names f = is_some (owner names f.host f.number) ≡ true

abbrev AreAlike : List Account → List File → List File → Type 0
AreAlike names files others = (Q : File → Bool) → ((f : File) → Q f ≡ true → HasOwner names f) → count_by Q files ≡ count_by Q others

changes_owned : (m : List ℕ) (o : Option ℕ) (v : ℕ) → changes m o v ≡ true → is_some o ≡ true
changes_owned m (Some i) v h = refl
changes_owned m None v h = absurd (cc)

place_owned : (i : ℕ) (o : Option ℕ) (also : Bool) → (is_place i o && also) ≡ true → is_some o ≡ true
place_owned i (Some j) also h = refl
place_owned i None also h = absurd (cc)

module _ (a : Accounts) (files others : List File) (alike : AreAlike a.names files others) where
  same_cost : (m : List ℕ) → cost_of a files m ≡ cost_of a others m
  same_cost m = alike (λ f. changes m (owner a.names f.host f.number) f.number) (λ f passes. changes_owned m (owner a.names f.host f.number) f.number passes)

  same_weight : (i v : ℕ) → weight a files i v ≡ weight a others i v
  same_weight i v = ap (λ k. file_weight a * k + lines (account a i) v) (alike (λ f. owns a.names i f && has_there a.names i v f.host) (λ f passes. place_owned i (owner a.names f.host f.number) (has_there a.names i v f.host) passes))

  same_weights : weight a files ≡ weight a others
  same_weights = λ j. λ i v. same_weight i v j

  still_fewest : (m : List ℕ) → ChangesFewestRows a files m → ChangesFewestRows a others m
  still_fewest m fewest = λ other ok same. fewest other ok (same_cost other ∙ same ∙ sym (same_cost m))

  was_fresh : (m : List ℕ) (i : ℕ) → IsFresh a others m i → IsFresh a files m i
  was_fresh m i fresh = record { free = fresh.free; weightless = same_weight i (number_at m i) ∙ fresh.weightless }

  still_filled : (m : List ℕ) → IsFilled a (IsFresh a files m) m → IsFilled a (IsFresh a others m) m
  still_filled m filled = λ i v within waits there less.
      let had = filled i v within (was_fresh m i waits) there less in
      record { by = had.by; within = had.within; other = had.other; has = had.has; earlier = λ also. had.earlier (was_fresh m had.by also) }

  still_certified : (s : Side) → IsCertified a files s → IsCertified a others s
  still_certified s is =
      let m = mapping_of a s.rows in
      let y = potentials_of a s.rows in
      let free : free_weight a files m ≡ free_weight a others m = ap (λ (w : ℕ → ℕ → ℕ). sum_below (λ i. if is_free_class (class_at a i) then w i (number_at m i) else 0) (length a.names)) same_weights in
      record {
        names = is.names;
        admissible = is.admissible;
        certifying = record {
          len = is.certifying.len;
          cover = λ i v within there. subst (λ w. w ≤ potential_at y i + value_at s.z v) (same_weight i v) (is.certifying.cover i v within there);
          equal = is.certifying.equal ∙ free;
        };
      }

  same_figures : (m : List ℕ) → figures_of a files m ≡ figures_of a others m
  same_figures m =
      let files_are : owned_files a.names files ≡ owned_files a.names others = alike (λ f. is_some (owner a.names f.host f.number)) (λ f passes. passes) in
      let cost_is = same_cost m in
      let f = figures_of a files m in
      λ j. record { names = f.names; pinned = f.pinned; kept = f.kept; fresh = f.fresh; files = files_are j; changed_files = cost_is j; rows = f.rows; changed_rows = f.changed_rows }

-- ---- the site as it was read last

unchanged : (host : Host) (r : Result (List Entry) Fault) (files : List Entry) → or_changed host r ≡ Ok files → r ≡ Ok files
unchanged host (Ok were) files h = h
unchanged host (Err e) files h = absurd (cc)

module _ (first : WholeSite) (whole : IsWhole first) (hosts : List (Host × List Entry)) (again : AreReadAgain first hosts) where
  abbrev last : WholeSite
  last = read_last first hosts

  same_hosts : hosts_in first ≡ hosts_in last
  same_hosts = hosts_are first.hosts hosts again.one_each (λ k host were at. let now = again.each_host k host were at in (now.1, now.4))
    where
      hosts_are : (one two : List (Host × List Entry)) → length two ≡ length one → ((k : ℕ) (host : Host) (were : List Entry) → slice_get one k ≡ Some (host, were) → (files : List Entry) × (slice_get two k ≡ Some (host, files))) → map (λ h. h.0) one ≡ map (λ h. h.0) two
      hosts_are [] [] same each = refl
      hosts_are [] (y ∷ ys) same each = absurd (omega (arith, same))
      hosts_are (x ∷ xs) [] same each = absurd (omega (arith, same))
      hosts_are (x ∷ xs) (y ∷ ys) same each =
          let here = each 0 x.0 x.1 refl in
          let is : y ≡ (x.0, here.0) = same_Some y (x.0, here.0) here.1 in
          let rest = hosts_are xs ys (omega (arith, same)) (λ k host were at. each (suc k) host were at) in
          ap (λ (h : Host). h ∷ map (λ h. h.0) xs) (ap (λ (p : Host × List Entry). p.0) (sym is)) ∙ ap (λ hs. y.0 ∷ hs) rest

  read_host : (h : ℕ) (host : Host) (files : List Entry) → slice_get hosts h ≡ Some (host, files) → IsReadHost first.joined h host files
  read_host h host files here =
      let at = item_at first.hosts h (omega (arith, slice_get_within hosts h (host, files) here, again.one_each)) in
      let was = whole.each_host h at.0.0 at.0.1 at.1 in
      let now = again.each_host h at.0.0 at.0.1 at.1 in
      let pair : (at.0.0, now.1) ≡ (host, files) = same_Some (at.0.0, now.1) (host, files) (sym now.4 ∙ here) in
      subst (λ (p : Host × List Entry). IsReadHost first.joined h p.0 p.1) pair
      (read-host first.joined h (record { host = at.0.0; mtree = now.0 }) now.1 (unchanged at.0.0 (files_of (record { host = at.0.0; mtree = now.0 })) now.1 now.2) (was.named, was.read, was.lawful, was.spares, was.known))

  pub still_whole : IsWhole last
  still_whole = record {
    few_hosts = subst (λ n. n ≤ 64) (sym again.one_each) whole.few_hosts;
    each_host = read_host;
    together = subst (λ hs. AreJoined hs first.joined) same_hosts whole.together;
    lawful = whole.lawful;
    leaves = whole.leaves;
    owned = all-owned first.joined hosts read_host;
  }

  -- ---- as many files of each number on each host

  -- known, differ, counted: what the hosts and their files say of the rows of one kind of accounts
  -- pick: of the uid and the gid of a file, the number of the kind
  module _ {R : Type 0} (name : R → List ℕ) (number : R → ℕ) (table : Host → List R) (pick : ℕ → ℕ → ℕ) (a : Accounts)
      (known : (h : ℕ) (host : Host) (files : List Entry) → IsReadHost first.joined h host files → (v : ℕ) → IsOwnedAsTold a.names h v (option_map name (find (λ r. v == number r) (table host))))
      (differ : (h : ℕ) (host : Host) (files : List Entry) → IsReadHost first.joined h host files → AreDistinct (map number (table host)))
      (counted : (host : Host) (were files : List Entry) → HaveSameCounts host were files → map (λ r. count_by (λ e. pick e.uid e.gid == number r) were) (table host) ≡ map (λ r. count_by (λ e. pick e.uid e.gid == number r) files) (table host)) where
    -- a number that is an account's on the host is a row's
    row_there : (h : ℕ) (host : Host) (files : List Entry) → IsReadHost first.joined h host files → (n : ℕ) → HasOwner a.names (record { host = 0 + h; number = n }) → is_some (find (λ r. n == number r) (table host)) ≡ true
    row_there h host files is n has =
        let from_zero : 0 + h ≡ h = omega arith in
        let here : HasOwner a.names (record { host = h; number = n }) = subst (λ i. HasOwner a.names (record { host = i; number = n })) from_zero has in
        let row = find (λ (r : R). n == number r) (table host) in
        sym (mapped_some name row) ∙ sym (owner-told a.names h n (option_map name row) (known h host files is n)) ∙ here

    kind_alike : AreAlike a.names (map (λ f. record { host = f.host; number = pick f.uid f.gid }) (files_of_site first)) (map (λ f. record { host = f.host; number = pick f.uid f.gid }) (files_of_site last))
    kind_alike Q owned =
        let G = λ (f : Added). Q (record { host = f.host; number = pick f.uid f.gid }) in
        count_by-of-map Q _ (files_of_site first)
        ∙ on_all G 0 first.hosts hosts again.one_each (λ k host were at.
        let is = whole.each_host k host were at in
        let now = again.each_host k host were at in
        let many = as_many number (λ v. Q (record { host = 0 + k; number = v })) (λ (e : Entry). pick e.uid e.gid) (table host) (apart number (table host) (differ k host were is)) were now.1
        (λ n passes. row_there k host were is n (owned (record { host = 0 + k; number = n }) passes)) (counted host were now.1 now.3) in
        (now.1, now.4, many))
        ∙ sym (count_by-of-map Q _ (files_of_site last))

  users_alike : AreAlike first.joined.users.names (user_files first) (user_files last)
  users_alike = kind_alike (λ (r : Passwd). r.name) (λ (r : Passwd). r.uid) (λ (h : Host). h.users) (λ uid gid. uid) first.joined.users
      (λ h host files is. is.known.users) (λ h host files is. is.lawful.users.numbers_differ) (λ host were files same. ap (λ (c : RowFiles). c.users) same)

  groups_alike : AreAlike first.joined.groups.names (group_files first) (group_files last)
  groups_alike = kind_alike (λ (r : Group). r.name) (λ (r : Group). r.gid) (λ (h : Host). h.groups) (λ uid gid. gid) first.joined.groups
      (λ h host files is. is.known.groups) (λ h host files is. is.lawful.groups.numbers_differ) (λ host were files same. ap (λ (c : RowFiles). c.groups) same)

  -- ---- what was merged

  still_least : (m : Mappings) → AreLeast first.joined (files_of_site first) m → AreLeast first.joined (files_of_site last) m
  still_least m least = record {
    admissible = least.admissible;
    least = λ other ok. omega (
      arith,
      least.least other ok,
      same_cost first.joined.users (user_files first) (user_files last) users_alike m.users,
      same_cost first.joined.users (user_files first) (user_files last) users_alike other.users,
      same_cost first.joined.groups (group_files first) (group_files last) groups_alike m.groups,
      same_cost first.joined.groups (group_files first) (group_files last) groups_alike other.groups,
    );
  }

  still_merged : (merged : Merged) → IsMerged first merged → IsMerged last merged
  still_merged merged is =
      let m = merged.mappings in
      let c = is.certificate in
      let users = first.joined.users in
      let groups = first.joined.groups in
      let was = is.answered in
      let told = is.printed.printed in
      let user_figures = same_figures users (user_files first) (user_files last) users_alike m.users in
      let group_figures = same_figures groups (group_files first) (group_files last) groups_alike m.groups in
      let user_cost = same_cost users (user_files first) (user_files last) users_alike m.users in
      let group_cost = same_cost groups (group_files first) (group_files last) groups_alike m.groups in
      let report : report_of (hosts_in first) first.joined (files_of_site first) m ≡ report_of (hosts_in last) first.joined (files_of_site last) m = λ j.
      report_lines first.joined (length (same_hosts j)) (user_figures j) (group_figures j) (site_differences (same_hosts j) first.joined) in
      let cost : cost_in first m ≡ cost_in last m = λ j. record { users = user_cost j; groups = group_cost j } in
      record {
        certificate = c;
        answered = record {
          least = still_least m was.least;
          fewest_user_rows = still_fewest users (user_files first) (user_files last) users_alike m.users was.fewest_user_rows;
          fewest_group_rows = still_fewest groups (group_files first) (group_files last) groups_alike m.groups was.fewest_group_rows;
          filled_users = still_filled users (user_files first) (user_files last) users_alike m.users was.filled_users;
          filled_groups = still_filled groups (group_files first) (group_files last) groups_alike m.groups was.filled_groups;
          certified = record {
            users = still_certified users (user_files first) (user_files last) users_alike c.users was.certified.users;
            groups = still_certified groups (group_files first) (group_files last) groups_alike c.groups was.certified.groups;
          };
          certificate_has = was.certificate_has;
          user_side = was.user_side;
          group_side = was.group_side;
        };
        printed = record {
          no_plans = is.printed.no_plans;
          printed = record {
            passwd = told.passwd ∙ ap (λ hs. merged_users hs first.joined m) same_hosts;
            group = told.group ∙ ap (λ hs. merged_groups hs first.joined m.groups) same_hosts;
            keeps = told.keeps;
            map_is = told.map_is;
            certificate = told.certificate;
            report = told.report ∙ report;
            plans = refl;
            cost = told.cost ∙ cost;
          };
        };
      }

pub second_reading_is_right : SecondReadingIsRight
second_reading_is_right first merged hosts plans whole is again are =
    with_plans (read_last first hosts) merged plans (still_merged first whole hosts again merged is) are

pub second_reading_is_correct : SecondReadingIsCorrect
second_reading_is_correct first merged hosts plans whole is again are =
    two_passes_are_correct (read_last first hosts) merged plans (still_whole first whole hosts again) (still_merged first whole hosts again merged is) are
