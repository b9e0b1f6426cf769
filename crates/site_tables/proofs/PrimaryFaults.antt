-- Which user is told as one without a primary group.
use Rattle.std.proofs.Common.{◌≡◌, ◌⊎◌, ℕ, Bool, true, false, cond, List, [], ◌∷◌, ◌++◌, get_or, None, Some, Result, Ok, Err, All, inl, inr, refl, sym, ap, ap₂, ◌∙◌}
use Rattle.std.specs.Prelude.{◌==◌, find, is_some}
use Rattle.std.proofs.lemmas.Bool.{false_from_ne_true}
use Rattle.std.proofs.lemmas.Bool.Decides.{not_from_Decides}
use Rattle.accounts.specs.Rows.{Group, Passwd}
use Rattle.accounts.specs.Tables.{passwd_table, group_table}
use Rattle.idtext.specs.First.{◌>>=◌, first_fault, unless}
use Rattle.idtext.specs.declared.faults.TextFault.{TextFault}
use Rattle.logindefs.specs.Ranges.{ranges_of}
use Rattle.logindefs.specs.declared.ranges.HostRanges.{HostRanges}
use Rattle.hosts_join.specs.Checks.{gid_fault, primary_checked}
use Rattle.hosts_join.specs.declared.fault.SiteFault.{SiteFault}
use Rattle.hosts_join.specs.declared.fault.SiteFault.TheVariants as site
use Rattle.hosts_join.specs.declared.host.Host.{Host}
use Rattle.hosts_join.specs.declared.texts.HostText.{HostText}
use Rattle.unify_texts.specs.declared.bundle_line.FileName.{FileName}
use Rattle.unify_texts.specs.declared.bundle_line.FileName.TheVariants as file
use Rattle.unify_texts.specs.declared.fault.Fault.{Fault}
use Rattle.unify_texts.specs.declared.fault.Fault.TheVariants.{Line, NoPrimaryGroup}
use Rattle.unify_texts.specs.Told.{in_file}
use Rattle.unify_texts.proofs.FirstFaults.{first_fails, first_told, unless_err}
use Rattle.site_tables.specs.FaultLaws.{FirstWithoutGroup, HasItsGroup, UsersWithoutGroupsAreTold}
use Rattle.site_tables.specs.Hosts.{host_of, sparing_none}
use Rattle.site_tables.specs.Told.{in_site, site_told}
use Rattle.site_tables.specs.declared.host.Loaded.{Loaded}
use Rattle.site_tables.proofs.FaultLaws.{bind_err, err_same, never_err}
use Rattle.site_tables.proofs.Owners.{file_ok}
use Rattle.site_tables.proofs.TextLaws.{gid_told, passes}

-- ---- what tells it

told_host : (h g u v : List ℕ) → NoPrimaryGroup h u ≡ NoPrimaryGroup g v → h ≡ g
told_host h g u v e = cc

told_name : (h g u v : List ℕ) → NoPrimaryGroup h u ≡ NoPrimaryGroup g v → u ≡ v
told_name h g u v e = cc

site_primary : (f : SiteFault) (h u : List ℕ) → site_told f ≡ NoPrimaryGroup h u → f ≡ site.NoPrimaryGroup h u
site_primary (site.BadHostName a) h u e = absurd (cc)
site_primary (site.HostTwice a) h u e = absurd (cc)
site_primary (site.HostCount a) h u e = absurd (cc)
site_primary (site.NoPrimaryGroup a b) h u e = ap₂ (λ x y. site.NoPrimaryGroup x y) (told_host a h b u e) (told_name a h b u e)
site_primary (site.PinDisagrees a b c d) h u e = absurd (cc)
site_primary (site.PinReserved a b c d) h u e = absurd (cc)
site_primary (site.PinClash a b c d) h u e = absurd (cc)
site_primary (site.PoolTooSmall a b c d) h u e = absurd (cc)
site_primary site.Memory h u e = absurd (cc)

in_site_primary : {A : Type 0} (r : Result A SiteFault) (h u : List ℕ) → in_site r ≡ Err (NoPrimaryGroup h u) → r ≡ Err (site.NoPrimaryGroup h u)
in_site_primary (Ok x) h u e = never_err x (NoPrimaryGroup h u) e
in_site_primary {A = A} (Err f) h u e = ap (λ g. Err g) (site_primary f h u (err_same {A = A} (site_told f) (NoPrimaryGroup h u) e))

no_line : (h g u : List ℕ) (n : FileName) (t : TextFault) → Line g n t.code t.line ≡ NoPrimaryGroup h u → ⊥
no_line h g u n t e = absurd (cc)

-- no reader of a file does
no_file : {A Q : Type 0} (host : List ℕ) (name : FileName) (r : Result A TextFault) (h u : List ℕ) → in_file host name r ≡ Err (NoPrimaryGroup h u) → Q
no_file host name (Ok x) h u e = never_err x (NoPrimaryGroup h u) e
no_file {A = A} host name (Err t) h u e = absurd (no_line h host u name t (err_same {A = A} (Line host name t.code t.line) (NoPrimaryGroup h u) e))

-- ---- the user

told_user : (b : Bool) (host name h u : List ℕ) → cond b None (Some (site.NoPrimaryGroup host name)) ≡ Some (site.NoPrimaryGroup h u) → (b ≡ false) × (host ≡ h) × (name ≡ u)
told_user true host name h u e = absurd (cc)
told_user false host name h u e = (refl, cc, cc)

all_have : (host : Host) (rows : List Passwd) → All (λ row. gid_fault host [] row ≡ None) rows → All (HasItsGroup host.groups) rows
all_have host rows passed k d lt =
    let row = get_or rows k d in
    (gid_told host row).0 (passes (is_some (find (λ (group : Group). row.gid == group.gid) host.groups)) (site.NoPrimaryGroup host.name row.name) (passed k d lt))

none_told : (host : Host) (rows : List Passwd) → All (HasItsGroup host.groups) rows → All (λ row. gid_fault host [] row ≡ None) rows
none_told host rows have k d lt =
    let row = get_or rows k d in
    ap (λ b. cond b None (Some (site.NoPrimaryGroup host.name row.name))) ((gid_told host row).1 (have k d lt))

one_told : (host : Host) (row : Passwd) → (HasItsGroup host.groups row → ⊥) → gid_fault host [] row ≡ Some (site.NoPrimaryGroup host.name row.name)
one_told host row none =
    let b = is_some (find (λ (group : Group). row.gid == group.gid) host.groups) in
    ap (λ t. cond t None (Some (site.NoPrimaryGroup host.name row.name))) (false_from_ne_true b (λ t. none ((gid_told host row).0 t)))

module _ (text : HostText) (h u : List ℕ) where
  abbrev Told : Type 0
  Told = (h ≡ text.name) × FirstWithoutGroup text u

  abbrev made : HostRanges → List Passwd → List Group → Host
  made ranges users groups = sparing_none text.name ranges users groups

  abbrev after_groups : HostRanges → List Passwd → List Group → Result Loaded Fault
  after_groups ranges users groups = in_site (primary_checked (made ranges users groups)) >>= λ primary. Ok (record { host = made ranges users groups; mtree = text.mtree })

  abbrev after_users : HostRanges → List Passwd → Result Loaded Fault
  after_users ranges users = in_file text.name file.Group (group_table text.group) >>= λ groups. after_groups ranges users groups

  abbrev after_ranges : HostRanges → Result Loaded Fault
  after_ranges ranges = in_file text.name file.Passwd (passwd_table text.passwd) >>= λ users. after_users ranges users

  module _ (ranges : HostRanges) (users : List Passwd) (groups : List Group) (ranged : ranges_of text.logindefs ≡ Ok ranges) (listed : passwd_table text.passwd ≡ Ok users) (grouped : group_table text.group ≡ Ok groups) where
    first_there : primary_checked (made ranges users groups) ≡ Err (site.NoPrimaryGroup h u) → Told
    unfolding primary_checked
    first_there e =
        let host : Host = made ranges users groups in
        let first = first_fails (gid_fault host []) [] users (site.NoPrimaryGroup h u) (unless_err (first_fault (gid_fault host) [] users) (tt {0}) (site.NoPrimaryGroup h u) e) in
        let row = first.item in
        let b = is_some (find (λ (group : Group). row.gid == group.gid) groups) in
        let it = told_user b text.name row.name h u first.told in (
          sym it.1,
          record {
            ranges = (ranges, ranged);
            earlier = first.earlier;
            user = row;
            later = first.later;
            users_are = listed ∙ ap (λ us. Ok us) first.split;
            groups = groups;
            groups_are = grouped;
            have_theirs = all_have host first.earlier first.passed;
            named = it.2;
            has_none = not_from_Decides b (gid_told host row) it.0;
          },
        )

    by_primary : (in_site (primary_checked (made ranges users groups)) ≡ Err (NoPrimaryGroup h u))
        ⊎ ((p : Unit {0}) × (in_site (primary_checked (made ranges users groups)) ≡ Ok p) × (◌≡◌ {A = Result Loaded Fault} (Ok (record { host = made ranges users groups; mtree = text.mtree })) (Err (NoPrimaryGroup h u)))) → Told
    by_primary (inl told) = first_there (in_site_primary (primary_checked (made ranges users groups)) h u told)
    by_primary (inr passed) = never_err (record { host = made ranges users groups; mtree = text.mtree }) (NoPrimaryGroup h u) passed.2

  by_groups : (ranges : HostRanges) (users : List Passwd) → ranges_of text.logindefs ≡ Ok ranges → passwd_table text.passwd ≡ Ok users
      → (in_file text.name file.Group (group_table text.group) ≡ Err (NoPrimaryGroup h u)) ⊎ ((groups : List Group) × (in_file text.name file.Group (group_table text.group) ≡ Ok groups) × (after_groups ranges users groups ≡ Err (NoPrimaryGroup h u))) → Told
  by_groups ranges users ranged listed (inl told) = no_file text.name file.Group (group_table text.group) h u told
  by_groups ranges users ranged listed (inr passed) =
      by_primary ranges users passed.0 ranged listed (file_ok text.name file.Group (group_table text.group) passed.0 passed.1)
      (bind_err (in_site (primary_checked (made ranges users passed.0))) (λ primary. Ok (record { host = made ranges users passed.0; mtree = text.mtree })) (NoPrimaryGroup h u) passed.2)

  by_users : (ranges : HostRanges) → ranges_of text.logindefs ≡ Ok ranges
      → (in_file text.name file.Passwd (passwd_table text.passwd) ≡ Err (NoPrimaryGroup h u)) ⊎ ((users : List Passwd) × (in_file text.name file.Passwd (passwd_table text.passwd) ≡ Ok users) × (after_users ranges users ≡ Err (NoPrimaryGroup h u))) → Told
  by_users ranges ranged (inl told) = no_file text.name file.Passwd (passwd_table text.passwd) h u told
  by_users ranges ranged (inr passed) =
      by_groups ranges passed.0 ranged (file_ok text.name file.Passwd (passwd_table text.passwd) passed.0 passed.1)
      (bind_err (in_file text.name file.Group (group_table text.group)) (λ groups. after_groups ranges passed.0 groups) (NoPrimaryGroup h u) passed.2)

  by_ranges : (in_file text.name file.LoginDefs (ranges_of text.logindefs) ≡ Err (NoPrimaryGroup h u)) ⊎ ((ranges : HostRanges) × (in_file text.name file.LoginDefs (ranges_of text.logindefs) ≡ Ok ranges) × (after_ranges ranges ≡ Err (NoPrimaryGroup h u))) → Told
  by_ranges (inl told) = no_file text.name file.LoginDefs (ranges_of text.logindefs) h u told
  by_ranges (inr passed) =
      by_users passed.0 (file_ok text.name file.LoginDefs (ranges_of text.logindefs) passed.0 passed.1)
      (bind_err (in_file text.name file.Passwd (passwd_table text.passwd)) (λ users. after_users passed.0 users) (NoPrimaryGroup h u) passed.2)

  user_there : host_of text ≡ Err (NoPrimaryGroup h u) → Told
  unfolding host_of
  user_there e = by_ranges (bind_err (in_file text.name file.LoginDefs (ranges_of text.logindefs)) after_ranges (NoPrimaryGroup h u) e)

-- ---- and so it is told

module _ (text : HostText) (u : List ℕ) (it : FirstWithoutGroup text u) where
  abbrev host : Host
  host = sparing_none text.name it.ranges.0 (it.earlier ++ it.user ∷ it.later) it.groups

  abbrev loaded : Result (Unit {0}) SiteFault → Result Loaded Fault
  loaded checked = in_site checked >>= λ primary. Ok (record { host = host; mtree = text.mtree })

  is_refused : primary_checked host ≡ Err (site.NoPrimaryGroup text.name it.user.name)
  unfolding primary_checked
  is_refused =
      ap (λ o. unless o (tt {0}))
      (first_told (gid_fault host []) [] it.earlier it.user it.later (site.NoPrimaryGroup text.name it.user.name) (none_told host it.earlier it.have_theirs) (one_told host it.user it.has_none))

  user_back : host_of text ≡ Err (NoPrimaryGroup text.name u)
  unfolding host_of
  user_back = rw (it.ranges.1, it.users_are, it.groups_are) (ap loaded is_refused ∙ ap (λ n. Err (NoPrimaryGroup text.name n)) it.named)

pub users_without_groups_are_told : UsersWithoutGroupsAreTold
users_without_groups_are_told text h u = (
  user_there text h u,
  λ is. user_back text u is.1 ∙ ap (λ g. Err (NoPrimaryGroup g u)) (sym is.0),
)
