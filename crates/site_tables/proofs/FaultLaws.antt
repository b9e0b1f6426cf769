-- Which file of a host is told, and why.
use Rattle.std.proofs.Common.{◌≡◌, ◌≤◌, ◌⊎◌, ℕ, Bool, true, false, cond, List, [], ◌∷◌, ◌++◌, get_or, Option, None, Some, Result, Ok, Err, All, inl, inr, refl, sym, ap, ap₂, ◌∙◌, subst}
use Rattle.std.specs.Prelude.{Decides, ◌==◌, nat_le}
use Rattle.std.proofs.lemmas.Bool.{le-leb, leb-true}
use Rattle.std.proofs.lemmas.Bool.Decides.{Decides-and, Decides-eqb, Decides-like, Decides-or, not_from_Decides}
use Rattle.accounts.specs.Rows.{Group, Passwd}
use Rattle.accounts.specs.Tables.{passwd_table, group_table}
use Rattle.idtext.specs.First.{◌>>=◌, first_fault, unless}
use Rattle.idtext.specs.declared.faults.TextCode.{TextCode}
use Rattle.idtext.specs.declared.faults.TextFault.{TextFault}
use Rattle.logindefs.specs.Ranges.{in_range, ranges_of}
use Rattle.logindefs.specs.declared.ranges.HostRanges.{HostRanges}
use Rattle.logindefs.specs.declared.ranges.IdRange.{IdRange}
use Rattle.mtree_inv.specs.Inventory.{inventory}
use Rattle.mtree_inv.specs.declared.entry.Entry.{Entry}
use Rattle.hosts_join.specs.Checks.{primary_checked}
use Rattle.hosts_join.specs.Hosts.{allows_gid, allows_uid, spares_group, spares_user}
use Rattle.hosts_join.specs.RangeLists.{lies_in_some}
use Rattle.hosts_join.specs.declared.fault.SiteFault.{SiteFault}
use Rattle.hosts_join.specs.declared.fault.SiteFault.TheVariants as site
use Rattle.hosts_join.specs.declared.host.Host.{Host}
use Rattle.hosts_join.specs.declared.texts.HostText.{HostText}
use Rattle.unify_texts.specs.declared.bundle_line.FileName.{FileName}
use Rattle.unify_texts.specs.declared.bundle_line.FileName.TheVariants as file
use Rattle.unify_texts.specs.declared.fault.Fault.{Fault}
use Rattle.unify_texts.specs.declared.fault.Fault.TheVariants.{Line, UnownedUid, UnownedGid}
use Rattle.site_tables.proofs.AnyDecides.{any_decides, look_up_decides}
use Rattle.unify_texts.proofs.FirstFaults.{FirstFault, first_fails, first_told, unless_err}
use Rattle.site_tables.proofs.Owners.{allowed, file_ok}
use Rattle.site_tables.specs.FaultLaws.{FirstUnowned, GidsAreOfTheirFile, LiesInOne, LinesAreOfTheirFile, MayHaveGid, MayHaveUid, RefusesFile, UidsAreOfTheirFile}
use Rattle.site_tables.specs.Hosts.{files_of, host_of, owner_fault, sparing_none}
use Rattle.unify_texts.specs.Told.{in_file}
use Rattle.site_tables.specs.Told.{in_site, site_told}
use Rattle.site_tables.specs.declared.host.Loaded.{Loaded}

bound_err : {B F : Type 0} (g e : F) → ◌≡◌ {A = Result B F} (Err g) (Err e) → g ≡ e
bound_err g e h = cc

-- a step was refused, or else the step after it was
pub bind_err : {A B F : Type 0} (r : Result A F) (f : A → Result B F) (e : F) → (r >>= f) ≡ Err e → (r ≡ Err e) ⊎ ((x : A) × (r ≡ Ok x) × (f x ≡ Err e))
bind_err (Ok x) f e h = inr (x, refl, h)
bind_err {B = B} (Err g) f e h = inl (ap (λ x. Err x) (bound_err {B = B} g e h))

pub assoc : {A B C F : Type 0} (r : Result A F) (f : A → Result B F) (g : B → Result C F) → ((r >>= f) >>= g) ≡ (r >>= λ x. f x >>= g)
assoc (Ok x) f g = refl
assoc (Err e) f g = refl

pub never_err : {A F Q : Type 0} (x : A) (e : F) → ◌≡◌ {A = Result A F} (Ok x) (Err e) → Q
never_err x e h = absurd (cc)

-- ---- lines

line_host : (h g : List ℕ) (m n : FileName) (c d : TextCode) (l k : ℕ) → Line h m c l ≡ Line g n d k → g ≡ h
line_host h g m n c d l k e = cc

line_name : (h g : List ℕ) (m n : FileName) (c d : TextCode) (l k : ℕ) → Line h m c l ≡ Line g n d k → n ≡ m
line_name h g m n c d l k e = cc

line_code : (h g : List ℕ) (m n : FileName) (c d : TextCode) (l k : ℕ) → Line h m c l ≡ Line g n d k → c ≡ d
line_code h g m n c d l k e = cc

line_number : (h g : List ℕ) (m n : FileName) (c d : TextCode) (l k : ℕ) → Line h m c l ≡ Line g n d k → l ≡ k
line_number h g m n c d l k e = cc

pub err_same : {A : Type 0} (a b : Fault) → ◌≡◌ {A = Result A Fault} (Err a) (Err b) → a ≡ b
err_same a b e = cc

pub file_err : {A : Type 0} (host : List ℕ) (name : FileName) (r : Result A TextFault) (h : List ℕ) (n : FileName) (code : TextCode) (line : ℕ) → in_file host name r ≡ Err (Line h n code line)
    → (h ≡ host) × (n ≡ name) × (r ≡ Err (record { code = code; line = line }))
file_err host name (Ok x) h n code line e = never_err x (Line h n code line) e
file_err {A = A} host name (Err t) h n code line e =
    let same = err_same {A = A} (Line host name t.code t.line) (Line h n code line) e in (
      line_host host h name n t.code code t.line line same,
      line_name host h name n t.code code t.line line same,
      ap₂ (λ c k. Err (record { code = c; line = k })) (line_code host h name n t.code code t.line line same) (line_number host h name n t.code code t.line line same),
    )

site_no_line : {Q : Type 0} (f : SiteFault) (h : List ℕ) (n : FileName) (code : TextCode) (line : ℕ) → site_told f ≡ Line h n code line → Q
site_no_line (site.BadHostName a) h n code line e = absurd (cc)
site_no_line (site.HostTwice a) h n code line e = absurd (cc)
site_no_line (site.HostCount a) h n code line e = absurd (cc)
site_no_line (site.NoPrimaryGroup a b) h n code line e = absurd (cc)
site_no_line (site.PinDisagrees a b c d) h n code line e = absurd (cc)
site_no_line (site.PinReserved a b c d) h n code line e = absurd (cc)
site_no_line (site.PinClash a b c d) h n code line e = absurd (cc)
site_no_line (site.PoolTooSmall a b c d) h n code line e = absurd (cc)
site_no_line site.Memory h n code line e = absurd (cc)

in_site_no_line : {A Q : Type 0} (r : Result A SiteFault) (h : List ℕ) (n : FileName) (code : TextCode) (line : ℕ) → in_site r ≡ Err (Line h n code line) → Q
in_site_no_line (Ok x) h n code line e = never_err x (Line h n code line) e
in_site_no_line {A = A} (Err f) h n code line e = site_no_line f h n code line (err_same {A = A} (site_told f) (Line h n code line) e)

module _ (text : HostText) (h : List ℕ) (n : FileName) (code : TextCode) (line : ℕ) where
  abbrev Told : Type 0
  Told = (h ≡ text.name) × RefusesFile text (record { code = code; line = line }) n

  abbrev fault : TextFault
  fault = record { code = code; line = line }

  abbrev made : HostRanges → List Passwd → List Group → Result Loaded Fault
  made ranges users groups = in_site (primary_checked (sparing_none text.name ranges users groups)) >>= λ primary. Ok (record { host = sparing_none text.name ranges users groups; mtree = text.mtree })

  after_primary : (ranges : HostRanges) (users : List Passwd) (groups : List Group) → made ranges users groups ≡ Err (Line h n code line) → Told
  after_primary ranges users groups e =
      by (bind_err (in_site (primary_checked (sparing_none text.name ranges users groups))) (λ primary. Ok (record { host = sparing_none text.name ranges users groups; mtree = text.mtree })) (Line h n code line) e)
    where
      by : (in_site (primary_checked (sparing_none text.name ranges users groups)) ≡ Err (Line h n code line))
          ⊎ ((u : Unit {0}) × (in_site (primary_checked (sparing_none text.name ranges users groups)) ≡ Ok u) × (◌≡◌ {A = Result Loaded Fault} (Ok (record { host = sparing_none text.name ranges users groups; mtree = text.mtree })) (Err (Line h n code line)))) → Told
      by (inl told) = in_site_no_line (primary_checked (sparing_none text.name ranges users groups)) h n code line told
      by (inr passed) = never_err (record { host = sparing_none text.name ranges users groups; mtree = text.mtree }) (Line h n code line) passed.2

  module _ (ranges : HostRanges) (ranged : ranges_of text.logindefs ≡ Ok ranges) where
    module _ (users : List Passwd) (listed : passwd_table text.passwd ≡ Ok users) where
      by_group : (in_file text.name file.Group (group_table text.group) ≡ Err (Line h n code line))
          ⊎ ((groups : List Group) × (in_file text.name file.Group (group_table text.group) ≡ Ok groups) × (made ranges users groups ≡ Err (Line h n code line))) → Told
      by_group (inl told) =
          let is = file_err text.name file.Group (group_table text.group) h n code line told in
          (is.0, subst (RefusesFile text fault) (sym is.1) ((ranges, ranged), (users, listed), is.2))
      by_group (inr passed) = after_primary ranges users passed.0 passed.2

    abbrev with_users : List Passwd → Result Loaded Fault
    with_users users = in_file text.name file.Group (group_table text.group) >>= λ groups. made ranges users groups

    by_passwd : (in_file text.name file.Passwd (passwd_table text.passwd) ≡ Err (Line h n code line))
        ⊎ ((users : List Passwd) × (in_file text.name file.Passwd (passwd_table text.passwd) ≡ Ok users) × (with_users users ≡ Err (Line h n code line))) → Told
    by_passwd (inl told) =
        let is = file_err text.name file.Passwd (passwd_table text.passwd) h n code line told in
        (is.0, subst (RefusesFile text fault) (sym is.1) ((ranges, ranged), is.2))
    by_passwd (inr passed) =
        by_group passed.0 (file_ok text.name file.Passwd (passwd_table text.passwd) passed.0 passed.1)
        (bind_err (in_file text.name file.Group (group_table text.group)) (λ groups. made ranges passed.0 groups) (Line h n code line) passed.2)

  abbrev with_ranges : HostRanges → Result Loaded Fault
  with_ranges ranges = in_file text.name file.Passwd (passwd_table text.passwd) >>= λ users. in_file text.name file.Group (group_table text.group) >>= λ groups. made ranges users groups

  by_ranges : (in_file text.name file.LoginDefs (ranges_of text.logindefs) ≡ Err (Line h n code line))
      ⊎ ((ranges : HostRanges) × (in_file text.name file.LoginDefs (ranges_of text.logindefs) ≡ Ok ranges) × (with_ranges ranges ≡ Err (Line h n code line))) → Told
  by_ranges (inl told) =
      let is = file_err text.name file.LoginDefs (ranges_of text.logindefs) h n code line told in
      (is.0, subst (RefusesFile text fault) (sym is.1) is.2)
  by_ranges (inr passed) =
      by_passwd passed.0 (file_ok text.name file.LoginDefs (ranges_of text.logindefs) passed.0 passed.1)
      (bind_err (in_file text.name file.Passwd (passwd_table text.passwd)) (λ users. in_file text.name file.Group (group_table text.group) >>= λ groups. made passed.0 users groups) (Line h n code line) passed.2)

lines_there : (text : HostText) (h : List ℕ) (n : FileName) (code : TextCode) (line : ℕ) → host_of text ≡ Err (Line h n code line) → Told text h n code line
unfolding host_of
lines_there text h n code line e = by_ranges text h n code line (bind_err (in_file text.name file.LoginDefs (ranges_of text.logindefs)) (with_ranges text h n code line) (Line h n code line) e)

-- and so it is told
lines_back : (text : HostText) (n : FileName) (code : TextCode) (line : ℕ) → RefusesFile text (record { code = code; line = line }) n → host_of text ≡ Err (Line text.name n code line)
unfolding host_of
lines_back text file.LoginDefs code line refused = rw refused refl
lines_back text file.Passwd code line (ranged, refused) = rw (ranged.1, refused) refl
lines_back text file.Group code line (ranged, listed, refused) = rw (ranged.1, listed.1, refused) refl
lines_back text file.Map code line refused = absurd refused
lines_back text file.Certificate code line refused = absurd refused
lines_back text file.Plan code line refused = absurd refused
lines_back text file.Pins code line refused = absurd refused
lines_back text file.Keep code line refused = absurd refused
lines_back text file.Mtree code line refused = absurd refused

pub lines_are : LinesAreOfTheirFile
lines_are text h n code line = (
  lines_there text h n code line,
  λ is. lines_back text n code line is.1 ∙ ap (λ g. Err (Line g n code line)) (sym is.0),
)

-- ---- owners

lies : (ranges : List IdRange) (number : ℕ) → Decides (lies_in_some ranges number) (LiesInOne ranges number)
lies ranges number =
    any_decides (λ (range : IdRange). in_range range number) (λ range. (range.low ≤ number) × (number ≤ range.high))
    (λ range. Decides-and (nat_le range.low number) (nat_le number range.high) (within range.low number) (within number range.high)) ranges
  where
    within : (a b : ℕ) → Decides (nat_le a b) (a ≤ b)
    within a b = (leb-true a b, le-leb a b)

pub same_number : (number other : ℕ) → Decides (number == other) (other ≡ number)
same_number number other = Decides-like (number == other) (λ e. sym e) (λ e. sym e) (Decides-eqb number other)

pub may_uid : (host : Host) (uid : ℕ) → Decides (allows_uid host uid) (MayHaveUid host uid)
may_uid host uid =
    Decides-or _ (spares_user host uid) (look_up_decides (λ (row : Passwd). uid == row.uid) (λ row. row.uid ≡ uid) (λ row. same_number uid row.uid) (λ row. row.name) host.users)
    (lies host.spared_users uid)

pub may_gid : (host : Host) (gid : ℕ) → Decides (allows_gid host gid) (MayHaveGid host gid)
may_gid host gid =
    Decides-or _ (spares_group host gid) (look_up_decides (λ (row : Group). gid == row.gid) (λ row. row.gid ≡ gid) (λ row. same_number gid row.gid) (λ row. row.name) host.groups)
    (lies host.spared_groups gid)

line_not_owner : {A Q : Type 0} (host : List ℕ) (name : FileName) (r : Result A TextFault) (f : Fault) → ((h : List ℕ) (n : FileName) (c : TextCode) (l : ℕ) → Line h n c l ≡ f → ⊥) → in_file host name r ≡ Err f → Q
line_not_owner host name (Ok x) f other e = never_err x f e
line_not_owner {A = A} host name (Err t) f other e = absurd (other host name t.code t.line (err_same {A = A} (Line host name t.code t.line) f e))

module _ (loaded : Loaded) where
  abbrev judge : Entry → Option Fault
  judge f = owner_fault loaded.host [] f

  -- the inventory was read, and its first file with a fault has this one
  pub record OwnerFault (f : Fault) : Type 0 where
    pub files : List Entry
    pub read : inventory 16777216 loaded.mtree ≡ Ok files
    pub first : FirstFault judge files f

  abbrev checked : List Entry → Result (List Entry) Fault
  checked files = unless (first_fault (owner_fault loaded.host) [] files) (tt {0}) >>= λ owned. Ok files

  after_read : (f : Fault) (files : List Entry) → inventory 16777216 loaded.mtree ≡ Ok files
      → (unless (first_fault (owner_fault loaded.host) [] files) (tt {0}) ≡ Err f) ⊎ ((u : Unit {0}) × (unless (first_fault (owner_fault loaded.host) [] files) (tt {0}) ≡ Ok u) × (◌≡◌ {A = Result (List Entry) Fault} (Ok files) (Err f))) → OwnerFault f
  after_read f files read (inl told) =
      record { files = files; read = read; first = first_fails judge [] files f (unless_err (first_fault (owner_fault loaded.host) [] files) (tt {0}) f told) }
  after_read f files read (inr passed) = never_err files f passed.2

  by_inventory : (f : Fault) → ((h : List ℕ) (n : FileName) (c : TextCode) (l : ℕ) → Line h n c l ≡ f → ⊥)
      → (in_file loaded.host.name file.Mtree (inventory 16777216 loaded.mtree) ≡ Err f) ⊎ ((files : List Entry) × (in_file loaded.host.name file.Mtree (inventory 16777216 loaded.mtree) ≡ Ok files) × (checked files ≡ Err f)) → OwnerFault f
  by_inventory f other (inl told) = line_not_owner loaded.host.name file.Mtree (inventory 16777216 loaded.mtree) f other told
  by_inventory f other (inr passed) =
      after_read f passed.0 (file_ok loaded.host.name file.Mtree (inventory 16777216 loaded.mtree) passed.0 passed.1)
      (bind_err (unless (first_fault (owner_fault loaded.host) [] passed.0) (tt {0})) (λ owned. Ok passed.0) f passed.2)

  told_by : (f : Fault) → ((h : List ℕ) (n : FileName) (c : TextCode) (l : ℕ) → Line h n c l ≡ f → ⊥) → files_of loaded ≡ Err f → OwnerFault f
  unfolding files_of
  told_by f other e = by_inventory f other (bind_err (in_file loaded.host.name file.Mtree (inventory 16777216 loaded.mtree)) checked f e)

  pub all_allowed : (files : List Entry) → All (λ f. judge f ≡ None) files → All (λ f. MayHaveUid loaded.host f.uid × MayHaveGid loaded.host f.gid) files
  all_allowed files none k d lt =
      let f = get_or files k d in
      let both = allowed loaded.host f (none k d lt) in
      ((may_uid loaded.host f.uid).0 both.user, (may_gid loaded.host f.gid).0 both.group)

not_so : (b : Bool) → (b ≡ true → ⊥) → b ≡ false
not_so true h = absurd (h refl)
not_so false h = refl

uid_told : (user group : Bool) (h n : List ℕ) (u v w : ℕ) (p q : List ℕ) → cond user (cond group None (Some (UnownedGid h w p))) (Some (UnownedUid h u p)) ≡ Some (UnownedUid n v q)
    → (user ≡ false) × (n ≡ h) × (u ≡ v) × (p ≡ q)
uid_told true true h n u v w p q e = absurd (cc)
uid_told true false h n u v w p q e = absurd (cc)
uid_told false group h n u v w p q e = (refl, cc, cc, cc)

gid_told : (user group : Bool) (h n : List ℕ) (u v w : ℕ) (p q : List ℕ) → cond user (cond group None (Some (UnownedGid h w p))) (Some (UnownedUid h u p)) ≡ Some (UnownedGid n v q)
    → (user ≡ true) × (group ≡ false) × (n ≡ h) × (w ≡ v) × (p ≡ q)
gid_told true true h n u v w p q e = absurd (cc)
gid_told true false h n u v w p q e = (refl, refl, cc, cc, cc)
gid_told false group h n u v w p q e = absurd (cc)

no_uid_line : (host : List ℕ) (uid : ℕ) (path h : List ℕ) (n : FileName) (c : TextCode) (l : ℕ) → Line h n c l ≡ UnownedUid host uid path → ⊥
no_uid_line host uid path h n c l e = absurd (cc)

no_gid_line : (host : List ℕ) (gid : ℕ) (path h : List ℕ) (n : FileName) (c : TextCode) (l : ℕ) → Line h n c l ≡ UnownedGid host gid path → ⊥
no_gid_line host gid path h n c l e = absurd (cc)

module _ (loaded : Loaded) (name : List ℕ) (number : ℕ) (path : List ℕ) where
  uid_of_file : OwnerFault loaded (UnownedUid name number path) → (name ≡ loaded.host.name) × FirstUnowned loaded path (λ f. (f.uid ≡ number) × (MayHaveUid loaded.host number → ⊥))
  uid_of_file o =
      let host = loaded.host in
      let f = o.first.item in
      let told = uid_told (allows_uid host f.uid) (allows_gid host f.gid) host.name name f.uid number f.gid f.path path o.first.told in (
        told.1,
        record {
          earlier = o.first.earlier;
          unowned = f;
          later = o.first.later;
          read = o.read ∙ ap (λ fs. Ok fs) o.first.split;
          allowed = all_allowed loaded o.first.earlier o.first.passed;
          named = told.3;
          holds = (told.2, subst (λ n. MayHaveUid host n → ⊥) told.2 (not_from_Decides (allows_uid host f.uid) (may_uid host f.uid) told.0));
        },
      )

  gid_of_file : OwnerFault loaded (UnownedGid name number path)
      → (name ≡ loaded.host.name) × FirstUnowned loaded path (λ f. MayHaveUid loaded.host f.uid × (f.gid ≡ number) × (MayHaveGid loaded.host number → ⊥))
  gid_of_file o =
      let host = loaded.host in
      let f = o.first.item in
      let told = gid_told (allows_uid host f.uid) (allows_gid host f.gid) host.name name f.uid number f.gid f.path path o.first.told in (
        told.2,
        record {
          earlier = o.first.earlier;
          unowned = f;
          later = o.first.later;
          read = o.read ∙ ap (λ fs. Ok fs) o.first.split;
          allowed = all_allowed loaded o.first.earlier o.first.passed;
          named = told.4;
          holds = ((may_uid host f.uid).0 told.0, told.3, subst (λ n. MayHaveGid host n → ⊥) told.3 (not_from_Decides (allows_gid host f.gid) (may_gid host f.gid) told.1));
        },
      )

-- ---- and so it is told

module _ (loaded : Loaded) where
  none_of : (user group : Bool) (u g : Fault) → user ≡ true → group ≡ true → cond user (cond group None (Some g)) (Some u) ≡ None
  none_of user group u g is_user is_group = ap₂ (λ a b. cond a (cond b None (Some g)) (Some u)) is_user is_group

  pub none_judged : (files : List Entry) → All (λ f. MayHaveUid loaded.host f.uid × MayHaveGid loaded.host f.gid) files → All (λ f. judge loaded f ≡ None) files
  none_judged files may k d lt =
      let f = get_or files k d in
      let both = may k d lt in
      none_of (allows_uid loaded.host f.uid) (allows_gid loaded.host f.gid) _ _ ((may_uid loaded.host f.uid).1 both.0) ((may_gid loaded.host f.gid).1 both.1)

  told_back : (earlier : List Entry) (f : Entry) (later : List Entry) (e : Fault) → inventory 16777216 loaded.mtree ≡ Ok (earlier ++ f ∷ later) → All (λ x. judge loaded x ≡ None) earlier → judge loaded f ≡ Some e → files_of loaded ≡ Err e
  unfolding files_of
  told_back earlier f later e read passed told =
      ap (λ r. in_file loaded.host.name file.Mtree r >>= checked loaded) read
      ∙ ap (λ o. unless o (tt {0}) >>= λ owned. Ok (earlier ++ f ∷ later)) (first_told (judge loaded) [] earlier f later e passed told)

module _ (loaded : Loaded) (uid : ℕ) (path : List ℕ) where
  uid_back : FirstUnowned loaded path (λ f. (f.uid ≡ uid) × (MayHaveUid loaded.host uid → ⊥)) → files_of loaded ≡ Err (UnownedUid loaded.host.name uid path)
  uid_back it =
      let f = it.unowned in
      let none : allows_uid loaded.host f.uid ≡ false = not_so (allows_uid loaded.host f.uid) (λ t. it.holds.1 (subst (MayHaveUid loaded.host) it.holds.0 ((may_uid loaded.host f.uid).0 t))) in
      told_back loaded it.earlier f it.later (UnownedUid loaded.host.name uid path) it.read (none_judged loaded it.earlier it.allowed)
      (ap (λ b. cond b (cond (allows_gid loaded.host f.gid) None (Some (UnownedGid loaded.host.name f.gid f.path))) (Some (UnownedUid loaded.host.name f.uid f.path))) none
      ∙ ap₂ (λ n p. Some (UnownedUid loaded.host.name n p)) it.holds.0 it.named)

module _ (loaded : Loaded) (gid : ℕ) (path : List ℕ) where
  gid_back : FirstUnowned loaded path (λ f. MayHaveUid loaded.host f.uid × (f.gid ≡ gid) × (MayHaveGid loaded.host gid → ⊥)) → files_of loaded ≡ Err (UnownedGid loaded.host.name gid path)
  gid_back it =
      let f = it.unowned in
      let some : allows_uid loaded.host f.uid ≡ true = (may_uid loaded.host f.uid).1 it.holds.0 in
      let none : allows_gid loaded.host f.gid ≡ false = not_so (allows_gid loaded.host f.gid) (λ t. it.holds.2 (subst (MayHaveGid loaded.host) it.holds.1 ((may_gid loaded.host f.gid).0 t))) in
      told_back loaded it.earlier f it.later (UnownedGid loaded.host.name gid path) it.read (none_judged loaded it.earlier it.allowed)
      (ap₂ (λ a b. cond a (cond b None (Some (UnownedGid loaded.host.name f.gid f.path))) (Some (UnownedUid loaded.host.name f.uid f.path))) some none
      ∙ ap₂ (λ n p. Some (UnownedGid loaded.host.name n p)) it.holds.1 it.named)

pub uids_are : UidsAreOfTheirFile
uids_are loaded host uid path = (
  λ e. uid_of_file loaded host uid path (told_by loaded (UnownedUid host uid path) (no_uid_line host uid path) e),
  λ is. uid_back loaded uid path is.1 ∙ ap (λ h. Err (UnownedUid h uid path)) (sym is.0),
)

pub gids_are : GidsAreOfTheirFile
gids_are loaded host gid path = (
  λ e. gid_of_file loaded host gid path (told_by loaded (UnownedGid host gid path) (no_gid_line host gid path) e),
  λ is. gid_back loaded gid path is.1 ∙ ap (λ h. Err (UnownedGid h gid path)) (sym is.0),
)
