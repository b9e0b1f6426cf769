-- The names of the files of a merge differ.
use Rattle.std.proofs.Common.{◌≡◌, ◌≢◌, ◌++◌, ◌∷◌, [], ℕ, zero, suc, Bool, true, false, not, cond, nat_lt, ◌==◌, List, All, AllPairs, Contains, Option, Some, None, Ok, Err, length, drop, get_or, codes, refl, ap, subst, arith, ◌⊎◌, inl, inr}
use Rattle.std.specs.Str.{bytes_eq}
use Rattle.std.proofs.lemmas.Bool.{both_ways, eq-eqb, or_parts}
use Rattle.std.proofs.lemmas.List.Elements.{All-append, All-cons, All-contains, All-head, All-nil, All-tail, Contains-get_or}
use Rattle.std.proofs.lemmas.List.{append_assoc}
use Rattle.std.proofs.lemmas.List.Kept.{AllPairs-cons}
use Rattle.std.proofs.lemmas.Slice.Eq.{bytes_eq-Decides}
use Rattle.idtext.specs.First.{first_fault, unless}
use Rattle.idtext.proofs.FirstLemmas.{none_of_both}
use Rattle.idtext.proofs.OkLemmas.{unless_ok}
use Rattle.hosts_join.specs.Checks.{has_host, hosts_checked, is_host_name, name_fault}
use Rattle.hosts_join.specs.declared.host.Host.{Host}
use Rattle.hosts_join.specs.declared.texts.HostText.{HostText}
use Rattle.hosts_join.specs.Site.{Joined}
use Rattle.ownership.specs.declared.mapping.Mappings.{Mappings}
use Rattle.unify.specs.declared.outcome.Outcome.{Outcome}
use Rattle.unify.specs.declared.site_files.NamedText.{NamedText}
use Rattle.site_tables.specs.Begun.{BegunSite}
use Rattle.unify_laws.specs.HostTexts.{group_file, host_files, passwd_file}
use Rattle.unify_merge.specs.Merge.{merged_files, report_file}
use Rattle.unify_merge.specs.SecondReading.{plan_files}
use Rattle.unify_merge.specs.NamedFiles.{Have, HaveDistinctNames, IsHostFile, IsSiteFile}

-- ---- lists

module _ {X : Type 0} (R : X → X → Type 0) where
  pairs_head : (x : X) (xs : List X) → AllPairs R (x ∷ xs) → All (R x) xs
  pairs_head x xs apart k d within = apart zero (suc k) d (omega arith) (omega arith)

  pairs_tail : (x : X) (xs : List X) → AllPairs R (x ∷ xs) → AllPairs R xs
  pairs_tail x xs apart i j d less within = apart (suc i) (suc j) d (omega arith) (omega arith)

  no_pairs : AllPairs R []
  no_pairs i j d less within = absurd (omega arith)

  pairs_append : (xs ys : List X) → AllPairs R xs → AllPairs R ys → All (λ x. All (R x) ys) xs → AllPairs R (xs ++ ys)
  pairs_append [] ys first second across = second
  pairs_append (x ∷ xs) ys first second across =
      AllPairs-cons R x (xs ++ ys)
      (All-append (R x) xs ys (pairs_head x xs first) (All-head (λ x. All (R x) ys) x xs across))
      (pairs_append xs ys (pairs_tail x xs first) second (All-tail (λ x. All (R x) ys) x xs across))

-- ---- the names of hosts that were checked

-- one name differs from the other
abbrev Apart : HostText → HostText → Type 0
Apart a b = a.name ≢ b.name

unequal : (a b : List ℕ) → bytes_eq a b ≡ false → a ≢ b
unequal a b none same = both_ways (bytes_eq a b) none ((bytes_eq-Decides a b).1 same)

-- none of these hosts has this name
none_has : (hosts : List HostText) (name : List ℕ) → has_host hosts name ≡ false → All (λ (host : HostText). host.name ≢ name) hosts
none_has [] name none = All-nil (λ (host : HostText). host.name ≢ name)
none_has (h ∷ hosts) name none =
    let both = or_parts (bytes_eq h.name name) (has_host hosts name) none in
    All-cons (λ (host : HostText). host.name ≢ name) h hosts (unequal h.name name both.0) (none_has hosts name both.1)

new_name : {F : Type 0} (lawful there : Bool) (bad twice : F) → cond (not lawful) (Some bad) (cond there (Some twice) None) ≡ None → there ≡ false
new_name false there bad twice none = absurd (cc)
new_name true true bad twice none = absurd (cc)
new_name true false bad twice none = refl

-- each differs from those before it
differ_after : (before texts : List HostText) → first_fault name_fault before texts ≡ None → AllPairs Apart before → AllPairs Apart (before ++ texts)
unfolding first_fault
differ_after before [] none apart = pairs_append Apart before [] apart (no_pairs Apart) (λ k d within. All-nil (Apart (get_or before k d)))
differ_after before (t ∷ texts) none apart =
    let both = none_of_both (name_fault before t) (first_fault name_fault (before ++ t ∷ []) texts) none in
    let others = none_has before t.name (new_name (is_host_name t.name) (has_host before t.name) _ _ both.0) in
    let one = AllPairs-cons Apart t [] (All-nil (Apart t)) (no_pairs Apart) in
    let more = pairs_append Apart before (t ∷ []) apart one (λ k d within. All-cons (Apart (get_or before k d)) t [] (others k d within) (All-nil (Apart (get_or before k d)))) in
    subst (AllPairs Apart) (append_assoc before (t ∷ []) texts) (differ_after (before ++ t ∷ []) texts both.1 more)

list_checked : {F : Type 0} (none many : Bool) (few more : F) (names : Option F) (u : Unit {0}) → cond {0} none (Err few) (cond {0} many (Err more) (unless names (tt {0}))) ≡ Ok u → names ≡ None
list_checked true many few more names u ok = absurd (cc)
list_checked false true few more names u ok = absurd (cc)
list_checked false false few more names u ok = (unless_ok names (tt {0}) u ok).0

-- the names of a list of hosts that was checked
pub names_differ : (texts : List HostText) (u : Unit {0}) → hosts_checked texts ≡ Ok u → AllPairs Apart texts
unfolding hosts_checked
names_differ texts u ok = differ_after [] texts (list_checked (length texts == 0) (nat_lt 64 (length texts)) _ _ (first_fault name_fault [] texts) u ok) (no_pairs Apart)

-- ---- names of files

abbrev Differ : NamedText → NamedText → Type 0
Differ a b = a.name ≢ b.name

-- they differ at this byte
pub differ_at : (i : ℕ) (a b : List ℕ) → (get_or a i 0 == get_or b i 0) ≡ false → a ≢ b
differ_at i a b other same =
    let at : get_or a i 0 ≡ get_or b i 0 = ap (λ (n : List ℕ). get_or n i 0) same in
    both_ways (get_or a i 0 == get_or b i 0) other (eq-eqb (get_or a i 0) (get_or b i 0) at)

pub plans_all : (P : List ℕ → Type 0) (texts : List HostText) (plans : List (List ℕ)) → All (λ (t : HostText). P (codes "plan." ++ t.name)) texts → All (λ (f : NamedText). P f.name) (plan_files texts plans)
plans_all P [] plans all = All-nil (λ (f : NamedText). P f.name)
plans_all P (t ∷ texts) [] all = All-nil (λ (f : NamedText). P f.name)
plans_all P (t ∷ texts) (p ∷ plans) all =
    All-cons (λ (f : NamedText). P f.name) (record { name = codes "plan." ++ t.name; text = p }) (plan_files texts plans)
    (All-head (λ (t : HostText). P (codes "plan." ++ t.name)) t texts all)
    (plans_all P texts plans (All-tail (λ (t : HostText). P (codes "plan." ++ t.name)) t texts all))

pub same_behind_plan : (a b : List ℕ) → codes "plan." ++ a ≡ codes "plan." ++ b → a ≡ b
same_behind_plan a b same = ap (λ (n : List ℕ). drop 5 n) same

plans_apart : (texts : List HostText) (plans : List (List ℕ)) → AllPairs Apart texts → AllPairs Differ (plan_files texts plans)
plans_apart [] plans apart = no_pairs Differ
plans_apart (t ∷ texts) [] apart = no_pairs Differ
plans_apart (t ∷ texts) (p ∷ plans) apart =
    let others = pairs_head Apart t texts apart in
    AllPairs-cons Differ (record { name = codes "plan." ++ t.name; text = p }) (plan_files texts plans)
    (plans_all (λ n. codes "plan." ++ t.name ≢ n) texts plans (λ k d within same. others k d within (same_behind_plan t.name (get_or texts k d).name same)))
    (plans_apart texts plans (pairs_tail Apart t texts apart))

same_behind_passwd : (a b : List ℕ) → codes "passwd." ++ a ≡ codes "passwd." ++ b → a ≡ b
same_behind_passwd a b same = ap (λ (n : List ℕ). drop 7 n) same

same_behind_group : (a b : List ℕ) → codes "group." ++ a ≡ codes "group." ++ b → a ≡ b
same_behind_group a b same = ap (λ (n : List ℕ). drop 6 n) same

module _ (site : Joined) (m : Mappings) where
  pub own_all : (P : List ℕ → Type 0) (texts : List HostText) (hosts : List Host) → All (λ (t : HostText). P (codes "passwd." ++ t.name)) texts → All (λ (t : HostText). P (codes "group." ++ t.name)) texts
      → All (λ (f : NamedText). P f.name) (host_files site m texts hosts)
  own_all P [] hosts passwds groups = All-nil (λ (f : NamedText). P f.name)
  own_all P (t ∷ texts) [] passwds groups = All-nil (λ (f : NamedText). P f.name)
  own_all P (t ∷ texts) (h ∷ hosts) passwds groups =
      let later = host_files site m texts hosts in
      let others = own_all P texts hosts (All-tail (λ (t : HostText). P (codes "passwd." ++ t.name)) t texts passwds) (All-tail (λ (t : HostText). P (codes "group." ++ t.name)) t texts groups) in
      All-cons (λ (f : NamedText). P f.name) (passwd_file h site m t) (group_file site m t ∷ later) (All-head (λ (t : HostText). P (codes "passwd." ++ t.name)) t texts passwds)
      (All-cons (λ (f : NamedText). P f.name) (group_file site m t) later (All-head (λ (t : HostText). P (codes "group." ++ t.name)) t texts groups) others)

  own_apart : (texts : List HostText) (hosts : List Host) → AllPairs Apart texts → AllPairs Differ (host_files site m texts hosts)
  own_apart [] hosts apart = no_pairs Differ
  own_apart (t ∷ texts) [] apart = no_pairs Differ
  own_apart (t ∷ texts) (h ∷ hosts) apart =
      let others = pairs_head Apart t texts apart in
      let later = host_files site m texts hosts in
      let name : (k : ℕ) → HostText → List ℕ = λ k d. (get_or texts k d).name in
      let passwd : All (λ (f : NamedText). codes "passwd." ++ t.name ≢ f.name) later =
      own_all (λ n. codes "passwd." ++ t.name ≢ n) texts hosts
      (λ k d within same. others k d within (same_behind_passwd t.name (name k d) same))
      (λ k d within. differ_at 0 (codes "passwd." ++ t.name) (codes "group." ++ name k d) refl) in
      let group : All (λ (f : NamedText). codes "group." ++ t.name ≢ f.name) later =
      own_all (λ n. codes "group." ++ t.name ≢ n) texts hosts
      (λ k d within. differ_at 0 (codes "group." ++ t.name) (codes "passwd." ++ name k d) refl)
      (λ k d within same. others k d within (same_behind_group t.name (name k d) same)) in
      AllPairs-cons Differ (passwd_file h site m t) (group_file site m t ∷ later)
      (All-cons (Differ (passwd_file h site m t)) (group_file site m t) later (differ_at 0 (codes "passwd." ++ t.name) (codes "group." ++ t.name) refl) passwd)
      (AllPairs-cons Differ (group_file site m t) later group (own_apart texts hosts (pairs_tail Apart t texts apart)))

-- ---- the files of a merge

module _ (texts : List HostText) (begun : BegunSite) (m : Mappings) (outcome : Outcome) where
  abbrev plans : List NamedText
  plans = plan_files texts outcome.plans

  -- those after the plans
  abbrev ends : List NamedText
  ends = host_files begun.joined m texts begun.hosts ++ report_file outcome ∷ []

  abbrev passwd : NamedText
  passwd = record { name = codes "passwd"; text = outcome.passwd }

  abbrev group : NamedText
  group = record { name = codes "group"; text = outcome.group }

  abbrev mapped : NamedText
  mapped = record { name = codes "map"; text = outcome.map }

  abbrev certificate : NamedText
  certificate = record { name = codes "certificate"; text = outcome.certificate }

  -- those that a merge has with and without names that are kept
  abbrev always : List NamedText
  always = mapped ∷ certificate ∷ plans ++ ends

  ends_all : (P : List ℕ → Type 0) → ((x : List ℕ) → P (codes "passwd." ++ x)) → ((x : List ℕ) → P (codes "group." ++ x)) → P (codes "report") → All (λ (f : NamedText). P f.name) ends
  ends_all P passwds groups report =
      All-append (λ (f : NamedText). P f.name) (host_files begun.joined m texts begun.hosts) (report_file outcome ∷ [])
      (own_all begun.joined m P texts begun.hosts (λ k d within. passwds (get_or texts k d).name) (λ k d within. groups (get_or texts k d).name))
      (All-cons (λ (f : NamedText). P f.name) (report_file outcome) [] report (All-nil (λ (f : NamedText). P f.name)))

  -- this name is none of those after the certificate
  later_apart : (n : List ℕ) → ((x : List ℕ) → n ≢ codes "plan." ++ x) → ((x : List ℕ) → n ≢ codes "passwd." ++ x) → ((x : List ℕ) → n ≢ codes "group." ++ x) → n ≢ codes "report"
      → All (λ (f : NamedText). n ≢ f.name) (plans ++ ends)
  later_apart n no_plan no_passwd no_group no_report =
      All-append (λ (f : NamedText). n ≢ f.name) plans ends
      (plans_all (λ other. n ≢ other) texts outcome.plans (λ k d within. no_plan (get_or texts k d).name))
      (ends_all (λ other. n ≢ other) no_passwd no_group no_report)

  ends_apart : AllPairs Apart texts → AllPairs Differ ends
  ends_apart apart =
      let report = report_file outcome in
      let none : (n : List ℕ) → n ≢ codes "report" → All (λ (f : NamedText). n ≢ f.name) (report ∷ []) =
      λ n other. All-cons (λ (f : NamedText). n ≢ f.name) report [] other (All-nil (λ (f : NamedText). n ≢ f.name)) in
      pairs_append Differ (host_files begun.joined m texts begun.hosts) (report ∷ []) (own_apart begun.joined m texts begun.hosts apart)
      (AllPairs-cons Differ report [] (All-nil (Differ report)) (no_pairs Differ))
      (own_all begun.joined m (λ n. All (λ (f : NamedText). n ≢ f.name) (report ∷ [])) texts begun.hosts
      (λ k d within. none (codes "passwd." ++ (get_or texts k d).name) (differ_at 0 (codes "passwd." ++ (get_or texts k d).name) (codes "report") refl))
      (λ k d within. none (codes "group." ++ (get_or texts k d).name) (differ_at 0 (codes "group." ++ (get_or texts k d).name) (codes "report") refl)))

  after_plans : (n : List ℕ) → All (λ (f : NamedText). codes "plan." ++ n ≢ f.name) ends
  after_plans n =
      let plan = codes "plan." ++ n in
      ends_all (λ other. plan ≢ other) (λ x. differ_at 1 plan (codes "passwd." ++ x) refl) (λ x. differ_at 0 plan (codes "group." ++ x) refl) (differ_at 0 plan (codes "report") refl)

  always_apart : AllPairs Apart texts → AllPairs Differ always
  always_apart apart =
      let later =
      pairs_append Differ plans ends (plans_apart texts outcome.plans apart) (ends_apart apart)
      (plans_all (λ n. All (λ (f : NamedText). n ≢ f.name) ends) texts outcome.plans (λ k d within. after_plans (get_or texts k d).name)) in
      let behind_map = later_apart (codes "map") (λ x. differ_at 0 (codes "map") (codes "plan." ++ x) refl) (λ x. differ_at 0 (codes "map") (codes "passwd." ++ x) refl) (λ x. differ_at 0 (codes "map") (codes "group." ++ x) refl) (differ_at 0 (codes "map") (codes "report") refl) in
      let behind_certificate = later_apart (codes "certificate") (λ x. differ_at 0 (codes "certificate") (codes "plan." ++ x) refl) (λ x. differ_at 0 (codes "certificate") (codes "passwd." ++ x) refl) (λ x. differ_at 0 (codes "certificate") (codes "group." ++ x) refl) (differ_at 0 (codes "certificate") (codes "report") refl) in
      AllPairs-cons Differ mapped (certificate ∷ plans ++ ends)
      (All-cons (Differ mapped) certificate (plans ++ ends) (differ_at 0 (codes "map") (codes "certificate") refl) behind_map)
      (AllPairs-cons Differ certificate (plans ++ ends) behind_certificate later)

  -- a name that is neither map nor certificate, and none of those after them
  always_other : (n : List ℕ) → n ≢ codes "map" → n ≢ codes "certificate" → All (λ (f : NamedText). n ≢ f.name) (plans ++ ends) → All (λ (f : NamedText). n ≢ f.name) always
  always_other n no_map no_certificate later =
      All-cons (λ (f : NamedText). n ≢ f.name) mapped (certificate ∷ plans ++ ends) no_map
      (All-cons (λ (f : NamedText). n ≢ f.name) certificate (plans ++ ends) no_certificate later)

  passwd_apart : All (λ (f : NamedText). codes "passwd" ≢ f.name) always
  passwd_apart =
      let n = codes "passwd" in
      always_other n (differ_at 0 n (codes "map") refl) (differ_at 0 n (codes "certificate") refl)
      (later_apart n (λ x. differ_at 1 n (codes "plan." ++ x) refl) (λ x. differ_at 6 n (codes "passwd." ++ x) refl) (λ x. differ_at 0 n (codes "group." ++ x) refl) (differ_at 0 n (codes "report") refl))

  group_apart : All (λ (f : NamedText). codes "group" ≢ f.name) always
  group_apart =
      let n = codes "group" in
      always_other n (differ_at 0 n (codes "map") refl) (differ_at 0 n (codes "certificate") refl)
      (later_apart n (λ x. differ_at 0 n (codes "plan." ++ x) refl) (λ x. differ_at 0 n (codes "passwd." ++ x) refl) (λ x. differ_at 5 n (codes "group." ++ x) refl) (differ_at 0 n (codes "report") refl))

  -- with passwd and group in front of them, unless a name is kept
  either_apart : (keeps : Bool) → AllPairs Apart texts → AllPairs Differ ((cond keeps [] (passwd ∷ group ∷ []) ++ mapped ∷ certificate ∷ []) ++ (plans ++ ends))
  either_apart true apart = always_apart apart
  either_apart false apart =
      AllPairs-cons Differ passwd (group ∷ always)
      (All-cons (Differ passwd) group always (differ_at 0 (codes "passwd") (codes "group") refl) passwd_apart)
      (AllPairs-cons Differ group always group_apart (always_apart apart))

  -- this is none of their names, where a name is kept
  none_where_kept : (keeps : Bool) (n text : List ℕ) → All (λ (f : NamedText). n ≢ f.name) always → keeps ≡ true → Contains ((cond keeps [] (passwd ∷ group ∷ []) ++ mapped ∷ certificate ∷ []) ++ (plans ++ ends)) (record { name = n; text = text }) → ⊥
  none_where_kept true n text apart kept has = All-contains (λ (f : NamedText). n ≢ f.name) always (record { name = n; text = text }) apart has refl
  none_where_kept false n text apart kept has = absurd (cc)

  pub have_distinct_names : AllPairs Apart texts → HaveDistinctNames (merged_files texts begun m outcome)
  have_distinct_names apart = either_apart outcome.keeps_names apart

  -- ---- no other names

  abbrev IsNamed : List ℕ → Type 0
  IsNamed name = IsSiteFile name ⊎ IsHostFile texts name

  abbrev Is : NamedText → Type 0
  Is file = IsNamed file.name

  ends_named : All Is ends
  ends_named =
      All-append Is (host_files begun.joined m texts begun.hosts) (report_file outcome ∷ [])
      (own_all begun.joined m IsNamed texts begun.hosts
      (λ k d within. inr (get_or texts k d, Contains-get_or texts k d within, inr (inl refl)))
      (λ k d within. inr (get_or texts k d, Contains-get_or texts k d within, inr (inr refl))))
      (All-cons Is (report_file outcome) [] (inl (4, omega arith, refl)) (All-nil Is))

  always_named : All Is always
  always_named =
      All-cons Is mapped (certificate ∷ plans ++ ends) (inl (2, omega arith, refl))
      (All-cons Is certificate (plans ++ ends) (inl (3, omega arith, refl))
      (All-append Is plans ends
      (plans_all IsNamed texts outcome.plans (λ k d within. inr (get_or texts k d, Contains-get_or texts k d within, inl refl)))
      ends_named))

  all_named : (keeps : Bool) → All Is ((cond keeps [] (passwd ∷ group ∷ []) ++ mapped ∷ certificate ∷ []) ++ (plans ++ ends))
  all_named true = always_named
  all_named false = All-cons Is passwd (group ∷ always) (inl (0, omega arith, refl)) (All-cons Is group always (inl (1, omega arith, refl)) always_named)

  pub no_other : (name text : List ℕ) → Have (merged_files texts begun m outcome) name text → IsSiteFile name ⊎ IsHostFile texts name
  no_other name text has = All-contains Is (merged_files texts begun m outcome) (record { name = name; text = text }) (all_named outcome.keeps_names) has

  pub no_passwd : outcome.keeps_names ≡ true → (text : List ℕ) → Have (merged_files texts begun m outcome) (codes "passwd") text → ⊥
  no_passwd kept text has = none_where_kept outcome.keeps_names (codes "passwd") text passwd_apart kept has

  pub no_group : outcome.keeps_names ≡ true → (text : List ℕ) → Have (merged_files texts begun m outcome) (codes "group") text → ⊥
  no_group kept text has = none_where_kept outcome.keeps_names (codes "group") text group_apart kept has
