-- Among the files of a merge each name has its own text, and no name stands twice.
use Rattle.std.proofs.Common.{◌≡◌, ◌++◌, ◌∷◌, [], ℕ, zero, suc, Bool, true, false, cond, List, take, drop, Some, Contains, codes, refl, sym, subst, arith}
use Rattle.std.specs.List.{slice_get}
use Rattle.std.proofs.lemmas.List.Elements.{Contains-append_left, Contains-append_right}
use Rattle.std.proofs.lemmas.Option.{same_Some}
use Rattle.hosts_join.specs.Site.{Joined}
use Rattle.hosts_join.specs.declared.host.Host.{Host}
use Rattle.hosts_join.specs.declared.texts.HostText.{HostText}
use Rattle.ownership.specs.declared.mapping.Mappings.{Mappings}
use Rattle.unify.specs.declared.site_files.NamedText.{NamedText}
use Rattle.unify_laws.specs.HostTexts.{group_file, host_files, passwd_file}
use Rattle.unify_merge.specs.Merge.{account_files, first_files, merged_files, report_file}
use Rattle.unify_merge.specs.SecondReading.{plan_files}
use Rattle.unify_merge.specs.NamedFiles.{FilesHaveTheirNames}
use Rattle.unify_laws.proofs.HostTexts.{begun_steps}
use Rattle.unify_merge.proofs.FileNames.{have_distinct_names, names_differ, no_group, no_other, no_passwd}
use Rattle.unify_merge.proofs.HostFiles.{host_files_from}

first_of : {X : Type 0} (x : X) (xs : List X) → Contains (x ∷ xs) x
first_of x xs = Contains-append_left (x ∷ []) xs x (0, omega arith, refl)

later : {X : Type 0} (y : X) (xs : List X) (x : X) → Contains xs x → Contains (y ∷ xs) x
later y xs x = Contains-append_right (y ∷ []) xs x

-- ---- those of the whole site

-- unless a name is kept
unless_kept : (keeps : Bool) (passwd group : NamedText) (file : NamedText) → keeps ≡ false → Contains (passwd ∷ group ∷ []) file → Contains (cond keeps [] (passwd ∷ group ∷ [])) file
unless_kept true passwd group file e has = absurd (cc)
unless_kept false passwd group file e has = has

-- ---- those of a host

abbrev plan_file : HostText → List ℕ → NamedText
plan_file text plan = record { name = codes "plan." ++ text.name; text = plan }

plan_there : (texts : List HostText) (plans : List (List ℕ)) (h : ℕ) (text : HostText) (plan : List ℕ) → slice_get texts h ≡ Some text → slice_get plans h ≡ Some plan
    → Contains (plan_files texts plans) (record { name = codes "plan." ++ text.name; text = plan })
plan_there [] plans h text plan at there = absurd (cc)
plan_there (t ∷ texts) [] h text plan at there = absurd (cc)
plan_there (t ∷ texts) (p ∷ plans) zero text plan at there =
    let same_text : t ≡ text = same_Some t text at in
    let same_plan : p ≡ plan = same_Some p plan there in
    subst (λ (file : NamedText). Contains (plan_files (t ∷ texts) (p ∷ plans)) file) (λ j. record { name = codes "plan." ++ (same_text j).name; text = same_plan j })
    (first_of (plan_file t p) (plan_files texts plans))
plan_there (t ∷ texts) (p ∷ plans) (suc h) text plan at there =
    later (plan_file t p) (plan_files texts plans) (plan_file text plan) (plan_there texts plans h text plan at there)

passwd_there : (site : Joined) (m : Mappings) (texts : List HostText) (hosts : List Host) (h : ℕ) (text : HostText) (host : Host) → slice_get texts h ≡ Some text → slice_get hosts h ≡ Some host
    → Contains (host_files site m texts hosts) (passwd_file host site m text)
passwd_there site m texts hosts h text host at there =
    let before = host_files site m (take h texts) hosts in
    let after = host_files site m (drop (suc h) texts) (drop (suc h) hosts) in
    let passwd = passwd_file host site m text in
    let group = group_file site m text in
    subst (λ files. Contains files passwd) (sym (host_files_from site m texts hosts h text host at there)) (Contains-append_right before (passwd ∷ group ∷ after) passwd (first_of passwd (group ∷ after)))

group_there : (site : Joined) (m : Mappings) (texts : List HostText) (hosts : List Host) (h : ℕ) (text : HostText) (host : Host) → slice_get texts h ≡ Some text → slice_get hosts h ≡ Some host
    → Contains (host_files site m texts hosts) (group_file site m text)
group_there site m texts hosts h text host at there =
    let before = host_files site m (take h texts) hosts in
    let after = host_files site m (drop (suc h) texts) (drop (suc h) hosts) in
    let passwd = passwd_file host site m text in
    let group = group_file site m text in
    subst (λ files. Contains files group) (sym (host_files_from site m texts hosts h text host at there)) (Contains-append_right before (passwd ∷ group ∷ after) group (later passwd (group ∷ after) group (first_of group after)))

-- ---- all of them

pub files_have_their_names : FilesHaveTheirNames
files_have_their_names texts begun m outcome =
    let plans = plan_files texts outcome.plans in
    let own = host_files begun.joined m texts begun.hosts in
    let report = report_file outcome in
    let passwd : NamedText = record { name = codes "passwd"; text = outcome.passwd } in
    let group : NamedText = record { name = codes "group"; text = outcome.group } in
    let map : NamedText = record { name = codes "map"; text = outcome.map } in
    let certificate : NamedText = record { name = codes "certificate"; text = outcome.certificate } in
    let of_site : (file : NamedText) → Contains (first_files outcome) file → Contains (merged_files texts begun m outcome) file =
    λ file. Contains-append_left (first_files outcome) (plans ++ (own ++ report ∷ [])) file in
    let of_plans : (file : NamedText) → Contains plans file → Contains (merged_files texts begun m outcome) file =
    λ file has. Contains-append_right (first_files outcome) (plans ++ (own ++ report ∷ [])) file (Contains-append_left plans (own ++ report ∷ []) file has) in
    let of_hosts : (file : NamedText) → Contains own file → Contains (merged_files texts begun m outcome) file =
    λ file has. Contains-append_right (first_files outcome) (plans ++ (own ++ report ∷ [])) file (Contains-append_right plans (own ++ report ∷ []) file (Contains-append_left own (report ∷ []) file has)) in
    record {
      passwd = λ none. of_site passwd (Contains-append_left (account_files outcome) (map ∷ certificate ∷ []) passwd (unless_kept outcome.keeps_names passwd group passwd none (first_of passwd (group ∷ []))));
      group = λ none. of_site group (Contains-append_left (account_files outcome) (map ∷ certificate ∷ []) group (unless_kept outcome.keeps_names passwd group group none (later passwd (group ∷ []) group (first_of group []))));
      no_passwd = no_passwd texts begun m outcome;
      no_group = no_group texts begun m outcome;
      map = of_site map (Contains-append_right (account_files outcome) (map ∷ certificate ∷ []) map (first_of map (certificate ∷ [])));
      certificate = of_site certificate (Contains-append_right (account_files outcome) (map ∷ certificate ∷ []) certificate (later map (certificate ∷ []) certificate (first_of certificate [])));
      report = Contains-append_right (first_files outcome) (plans ++ (own ++ report ∷ [])) report (Contains-append_right plans (own ++ report ∷ []) report (Contains-append_right own (report ∷ []) report (first_of report [])));
      plan_of_host = λ h text plan at there. of_plans (record { name = codes "plan." ++ text.name; text = plan }) (plan_there texts outcome.plans h text plan at there);
      passwd_of_host = λ h text host at there. of_hosts (passwd_file host begun.joined m text) (passwd_there begun.joined m texts begun.hosts h text host at there);
      group_of_host = λ h text host at there. of_hosts (group_file begun.joined m text) (group_there begun.joined m texts begun.hosts h text host at there);
      no_other = no_other texts begun m outcome;
      once = λ rules is. let s = begun_steps texts rules begun is in have_distinct_names texts begun m outcome (names_differ texts s.listed s.listed_are);
    }
