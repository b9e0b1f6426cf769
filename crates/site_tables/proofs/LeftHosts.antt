-- What is left of hosts by a keep text.
use Rattle.std.proofs.Common.{◌≡◌, Bool, true, not, List, [], map, get_or, None, Result, Ok, Err, refl, sym, ap, subst, ◌∙◌}
use Rattle.std.specs.List.{All, Contains, filter}
use Rattle.std.proofs.lemmas.List.{get_or_default}
use Rattle.std.proofs.lemmas.List.Elements.{All-contains_itself, All-filter, All-map, All-weaker}
use Rattle.std.proofs.lemmas.List.Folds.{map_fixed}
use Rattle.idtext.specs.First.{◌>>=◌, first_fault, unless}
use Rattle.idtext.proofs.OkLemmas.{bind_ok, ok_same}
use Rattle.idtext.proofs.PieceLemmas.{lines-empty}
use Rattle.accounts.specs.Rows.{Passwd, Group}
use Rattle.hosts_join.specs.Checks.{is_host_name}
use Rattle.hosts_join.specs.Hosts.{IsLawfulHost, SparesReserved}
use Rattle.hosts_join.specs.Rules.{is_reserved}
use Rattle.hosts_join.specs.Site.{Joined}
use Rattle.hosts_join.specs.declared.host.Host.{Host}
use Rattle.keep_text.specs.KeepTexts.{keep_fault, keep_of, kept_on, nothing_kept}
use Rattle.keep_text.specs.declared.keep_text.KeepFault.{KeepFault}
use Rattle.keep_text.specs.declared.keep_text.KeepText.{KeepText}
use Rattle.kept_accounts.specs.Keeping.{is_kept_user, is_kept_group}
use Rattle.kept_accounts.specs.Others.{without_kept}
use Rattle.kept_accounts.specs.Reserving.{UnownedNumbers, reserved_users, reserved_groups}
use Rattle.kept_accounts.proofs.OtherLemmas.{others_lawful}
use Rattle.kept_accounts.proofs.ReservedLemmas.{empty_keeps_nothing}
use Rattle.kept_accounts.proofs.SparedLemmas.{spared_reserved}
use Rattle.mergedfiles.specs.InPart.{WasReadInPart}
use Rattle.mergedfiles.specs.ReadBack.{WasRead}
use Rattle.unify_texts.specs.declared.fault.Fault.{Fault}
use Rattle.site_tables.specs.declared.rules.KeepRules.{KeepRules}
use Rattle.site_tables.specs.Others.{Others, keep_read, keeping_nothing, others_of, others_read}
use Rattle.site_tables.specs.Sparing.{SparesNothing}
use Rattle.site_tables.specs.Told.{in_keep}

-- ---- a keep text that is read

keep-ok : {A : Type 0} (r : Result A KeepFault) (x : A) → in_keep r ≡ Ok x → r ≡ Ok x
keep-ok (Ok y) x h = ap (λ z. Ok z) (ok_same y x h)
keep-ok (Err e) x h = absurd (cc)

-- what is joined of hosts, by what is to stay
pub record AreOthersBy (rules : KeepRules) (hosts : List Host) (others : Others) : Type 0 where
  pub keep : KeepText
  pub read : keep_of rules.text ≡ Ok keep
  pub are : others_of keep hosts rules.unowned ≡ others

pub others-by : (rules : KeepRules) (hosts : List Host) (others : Others) → others_read rules hosts ≡ Ok others → AreOthersBy rules hosts others
unfolding others_read
others-by rules hosts others h =
    let kept = bind_ok (keep_read rules.text) (λ keep. Ok (others_of keep hosts rules.unowned)) others h in
    record {
      keep = kept.0;
      read = keep-ok (keep_of rules.text) kept.0 kept.1;
      are = ok_same (others_of kept.0 hosts rules.unowned) others kept.2;
    }

module _ (rules : KeepRules) (hosts : List Host) where
  pub keep_refused : (f : Fault) → keep_read rules.text ≡ Err f → others_read rules hosts ≡ Err f
  unfolding others_read
  keep_refused f h = ap (λ r. r >>= λ (keep : KeepText). Ok (others_of keep hosts rules.unowned)) h

  pub others_are : (keep : KeepText) (others : Others) → keep_read rules.text ≡ Ok keep → others ≡ others_of keep hosts rules.unowned → others_read rules hosts ≡ Ok others
  unfolding others_read
  others_are keep others h same = ap (λ r. r >>= λ (keep : KeepText). Ok (others_of keep hosts rules.unowned)) h ∙ ap (λ o. Ok o) (sym same)

-- ---- hosts without their kept rows

some-of : {X : Type 0} (test : X → Bool) (xs : List X) → All (Contains xs) (filter test xs)
some-of test xs = All-filter test (Contains xs) xs (All-contains_itself xs)

module _ (keep : KeepText) (hosts : List Host) (unowned : UnownedNumbers) where
  -- what is left of a host
  abbrev pub left : Host → Host
  left = without_kept keep hosts unowned

  pub left-lawful : All IsLawfulHost hosts → All IsLawfulHost (map left hosts)
  left-lawful all = All-map IsLawfulHost left hosts (λ k d l. others_lawful keep (is_kept_user keep hosts) (is_kept_group keep hosts) unowned (get_or hosts k d) (all k d l))

  read-in-part : (host : Host) → WasRead host → WasReadInPart (left host)
  read-in-part host was = record {
    passwd = was.passwd;
    all_users = host.users;
    users = was.users;
    each_user = some-of (λ (row : Passwd). not (is_kept_user keep hosts row.name)) host.users;
    group = was.group;
    all_groups = host.groups;
    groups = was.groups;
    each_group = some-of (λ (row : Group). not (is_kept_group keep hosts row.name)) host.groups;
  }

  pub left-read : All WasRead hosts → All WasReadInPart (map left hosts)
  left-read all = All-map WasReadInPart left hosts (λ k d l. read-in-part (get_or hosts k d) (all k d l))

  pub left-named : All (λ h. is_host_name h.name ≡ true) hosts → All (λ h. is_host_name h.name ≡ true) (map left hosts)
  left-named all = All-map (λ (h : Host). is_host_name h.name ≡ true) left hosts all

  -- it spares reserved numbers alone
  pub left-spares : (joined : Joined) → reserved_users keep hosts unowned.users ≡ joined.users.reserved → reserved_groups keep hosts unowned.groups ≡ joined.groups.reserved → All (SparesReserved joined) (map left hosts)
  left-spares joined uids gids = All-map (SparesReserved joined) left hosts (λ k d l.
      let host = get_or hosts k d in
      let there : Contains hosts host = (k, l, get_or_default hosts k host d l) in
      record {
        users = λ uid spared. subst (λ rs. is_reserved rs uid ≡ true) uids ((spared_reserved keep hosts unowned host uid there).0 spared);
        groups = λ gid spared. subst (λ rs. is_reserved rs gid ≡ true) gids ((spared_reserved keep hosts unowned host gid there).1 spared);
      })

-- ---- an empty text

no_fault : first_fault keep_fault [] [] ≡ None
unfolding first_fault
no_fault = refl

abbrev no_keep : KeepText
no_keep = record { users = nothing_kept; groups = nothing_kept }

none_read : keep_of [] ≡ Ok no_keep
unfolding keep_of
none_read = ap (λ ls. unless (first_fault keep_fault [] ls) (kept_on ls)) lines-empty ∙ ap (λ f. unless f (kept_on [])) no_fault

-- all rows are left, and no number is reserved
pub all-left : (hosts : List Host) (unowned : UnownedNumbers) → All SparesNothing hosts → others_read (keeping_nothing unowned) hosts ≡ Ok (record { hosts = hosts; reserved_users = []; reserved_groups = [] })
unfolding others_read
all-left hosts unowned none =
    let nothing = empty_keeps_nothing no_keep hosts none_read in
    let unsparing : (host : Host) → SparesNothing host → record host { spared_users = []; spared_groups = [] } ≡ host = λ host no. λ i. record host { spared_users = sym no.users i; spared_groups = sym no.groups i } in
    let left_by = without_kept no_keep hosts unowned in
    let same : map left_by hosts ≡ hosts = map_fixed left_by hosts (All-weaker SparesNothing (λ host. left_by host ≡ host) (λ host no. nothing.others unowned host ∙ unsparing host no) hosts none) in
    rw none_read (λ i. Ok (record { hosts = same i; reserved_users = nothing.uids unowned.users i; reserved_groups = nothing.gids unowned.groups i }))
