-- What the faults of the host list and of primary groups say.
use Rattle.std.proofs.Common.{◌≡◌, ℕ, zero, suc, ◌∷◌, ◌≤◌, ◌==◌, Bool, true, false, cond, List, [], length, take, Some, None, Result, Ok, Err, is_some, refl, sym, ap, ◌∙◌, subst, arith, inl, inr}
use Rattle.std.specs.Prelude.{nat_lt}
use Rattle.std.specs.List.{Contains, find}
use Rattle.std.specs.Str.{bytes_eq}
use Rattle.std.proofs.lemmas.Bool.{cases_Bool, cases_eq, eq-eqb, eqb-true, false≢true, ltb-false, ltb-true, true≢false}
use Rattle.std.proofs.lemmas.List.Folds.{Any-from_list_any}
use Rattle.std.proofs.lemmas.Option.{same_Some}
use Rattle.std.proofs.lemmas.Slice.Eq.{bytes_eq-Decides}
use Rattle.accounts.specs.Rows.{Group, Passwd}
use Rattle.idtext.specs.First.{first_fault, unless}
use Rattle.idtext.proofs.OkLemmas.{unless_ok}
use Rattle.hosts_join.specs.BadLines.{AllMayStand, IsFirstBad}
use Rattle.hosts_join.specs.Checks.{gid_fault, has_host, hosts_checked, is_host_name, name_fault, primary_checked}
use Rattle.hosts_join.specs.HostFaults.{AcceptedHostsAreListed, AcceptedUsersHaveGroups, AreListed, HasPrimaryGroup, HostFaultsAreThere, IsNameOfSome, IsOfHosts, MayBeListed, PrimaryFaultsAreThere}
use Rattle.hosts_join.specs.HostNames.{IsOfHostBytes}
use Rattle.hosts_join.specs.declared.fault.SiteFault.{SiteFault}
use Rattle.hosts_join.specs.declared.fault.SiteFault.TheVariants.{BadHostName, HostCount, HostTwice, NoPrimaryGroup, PinDisagrees, PinReserved, PinClash, PoolTooSmall, Memory}
use Rattle.hosts_join.specs.declared.host.Host.{Host}
use Rattle.hosts_join.specs.declared.texts.HostText.{HostText}
use Rattle.hosts_join.proofs.BadLines.{faulty, first-bad, no-bad}
use Rattle.hosts_join.proofs.HostNames.{names-exactly}
use Rattle.hosts_join.proofs.StandingRows.{contains-any}

-- ---- the name of a host

name-of-some : (before : List HostText) (name : List ℕ) → has_host before name ≡ true → IsNameOfSome before name
name-of-some before name h =
    let any = Any-from_list_any (λ (host : HostText). bytes_eq host.name name) before h in
    (any.1, (any.0, any.2, any.3), (bytes_eq-Decides any.1.name name).0 any.4)

some-has-name : (before : List HostText) (name : List ℕ) → IsNameOfSome before name → has_host before name ≡ true
some-has-name before name (host, there, is) = contains-any (λ (h : HostText). bytes_eq h.name name) before host ((bytes_eq-Decides host.name name).1 is) there

-- what a fault tells of a host, after these
abbrev IsOfName : SiteFault → List HostText → HostText → Type 0
IsOfName (BadHostName name) before host = (host.name ≡ name) × (¬ IsOfHostBytes name)
IsOfName (HostTwice name) before host = (host.name ≡ name) × IsNameOfSome before name
IsOfName other before host = ⊥

unlawful : (name : List ℕ) → is_host_name name ≡ false → ¬ IsOfHostBytes name
unlawful name bad is = true≢false (sym ((names-exactly name).1 is) ∙ bad)

lists : (before : List HostText) (host : HostText) → name_fault before host ≡ None → MayBeListed before host
lists before host h = elim (cases_Bool (is_host_name host.name)) [
  | inr bad ↦ let h' = rw bad at h in absurd (cc)
  | inl lawful ↦ elim (cases_Bool (has_host before host.name)) [
    | inl twice ↦ let h' = rw (lawful, twice) at h in absurd (cc)
    | inr new ↦ ((names-exactly host.name).0 lawful, λ some. true≢false (sym (some-has-name before host.name some) ∙ new))
  ]
]

lists-not : (before : List HostText) (host : HostText) (f : SiteFault) → name_fault before host ≡ Some f → IsOfName f before host × (¬ MayBeListed before host)
lists-not before host f h = elim (cases_Bool (is_host_name host.name)) [
  | inr bad ↦
      let h' = rw bad at h in (
        subst (λ (g : SiteFault). IsOfName g before host) (same_Some (BadHostName host.name) f h') (refl, unlawful host.name bad),
        λ may. unlawful host.name bad may.0,
      )
  | inl lawful ↦ elim (cases_Bool (has_host before host.name)) [
    | inl twice ↦
        let h' = rw (lawful, twice) at h in
        let some = name-of-some before host.name twice in
        (subst (λ (g : SiteFault). IsOfName g before host) (same_Some (HostTwice host.name) f h') (refl, some), λ may. may.1 some)
    | inr new ↦ let h' = rw (lawful, new) at h in absurd (cc)
  ]
]

-- ---- the list of hosts

some-there : (n : ℕ) → (n == 0) ≡ false → 1 ≤ n
some-there n e = elim (cases_eq n 0) [ inl is ↦ absurd (true≢false (sym (eq-eqb n 0 is) ∙ e)) | inr other ↦ omega (arith, other) ]

accepted : (hosts : List HostText) (done : Unit {0}) (none many : Bool) → (length hosts == 0) ≡ none → nat_lt 64 (length hosts) ≡ many
    → ◌≡◌ {A = Result (Unit {0}) SiteFault} (cond none (Err (HostCount 0)) (cond many (Err (HostCount (length hosts))) (unless (first_fault name_fault [] hosts) tt))) (Ok done) → AreListed hosts
accepted hosts done true many e f h = absurd (cc)
accepted hosts done false true e f h = absurd (cc)
accepted hosts done false false e f h = record {
  some = some-there (length hosts) e;
  few = ltb-false 64 (length hosts) f;
  each = no-bad MayBeListed name_fault IsOfName lists lists-not hosts (unless_ok (first_fault name_fault [] hosts) tt done h).0;
}

pub accepted_hosts_are_listed : AcceptedHostsAreListed
unfolding hosts_checked
accepted_hosts_are_listed hosts done h = accepted hosts done (length hosts == 0) (nat_lt 64 (length hosts)) refl refl h

of-name : (hosts : List HostText) (f : SiteFault) → (before : ℕ) × (bad : IsFirstBad MayBeListed hosts before) × IsOfName f (take before hosts) bad.item → IsOfHosts f hosts
of-name hosts (BadHostName name) (before, bad, told) = (before, bad, told.0, told.1)
of-name hosts (HostTwice name) (before, bad, told) = (before, bad, told.0, told.1)
of-name hosts (HostCount count) (before, bad, told) = absurd told
of-name hosts (NoPrimaryGroup host user) (before, bad, told) = told
of-name hosts (PinDisagrees kind name first second) (before, bad, told) = told
of-name hosts (PinReserved kind number name by) (before, bad, told) = told
of-name hosts (PinClash kind number first second) (before, bad, told) = told
of-name hosts (PoolTooSmall kind class names numbers) (before, bad, told) = told
of-name hosts Memory (before, bad, told) = told

same-fault : {V : Type 0} (f g : SiteFault) → ◌≡◌ {A = Result V SiteFault} (Err f) (Err g) → f ≡ g
same-fault f g h = cc

refused : (hosts : List HostText) (fault : SiteFault) (none many : Bool) → (length hosts == 0) ≡ none → nat_lt 64 (length hosts) ≡ many
    → ◌≡◌ {A = Result (Unit {0}) SiteFault} (cond none (Err (HostCount 0)) (cond many (Err (HostCount (length hosts))) (unless (first_fault name_fault [] hosts) tt))) (Err fault) → IsOfHosts fault hosts
refused hosts fault true many e f h =
    let empty = eqb-true (length hosts) 0 e in
    subst (λ (g : SiteFault). IsOfHosts g hosts) (same-fault {V = Unit {0}} (HostCount 0) fault h) (sym empty, inl (omega (arith, empty)))
refused hosts fault false true e f h =
    subst (λ (g : SiteFault). IsOfHosts g hosts) (same-fault {V = Unit {0}} (HostCount (length hosts)) fault h) (refl, inr (ltb-true 64 (length hosts) f))
refused hosts fault false false e f h =
    of-name hosts fault (first-bad MayBeListed name_fault IsOfName lists lists-not hosts fault (faulty (first_fault name_fault [] hosts) tt fault h))

pub host_faults_are_there : HostFaultsAreThere
unfolding hosts_checked
host_faults_are_there hosts fault h = refused hosts fault (length hosts == 0) (nat_lt 64 (length hosts)) refl refl h

-- ---- primary groups

module _ (host : Host) where
  abbrev Has : List Passwd → Passwd → Type 0
  Has before user = HasPrimaryGroup host user

  abbrev IsOfUser : SiteFault → List Passwd → Passwd → Type 0
  IsOfUser f before user = f ≡ NoPrimaryGroup host.name user.name

  found-group : (gid : ℕ) (groups : List Group) → is_some (find (λ (g : Group). gid == g.gid) groups) ≡ true → (group : Group) × Contains groups group × (group.gid ≡ gid)
  found-group gid [] h = absurd (false≢true h)
  found-group gid (g ∷ groups) h = elim (cases_Bool (gid == g.gid)) [
    | inl it ↦ (g, (0, omega arith, refl), sym (eqb-true gid g.gid it))
    | inr other ↦ let rest = found-group gid groups (rw other at h) in (rest.0, (suc rest.1.0, omega (arith, rest.1.1), rest.1.2), rest.2)
  ]

  group-found : (gid : ℕ) (groups : List Group) (group : Group) → Contains groups group → group.gid ≡ gid → is_some (find (λ (g : Group). gid == g.gid) groups) ≡ true
  group-found gid [] group there is = absurd (omega (arith, there.1))
  group-found gid (g ∷ groups) group (zero, lt, e) is =
      let same : (gid == g.gid) ≡ true = eq-eqb gid g.gid (sym (ap (λ (x : Group). x.gid) e ∙ is)) in
      rw same refl
  group-found gid (g ∷ groups) group (suc k, lt, e) is = elim (cases_Bool (gid == g.gid)) [
    | inl it ↦ rw it refl
    | inr other ↦ rw other (group-found gid groups group (k, omega (arith, lt), e) is)
  ]

  has : (before : List Passwd) (user : Passwd) → gid_fault host before user ≡ None → Has before user
  has before user h = elim (cases_Bool (is_some (find (λ (g : Group). user.gid == g.gid) host.groups))) [
    | inl it ↦ found-group user.gid host.groups it
    | inr none ↦ let h' = rw none at h in absurd (cc)
  ]

  has-not : (before : List Passwd) (user : Passwd) (f : SiteFault) → gid_fault host before user ≡ Some f → IsOfUser f before user × (¬ Has before user)
  has-not before user f h = elim (cases_Bool (is_some (find (λ (g : Group). user.gid == g.gid) host.groups))) [
    | inl it ↦ let h' = rw it at h in absurd (cc)
    | inr none ↦
        let h' = rw none at h in
        (sym (same_Some (NoPrimaryGroup host.name user.name) f h'), λ some. true≢false (sym (group-found user.gid host.groups some.0 some.1 some.2) ∙ none))
  ]

  pub users-have : (done : Unit {0}) → primary_checked host ≡ Ok done → AllMayStand Has host.users (length host.users)
  unfolding primary_checked
  users-have done h = no-bad Has (gid_fault host) IsOfUser has has-not host.users (unless_ok (first_fault (gid_fault host) [] host.users) tt done h).0

  pub user-lacks : (fault : SiteFault) → primary_checked host ≡ Err fault → (before : ℕ) × (bad : IsFirstBad Has host.users before) × (fault ≡ NoPrimaryGroup host.name bad.item.name)
  unfolding primary_checked
  user-lacks fault h = first-bad Has (gid_fault host) IsOfUser has has-not host.users fault (faulty (first_fault (gid_fault host) [] host.users) tt fault h)

pub accepted_users_have_groups : AcceptedUsersHaveGroups
accepted_users_have_groups host done h = users-have host done h

pub primary_faults_are_there : PrimaryFaultsAreThere
primary_faults_are_there host fault h = user-lacks host fault h
