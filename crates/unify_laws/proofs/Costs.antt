-- The cost of a map is that of its mappings.
use Rattle.std.proofs.Common.{◌≡◌, ℕ, suc, ◌+◌, cond, Bool, List, [], ◌∷◌, map, Option, Some, None, refl, sym, ap, ◌∙◌, arith, inl, inr}
use Rattle.std.specs.List.{sum_by, slice_get}
use Rattle.std.specs.Str.{bytes_eq}
use Rattle.std.specs.Prelude.{not, ◌==◌, if◌then◌else◌}
use Rattle.std.proofs.lemmas.Bool.{cases_eq, eq-eqb, ne_eqb}
use Rattle.std.proofs.lemmas.List.Sums.{sum_by-append, sum_by-cons}
use Rattle.mtree_inv.specs.declared.entry.Entry.{Entry}
use Rattle.hosts_join.specs.Accounts.{Account, Accounts, Pair, no_account, owner}
use Rattle.hosts_join.specs.Kinds.{user_at, group_at}
use Rattle.hosts_join.specs.Laws.{IsOwnedAsTold}
use Rattle.hosts_join.specs.Pairs.{number_of}
use Rattle.hosts_join.specs.Rules.{account}
use Rattle.hosts_join.specs.declared.host.Host.{Host}
use Rattle.hosts_join.proofs.Grouping.{bytes_same}
use Rattle.hosts_join.proofs.Pairing.{place-holds}
use Rattle.hosts_join.proofs.Refusals.{count_by-of-map}
use Rattle.ownership.specs.Costs.{changes}
use Rattle.ownership.specs.Costs as joined
use Rattle.ownership.specs.Files.{Added, File}
use Rattle.ownership.specs.Mappings.{number_at}
use Rattle.unify_texts.specs.WrittenMap.{SayMapping}
use Rattle.unify.specs.Cost.{changed}
use Rattle.unify.specs.Reading.{added_on, added_from}
use Rattle.unify_laws.specs.Laws.{CostsAgree}

-- ---- a field of a file

pub same_number : (n v : ℕ) → (if n == v then 0 else 1) ≡ cond {A = ℕ} (not (v == n)) 1 0
same_number n v = elim (cases_eq n v) [
  | inl e ↦
      let left : (if n == v then 0 else 1) ≡ 0 = ap (λ (b : Bool). cond {A = ℕ} b 0 1) (eq-eqb n v e) in
      let right : cond {A = ℕ} (not (v == n)) 1 0 ≡ 0 = ap (λ (b : Bool). cond {A = ℕ} (not b) 1 0) (eq-eqb v n (sym e)) in
      left ∙ sym right
  | inr ne ↦
      let left : (if n == v then 0 else 1) ≡ 1 = ap (λ (b : Bool). cond {A = ℕ} b 0 1) (ne_eqb n v ne) in
      let right : cond {A = ℕ} (not (v == n)) 1 0 ≡ 1 = ap (λ (b : Bool). cond {A = ℕ} (not b) 1 0) (ne_eqb v n (λ e. ne (sym e))) in
      left ∙ sym right
]

-- a field changes by the pairs exactly where it does by the mapping
field_same : (a : Accounts) (m : List ℕ) (pairs : List Pair) → SayMapping a m pairs → (h v : ℕ) (told : Option (List ℕ)) → IsOwnedAsTold a.names h v told → changed pairs told v ≡ cond {A = ℕ} (changes m (owner a.names h v) v) 1 0
field_same a m pairs say h v None is = ap (λ o. cond {A = ℕ} (changes m o v) 1 0) (sym is)
field_same a m pairs say h v (Some name) is =
    let at = place-holds (λ (x : Account). bytes_eq name x.name) a.names is.0 no_account is.2 in
    let numbered : number_of pairs name ≡ Some (number_at m is.0) = ap (number_of pairs) (bytes_same name (account a is.0).name at.1) ∙ say.numbers is.0 at.0 in
    rw numbered (same_number (number_at m is.0) v) ∙ ap (λ o. cond {A = ℕ} (changes m o v) 1 0) (sym is.1)

-- ---- the files of a host

module _ {X Y : Type 0} (f : X → ℕ) (g : Y → ℕ) (to : X → Y) (same : (x : X) → f x ≡ g (to x)) where
  sums_along : (xs : List X) → sum_by f xs ≡ sum_by g (map to xs)
  sums_along [] = refl
  sums_along (x ∷ xs) = omega (arith, sum_by-cons f x xs, sum_by-cons g (to x) (map to xs), same x, sums_along xs)

-- ---- the files of all hosts

module _ (f : Host → Entry → ℕ) (g : Added → ℕ) where
  host_sums : (start : ℕ) (hosts : List (Host × List Entry)) → ((k : ℕ) (host : Host) (files : List Entry) → slice_get hosts k ≡ Some (host, files) → (e : Entry) → f host e ≡ g (added_on (start + k) e))
      → sum_by (λ here. sum_by (f here.0) here.1) hosts ≡ sum_by g (added_from start hosts)
  host_sums start [] same = refl
  host_sums start (h ∷ hs) same =
      let first : sum_by (f h.0) h.1 ≡ sum_by g (map (added_on start) h.1) = sums_along (f h.0) g (added_on start) (λ e.
      let here : start + 0 ≡ start = omega arith in
      same 0 h.0 h.1 refl e ∙ ap (λ i. g (added_on i e)) here) h.1 in
      let rest : sum_by (λ (here : Host × List Entry). sum_by (f here.0) here.1) hs ≡ sum_by g (added_from (start + 1) hs) = host_sums (start + 1) hs (λ k host files there e.
      let behind : start + suc k ≡ (start + 1) + k = omega arith in
      same (suc k) host files there e ∙ ap (λ i. g (added_on i e)) behind) in
      omega (arith, sum_by-cons (λ (here : Host × List Entry). sum_by (f here.0) here.1) h hs, first, rest, sum_by-append g (map (added_on start) h.1) (added_from (start + 1) hs))

-- pick: of the uid and the gid of a file, the number of the kind
kind_agrees : (pick : ℕ → ℕ → ℕ) (told : Host → ℕ → Option (List ℕ)) (a : Accounts) (m : List ℕ) (pairs : List Pair) (hosts : List (Host × List Entry)) → SayMapping a m pairs
    → ((h : ℕ) (host : Host) (files : List Entry) → slice_get hosts h ≡ Some (host, files) → (v : ℕ) → IsOwnedAsTold a.names h v (told host v))
    → sum_by (λ here. sum_by (λ file. changed pairs (told here.0 (pick file.uid file.gid)) (pick file.uid file.gid)) here.1) hosts ≡ joined.cost_of a (map (λ f. record { host = f.host; number = pick f.uid f.gid }) (added_from 0 hosts)) m
kind_agrees pick told a m pairs hosts say known =
    let changes_at = λ (i v : ℕ). cond {A = ℕ} (changes m (owner a.names i v) v) 1 0 in
    host_sums (λ (host : Host) (file : Entry). changed pairs (told host (pick file.uid file.gid)) (pick file.uid file.gid)) (λ (f : Added). changes_at f.host (pick f.uid f.gid)) 0 hosts
    (λ k host files here e.
    let from_zero : k ≡ 0 + k = omega arith in
    let v = pick e.uid e.gid in
    field_same a m pairs say k v (told host v) (known k host files here v) ∙ ap (λ i. changes_at i v) from_zero)
    ∙ sym (count_by-of-map (λ (f : File). changes m (owner a.names f.host f.number) f.number) (λ (f : Added). record { host = f.host; number = pick f.uid f.gid }) (added_from 0 hosts))

pub costs_agree : CostsAgree
costs_agree site m printed whole users groups =
    let one = kind_agrees (λ uid gid. uid) (λ host. user_at host.users) site.joined.users m.users printed.users site.hosts users (λ h host files here. (whole.each_host h host files here).known.users) in
    let two = kind_agrees (λ uid gid. gid) (λ host. group_at host.groups) site.joined.groups m.groups printed.groups site.hosts groups (λ h host files here. (whole.each_host h host files here).known.groups) in
    λ i. record { users = one i; groups = two i }
