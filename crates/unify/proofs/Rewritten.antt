-- What mappings are told to cost is what the plans of the hosts rewrite.
use Rattle.std.proofs.Common.{◌≡◌, ℕ, zero, suc, ◌+◌, cond, Bool, true, false, List, [], ◌∷◌, length, map, Option, Some, None, refl, sym, ap, ◌∙◌, arith}
use Rattle.std.specs.Prelude.{not, ◌==◌, ◌&&◌, filter, slice_index_or}
use Rattle.std.specs.List.{count_by, sum_by}
use Rattle.std.proofs.lemmas.Bool.{eq-eqb}
use Rattle.std.proofs.lemmas.List.Sums.{sum_by-append, sum_by-cons}
use Rattle.mtree_inv.specs.declared.entry.Entry.{Entry}
use Rattle.hosts_join.specs.Accounts.{Accounts, owner}
use Rattle.hosts_join.specs.declared.host.Host.{Host}
use Rattle.hosts_join.proofs.Refusals.{count_by-of-map}
use Rattle.ownership.specs.Costs.{changes, cost_of}
use Rattle.ownership.specs.Files.{Added, File}
use Rattle.ownership.specs.Mappings.{number_under}
use Rattle.ownership.specs.Sums.{sum_below}
use Rattle.ownership.proofs.SumsBelow.{sum_below-same}
use Rattle.reown_plan.specs.declared.plan.Owner.{Owner}
use Rattle.reown_plan.specs.Owners.{owner_eq, owner_of}
use Rattle.reown_plan.specs.PlanData.{PlanRecord}
use Rattle.reown_plan.specs.Target.{record_to, records_to, renumbered, target}
use Rattle.unify.specs.Reading.{added_from, added_on}
use Rattle.unify.specs.Rewritten.{PlansRewriteTheCost, changes_gid, changes_uid}

-- ---- the records of one host

-- the record of a file that keeps its owner changes neither number
same_uid : (a b : Owner) → not (owner_eq a b) ≡ false → not (a.uid == b.uid) ≡ false
same_uid a b = by (a.uid == b.uid) (a.gid == b.gid)
  where
    by : (u g : Bool) → not (u && g) ≡ false → not u ≡ false
    by true g is = refl
    by false g is = is

same_gid : (a b : Owner) → not (owner_eq a b) ≡ false → not (a.gid == b.gid) ≡ false
same_gid a b = by (a.uid == b.uid) (a.gid == b.gid)
  where
    by : (u g : Bool) → not (u && g) ≡ false → not g ≡ false
    by true g is = is
    by false g is = absurd (cc)

module _ (to : Entry → Owner) (counts : PlanRecord → Bool) (only : (e : Entry) → not (owner_eq (owner_of e) (to e)) ≡ false → counts (record_to to e) ≡ false) where
  abbrev one : PlanRecord → ℕ
  one r = cond {A = ℕ} (counts r) 1 0

  -- a file more, which has a record or has none
  one_more : (b : Bool) (e : Entry) (rest : List Entry) → (b ≡ false → counts (record_to to e) ≡ false) → sum_by one (map (record_to to) (cond b (e ∷ rest) rest)) ≡ one (record_to to e) + sum_by one (map (record_to to) rest)
  one_more true e rest none = sum_by-cons one (record_to to e) (map (record_to to) rest)
  one_more false e rest none = let nothing : one (record_to to e) ≡ 0 = ap (λ (b : Bool). cond {A = ℕ} b 1 0) (none refl) in omega (arith, nothing)

  of_files : (files : List Entry) → sum_by (λ (e : Entry). one (record_to to e)) files ≡ count_by counts (records_to to files)
  of_files [] = refl
  of_files (e ∷ files) =
      let kept = filter (λ (f : Entry). not (owner_eq (owner_of f) (to f))) files in
      omega (arith, sum_by-cons (λ (x : Entry). one (record_to to x)) e files, one_more (not (owner_eq (owner_of e) (to e))) e kept (only e), of_files files)

-- ---- the files of all hosts

-- the first term apart
sum_below-first : (f : ℕ → ℕ) (n : ℕ) → sum_below f (suc n) ≡ f 0 + sum_below (λ k. f (suc k)) n
unfolding sum_below
sum_below-first f zero = omega arith
sum_below-first f (suc n) = let rest = sum_below-first f n in omega (arith, rest)

module _ (of : Added → ℕ) where
  abbrev on_host : ℕ → List Entry → ℕ
  on_host host files = sum_by (λ (e : Entry). of (added_on host e)) files

  added_here : (host : ℕ) (files : List Entry) → sum_by of (map (added_on host) files) ≡ on_host host files
  added_here host [] = refl
  added_here host (e ∷ files) = omega (arith, sum_by-cons of (added_on host e) (map (added_on host) files), sum_by-cons (λ (x : Entry). of (added_on host x)) e files, added_here host files)

  abbrev files_in : List (Host × List Entry) → ℕ → List Entry
  files_in hosts host = slice_index_or (map (λ (here : Host × List Entry). here.1) hosts) host []

  abbrev at_place : ℕ → List (Host × List Entry) → ℕ → ℕ
  at_place start hosts place = on_host (start + place) (files_in hosts place)

  host_by_host : (start : ℕ) (hosts : List (Host × List Entry)) → sum_by of (added_from start hosts) ≡ sum_below (at_place start hosts) (length hosts)
  unfolding sum_below
  host_by_host start [] = refl
  host_by_host start (h ∷ hs) =
      let more : length (h ∷ hs) ≡ suc (length hs) = omega arith in
      let apart : sum_below (at_place start (h ∷ hs)) (length (h ∷ hs)) ≡ on_host (start + 0) h.1 + sum_below (λ place. on_host (start + suc place) (files_in hs place)) (length hs) =
      ap (sum_below (at_place start (h ∷ hs))) more ∙ sum_below-first (at_place start (h ∷ hs)) (length hs) in
      let here : on_host (start + 0) h.1 ≡ on_host start h.1 = let same : start + 0 ≡ start = omega arith in ap (λ host. on_host host h.1) same in
      let behind : sum_below (λ place. on_host (start + suc place) (files_in hs place)) (length hs) ≡ sum_below (at_place (start + 1) hs) (length hs) =
      sum_below-same (λ place. on_host (start + suc place) (files_in hs place)) (at_place (start + 1) hs) (length hs)
      (λ place within. let same : start + suc place ≡ (start + 1) + place = omega arith in ap (λ host. on_host host (files_in hs place)) same) in
      omega (arith, sum_by-append of (map (added_on start) h.1) (added_from (start + 1) hs), added_here start h.1, host_by_host (start + 1) hs, apart, here, behind)

-- ---- one kind

same_field : (a : Accounts) (m : List ℕ) (host v : ℕ) → changes m (owner a.names host v) v ≡ not (v == renumbered a m host v)
same_field a m host v = by (owner a.names host v)
  where
    by : (o : Option ℕ) → changes m o v ≡ not (v == number_under m o v)
    by (Some i) = refl
    by None = ap not (sym (eq-eqb v v refl))

-- the cost of a mapping is what is counted of the records, host by host
-- pick: of the uid and the gid of a file, the number of the kind
module _ (pick : ℕ → ℕ → ℕ) (a : Accounts) (m : List ℕ) (to : ℕ → Entry → Owner) (counts : PlanRecord → Bool)
    (is : (host : ℕ) (e : Entry) → counts (record_to (to host) e) ≡ not (pick e.uid e.gid == renumbered a m host (pick e.uid e.gid)))
    (only : (host : ℕ) (e : Entry) → not (owner_eq (owner_of e) (to host e)) ≡ false → counts (record_to (to host) e) ≡ false) where
  abbrev field : Added → Bool
  field f = changes m (owner a.names f.host (pick f.uid f.gid)) (pick f.uid f.gid)

  abbrev one_field : Added → ℕ
  one_field f = cond {A = ℕ} (field f) 1 0

  sums-same : {X : Type 0} (f g : X → ℕ) (xs : List X) → ((x : X) → f x ≡ g x) → sum_by f xs ≡ sum_by g xs
  sums-same f g [] same = refl
  sums-same f g (x ∷ xs) same = omega (arith, sum_by-cons f x xs, sum_by-cons g x xs, same x, sums-same f g xs same)

  on_one : (host : ℕ) (files : List Entry) → on_host one_field host files ≡ count_by counts (records_to (to host) files)
  on_one host files =
      sums-same (λ (e : Entry). one_field (added_on host e)) (λ (e : Entry). cond {A = ℕ} (counts (record_to (to host) e)) 1 0) files
      (λ e. ap (λ (b : Bool). cond {A = ℕ} b 1 0) (same_field a m host (pick e.uid e.gid) ∙ sym (is host e)))
      ∙ of_files (to host) counts (only host) files

  of_kind : (hosts : List (Host × List Entry)) → cost_of a (map (λ (f : Added). record { host = f.host; number = pick f.uid f.gid }) (added_from 0 hosts)) m
      ≡ sum_below (λ host. count_by counts (records_to (to host) (files_in one_field hosts host))) (length hosts)
  of_kind hosts =
      count_by-of-map (λ (f : File). changes m (owner a.names f.host f.number) f.number) (λ (f : Added). record { host = f.host; number = pick f.uid f.gid }) (added_from 0 hosts)
      ∙ host_by_host one_field 0 hosts
      ∙ sum_below-same (at_place one_field 0 hosts) (λ host. count_by counts (records_to (to host) (files_in one_field hosts host))) (length hosts)
      (λ host within. let same : 0 + host ≡ host = omega arith in ap (λ h. on_host one_field h (files_in one_field hosts host)) same ∙ on_one host (files_in one_field hosts host))

pub plans_rewrite_the_cost : PlansRewriteTheCost
plans_rewrite_the_cost site m =
    let to : ℕ → Entry → Owner = target site.joined m in
    let users = of_kind (λ uid gid. uid) site.joined.users m.users to changes_uid (λ host e. refl) (λ host e. same_uid (owner_of e) (to host e)) site.hosts in
    let groups = of_kind (λ uid gid. gid) site.joined.groups m.groups to changes_gid (λ host e. refl) (λ host e. same_gid (owner_of e) (to host e)) site.hosts in
    λ i. record { users = users i; groups = groups i }
