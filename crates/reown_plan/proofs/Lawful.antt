-- A written plan is lawful.
use Rattle.std.proofs.Common.{◌≡◌, ◌≢◌, ◌≤◌, ℕ, suc, Bool, true, false, not, List, [], ◌∷◌, length, Option, Some, None, refl, sym, ◌∙◌, ap, inl, inr, arith}
use Rattle.std.specs.List.{All, filter}
use Rattle.std.proofs.lemmas.Bool.{cases_Bool, cases_lt, eq-eqb, true≢false}
use Rattle.std.proofs.lemmas.List.{get_or_past}
use Rattle.std.proofs.lemmas.List.Elements.{All-nil, All-cons, All-head, All-tail, All-map, All-filter}
use Rattle.std.proofs.lemmas.List.Kept.{AllPairs-cons}
use Rattle.hosts_join.specs.Accounts.{owner}
use Rattle.hosts_join.specs.Site.{Joined}
use Rattle.hosts_join.specs.declared.host.Host.{Host}
use Rattle.mtree_inv.specs.Files.{IsLawfulFile, AreFiles, HaveDistinctFiles}
use Rattle.mtree_inv.specs.declared.entry.Entry.{Entry}
use Rattle.ownership.specs.Mappings.{IsMapping, number_under, number_at}
use Rattle.ownership.specs.declared.mapping.Mappings.{Mappings}
use Rattle.reown_plan.specs.declared.plan.Owner.{Owner}
use Rattle.reown_plan.specs.PlanData.{PlanRecord, HaveDistinctPaths}
use Rattle.reown_plan.specs.Owners.{owner_of, owner_eq}
use Rattle.reown_plan.specs.Spelling.{IsHostName, IsOwner, IsLawfulRecord, IsLawful}
use Rattle.reown_plan.specs.Target.{target, record_to, records_to, name_at, host_plan}

number_at-id : (m : List ℕ) → IsMapping m → (i : ℕ) → number_at m i ≤ 4294967294
number_at-id m lawful i = elim (cases_lt i (length m)) [
  | inl within ↦ lawful.ids i 0 within
  | inr past ↦ rw (get_or_past m i 0 past) (omega arith)
]

under-id : (m : List ℕ) → IsMapping m → (v : ℕ) → v ≤ 4294967294 → (index : Option ℕ) → number_under m index v ≤ 4294967294
under-id m lawful v id None = id
under-id m lawful v id (Some i) = number_at-id m lawful i

target-owner : (site : Joined) (m : Mappings) (host : ℕ) → IsMapping m.users → IsMapping m.groups → (f : Entry) → IsLawfulFile f → IsOwner (target site m host f)
target-owner site m host by_user by_group f lawful = (under-id m.users by_user f.uid lawful.uid (owner site.users.names host f.uid), under-id m.groups by_group f.gid lawful.gid (owner site.groups.names host f.gid))

owner_eq-refl : (a : Owner) → owner_eq a a ≡ true
owner_eq-refl a = rw (eq-eqb a.uid a.uid refl, eq-eqb a.gid a.gid refl) refl

differ : (a b : Owner) → owner_eq a b ≡ false → a ≢ b
differ a b other e = true≢false (sym (owner_eq-refl a) ∙ ap (owner_eq a) e ∙ other)

module _ (to : Entry → Owner) where
  lawful_records : (files : List Entry) → All IsLawfulFile files → All (λ f. IsOwner (to f)) files → All IsLawfulRecord (records_to to files)
  lawful_records [] lawful owners = All-nil IsLawfulRecord
  lawful_records (f ∷ files) lawful owners =
      let here = All-head IsLawfulFile f files lawful in
      let rest = lawful_records files (All-tail IsLawfulFile f files lawful) (All-tail (λ (g : Entry). IsOwner (to g)) f files owners) in
      elim (cases_Bool (owner_eq (owner_of f) (to f))) [
        | inl t ↦ rw t rest
        | inr n ↦ rw n (All-cons IsLawfulRecord (record_to to f) (records_to to files) (record { before = (here.uid, here.gid); after = All-head (λ (g : Entry). IsOwner (to g)) f files owners; differ = differ (owner_of f) (to f) n; path = here.path }) rest)
      ]

  distinct_records : (files : List Entry) → HaveDistinctFiles files → HaveDistinctPaths (records_to to files)
  distinct_records [] apart = λ i j d lt within. absurd (omega arith)
  distinct_records (f ∷ files) apart =
      let later : All (λ (g : Entry). f.path ≢ g.path) files = λ k d within. apart 0 (suc k) d (omega arith) (omega arith) in
      let rest = distinct_records files (λ i j d lt within. apart (suc i) (suc j) d (omega arith) (omega arith)) in
      let changed : Entry → Bool = λ g. not (owner_eq (owner_of g) (to g)) in
      let head : All (λ (r : PlanRecord). f.path ≢ r.path) (records_to to files) = All-map (λ (r : PlanRecord). f.path ≢ r.path) (record_to to) (filter changed files) (All-filter changed (λ (g : Entry). f.path ≢ g.path) files later) in
      elim (cases_Bool (owner_eq (owner_of f) (to f))) [
        | inl t ↦ rw t rest
        | inr n ↦ rw n (AllPairs-cons (λ (a b : PlanRecord). a.path ≢ b.path) (record_to to f) (records_to to files) head rest)
      ]

pub plan-lawful : (hosts : List Host) (site : Joined) (m : Mappings) (host : ℕ) (files : List Entry) → IsHostName (name_at hosts host) → IsMapping m.users → IsMapping m.groups → AreFiles files → IsLawful (host_plan hosts site m host files)
plan-lawful hosts site m host files name by_user by_group lawful =
    let to = target site m host in
    record {
      host = name;
      records = lawful_records to files lawful.lawful (λ k d within. target-owner site m host by_user by_group _ (lawful.lawful k d within));
      distinct = distinct_records to files lawful.distinct;
    }
