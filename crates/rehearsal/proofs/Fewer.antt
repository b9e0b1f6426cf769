-- There are no more records than files, where each record's file is there.
use Rattle.std.proofs.Common.{◌≡◌, ◌≢◌, inl, inr, ◌<◌, ◌≤◌, ℕ, Bool, true, false, cond, ◌||◌, List, [], ◌∷◌, ◌++◌, Option, None, Some, AllPairs, length, map, get_or, find, is_some, option_map, refl, sym, ◌∙◌, ap, subst, arith}
use Rattle.std.specs.List.{list_any}
use Rattle.std.specs.Str.{bytes_eq}
use Rattle.std.specs.Cmp.{decided}
use Rattle.std.specs.Cmp.Lexicographic.{bytes_decides}
use Rattle.std.proofs.lemmas.List.{length-map, get_or-map}
use Rattle.std.proofs.lemmas.Map.Made.{length-le_from_is_member, IsDistinct-from_AllPairs}
use Rattle.idtext.specs.First.{first_fault}
use Rattle.idtext.proofs.FirstLemmas.{none_of_both}
use Rattle.mtree_inv.specs.declared.entry.Entry.{Entry}
use Rattle.reown_plan.specs.Owners.{owner_of}
use Rattle.reown_plan.specs.PlanData.{PlanRecord, HaveDistinctPaths}
use Rattle.reown_runner.proofs.Cellwise.{either}
use Rattle.rehearsal.specs.Rehearsing.{found_fault, record_fault}

abbrev paths_of : List PlanRecord → List (List ℕ)
paths_of records = map (λ r. r.path) records

abbrev file_paths : List Entry → List (List ℕ)
file_paths files = map (λ e. e.path) files

found_some : {X : Type 0} (b : Bool) (x : X) (o : Option X) → is_some (cond b (Some x) o) ≡ (b || is_some o)
found_some true x o = refl
found_some false x o = refl

-- a file that is found has its path among those of the files
is_listed : (files : List Entry) (path : List ℕ) → is_some (find (λ e. bytes_eq path e.path) files) ≡ list_any (bytes_eq path) (file_paths files)
is_listed [] path = refl
is_listed (e ∷ files) path = found_some (bytes_eq path e.path) e (find (λ f. bytes_eq path f.path) files) ∙ ap (λ b. bytes_eq path e.path || b) (is_listed files path)

is_found : (r : PlanRecord) (has : Option Entry) → found_fault r (option_map owner_of has) ≡ None → is_some has ≡ true
is_found r None h = absurd cc
is_found r (Some file) h = refl

or_true : (a b : Bool) → a || b ≡ true → a ≡ false → b ≡ true
or_true true b h other = absurd cc
or_true false b h other = h

module _ (files : List Entry) where
  all_listed : (records seen : List PlanRecord) → first_fault (record_fault files) seen records ≡ None → (q : List ℕ) → list_any (bytes_eq q) (paths_of records) ≡ true → list_any (bytes_eq q) (file_paths files) ≡ true
  unfolding first_fault
  all_listed [] seen none q h = absurd cc
  all_listed (r ∷ records) seen none q h =
      let both = none_of_both (record_fault files seen r) (first_fault (record_fault files) (seen ++ r ∷ []) records) none in
      elim (either (bytes_eq q r.path)) [
        | inl same ↦
            let here : list_any (bytes_eq r.path) (file_paths files) ≡ true = sym (is_listed files r.path) ∙ is_found r (find (λ e. bytes_eq r.path e.path) files) both.0 in
            subst (λ p. list_any (bytes_eq p) (file_paths files) ≡ true) (sym ((bytes_decides q r.path).0 same)) here
        | inr other ↦ all_listed records (seen ++ r ∷ []) both.1 q (or_true (bytes_eq q r.path) (list_any (bytes_eq q) (paths_of records)) h other)
      ]

apart_at : (records : List PlanRecord) → HaveDistinctPaths records → AllPairs (λ x y. x ≢ y) (paths_of records)
apart_at records apart i j d l within e =
    let long : j < length records = omega (arith, within, length-map records (λ (r : PlanRecord). r.path)) in
    let none : PlanRecord = record { before = record { uid = 0; gid = 0 }; after = record { uid = 0; gid = 0 }; path = d } in
    let at : (k : ℕ) → k < length records → get_or (paths_of records) k d ≡ (get_or records k none).path = λ k below. get_or-map (λ (r : PlanRecord). r.path) records k none d below in
    apart i j none l long (sym (at i (omega (arith, l, long))) ∙ e ∙ at j long)

pub records_few : (files : List Entry) (records : List PlanRecord) → HaveDistinctPaths records → first_fault (record_fault files) [] records ≡ None → length records ≤ length files
records_few files records apart none =
    let few = length-le_from_is_member (decided bytes_eq bytes_decides) (paths_of records) (file_paths files) (IsDistinct-from_AllPairs bytes_decides (paths_of records) (apart_at records apart)) (all_listed files records [] none) in
    omega (arith, few, length-map records (λ (r : PlanRecord). r.path), length-map files (λ (e : Entry). e.path))
