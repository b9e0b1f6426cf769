-- A plan that is taken back.
use Rattle.std.proofs.Common.{◌≡◌, ◌≢◌, ◌==◌, ℕ, suc, true, false, List, [], ◌∷◌, ◌++◌, map, take, None, get_or, refl, sym, ◌∙◌, ap, inl, inr, arith}
use Rattle.std.specs.List.{All, find, flat_map}
use Rattle.std.specs.Str.{bytes_eq}
use Rattle.std.proofs.lemmas.Bool.{cases_Bool, and_parts, eqb-true}
use Rattle.std.proofs.lemmas.List.Elements.{All-nil, All-cons, All-head, All-tail}
use Rattle.std.proofs.lemmas.List.Kept.{AllPairs-cons}
use Rattle.hosts_join.specs.Site.{Joined}
use Rattle.hosts_join.proofs.Grouping.{bytes_same, bytes_refl}
use Rattle.mtree_inv.specs.Files.{HaveDistinctFiles}
use Rattle.mtree_inv.specs.declared.entry.Entry.{Entry}
use Rattle.ownership.specs.declared.mapping.Mappings.{Mappings}
use Rattle.reown_plan.specs.declared.plan.Owner.{Owner}
use Rattle.reown_plan.specs.declared.plan.Record.{Record}
use Rattle.reown_plan.specs.Records.{record_of}
use Rattle.reown_plan.specs.Owners.{owner_of, owner_eq}
use Rattle.reown_plan.specs.PlanData.{PlanRecord, PlanData, HaveDistinctPaths}
use Rattle.reown_reverse.specs.Reverse.{reversed_record, reversed_records, reversed, at_owner}
use Rattle.reown_plan.specs.Spelling.{line, lines, IsLawfulRecord, IsLawful}
use Rattle.reown_plan.specs.Target.{records_to, owner_after, target, plan_of}
use Rattle.reown_plan.proofs.Keeping.{owner_after-target}

abbrev owner-with : ℕ → ℕ → Owner
owner-with uid gid = record { uid = uid; gid = gid }

same-owner : (a b : Owner) → owner_eq a b ≡ true → a ≡ b
same-owner a b e =
    let p = and_parts (a.uid == b.uid) (a.gid == b.gid) e in
    let u : a.uid ≡ b.uid = eqb-true a.uid b.uid p.0 in
    let g : a.gid ≡ b.gid = eqb-true a.gid b.gid p.1 in
    ap (λ (x : ℕ). owner-with x a.gid) u ∙ ap (owner-with b.uid) g

not-same : (p q : List ℕ) → p ≢ q → bytes_eq p q ≡ false
not-same p q ne = elim (cases_Bool (bytes_eq p q)) [ inl t ↦ absurd (ne (bytes_same p q t)) | inr f ↦ f ]

records-twice : (records : List PlanRecord) → reversed_records (reversed_records records) ≡ records
records-twice [] = refl
records-twice (r ∷ records) = ap (λ (rs : List PlanRecord). r ∷ rs) (records-twice records)

pub reversed-twice : (plan : PlanData) → reversed (reversed plan) ≡ plan
reversed-twice plan = ap (λ (rs : List PlanRecord). record { host = plan.host; records = rs }) (records-twice plan.records)

reversed-lawful-record : (r : PlanRecord) → IsLawfulRecord r → IsLawfulRecord (reversed_record r)
reversed-lawful-record r lawful = record { before = lawful.after; after = lawful.before; differ = λ e. lawful.differ (sym e); path = lawful.path }

reversed-lawful-records : (records : List PlanRecord) → All IsLawfulRecord records → All IsLawfulRecord (reversed_records records)
reversed-lawful-records [] lawful = All-nil IsLawfulRecord
reversed-lawful-records (r ∷ records) lawful =
    All-cons IsLawfulRecord (reversed_record r) (reversed_records records) (reversed-lawful-record r (All-head IsLawfulRecord r records lawful))
    (reversed-lawful-records records (All-tail IsLawfulRecord r records lawful))

-- another path than this one, in a reverse as in the plan
other-paths : (path : List ℕ) (records : List PlanRecord) → All (λ (r : PlanRecord). path ≢ r.path) records → All (λ (r : PlanRecord). path ≢ r.path) (reversed_records records)
other-paths path [] apart = All-nil (λ (r : PlanRecord). path ≢ r.path)
other-paths path (r ∷ records) apart =
    All-cons (λ (d : PlanRecord). path ≢ d.path) (reversed_record r) (reversed_records records) (All-head (λ (d : PlanRecord). path ≢ d.path) r records apart)
    (other-paths path records (All-tail (λ (d : PlanRecord). path ≢ d.path) r records apart))

reversed-distinct : (records : List PlanRecord) → HaveDistinctPaths records → HaveDistinctPaths (reversed_records records)
reversed-distinct [] apart = λ i j d lt within. absurd (omega arith)
reversed-distinct (r ∷ records) apart =
    let later : All (λ (d : PlanRecord). r.path ≢ d.path) records = λ k d within. apart 0 (suc k) d (omega arith) (omega arith) in
    let rest = reversed-distinct records (λ i j d lt within. apart (suc i) (suc j) d (omega arith) (omega arith)) in
    AllPairs-cons (λ (a b : PlanRecord). a.path ≢ b.path) (reversed_record r) (reversed_records records) (other-paths r.path records later) rest

pub reversed-lawful : (plan : PlanData) → IsLawful plan → IsLawful (reversed plan)
reversed-lawful plan lawful = record {
  host = lawful.host;
  records = reversed-lawful-records plan.records lawful.records;
  distinct = reversed-distinct plan.records lawful.distinct;
}

-- ---- what a reverse says

pub same-paths : (records : List PlanRecord) → map (λ (r : PlanRecord). r.path) (reversed_records records) ≡ map (λ (r : PlanRecord). r.path) records
same-paths [] = refl
same-paths (r ∷ records) = ap (λ (ps : List (List ℕ)). r.path ∷ ps) (same-paths records)

pub old-from-new : (records : List PlanRecord) → map (λ (r : PlanRecord). r.before) (reversed_records records) ≡ map (λ (r : PlanRecord). r.after) records
old-from-new [] = refl
old-from-new (r ∷ records) = ap (λ (os : List Owner). r.after ∷ os) (old-from-new records)

pub new-from-old : (records : List PlanRecord) → map (λ (r : PlanRecord). r.after) (reversed_records records) ≡ map (λ (r : PlanRecord). r.before) records
new-from-old [] = refl
new-from-old (r ∷ records) = ap (λ (os : List Owner). r.before ∷ os) (new-from-old records)

-- ---- the text of a reverse

-- the line that gives the file of a record back what it had
abbrev pub reversed-line : Record → List ℕ
reversed-line r = line (reversed_record (record_of r))

pub reversed-lines : (records : List Record) → flat_map reversed-line records ≡ lines (reversed_records (map record_of records))
reversed-lines [] = refl
reversed-lines (r ∷ records) = ap (λ (text : List ℕ). reversed-line r ++ text) (reversed-lines records)

pub reversed-text : (start text new tail : List ℕ) (items : List Record) (records : List PlanRecord) (i : ℕ) → text ≡ start ++ flat_map reversed-line (take i items) → take i items ≡ items → map record_of items ≡ records → new ≡ text ++ tail → new ≡ start ++ lines (reversed_records records) ++ tail
reversed-text start text new tail items records i before all same after =
    let whole : flat_map reversed-line (take i items) ≡ lines (reversed_records records) = ap (flat_map reversed-line) all ∙ reversed-lines items ∙ ap (λ (rs : List PlanRecord). lines (reversed_records rs)) same in
    after ∙ ap (λ (t : List ℕ). t ++ tail) (before ∙ ap (λ (t : List ℕ). start ++ t) whole)

-- ---- the owners after a reverse

module _ (to : Entry → Owner) where
  no-reverse : (path : List ℕ) (files : List Entry) → All (λ f. path ≢ f.path) files → find (λ c. bytes_eq path c.path) (reversed_records (records_to to files)) ≡ None
  no-reverse path [] none = refl
  no-reverse path (f ∷ files) none =
      let rest = no-reverse path files (All-tail (λ (f : Entry). path ≢ f.path) f files none) in
      let here : bytes_eq path f.path ≡ false = not-same path f.path (none 0 f (omega arith)) in
      elim (cases_Bool (owner_eq (owner_of f) (to f))) [
        | inl t ↦ rw t rest
        | inr n ↦ rw (n, here) rest
      ]

  -- what a reverse leaves of a file that the plan has left at its target
  abbrev left : List Entry → Entry → Owner
  left files f = owner_after (reversed_records (records_to to files)) (at_owner (to f) f)

  other-reverse : (f g : Entry) (files : List Entry) → g.path ≢ f.path → left (f ∷ files) g ≡ left files g
  other-reverse f g files ne = elim (cases_Bool (owner_eq (owner_of f) (to f))) [
    | inl t ↦ rw t refl
    | inr n ↦ rw (n, not-same g.path f.path ne) refl
  ]

  first-reverse : (f : Entry) (files : List Entry) → All (λ g. f.path ≢ g.path) files → left (f ∷ files) f ≡ owner_of f
  first-reverse f files apart = elim (cases_Bool (owner_eq (owner_of f) (to f))) [
    | inl t ↦ rw (t, no-reverse f.path files apart) (sym (same-owner (owner_of f) (to f) t))
    | inr n ↦ rw (n, bytes_refl f.path) refl
  ]

  each-back : (files : List Entry) → HaveDistinctFiles files → All (λ f. left files f ≡ owner_of f) files
  each-back [] apart = λ k d h. absurd (omega arith)
  each-back (f ∷ files) apart =
      let later : All (λ (g : Entry). f.path ≢ g.path) files = λ k d h. apart 0 (suc k) d (omega arith) (omega arith) in
      let rest = each-back files (λ i j d h l. apart (suc i) (suc j) d (omega arith) (omega arith)) in
      All-cons (λ (g : Entry). left (f ∷ files) g ≡ owner_of g) f files (first-reverse f files later)
      (λ k d h. other-reverse f _ files (λ e. later k d h (sym e)) ∙ rest k d h)

pub takes-back : (site : Joined) (m : Mappings) (host : ℕ) (files : List Entry) → HaveDistinctFiles files
    → All (λ f. owner_after (reversed_records (plan_of site m host files)) (at_owner (owner_after (plan_of site m host files) f) f) ≡ owner_of f) files
takes-back site m host files apart = λ k d h.
    let to = target site m host in
    let f = get_or files k d in
    ap (λ (o : Owner). owner_after (reversed_records (plan_of site m host files)) (at_owner o f)) (owner_after-target to files apart k d h) ∙ each-back to files apart k d h
