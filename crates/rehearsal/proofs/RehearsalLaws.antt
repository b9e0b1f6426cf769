-- Which file a rehearsal tells.
use Rattle.std.proofs.Common.{◌≡◌, ◌≢◌, ◌⊎◌, ℕ, suc, ◌<◌, Bool, true, false, cond, ◌||◌, ◌==◌, List, [], ◌∷◌, length, get_or, Option, None, Some, Ok, Err, All, Contains, inl, inr, refl, sym, ap, ◌∙◌, subst, arith}
use Rattle.std.specs.List.{find}
use Rattle.std.specs.Prelude.{Decides}
use Rattle.std.proofs.lemmas.List.{get_or_default}
use Rattle.std.specs.Option.{option_map}
use Rattle.std.specs.Str.{bytes_eq}
use Rattle.std.proofs.lemmas.Bool.{cases_order}
use Rattle.std.proofs.lemmas.Bool.Decides.{Decides-and, Decides-eqb, Decides-like, Decides-or, not_from_Decides}
use Rattle.std.proofs.lemmas.List.Elements.{All-contains, All-cons, All-nil}
use Rattle.std.proofs.lemmas.Slice.Eq.{bytes_eq-Decides}
use Rattle.idtext.specs.First.{◌>>=◌, first_fault, unless}
use Rattle.idtext.proofs.OkLemmas.{unless_ok}
use Rattle.mtree_inv.specs.Files.{HaveDistinctFiles}
use Rattle.mtree_inv.specs.Inventory.{inventory}
use Rattle.mtree_inv.specs.declared.entry.Entry.{Entry}
use Rattle.mtree_inv.proofs.LawfulLemmas.{inventory-files}
use Rattle.reown_plan.specs.Owners.{owner_eq, owner_of}
use Rattle.reown_plan.specs.PlanData.{PlanData, PlanRecord}
use Rattle.reown_plan.specs.declared.plan.Owner.{Owner}
use Rattle.reown_runner.specs.Memory.{owner_in}
use Rattle.unify_texts.specs.declared.bundle_line.FileName.TheVariants as file
use Rattle.unify_texts.specs.declared.fault.Fault.{Fault}
use Rattle.unify_texts.specs.declared.fault.Fault.TheVariants.{Missing, Foreign}
use Rattle.unify_texts.proofs.FirstFaults.{FirstFault, all_pass, first_fails, unless_err, none_fails}
use Rattle.rehearsal.specs.Rehearsing.{found_fault, record_fault, rehearsed}
use Rattle.rehearsal.specs.RehearsalLaws.{FirstNotFound, IsAt, IsForeign, IsFound, RehearsalsTellFiles}
use Rattle.unify_texts.specs.Told.{in_file}

-- ---- the file of a path

-- what a look-up of the path says of all files
abbrev Finds : List ℕ → List Entry → Option Entry → Type 0
Finds path files None = All (λ e. e.path ≢ path) files
Finds path files (Some e) = Contains files e × (e.path ≡ path)

later_too : (path : List ℕ) (e : Entry) (files : List Entry) (o : Option Entry) → e.path ≢ path → Finds path files o → Finds path (e ∷ files) o
later_too path e files None other there = All-cons (λ x. x.path ≢ path) e files other there
later_too path e files (Some x) other there = ((suc there.0.0, omega (arith, there.0.1), there.0.2), there.1)

first_or_later : (path : List ℕ) (e : Entry) (files : List Entry) (o : Option Entry) (b : Bool) → bytes_eq path e.path ≡ b → Finds path files o → Finds path (e ∷ files) (cond b (Some e) o)
first_or_later path e files o true is there = ((0, omega arith, refl), sym ((bytes_eq-Decides path e.path).0 is))
first_or_later path e files o false is there = later_too path e files o (λ same. not_from_Decides (bytes_eq path e.path) (bytes_eq-Decides path e.path) is (sym same)) there

finds : (path : List ℕ) (files : List Entry) → Finds path files (find (λ e. bytes_eq path e.path) files)
finds path [] = All-nil (λ e. e.path ≢ path)
finds path (e ∷ files) = first_or_later path e files (find (λ x. bytes_eq path x.path) files) (bytes_eq path e.path) refl (finds path files)

module _ (files : List Entry) (distinct : HaveDistinctFiles files) where
  by_place : (a b : Entry) (at : Contains files a) (other : Contains files b) → a.path ≡ b.path → (at.0 ≡ other.0) ⊎ ((at.0 < other.0) ⊎ (other.0 < at.0)) → a ≡ b
  by_place a b at other same (inr (inl lt)) =
      absurd (distinct at.0 other.0 a lt other.1 (ap (λ e. e.path) at.2 ∙ same ∙ ap (λ e. e.path) (sym (get_or_default files other.0 a b other.1 ∙ other.2))))
  by_place a b at other same (inr (inr lt)) =
      absurd (distinct other.0 at.0 a lt at.1 (ap (λ e. e.path) (get_or_default files other.0 a b other.1 ∙ other.2) ∙ sym same ∙ ap (λ e. e.path) (sym at.2)))
  by_place a b at other same (inl equal) =
      sym at.2 ∙ ap (λ k. get_or files k a) equal ∙ get_or_default files other.0 a b other.1 ∙ other.2

  -- no two files have one path
  one_file : (a b : Entry) → Contains files a → Contains files b → a.path ≡ b.path → a ≡ b
  one_file a b at other same = by_place a b at other same (cases_order at.0 other.0)

-- ---- whether a record is found

is_at : (e : Entry) (owner : Owner) → Decides (owner_eq (owner_of e) owner) (IsAt e owner)
is_at e owner =
    Decides-like (owner_eq (owner_of e) owner) (λ same. record { uid = same.0; gid = same.1 }) (λ at. (at.uid, at.gid))
    (Decides-and (e.uid == owner.uid) (e.gid == owner.gid) (Decides-eqb e.uid owner.uid) (Decides-eqb e.gid owner.gid))

is_at_either : (r : PlanRecord) (e : Entry) → Decides (owner_eq (owner_of e) r.before || owner_eq (owner_of e) r.after) (IsAt e r.before ⊎ IsAt e r.after)
is_at_either r e = Decides-or (owner_eq (owner_of e) r.before) (owner_eq (owner_of e) r.after) (is_at e r.before) (is_at e r.after)

passes : (b : Bool) (f : Fault) → cond b None (Some f) ≡ None → b ≡ true
passes true f h = refl
passes false f h = absurd (cc)

never_missing : {P : Type 0} (b : Bool) (p q : List ℕ) → cond b None (Some (Foreign p)) ≡ Some (Missing q) → P
never_missing true p q h = absurd (cc)
never_missing false p q h = absurd (cc)

foreign_told : (b : Bool) (p q : List ℕ) → cond b None (Some (Foreign p)) ≡ Some (Foreign q) → (b ≡ false) × (p ≡ q)
foreign_told true p q h = absurd (cc)
foreign_told false p q h = (refl, cc)

missing_told : (p q : List ℕ) → ◌≡◌ {A = Option Fault} (Some (Missing p)) (Some (Missing q)) → p ≡ q
missing_told p q h = cc

foreign_alone : (b : Bool) (p : List ℕ) (f : Fault) → cond b None (Some (Foreign p)) ≡ Some f → f ≡ Foreign p
foreign_alone true p f h = absurd (cc)
foreign_alone false p f h = cc

-- a record's file is told as missing or as foreign, and no other fault
either_told : (r : PlanRecord) (has : Option Owner) (f : Fault) → found_fault r has ≡ Some f → (f ≡ Missing r.path) ⊎ (f ≡ Foreign r.path)
either_told r None f h = inl (cc)
either_told r (Some has) f h = inr (foreign_alone (owner_eq has r.before || owner_eq has r.after) r.path f h)

module _ (files : List Entry) (r : PlanRecord) where
  told_none : (o : Option Entry) → Finds r.path files o → found_fault r (option_map owner_of o) ≡ None → IsFound files r
  told_none None there h = absurd (cc)
  told_none (Some e) there h =
      record {
        file = e;
        there = there.0;
        path = there.1;
        owner = (is_at_either r e).0 (passes (owner_eq (owner_of e) r.before || owner_eq (owner_of e) r.after) (Foreign r.path) h);
      }

  found_none : (o : Option Entry) → Finds r.path files o → HaveDistinctFiles files → IsFound files r → found_fault r (option_map owner_of o) ≡ None
  found_none None there distinct found = absurd (All-contains (λ e. e.path ≢ r.path) files found.file there found.there found.path)
  found_none (Some e) there distinct found =
      let same : found.file ≡ e = one_file files distinct found.file e found.there there.0 (found.path ∙ sym there.1) in
      ap (λ b. cond b None (Some (Foreign r.path))) ((is_at_either r e).1 (subst (λ x. IsAt x r.before ⊎ IsAt x r.after) same found.owner))

  told_missing : (o : Option Entry) → Finds r.path files o → (path : List ℕ) → found_fault r (option_map owner_of o) ≡ Some (Missing path) → (r.path ≡ path) × All (λ e. e.path ≢ r.path) files
  told_missing None there path h = (missing_told r.path path h, there)
  told_missing (Some e) there path h = never_missing (owner_eq (owner_of e) r.before || owner_eq (owner_of e) r.after) r.path path h

  told_foreign : (o : Option Entry) → Finds r.path files o → (path : List ℕ) → found_fault r (option_map owner_of o) ≡ Some (Foreign path) → (r.path ≡ path) × IsForeign files r.path r
  told_foreign None there path h = absurd (cc)
  told_foreign (Some e) there path h =
      let told = foreign_told (owner_eq (owner_of e) r.before || owner_eq (owner_of e) r.after) r.path path h in
      let neither = not_from_Decides (owner_eq (owner_of e) r.before || owner_eq (owner_of e) r.after) (is_at_either r e) told.0 in
      (told.1, record { file = e; there = there.0; named = there.1; not_before = λ at. neither (inl at); not_after = λ at. neither (inr at) })

-- ---- the whole rehearsal

module _ (plan : PlanData) (mtree : List ℕ) (files : List Entry) (read : inventory 16777216 mtree ≡ Ok files) where
  abbrev judge : PlanRecord → Option Fault
  judge r = found_fault r (owner_in files r.path)

  carried : rehearsed (Ok plan) mtree ≡ unless (first_fault (record_fault files) [] plan.records) (length plan.records)
  carried = ap (λ r. in_file plan.host file.Mtree r >>= λ fs. unless (first_fault (record_fault fs) [] plan.records) (length plan.records)) read

  all_found : (records : List PlanRecord) → All (λ r. judge r ≡ None) records → All (IsFound files) records
  all_found records none k d lt = let r = get_or records k d in told_none files r (find (λ e. bytes_eq r.path e.path) files) (finds r.path files) (none k d lt)

  none_told : (records : List PlanRecord) → All (IsFound files) records → All (λ r. judge r ≡ None) records
  none_told records found k d lt =
      let r = get_or records k d in
      found_none files r (find (λ e. bytes_eq r.path e.path) files) (finds r.path files) (inventory-files 16777216 mtree files read).0.distinct (found k d lt)

  answered : (n : ℕ) → rehearsed (Ok plan) mtree ≡ Ok n → All (IsFound files) plan.records × (n ≡ length plan.records)
  answered n h =
      let passed = unless_ok (first_fault (record_fault files) [] plan.records) (length plan.records) n (sym carried ∙ h) in
      (all_found plan.records (none_fails judge [] plan.records passed.0), sym passed.1)

  counted : All (IsFound files) plan.records → rehearsed (Ok plan) mtree ≡ Ok (length plan.records)
  counted found = carried ∙ ap (λ o. unless o (length plan.records)) (all_pass judge [] plan.records (none_told plan.records found))

  first_told : (f : Fault) → rehearsed (Ok plan) mtree ≡ Err f → FirstFault judge plan.records f
  first_told f h = first_fails judge [] plan.records f (unless_err (first_fault (record_fault files) [] plan.records) (length plan.records) f (sym carried ∙ h))

  abbrev Unfound : Type 0
  Unfound = (path : List ℕ) × ((rehearsed (Ok plan) mtree ≡ Err (Missing path)) ⊎ (rehearsed (Ok plan) mtree ≡ Err (Foreign path)))

  not_all : (All (IsFound files) plan.records → ⊥) → (o : Option Fault) → first_fault (record_fault files) [] plan.records ≡ o → Unfound
  not_all unfound None none = absurd (unfound (all_found plan.records (none_fails judge [] plan.records none)))
  not_all unfound (Some f) some =
      let answer : rehearsed (Ok plan) mtree ≡ Err f = carried ∙ ap (λ o. unless o (length plan.records)) some in
      let first = first_told f answer in
      let r = first.item in (
        r.path,
        elim (either_told r (owner_in files r.path) f first.told) [
          | inl is ↦ inl (subst (λ x. rehearsed (Ok plan) mtree ≡ Err x) is answer)
          | inr is ↦ inr (subst (λ x. rehearsed (Ok plan) mtree ≡ Err x) is answer)
        ],
      )

  missing : (path : List ℕ) → rehearsed (Ok plan) mtree ≡ Err (Missing path) → FirstNotFound files plan.records path (λ planned. All (λ e. e.path ≢ path) files)
  missing path h =
      let first = first_told (Missing path) h in
      let r = first.item in
      let told = told_missing files r (find (λ e. bytes_eq r.path e.path) files) (finds r.path files) path first.told in
      record {
        earlier = first.earlier;
        planned = r;
        later = first.later;
        split = first.split;
        found = all_found first.earlier first.passed;
        named = told.0;
        holds = subst (λ p. All (λ e. e.path ≢ p) files) told.0 told.1;
      }

  foreign : (path : List ℕ) → rehearsed (Ok plan) mtree ≡ Err (Foreign path) → FirstNotFound files plan.records path (IsForeign files path)
  foreign path h =
      let first = first_told (Foreign path) h in
      let r = first.item in
      let told = told_foreign files r (find (λ e. bytes_eq r.path e.path) files) (finds r.path files) path first.told in
      record {
        earlier = first.earlier;
        planned = r;
        later = first.later;
        split = first.split;
        found = all_found first.earlier first.passed;
        named = told.0;
        holds = subst (λ p. IsForeign files p r) told.0 told.1;
      }

pub rehearsals_tell : RehearsalsTellFiles
rehearsals_tell plan mtree files read =
    record {
      number = answered plan mtree files read;
      all_found = counted plan mtree files read;
      not_all = λ unfound. not_all plan mtree files read unfound (first_fault (record_fault files) [] plan.records) refl;
      missing = missing plan mtree files read;
      foreign = foreign plan mtree files read;
    }
