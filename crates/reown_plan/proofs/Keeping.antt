-- The owners after a plan.
use Rattle.std.proofs.Common.{◌≡◌, ◌≢◌, ℕ, suc, ◌==◌, true, false, List, [], ◌∷◌, None, refl, sym, ◌∙◌, ap, inl, inr, arith}
use Rattle.std.specs.List.{All, find}
use Rattle.std.specs.Str.{bytes_eq}
use Rattle.std.proofs.lemmas.Bool.{cases_Bool, and_parts, eqb-true}
use Rattle.std.proofs.lemmas.List.Elements.{All-cons, All-tail}
use Rattle.hosts_join.specs.Accounts.{Accounts}
use Rattle.hosts_join.specs.Site.{Joined}
use Rattle.hosts_join.proofs.Grouping.{bytes_same, bytes_refl}
use Rattle.mtree_inv.specs.Files.{HaveDistinctFiles}
use Rattle.mtree_inv.specs.declared.entry.Entry.{Entry}
use Rattle.ownership.specs.declared.mapping.Mappings.{Mappings}
use Rattle.reown_plan.specs.declared.plan.Owner.{Owner}
use Rattle.reown_plan.specs.Owners.{owner_of, owner_eq}
use Rattle.reown_plan.specs.Target.{records_to, owner_after, renumbered, target, plan_of}
use Rattle.reown_plan.specs.Keeps.{KeepsName, KeepsNames}

abbrev owner-with : ℕ → ℕ → Owner
owner-with uid gid = record { uid = uid; gid = gid }

same-owner : (a b : Owner) → owner_eq a b ≡ true → a ≡ b
same-owner a b e =
    let p = and_parts (a.uid == b.uid) (a.gid == b.gid) e in
    let u : a.uid ≡ b.uid = eqb-true a.uid b.uid p.0 in
    let g : a.gid ≡ b.gid = eqb-true a.gid b.gid p.1 in
    ap (λ (x : ℕ). owner-with x a.gid) u ∙ ap (owner-with b.uid) g

not-same : (p q : List ℕ) → p ≢ q → bytes_eq p q ≡ false
not-same p q ne = elim (cases_Bool (bytes_eq p q)) [ inl t ↦ absurd (ne (bytes_same p q t)) | inr f ↦ f ]

-- no record for a path that no file has
no-record : (to : Entry → Owner) (path : List ℕ) (files : List Entry) → All (λ f. path ≢ f.path) files → find (λ c. bytes_eq path c.path) (records_to to files) ≡ None
no-record to path [] none = refl
no-record to path (f ∷ files) none =
    let rest = no-record to path files (All-tail (λ (f : Entry). path ≢ f.path) f files none) in
    let here : bytes_eq path f.path ≡ false = not-same path f.path (none 0 f (omega arith)) in
    elim (cases_Bool (owner_eq (owner_of f) (to f))) [
      | inl t ↦ rw t rest
      | inr n ↦ rw (n, here) rest
    ]

-- a record for another path makes no difference
other-record : (to : Entry → Owner) (f g : Entry) (files : List Entry) → g.path ≢ f.path → owner_after (records_to to (f ∷ files)) g ≡ owner_after (records_to to files) g
other-record to f g files ne = elim (cases_Bool (owner_eq (owner_of f) (to f))) [
  | inl t ↦ rw t refl
  | inr n ↦ rw (n, not-same g.path f.path ne) refl
]

-- the first file gets its target
first-target : (to : Entry → Owner) (f : Entry) (files : List Entry) → All (λ g. f.path ≢ g.path) files → owner_after (records_to to (f ∷ files)) f ≡ to f
first-target to f files apart = elim (cases_Bool (owner_eq (owner_of f) (to f))) [
  | inl t ↦ rw (t, no-record to f.path files apart) (same-owner (owner_of f) (to f) t)
  | inr n ↦ rw (n, bytes_refl f.path) refl
]

pub owner_after-target : (to : Entry → Owner) (files : List Entry) → HaveDistinctFiles files → All (λ f. owner_after (records_to to files) f ≡ to f) files
owner_after-target to [] apart = λ k d h. absurd (omega arith)
owner_after-target to (f ∷ files) apart =
    let later : All (λ (g : Entry). f.path ≢ g.path) files = λ k d h. apart 0 (suc k) d (omega arith) (omega arith) in
    let rest = owner_after-target to files (λ i j d h l. apart (suc i) (suc j) d (omega arith) (omega arith)) in
    All-cons (λ (g : Entry). owner_after (records_to to (f ∷ files)) g ≡ to g) f files (first-target to f files later)
    (λ k d h. other-record to f _ files (λ e. later k d h (sym e)) ∙ rest k d h)

keeps-name : (a : Accounts) (m : List ℕ) (host old new : ℕ) → new ≡ renumbered a m host old → KeepsName a m host old new
keeps-name a m host old new e = λ i has. rw has at e

pub keeps-names : (site : Joined) (m : Mappings) (host : ℕ) (files : List Entry) → HaveDistinctFiles files → All (λ f. KeepsNames site m host f (owner_after (plan_of site m host files) f)) files
keeps-names site m host files apart = λ k d h.
    let e = owner_after-target (target site m host) files apart k d h in
    record {
      user = keeps-name site.users m.users host _ _ (ap (λ (o : Owner). o.uid) e);
      group = keeps-name site.groups m.groups host _ _ (ap (λ (o : Owner). o.gid) e);
    }
