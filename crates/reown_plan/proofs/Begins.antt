-- Whether a header or a record begins a text: one of them does, or none can.
use Rattle.std.proofs.Common.{◌≡◌, ◌≢◌, ◌⊎◌, inl, inr, ℕ, zero, suc, ◌<◌, ◌≤◌, ◌+◌, List, [], ◌∷◌, ◌++◌, All, length, take, drop, length-append, refl, sym, ◌∙◌, ap, subst, true≢false, arith, append_assoc}
use Rattle.std.proofs.lemmas.Bool.{cases_Bool, cases_lt, cases_eq}
use Rattle.std.proofs.lemmas.List.{take_at, drop_at}
use Rattle.std.proofs.lemmas.List.Elements.{All-nil, All-cons, All-head, All-tail}
use Rattle.hosts_join.specs.Checks.{is_host_name}
use Rattle.mtree_inv.specs.Files.{IsLawfulPath}
use Rattle.reown_plan.specs.declared.plan.Owner.{Owner}
use Rattle.reown_plan.specs.PlanData.{PlanRecord}
use Rattle.reown_plan.specs.Spelling.{number, head, line, IsHostName, IsOwner, IsLawfulRecord}

-- ---- what is decided

abbrev pub Decided : Type 0 → Type 0
Decided P = P ⊎ (P → ⊥)

both : {P Q : Type 0} → Decided P → Decided Q → Decided (P × Q)
both (inl p) (inl q) = inl (p, q)
both (inl p) (inr none) = inr (λ s. none s.1)
both (inr none) q = inr (λ s. none s.0)

pub decided_all : {X : Type 0} (P : X → Type 0) → ((x : X) → Decided (P x)) → (xs : List X) → Decided (All P xs)
decided_all P each [] = inl (All-nil P)
decided_all P each (x ∷ xs) = elim (both (each x) (decided_all P each xs)) [
  | inl s ↦ inl (All-cons P x xs s.0 s.1)
  | inr none ↦ inr (λ all. none (All-head P x xs all, All-tail P x xs all))
]

-- it holds of a number below the bound
record Below (bound : ℕ) (P : ℕ → Type 0) : Type 0 where
  pub n : ℕ
  pub within : n < bound
  pub has : P n

decided_below : (bound : ℕ) (P : ℕ → Type 0) → ((n : ℕ) → Decided (P n)) → Decided (Below bound P)
decided_below zero P each = inr (λ b. let h = b.within in omega (arith, h))
decided_below (suc k) P each = elim (each k) [
  | inl p ↦ inl (record { n = k; within = omega arith; has = p })
  | inr none ↦ elim (decided_below k P each) [
    | inl b ↦ inl (record { n = b.n; within = (let h = b.within in omega arith); has = b.has })
    | inr fewer ↦ inr (λ b. elim (cases_lt b.n k) [
      | inl less ↦ fewer (record { n = b.n; within = less; has = b.has })
      | inr past ↦ (let same : b.n ≡ k = (let h = b.within in omega arith) in none (subst P same b.has))
    ])
  ]
]

-- the text begins so
abbrev pub Begun : List ℕ → List ℕ → Type 0
Begun front text = (rest : List ℕ) × (text ≡ front ++ rest)

pub decided_begun : (front text : List ℕ) → Decided (Begun front text)
decided_begun [] text = inl (text, refl)
decided_begun (x ∷ xs) [] = inr (λ b. let e = b.1 in cc)
decided_begun (x ∷ xs) (y ∷ ys) = elim (cases_eq x y) [
  | inl same ↦ elim (decided_begun xs ys) [
    | inl b ↦ inl (b.0, (λ i. sym same i ∷ b.1 i))
    | inr none ↦ inr (λ b. let whole = b.1 in let e : ys ≡ xs ++ b.0 = cc in none (b.0, e))
  ]
  | inr other ↦ inr (λ b. let whole = b.1 in let e : x ≡ y = cc in other e)
]

-- ---- a record

decided_le : (a b : ℕ) → Decided (a ≤ b)
decided_le a b = elim (cases_lt b a) [
  | inl more ↦ inr (λ h. omega (arith, h, more))
  | inr h ↦ inl h
]

decided_owner : (o : Owner) → Decided (IsOwner o)
decided_owner o = both (decided_le o.uid 4294967294) (decided_le o.gid 4294967294)

decided_other : (a b : Owner) → Decided (a ≢ b)
decided_other a b = elim (both (cases_eq a.uid b.uid) (cases_eq a.gid b.gid)) [
  | inl s ↦ inr (λ differ. differ (λ i. record { uid = s.0 i; gid = s.1 i }))
  | inr none ↦ inl (λ e. none (ap (λ (o : Owner). o.uid) e, ap (λ (o : Owner). o.gid) e))
]

decided_not_zero : (b : ℕ) → Decided (b ≢ 0)
decided_not_zero zero = inr (λ none. none refl)
decided_not_zero (suc b) = inl (λ e. omega (arith, e))

decided_path : (path : List ℕ) → Decided (IsLawfulPath path)
decided_path path = elim (both (decided_le 1 (length path)) (both (decided_le (length path) 65535) (decided_all (λ b. b ≢ 0) decided_not_zero path))) [
  | inl s ↦ (let t = s.1 in inl (record { filled = s.0; short = t.0; no_nul = t.1 }))
  | inr none ↦ inr (λ l. none (l.filled, (l.short, l.no_nul)))
]

decided_lawful : (c : PlanRecord) → Decided (IsLawfulRecord c)
decided_lawful c = elim (both (both (decided_owner c.before) (decided_owner c.after)) (both (decided_other c.before c.after) (decided_path c.path))) [
  | inl s ↦ (let owners = s.0 in let t = s.1 in inl (record { before = owners.0; after = owners.1; differ = t.0; path = t.1 }))
  | inr none ↦ inr (λ l. none ((l.before, l.after), (l.differ, l.path)))
]

module _ (text : List ℕ) where
  -- the record of these numbers with which the text would begin
  abbrev candidate : (uid gid to_uid to_gid size : ℕ) → PlanRecord
  candidate uid gid to_uid to_gid size =
      record {
        before = record { uid = uid; gid = gid };
        after = record { uid = to_uid; gid = to_gid };
        path = take size (drop (length (number uid ++ number gid ++ number to_uid ++ number to_gid ++ number size)) text);
      }

  -- a lawful record begins the text
  abbrev pub Stands : PlanRecord → Type 0
  Stands c = IsLawfulRecord c × Begun (line c) text

  decided_stands : (c : PlanRecord) → Decided (Stands c)
  decided_stands c = both (decided_lawful c) (decided_begun (line c) text)

  -- more numbers than an account may have, and more sizes than a path
  abbrev ids : ℕ
  ids = 4294967295

  abbrev sizes : ℕ
  sizes = 65536

  abbrev SomeStands : Type 0
  SomeStands = Below ids (λ a. Below ids (λ b. Below ids (λ c. Below ids (λ d. Below sizes (λ n. Stands (candidate a b c d n))))))

  decided_some : Decided SomeStands
  decided_some =
      decided_below ids _ (λ a. decided_below ids _ (λ b. decided_below ids _ (λ c. decided_below ids _ (λ d. decided_below sizes _ (λ n. decided_stands (candidate a b c d n))))))

  is_candidate : (c : PlanRecord) → Begun (line c) text → candidate c.before.uid c.before.gid c.after.uid c.after.gid (length c.path) ≡ c
  is_candidate c b =
      let front : List ℕ = number c.before.uid ++ number c.before.gid ++ number c.after.uid ++ number c.after.gid ++ number (length c.path) in
      let whole : text ≡ front ++ (c.path ++ (10 ∷ b.0)) = b.1 ∙ append_assoc (front ++ c.path) (10 ∷ []) b.0 ∙ append_assoc front c.path (10 ∷ b.0) in
      let path : take (length c.path) (drop (length front) text) ≡ c.path =
      ap (λ t. take (length c.path) (drop (length front) t)) whole ∙ ap (take (length c.path)) (drop_at front (c.path ++ (10 ∷ b.0)) (length front) refl) ∙ take_at c.path (10 ∷ b.0) (length c.path) refl in
      (λ i. record { before = c.before; after = c.after; path = path i })

  some_stands : (c : PlanRecord) → Stands c → SomeStands
  some_stands c s =
      let l = s.0 in
      let before = l.before in
      let after = l.after in
      let short = l.path.short in
      record {
        n = c.before.uid;
        within = (let h = before.0 in omega arith);
        has =
            record {
              n = c.before.gid;
              within = (let h = before.1 in omega arith);
              has =
                  record {
                    n = c.after.uid;
                    within = (let h = after.0 in omega arith);
                    has =
                        record {
                          n = c.after.gid;
                          within = (let h = after.1 in omega arith);
                          has =
                              record { n = length c.path; within = omega arith; has = subst Stands (sym (is_candidate c s.1)) s };
                        };
                  };
            };
      }

  pub decided_line : ((c : PlanRecord) × Stands c) ⊎ ((c : PlanRecord) → Stands c → ⊥)
  decided_line = elim decided_some [
    | inl a ↦ (let b = a.has in let c = b.has in let d = c.has in let n = d.has in inl (candidate a.n b.n c.n d.n n.n, n.has))
    | inr none ↦ inr (λ c s. none (some_stands c s))
  ]

  -- ---- a header

  -- a lawful header of this host begins the text
  abbrev IsHead : List ℕ → Type 0
  IsHead host = IsHostName host × Begun (head host) text

  decided_is_head : (host : List ℕ) → Decided (IsHead host)
  decided_is_head host = elim (cases_Bool (is_host_name host)) [
    | inl t ↦ both (inl t) (decided_begun (head host) text)
    | inr f ↦ inr (λ s. true≢false (sym s.0 ∙ f))
  ]

  abbrev SomeHead : Type 0
  SomeHead = Below (suc (length text)) (λ n. IsHead (take n (drop 13 text)))

  some_head : (host : List ℕ) → IsHead host → SomeHead
  some_head host s =
      let rest = s.1.0 in
      let whole : drop 13 text ≡ host ++ (10 ∷ rest) = ap (drop 13) s.1.1 ∙ append_assoc host (10 ∷ []) rest in
      let same : take (length host) (drop 13 text) ≡ host = ap (take (length host)) whole ∙ take_at host (10 ∷ rest) (length host) refl in
      let long : length text ≡ length (head host) + length rest = ap length s.1.1 ∙ length-append (head host) rest in
      record { n = length host; within = omega (arith, long, length-append host (10 ∷ [])); has = subst IsHead (sym same) s }

  pub decided_head : ((host : List ℕ) × IsHead host) ⊎ ((host : List ℕ) → IsHead host → ⊥)
  decided_head = elim (decided_below (suc (length text)) _ (λ n. decided_is_head (take n (drop 13 text)))) [
    | inl b ↦ inl (take b.n (drop 13 text), b.has)
    | inr none ↦ inr (λ host s. none (some_head host s))
  ]
