-- The front of a text: a header and lawful records of distinct paths. It goes on as far as it can in one way.
use Rattle.std.proofs.Common.{◌≡◌, ◌≢◌, ◌⊎◌, inl, inr, ℕ, List, [], ◌∷◌, ◌++◌, All, length, get_or, length-append, drop, refl, sym, ◌∙◌, ap, arith, append_assoc}
use Rattle.std.proofs.lemmas.List.{append-nil, get_or_at, get_or_append_left}
use Rattle.std.proofs.lemmas.List.Elements.{All-head, All-tail}
use Rattle.reown_plan.specs.PlanData.{PlanRecord, PlanData, HaveDistinctPaths}
use Rattle.reown_plan.specs.Spelling.{head, line, lines, end, spelling, IsHostName, IsLawfulRecord, IsLawful}
use Rattle.reown_plan.proofs.Cuts.{head_unique, name_no_newline}
use Rattle.reown_plan.proofs.Wholes.{end_no_line_more}
use Rattle.reown_plan.proofs.Unique.{line_unique}

-- two fronts of one text: a header and lawful records, and what is after them
pub record Front (text : List ℕ) : Type 0 where
  pub host : List ℕ
  pub records : List PlanRecord
  pub rest : List ℕ
  pub name : IsHostName host
  pub lawful : All IsLawfulRecord records
  pub distinct : HaveDistinctPaths records
  pub is : text ≡ head host ++ lines records ++ rest

-- one goes on where the other ends
pub data Goes (rest other : List ℕ) (more : List PlanRecord) : Type 0 where
  goes : All IsLawfulRecord more → rest ≡ lines more ++ other → Goes rest other more

pub lines_front : (cs ds : List PlanRecord) (a b : List ℕ) → All IsLawfulRecord cs → All IsLawfulRecord ds → lines cs ++ a ≡ lines ds ++ b
    → ((more : List PlanRecord) × (ds ≡ cs ++ more) × Goes a b more) ⊎ ((more : List PlanRecord) × (cs ≡ ds ++ more) × Goes b a more)
lines_front [] ds a b l m e = inl (ds, refl, goes m e)
lines_front (c ∷ cs) [] a b l m e = inr (c ∷ cs, refl, goes l (sym e))
lines_front (c ∷ cs) (d ∷ ds) a b l m e =
    let u = line_unique c d (lines cs ++ a) (lines ds ++ b) (All-head IsLawfulRecord c cs l) (All-head IsLawfulRecord d ds m) (sym (append_assoc (line c) (lines cs) a) ∙ e ∙ append_assoc (line d) (lines ds) b) in
    elim (lines_front cs ds a b (All-tail IsLawfulRecord c cs l) (All-tail IsLawfulRecord d ds m) u.1) [
      | inl s ↦ inl (s.0, (λ i. sym u.0 i ∷ s.1 i), s.2)
      | inr s ↦ inr (s.0, (λ i. u.0 i ∷ s.1 i), s.2)
    ]

module _ (text : List ℕ) where
  pub same_host : (p q : Front text) → (p.host ≡ q.host) × (lines p.records ++ p.rest ≡ lines q.records ++ q.rest)
  same_host p q =
      let whole : text ≡ head q.host ++ (lines q.records ++ q.rest) = q.is ∙ append_assoc (head q.host) (lines q.records) q.rest in
      let cut : drop 13 text ≡ q.host ++ 10 ∷ (lines q.records ++ q.rest) = ap (drop 13) whole ∙ append_assoc q.host (10 ∷ []) (lines q.records ++ q.rest) in
      head_unique text (drop 13 text) q.host (lines q.records ++ q.rest) p.host (lines p.records ++ p.rest) refl cut (name_no_newline q.host q.name) p.name (p.is ∙ append_assoc (head p.host) (lines p.records) p.rest)

  -- where no record of another path is, nothing goes on
  abbrev pub Stands : Front text → Type 0
  Stands p = (c : PlanRecord) (after : List ℕ) → IsLawfulRecord c → All (λ d. d.path ≢ c.path) p.records → p.rest ≢ line c ++ after

  path_before : (cs more : List PlanRecord) (c : PlanRecord) (all : List PlanRecord) → all ≡ cs ++ c ∷ more → HaveDistinctPaths all → All (λ d. d.path ≢ c.path) cs
  path_before cs more c all e distinct k d below same =
      let before = ap (λ xs. get_or xs k d) e ∙ get_or_append_left cs (c ∷ more) d k below in
      let at = ap (λ xs. get_or xs (length cs) d) e ∙ get_or_at cs c more d (length cs) refl in
      distinct k (length cs) d below (omega (arith, ap length e ∙ length-append cs (c ∷ more))) (ap (λ (x : PlanRecord). x.path) before ∙ same ∙ sym (ap (λ (x : PlanRecord). x.path) at))

  stops : (p q : Front text) → Stands p → (more : List PlanRecord) → q.records ≡ p.records ++ more → Goes p.rest q.rest more → (p.records ≡ q.records) × (p.rest ≡ q.rest)
  stops p q none [] e (goes l r) = (sym (e ∙ append-nil p.records), r)
  stops p q none (c ∷ more) e (goes l r) =
      absurd (none c (lines more ++ q.rest) (All-head IsLawfulRecord c more l) (path_before p.records more c q.records e q.distinct) (r ∙ append_assoc (line c) (lines more) q.rest))

  abbrev pub Ended : Front text → Type 0
  Ended p = (rest : List ℕ) × (p.rest ≡ end ++ rest)

  ends : (p q : Front text) → Ended p → (more : List PlanRecord) → q.records ≡ p.records ++ more → Goes p.rest q.rest more → (p.records ≡ q.records) × (p.rest ≡ q.rest)
  ends p q ended [] e (goes l r) = (sym (e ∙ append-nil p.records), r)
  ends p q ended (c ∷ more) e (goes l r) =
      absurd (end_no_line_more c (lines more ++ q.rest) ended.0 (All-head IsLawfulRecord c more l) (sym ended.1 ∙ r ∙ append_assoc (line c) (lines more) q.rest))

  -- each front is where its reading stops
  abbrev pub Last : Front text → Type 0
  Last p = Stands p ⊎ Ended p

  pub last_stops : (p q : Front text) → Last p → (more : List PlanRecord) → q.records ≡ p.records ++ more → Goes p.rest q.rest more → (p.records ≡ q.records) × (p.rest ≡ q.rest)
  last_stops p q (inl none) more e g = stops p q none more e g
  last_stops p q (inr ended) more e g = ends p q ended more e g

  pub one_front : (p q : Front text) → Last p → Last q → (p.host ≡ q.host) × (p.records ≡ q.records) × (p.rest ≡ q.rest)
  one_front p q l m =
      let u = same_host p q in
      elim (lines_front p.records q.records p.rest q.rest p.lawful q.lawful u.1) [
        | inl s ↦ (let r = last_stops p q l s.0 s.1 s.2 in (u.0, r.0, r.1))
        | inr s ↦ (let r = last_stops q p m s.0 s.1 s.2 in (u.0, sym r.0, sym r.1))
      ]

  abbrev pub front_of : (plan : PlanData) (rest : List ℕ) → IsLawful plan → text ≡ spelling plan ++ rest → Front text
  front_of plan rest l e =
      record { host = plan.host; records = plan.records; rest = end ++ rest; name = l.host; lawful = l.records; distinct = l.distinct; is = e ∙ append_assoc (head plan.host ++ lines plan.records) end rest }

  pub headless : (p : Front text) → ((host rest : List ℕ) → IsHostName host → text ≢ head host ++ rest) → ⊥
  headless p none = none p.host (lines p.records ++ p.rest) p.name (p.is ∙ append_assoc (head p.host) (lines p.records) p.rest)
