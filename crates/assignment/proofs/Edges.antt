-- A queue of edges, as edges come and go.
use Rattle.std.proofs.Common.{◌≡◌, ◌≢◌, ℕ, zero, suc, ◌+◌, ◌-◌, ◌<◌, ◌≤◌, Bool, true, false, eqb, List, [], ◌∷◌, length, get_or, Option, Some, None, IfSome, refl, sym, ap, ◌∙◌, subst, ◌⊎◌, inl, inr, ⊎_elim, arith}
use Rattle.std.specs.List.{All, Contains}
use Rattle.std.specs.List.Sorted.{IsPermutation}
use Rattle.std.specs.BTreeMap as btree
use Rattle.std.specs.Ordering.{nat_cmp}
use Rattle.std.proofs.lemmas.Bool.{cases_eq, cases_lt, cases_Bool, both_ways, eqb-true}
use Rattle.std.proofs.lemmas.Option.{none-some}
use Rattle.std.proofs.lemmas.List.{get_or_read, get_or_default}
use Rattle.std.proofs.lemmas.List.Elements.{All-cons, All-head, All-tail}
use Rattle.std.proofs.lemmas.List.Sorted.{All-permutation, Contains-permutation, IsPermutation-sym}
use Rattle.candidates.specs.Rows.{weight_in, row_at, IsAscending, IsWeighed}
use Rattle.assignment.specs.Solutions.{row_weight}
use Rattle.candidates.specs.declared.Candidate.{Candidate}
use Rattle.assignment.specs.declared.tree.Tree.{Tree}
use Rattle.assignment.specs.declared.solver.Solver.{Solver}
use Rattle.assignment.specs.declared.search.Nearest.{Nearest}
use Rattle.assignment.specs.Order.{Edge}
use Rattle.assignment.specs.Standing.{IsMet, holds}
use Rattle.assignment.specs.Lazy.{y_in, z_in, level_of, lowered_to, IsLazy, IsWayOut, IsExit, IsEdge, IsQueued, IsFollowed, HasEdges}
use Rattle.assignment.proofs.Fair.{holds_none}
use Rattle.assignment.proofs.Weigh.{weight_at, row_lawful}
use Rattle.assignment.proofs.Lazy.{depth_at, height_out}

-- whether the tree holds the number
abbrev pub is_held : Solver → Tree → ℕ → Bool
is_held s t v = holds t.position.items t.names.items (length t.names.items) (btree.get nat_cmp s.pairs.owner v)

contains_cons : (x e : Edge) (es : List Edge) → Contains es e → Contains (x ∷ es) e
contains_cons x e es h = (suc h.0, omega (arith, h.1), h.2)

contains_cases : (x e : Edge) (es : List Edge) → Contains (x ∷ es) e → (x ≡ e) ⊎ Contains es e
contains_cases x e es (zero, l, h) = inl h
contains_cases x e es (suc k, l, h) = inr (k, omega (arith, l), h)

-- an edge more
pub queued_more : (s : Solver) (t : Tree) (leaves : ℕ) (x : Edge) (old new : List Edge) (i v : ℕ) → IsPermutation (x ∷ old) new → IsQueued s t leaves old i v → IsQueued s t leaves new i v
queued_more s t leaves x old new i v perm q =
    ⊎_elim
    (λ (a : leaves + row_weight s.rows.now (get_or t.names.items i 0) v ≤ level_of t i + y_in s.duals (get_or t.names.items i 0) + z_in s.duals v). inl a)
    (λ (a : (e : Edge) × Contains old e × (e.1.0 ≡ i) × (e.2 ≡ v)). inr (a.0, Contains-permutation (x ∷ old) new a.0 perm (contains_cons x a.0 old a.1), a.2, a.3))
    q

pub queued_first : (s : Solver) (t : Tree) (leaves : ℕ) (x : Edge) (old new : List Edge) → IsPermutation (x ∷ old) new → IsQueued s t leaves new x.1.0 x.2
queued_first s t leaves x old new perm = inr (x, Contains-permutation (x ∷ old) new x perm (0, omega arith, refl), refl, refl)

pub edges_more : (s : Solver) (t : Tree) (now : ℕ) (x : Edge) (old new : List Edge) → IsPermutation (x ∷ old) new → IsEdge s t now x → All (IsEdge s t now) old → All (IsEdge s t now) new
edges_more s t now x old new perm one all = All-permutation (IsEdge s t now) (x ∷ old) new perm (All-cons (IsEdge s t now) x old one all)

-- an edge less
pub queued_less : (s : Solver) (t : Tree) (leaves : ℕ) (x : Edge) (old new : List Edge) (i v : ℕ) → IsPermutation old (x ∷ new) → v ≢ x.2 → IsQueued s t leaves old i v → IsQueued s t leaves new i v
queued_less s t leaves x old new i v perm apart q =
    ⊎_elim
    (λ (a : leaves + row_weight s.rows.now (get_or t.names.items i 0) v ≤ level_of t i + y_in s.duals (get_or t.names.items i 0) + z_in s.duals v). inl a)
    (λ (a : (e : Edge) × Contains old e × (e.1.0 ≡ i) × (e.2 ≡ v)).
    ⊎_elim
    (λ (b : x ≡ a.0). absurd (apart (sym a.3 ∙ ap (λ (e : Edge). e.2) (sym b))))
    (λ (b : Contains new a.0). inr (a.0, b, a.2, a.3))
    (contains_cases x a.0 new (Contains-permutation old (x ∷ new) a.0 perm a.1)))
    q

pub edges_less : (s : Solver) (t : Tree) (now : ℕ) (x : Edge) (old new : List Edge) → IsPermutation old (x ∷ new) → All (IsEdge s t now) old → IsEdge s t now x × All (IsEdge s t now) new
edges_less s t now x old new perm all =
    let k = All-permutation (IsEdge s t now) old (x ∷ new) perm all in
    (All-head (IsEdge s t now) x new k, All-tail (IsEdge s t now) x new k)

-- what is at most the first one's level is at most each one's
pub low_all : (x : Edge) (old new : List Edge) (k : ℕ) → IsPermutation old (x ∷ new) → All (λ (e : Edge). x.0.0 ≤ e.0.0) new → k ≤ x.0.0 → All (λ (e : Edge). k ≤ e.0.0) old
low_all x old new k perm all l =
    All-permutation (λ (e : Edge). k ≤ e.0.0) (x ∷ new) old (IsPermutation-sym old (x ∷ new) perm)
    (All-cons (λ (e : Edge). k ≤ e.0.0) x new l (λ i d h. omega (arith, all i d h, l)))

-- ---- the row of the last name

-- the name at a position, its y, and the weight of a candidate of its row
pub record IsScanned (s : Solver) (t : Tree) (at high v weight : ℕ) : Type 0 where
  pub within : at < length t.names.items
  pub y : high ≡ y_in s.duals (get_or t.names.items at 0)
  pub weighs : row_weight s.rows.now (get_or t.names.items at 0) v ≡ weight
  pub positive : 1 ≤ weight

pub scanned : (s : Solver) (t : Tree) (now at name high : ℕ) (row : List Candidate) (i : ℕ) → IsLazy s t now → at + 1 ≡ length t.names.items → name ≡ get_or t.names.items at name → high ≡ get_or s.duals.y.items name high → row ≡ row_at s.rows.now.rows name → i < length row → IsScanned s t at high (get_or row i (record { number = 0; weight = 0 })).number (get_or row i (record { number = 0; weight = 0 })).weight
scanned s t now at name high row i q last read read_y read_row in' =
    let z : Candidate = record { number = 0; weight = 0 } in
    let v = (get_or row i z).number in
    let l : at < length t.names.items = omega (arith, last) in
    let en : name ≡ get_or t.names.items at 0 = get_or_read t.names.items at name l read 0 in
    let below : name < length s.rows.now.rows = omega (arith, en, q.shape.below at l) in
    let eh : high ≡ y_in s.duals name = get_or_read s.duals.y.items name high (omega (arith, below, q.fits.y_long)) read_y 0 in
    let laws = row_lawful s.rows.now q.lawful name below in
    let law : IsAscending row = subst (λ (x : List Candidate). IsAscending x) (sym read_row) laws.0 in
    let weighed : All IsWeighed row = subst (λ (x : List Candidate). All IsWeighed x) (sym read_row) laws.1 in
    let ew : row_weight s.rows.now name v ≡ (get_or row i z).weight = ap (λ x. weight_in x v) (sym read_row) ∙ weight_at row law i z in' in
    record {
      within = l;
      y = eh ∙ ap (y_in s.duals) en;
      weighs = subst (λ (n : ℕ). row_weight s.rows.now n v ≡ (get_or row i z).weight) en ew;
      positive = (weighed i z in').0;
    }

pub weight_found : (row : List Candidate) (v : ℕ) → 0 < weight_in row v → (j : ℕ) × (j < length row) × ((d : Candidate) → (get_or row j d).number ≡ v)
weight_found [] v h = absurd (omega (arith, h))
weight_found (c ∷ cs) v h =
    ⊎_elim
    (λ (e : eqb c.number v ≡ true). (0, omega arith, λ d. eqb-true c.number v e))
    (λ (e : eqb c.number v ≡ false).
    let rest : 0 < weight_in cs v = rw e at h in
    let k = weight_found cs v rest in
    (suc k.0, omega (arith, k.1), λ d. k.2 d))
    (cases_Bool (eqb c.number v))

-- what is known of the row's pairs at the last position
abbrev pub IsRowQueued : Solver → Tree → ℕ → ℕ → List Edge → List Candidate → ℕ → Type 0
IsRowQueued s t leaves at edges row upto = (k : ℕ) (d : Candidate) → k < upto → is_held s t (get_or row k d).number ≡ false → IsQueued s t leaves edges at (get_or row k d).number

-- the pair of the next candidate
pub row_more : (s : Solver) (t : Tree) (leaves at : ℕ) (edges : List Edge) (row : List Candidate) (i : ℕ) → i < length row → IsRowQueued s t leaves at edges row i → (let v = (get_or row i (record { number = 0; weight = 0 })).number in is_held s t v ≡ false → IsQueued s t leaves edges at v) → IsRowQueued s t leaves at edges row (i + 1)
row_more s t leaves at edges row i l before here k d h free =
    let z : Candidate = record { number = 0; weight = 0 } in
    ⊎_elim
    (λ (a : k ≡ i).
    let same : (get_or row k d).number ≡ (get_or row i z).number = ap (λ j. (get_or row j d).number) a ∙ ap (λ (y : Candidate). y.number) (get_or_default row i d z l) in
    subst (λ (u : ℕ). IsQueued s t leaves edges at u) (sym same) (here (ap (is_held s t) (sym same) ∙ free)))
    (λ (ne : k ≡ i → ⊥). before k d (omega (arith, ne, h)) free)
    (cases_eq k i)

pub all_reached : (s : Solver) (t : Tree) (now leaves at : ℕ) (row : List Candidate) (edges : List Edge) → at + 1 ≡ length t.names.items → ((v : ℕ) → weight_in row v ≡ row_weight s.rows.now (get_or t.names.items at 0) v) → HasEdges s t now leaves edges at → IsRowQueued s t leaves at edges row (length row) → HasEdges s t now leaves edges (length t.names.items)
all_reached s t now leaves at row edges last same h each =
    record {
      edge = h.edge;
      all = λ i v l free w.
          ⊎_elim
          (λ (a : i < at). h.all i v a free w)
          (λ (g : at ≤ i).
          let e : i ≡ at = omega (arith, l, last) in
          let w' : 0 < row_weight s.rows.now (get_or t.names.items at 0) v = subst (λ (k : ℕ). 0 < row_weight s.rows.now (get_or t.names.items k 0) v) e w in
          let k = weight_found row v (omega (arith, same v, w')) in
          let d : Candidate = record { number = 0; weight = 0 } in
          let free' : is_held s t (get_or row k.0 d).number ≡ false = ap (is_held s t) (k.2 d) ∙ free in
          let q : IsQueued s t leaves edges at v = subst (λ (u : ℕ). IsQueued s t leaves edges at u) (k.2 d) (each k.0 d k.1 free') in
          subst (λ (k : ℕ). IsQueued s t leaves edges k v) (sym e) q)
          (cases_lt i at);
    }

-- ---- an edge that is followed

-- what following an edge leaves of the exit and of the queue
pub record IsAfter (s : Solver) (t : Tree) (now at v : ℕ) (exit after : Nearest) (old new : List Edge) : Type 0 where
  pub left : IsExit s t after
  pub later : now ≤ after.level
  pub edge : All (IsEdge s t now) new
  pub here : is_held s t v ≡ false → IsQueued s t after.level new at v
  pub kept : (i u : ℕ) → IsQueued s t exit.level old i u → IsQueued s t after.level new i u

after_exit : (s : Solver) (t : Tree) (now : ℕ) (x : Edge) (exit : Nearest) (old : List Edge) → IsEdge s t now x → x.0.0 < exit.level → IsExit s t exit → All (IsEdge s t now) old → btree.get nat_cmp s.pairs.owner x.2 ≡ None → IsAfter s t now x.1.0 x.2 exit (record { level = x.0.0; at = x.1.0; number = Some x.2 }) old old
after_exit s t now x exit old one near ex all free =
    record {
      left = record { within = one.within; least = λ i l. omega (arith, near, ex.least i l); way = (one.weighs, free, one.level) };
      later = one.later;
      edge = all;
      here = λ _. inl (omega (arith, one.level));
      kept = λ i u q.
          ⊎_elim
          (λ (a : exit.level + row_weight s.rows.now (get_or t.names.items i 0) u ≤ level_of t i + y_in s.duals (get_or t.names.items i 0) + z_in s.duals u). inl (omega (arith, a, near)))
          (λ (a : (e : Edge) × Contains old e × (e.1.0 ≡ i) × (e.2 ≡ u)). inr a)
          q;
    }

pub followed : (s : Solver) (t : Tree) (now : ℕ) (x : Edge) (exit after : Nearest) (old new : List Edge) → (x.0.0 < exit.level → IsEdge s t now x) → (exit.level ≤ x.0.0 → IsQueued s t exit.level old x.1.0 x.2) → now ≤ exit.level → IsExit s t exit → All (IsEdge s t now) old → IsFollowed s t old new x exit after → IsAfter s t now x.1.0 x.2 exit after old new
followed s t now x exit after old new one far later ex all (inl a) =
    let same : IsAfter s t now x.1.0 x.2 exit exit old old = record { left = ex; later = later; edge = all; here = λ _. far a.0; kept = λ i u q. q } in
    rw (a.1, a.2) same
followed s t now x exit after old new one far later ex all (inr (inl a)) = rw (a.2, a.3) (after_exit s t now x exit old (one a.0) a.0 ex all a.1)
followed s t now x exit after old new one far later ex all (inr (inr (inl a))) =
    let same : IsAfter s t now x.1.0 x.2 exit exit old old = record { left = ex; later = later; edge = all; here = λ free. absurd (both_ways (is_held s t x.2) free a.0); kept = λ i u q. q } in
    rw (a.1, a.2) same
followed s t now x exit after old new one far later ex all (inr (inr (inr a))) =
    let more : IsAfter s t now x.1.0 x.2 exit exit old new = record { left = ex; later = later; edge = edges_more s t now x old new a.2 (one a.0) all; here = λ _. queued_first s t exit.level x old new a.2; kept = λ i u q. queued_more s t exit.level x old new i u a.2 q } in
    rw a.1 more

-- ---- what the queue gives first

-- what is asked where somebody has the exit's number
pub exit_unowned : (s : Solver) (t : Tree) (level at : ℕ) (P : ℕ → Type 0) (o : Option ℕ) → IsWayOut s t level at o → IfSome o (λ v. (n : ℕ) → btree.get nat_cmp s.pairs.owner v ≡ Some n → P v)
exit_unowned s t level at P None way = tt
exit_unowned s t level at P (Some v) way = λ n own. absurd (none-some n (sym way.1 ∙ own))

-- the exit is met at its level
pub exit_met : (s : Solver) (t : Tree) (now : ℕ) (exit : Nearest) → IsLazy s t now → IsExit s t exit → now ≤ exit.level → (o : Option ℕ) → IsWayOut s t exit.level exit.at o → IsMet (row_weight s.rows.now) (lowered_to s.duals s.pairs t now) t.position.items t.names.items (exit.level - now) exit.at o
exit_met s t now exit q ex l None way =
    let dn = depth_at s t now now exit.at q ex.within in
    omega (arith, dn, way, l, q.passed exit.at ex.within)
exit_met s t now exit q ex l (Some v) way =
    let dn = depth_at s t now now exit.at q ex.within in
    let free : is_held s t v ≡ false = holds_none t.position.items t.names.items (length t.names.items) (btree.get nat_cmp s.pairs.owner v) way.1 in
    let hv = height_out t now (btree.get nat_cmp s.pairs.owner v) free in
    (way.0, free, omega (arith, dn, hv, way.2, l, q.passed exit.at ex.within, ex.least exit.at ex.within))

pub edge_met : (s : Solver) (t : Tree) (now : ℕ) (x : Edge) → IsLazy s t now → IsEdge s t now x → holds t.position.items t.names.items (length t.names.items) (btree.get nat_cmp s.pairs.owner x.2) ≡ false → now ≤ level_of t x.1.0 + y_in s.duals (get_or t.names.items x.1.0 0) → IsMet (row_weight s.rows.now) (lowered_to s.duals s.pairs t now) t.position.items t.names.items (x.0.0 - now) x.1.0 (Some x.2)
edge_met s t now x q e free room =
    let dn = depth_at s t now now x.1.0 q e.within in
    let hv = height_out t now (btree.get nat_cmp s.pairs.owner x.2) free in
    (e.weighs, free, omega (arith, dn, hv, e.level, e.later, q.passed x.1.0 e.within, room))
