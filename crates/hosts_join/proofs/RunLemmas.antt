-- Ranges one after the other, and the numbers that lie in some of them.
use Rattle.std.proofs.Common.{◌≡◌, ◌⊎◌, inl, inr, ℕ, zero, suc, ◌+◌, ◌-◌, ◌<◌, ◌≤◌, Bool, true, false, List, [], ◌∷◌, ◌++◌, length, get_or, take, refl, sym, ap, ◌∙◌, subst, arith, leb, ltb, Some}
use Rattle.std.specs.Prelude.{◌&&◌, ◌||◌, max, All}
use Rattle.std.specs.List.Sorted.{IsPartitionPoint, IsPartitionedBy, IsNonDecreasingBy}
use Rattle.std.proofs.Math.Seq.{get_or-append_seam}
use Rattle.std.proofs.Math.Bool.{or-false, and-false}
use Rattle.std.proofs.lemmas.Bool.{leb-true, false_from_ne_true, cases_lt}
use Rattle.std.proofs.lemmas.Bool.Decides.{nat_tests}
use Rattle.std.proofs.lemmas.List.{get_or_append_left, get_or_default, length-append, take_all, take_more}
use Rattle.std.proofs.lemmas.List.Elements.{All-pop, All-push, All-same, All-weaker}
use Rattle.std.proofs.lemmas.List.Folds.{list_any-append, list_any_none, list_any-from_Any}
use Rattle.std.proofs.lemmas.List.Quantifiers.{all_pairs_push}
use Rattle.std.proofs.lemmas.List.Sorted.{IsPartitionedBy-leb}
use Rattle.logindefs.specs.declared.ranges.IdRange.{IdRange}
use Rattle.logindefs.specs.Ranges.{in_range}
use Rattle.hosts_join.specs.RangeLists.{lies_in_some}
use Rattle.hosts_join.specs.RunsInside.{IsBefore, AreInOrder}

-- ---- a range after runs that begin no later

front : (init : List IdRange) (last : IdRange) → AreInOrder (init ++ last ∷ []) → AreInOrder init
front init last apart = λ i j d lt within.
    let further : i < length init = omega (arith, lt, within) in
    let here = apart i j d lt (omega (arith, within, length-append init (last ∷ []))) in
    subst (λ (r : IdRange). IsBefore r (get_or init j d)) (get_or_append_left init (last ∷ []) d i further)
    (subst (λ (r : IdRange). IsBefore (get_or (init ++ last ∷ []) i d) r) (get_or_append_left init (last ∷ []) d j within) here)

before_last : (init : List IdRange) (last : IdRange) → AreInOrder (init ++ last ∷ []) → (k : ℕ) (d : IdRange) → k < length init → IsBefore (get_or init k d) last
before_last init last apart k d lt =
    let here = apart k (length init) d lt (omega (arith, length-append init (last ∷ []))) in
    subst (λ (r : IdRange). IsBefore r last) (get_or_append_left init (last ∷ []) d k lt)
    (subst (λ (r : IdRange). IsBefore (get_or (init ++ last ∷ []) k d) r) (get_or-append_seam init last [] d) here)

pub lengthened : (init : List IdRange) (last : IdRange) (high : ℕ) → AreInOrder (init ++ last ∷ []) → AreInOrder (init ++ record { low = last.low; high = high } ∷ [])
lengthened init last high apart =
    all_pairs_push IsBefore init (record { low = last.low; high = high }) (front init last apart) (before_last init last apart)

pub further : (init : List IdRange) (last range : IdRange) → AreInOrder (init ++ last ∷ []) → last.low ≤ range.low → last.high < range.low → AreInOrder ((init ++ last ∷ []) ++ range ∷ [])
further init last range apart begins ends =
    all_pairs_push IsBefore (init ++ last ∷ []) range apart (λ k d lt. by k d lt (within k lt))
  where
    within : (k : ℕ) → k < length (init ++ last ∷ []) → (k < length init) ⊎ (k ≡ length init)
    within k lt = cases k (length init) (omega (arith, lt, length-append init (last ∷ [])))
      where
        cases : (k n : ℕ) → k < n + 1 → (k < n) ⊎ (k ≡ n)
        cases zero zero h = inr refl
        cases zero (suc n) h = inl (omega arith)
        cases (suc k) zero h = absurd (omega (arith, h))
        cases (suc k) (suc n) h = more (cases k n (omega (arith, h)))
          where
            more : (k < n) ⊎ (k ≡ n) → (suc k < suc n) ⊎ (suc k ≡ suc n)
            more (inl l) = inl (omega arith)
            more (inr e) = inr (ap suc e)

    by : (k : ℕ) (d : IdRange) → k < length (init ++ last ∷ []) → (k < length init) ⊎ (k ≡ length init) → IsBefore (get_or (init ++ last ∷ []) k d) range
    by k d lt (inl there) =
        let before = before_last init last apart k d there in
        rw (get_or_append_left init (last ∷ []) d k there) (omega (arith, before.0, begins), omega (arith, before.1, begins))
    by k d lt (inr there) = rw (there, get_or-append_seam init last [] d) (begins, ends)

in-longer : (low high other more n : ℕ) → low ≤ other → other ≤ high → (leb low n && leb n (max high more)) ≡ ((leb low n && leb n high) || (leb other n && leb n more))
in-longer low high other more n begins meets = grind (arith, nat_tests)

regroup : (a b c longer : Bool) → longer ≡ (b || c) → (a || (longer || false)) ≡ ((a || (b || false)) || c)
regroup true b c longer e = refl
regroup false true c longer e = ap (λ x. x || false) e
regroup false false c longer e = ap (λ x. x || false) e ∙ or-false c

pub lies-longer : (init : List IdRange) (last range : IdRange) (n : ℕ) → last.low ≤ range.low → range.low ≤ last.high → lies_in_some (init ++ record { low = last.low; high = max last.high range.high } ∷ []) n ≡ (lies_in_some (init ++ last ∷ []) n || in_range range n)
lies-longer init last range n begins meets =
    list_any-append (λ r. in_range r n) init (record { low = last.low; high = max last.high range.high } ∷ [])
    ∙ regroup (lies_in_some init n) (in_range last n) (in_range range n) _ (in-longer last.low last.high range.low range.high n begins meets)
    ∙ ap (λ b. b || in_range range n) (sym (list_any-append (λ r. in_range r n) init (last ∷ [])))

pub lies-push : (runs : List IdRange) (range : IdRange) (n : ℕ) → lies_in_some (runs ++ range ∷ []) n ≡ (lies_in_some runs n || in_range range n)
lies-push runs range n = list_any-append (λ r. in_range r n) runs (range ∷ []) ∙ ap (λ b. lies_in_some runs n || b) (or-false (in_range range n))

-- old are runs whose last one is taken off, and new has one in its place
pub longer-apart : (old init new : List IdRange) (last : IdRange) (high : ℕ) → old ≡ init ++ last ∷ [] → new ≡ init ++ record { low = last.low; high = high } ∷ [] → AreInOrder old → AreInOrder new
longer-apart old init new last high old_is new_is apart =
    subst (λ (rs : List IdRange). AreInOrder rs) (sym new_is) (lengthened init last high (subst (λ (rs : List IdRange). AreInOrder rs) old_is apart))

last-begins : (old init : List IdRange) (last range : IdRange) → old ≡ init ++ last ∷ [] → All (λ run. run.low ≤ range.low) old → All (λ run. run.low ≤ range.low) init × (last.low ≤ range.low)
last-begins old init last range old_is behind = All-pop (λ (run : IdRange). run.low ≤ range.low) old init (Some last) old_is behind

pub longer-behind : (old init new : List IdRange) (last range : IdRange) (high : ℕ) → old ≡ init ++ last ∷ [] → new ≡ init ++ record { low = last.low; high = high } ∷ [] → All (λ run. run.low ≤ range.low) old → All (λ run. run.low ≤ range.low) new
longer-behind old init new last range high old_is new_is behind =
    let begins = last-begins old init last range old_is behind in
    All-same (λ (run : IdRange). run.low ≤ range.low) new (init ++ record { low = last.low; high = high } ∷ []) new_is
    (All-push (λ (run : IdRange). run.low ≤ range.low) init (record { low = last.low; high = high }) begins.0 begins.1)

pub longer-added : (old init new : List IdRange) (last range : IdRange) (high : ℕ) → old ≡ init ++ last ∷ [] → new ≡ init ++ record { low = last.low; high = high } ∷ [] → high ≡ max last.high range.high → All (λ run. run.low ≤ range.low) old → range.low ≤ last.high → (n : ℕ) → lies_in_some new n ≡ (lies_in_some old n || in_range range n)
longer-added old init new last range high old_is new_is high_is behind meets n =
    ap (λ (rs : List IdRange). lies_in_some rs n) (new_is ∙ ap (λ (h : ℕ). init ++ record { low = last.low; high = h } ∷ []) high_is)
    ∙ lies-longer init last range n (last-begins old init last range old_is behind).1 meets
    ∙ ap (λ (rs : List IdRange). lies_in_some rs n || in_range range n) (sym old_is)

pub further-apart : (old init new : List IdRange) (last range : IdRange) → old ≡ init ++ last ∷ [] → new ≡ (init ++ last ∷ []) ++ range ∷ [] → AreInOrder old → All (λ run. run.low ≤ range.low) old → last.high < range.low → AreInOrder new
further-apart old init new last range old_is new_is apart behind ends =
    subst (λ (rs : List IdRange). AreInOrder rs) (sym new_is)
    (further init last range (subst (λ (rs : List IdRange). AreInOrder rs) old_is apart) (last-begins old init last range old_is behind).1 ends)

-- ---- ascending ranges, one by one

-- runs have the numbers of the first k ranges, and begin no later than the next ones
pub record Merged (sorted : List IdRange) (k : ℕ) (runs : List IdRange) : Type 0 where
  pub apart : AreInOrder runs
  pub behind : (j : ℕ) (d : IdRange) → k ≤ j → j < length sorted → All (λ run. run.low ≤ (get_or sorted j d).low) runs
  pub same : (n : ℕ) → lies_in_some runs n ≡ lies_in_some (take k sorted) n

pub merged-more : (sorted runs after : List IdRange) (k : ℕ) (range : IdRange) → IsNonDecreasingBy (λ r. r.low) sorted → k < length sorted → range ≡ get_or sorted k range → AreInOrder after → All (λ run. run.low ≤ range.low) after → ((n : ℕ) → lies_in_some after n ≡ (lies_in_some runs n || in_range range n)) → Merged sorted k runs → Merged sorted (k + 1) after
merged-more sorted runs after k range ascending lt here apart behind added merged = record {
  apart = apart;
  behind = λ j d le within.
      let order = ascending k j range (omega (arith, le)) within in
      let low : range.low ≤ (get_or sorted j d).low = subst (λ (r : IdRange). range.low ≤ r.low) (get_or_default sorted j range d within) (subst (λ (r : IdRange). r.low ≤ (get_or sorted j range).low) (sym here) order) in
      All-weaker (λ (run : IdRange). run.low ≤ range.low) (λ (run : IdRange). run.low ≤ (get_or sorted j d).low) (λ run h. omega (arith, h, low)) after behind;
  same = λ n.
      added n ∙ ap (λ b. b || in_range range n) (merged.same n) ∙ sym (lies-push (take k sorted) range n)
      ∙ ap (λ (rs : List IdRange). lies_in_some rs n) (ap (λ (r : IdRange). take k sorted ++ r ∷ []) here ∙ sym (take_more sorted k range lt));
}

pub merged-end : (sorted runs : List IdRange) (k : ℕ) → length sorted ≤ k → Merged sorted k runs → (n : ℕ) → lies_in_some runs n ≡ lies_in_some sorted n
merged-end sorted runs k le merged n = merged.same n ∙ ap (λ (rs : List IdRange). lies_in_some rs n) (take_all k sorted le)

-- ---- a number among runs; n lies in one of those that begin at most at it, if in any

found-none : (runs : List IdRange) (n : ℕ) → IsPartitionPoint (λ run. leb run.low n ≡ true) (λ run. leb run.low n ≡ false) runs 0 → lies_in_some runs n ≡ false
found-none runs n parted = list_any_none (λ r. in_range r n) runs (λ k e lt. ap (λ b. b && leb n (get_or runs k e).high) (parted.1 k e (omega arith) lt))

found-at : (runs : List IdRange) (n m : ℕ) (d : IdRange) → AreInOrder runs → m < length runs → IsPartitionPoint (λ run. leb run.low n ≡ true) (λ run. leb run.low n ≡ false) runs (m + 1) → lies_in_some runs n ≡ leb n (get_or runs m d).high
found-at runs n m d apart within parted = by (leb n (get_or runs m d).high) refl
  where
    begins : leb (get_or runs m d).low n ≡ true
    begins = parted.0 m d (omega arith) (omega arith)

    by : (b : Bool) → leb n (get_or runs m d).high ≡ b → lies_in_some runs n ≡ b
    by true ends =
        list_any-from_Any (λ r. in_range r n) runs
        (m, get_or runs m d, omega arith, get_or_default runs m (get_or runs m d) d (omega arith), ap (λ b. b && leb n (get_or runs m d).high) begins ∙ ends)
    by false ends = list_any_none (λ r. in_range r n) runs (λ k e lt. place k e lt (cases_lt k m) (cases_lt m k))
      where
        ended : (k : ℕ) (e : IdRange) → leb n (get_or runs k e).high ≡ false → in_range (get_or runs k e) n ≡ false
        ended k e h = ap (λ b. leb (get_or runs k e).low n && b) h ∙ and-false (leb (get_or runs k e).low n)

        place : (k : ℕ) (e : IdRange) → k < length runs → (k < m) ⊎ (m ≤ k) → (m < k) ⊎ (k ≤ m) → in_range (get_or runs k e) n ≡ false
        place k e lt (inl below) other =
            let apart_here = apart k m e below (omega arith) in
            let here = leb-true (get_or runs m e).low n (parted.0 m e (omega arith) (omega arith)) in
            ended k e (false_from_ne_true (leb n (get_or runs k e).high) (λ h. omega (arith, apart_here.1, here, leb-true n (get_or runs k e).high h)))
        place k e lt (inr above) (inl beyond) =
            ap (λ b. b && leb n (get_or runs k e).high) (parted.1 k e (omega arith) lt)
        place k e lt (inr above) (inr upto) =
            let same : k ≡ m = omega (arith, above, upto) in
            ended k e (ap (λ (r : IdRange). leb n r.high) (ap (λ i. get_or runs i e) same ∙ get_or_default runs m e d (omega arith)) ∙ ends)

-- lows of runs ascend
lows : (runs : List IdRange) → AreInOrder runs → IsNonDecreasingBy (λ run. run.low) runs
lows runs apart = λ i j d le lt. by i j d lt (cases_lt i j) le
  where
    by : (i j : ℕ) (d : IdRange) → j < length runs → (i < j) ⊎ (j ≤ i) → i ≤ j → (get_or runs i d).low ≤ (get_or runs j d).low
    by i j d lt (inl before) le = (apart i j d before lt).0
    by i j d lt (inr after) le =
        let same : i ≡ j = omega (arith, after, le) in
        rw same (omega arith)

-- a slice of the runs is parted by whether a run begins at most at n
pub parts : (slice runs : List IdRange) (n : ℕ) → slice ≡ runs → AreInOrder runs → IsPartitionedBy (λ run. leb run.low n) slice
parts slice runs n same apart = IsPartitionedBy-leb (λ (run : IdRange). run.low) slice n (lows slice (subst (λ (rs : List IdRange). AreInOrder rs) (sym same) apart))

-- slice are the runs; begun of them begin at most at n
pub lies-begun : (runs slice : List IdRange) (n begun : ℕ) (item : IdRange) → slice ≡ runs → AreInOrder runs → begun ≤ length slice → IsPartitionPoint (λ run. leb run.low n ≡ true) (λ run. leb run.low n ≡ false) slice begun → 0 < begun → item ≡ get_or runs (begun - 1) item → leb n item.high ≡ lies_in_some runs n
lies-begun runs slice n begun item same apart within parted some here =
    let m : begun - 1 + 1 ≡ begun = omega (arith, some) in
    let found = found-at slice n (begun - 1) item (subst (λ (rs : List IdRange). AreInOrder rs) (sym same) apart) (omega (arith, within, some))
    (subst (λ (k : ℕ). IsPartitionPoint (λ run. leb run.low n ≡ true) (λ run. leb run.low n ≡ false) slice k) (sym m) parted) in
    ap (λ (r : IdRange). leb n r.high) (here ∙ ap (λ (rs : List IdRange). get_or rs (begun - 1) item) (sym same)) ∙ sym found
    ∙ ap (λ (rs : List IdRange). lies_in_some rs n) same

pub lies-none : (runs slice : List IdRange) (n begun : ℕ) → slice ≡ runs → IsPartitionPoint (λ run. leb run.low n ≡ true) (λ run. leb run.low n ≡ false) slice begun → begun ≤ 0 → ltb 0 begun ≡ lies_in_some runs n
lies-none runs slice n begun same parted none =
    let zero_is : begun ≡ 0 = omega (arith, none) in
    ap (λ (k : ℕ). ltb 0 k) zero_is
    ∙ sym (found-none slice n (subst (λ (k : ℕ). IsPartitionPoint (λ run. leb run.low n ≡ true) (λ run. leb run.low n ≡ false) slice k) zero_is parted))
    ∙ ap (λ (rs : List IdRange). lies_in_some rs n) same
