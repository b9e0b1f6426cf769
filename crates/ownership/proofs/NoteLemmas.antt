-- Counters with notes beside them: what one note more changes.
use Rattle.std.proofs.Common.{◌≡◌, ◌≢◌, ℕ, zero, suc, ◌+◌, ◌<◌, ◌≤◌, ◌==◌, ◌&&◌, Bool, true, false, cond, ◌||◌, List, [], ◌∷◌, ◌++◌, length, map, take, get_or, set, Result, Ok, Err, OnErr, refl, sym, ◌∙◌, ap, subst, arith, inl, inr}
use Rattle.std.specs.List.{All}
use Rattle.std.proofs.lemmas.Bool.{both_ways, cases_Bool, cases_eq, cases_lt, eq-eqb, eqb-true, ne_eqb}
use Rattle.std.proofs.lemmas.List.{get_or-map, get_or-set_other, get_or-set_same, get_or_append_left, get_or_push, length-set, map-set, take_more}
use Rattle.std.proofs.lemmas.List.Elements.{All-head, All-nil, All-push, All-tail}
use Rattle.std.proofs.lemmas.List.Sums.{sum_by-take-le, sum_by_push}
use Rattle.std.proofs.Math.Bool.{and-false}
use Rattle.hosts_join.specs.Accounts.{Account}
use Rattle.ownership.specs.declared.tally.Cell.{Cell}
use Rattle.ownership.specs.Counts.{AreWithin, CountsMore, Tally, TellTheSame, count_in, has_cell, no_tally, tally_at, told_kept, told_total}
use Rattle.ownership.specs.HostFiles.{CountsRows}
use Rattle.ownership.specs.Noted.{noted_in, notes_at, with_all_notes, with_notes}

-- counters with so many files more, by their numbers
abbrev more_each : (ℕ → ℕ) → List (ℕ × ℕ) → List (ℕ × ℕ)
more_each f cells = map (λ c. (c.0, c.1 + f c.0)) cells

pub has_cell-more_each : (f : ℕ → ℕ) (cells : List (ℕ × ℕ)) (v : ℕ) → has_cell (more_each f cells) v ≡ has_cell cells v
has_cell-more_each f [] v = refl
has_cell-more_each f (c ∷ cs) v = ap (λ b. (v == c.0) || b) (has_cell-more_each f cs v)

count-more_each : (f : ℕ → ℕ) (cells : List (ℕ × ℕ)) (v : ℕ) → has_cell cells v ≡ true → count_in (more_each f cells) v ≡ count_in cells v + f v
count-more_each f [] v there = absurd (cc)
count-more_each f (c ∷ cs) v there = elim (cases_Bool (v == c.0)) [
  | inl t ↦ rw t (ap (λ n. c.1 + f n) (sym (eqb-true v c.0 t)))
  | inr lacks ↦ let later = rw lacks at there in rw lacks (count-more_each f cs v later)
]

count-none : (cells : List (ℕ × ℕ)) (v : ℕ) → has_cell cells v ≡ false → count_in cells v ≡ 0
count-none [] v none = refl
count-none (c ∷ cs) v none = elim (cases_Bool (v == c.0)) [
  | inl t ↦ let none' : true ≡ false = rw t at none in absurd (cc)
  | inr lacks ↦ let later = rw lacks at none in rw lacks (count-none cs v later)
]

-- the number of a counter that notes tell of
pub count-noted : (t : Tally) (notes : List Cell) (v : ℕ) → has_cell t.cells v ≡ true → count_in (with_notes t notes).cells v ≡ count_in t.cells v + noted_in notes v
count-noted t notes v there = count-more_each (noted_in notes) t.cells v there

-- a number without a counter has none with notes either
pub count-unnoted : (t : Tally) (notes : List Cell) (v : ℕ) → has_cell t.cells v ≡ false → count_in (with_notes t notes).cells v ≡ 0
count-unnoted t notes v none = count-none (with_notes t notes).cells v (has_cell-more_each (noted_in notes) t.cells v ∙ none)

-- one note more
pub count-note : (t : Tally) (notes : List Cell) (c : Cell) (v : ℕ) → has_cell t.cells c.number ≡ true
    → count_in (with_notes t (notes ++ c ∷ [])).cells v ≡ count_in (with_notes t notes).cells v + cond (c.number == v) c.files 0
count-note t notes c v there = elim (cases_Bool (has_cell t.cells v)) [
  | inl has ↦
      let pushed = sum_by_push (λ (x : Cell). cond {A = ℕ} (x.number == v) x.files 0) notes c in
      omega (arith, count-noted t (notes ++ c ∷ []) v has, count-noted t notes v has, pushed)
  | inr lacks ↦
      let other : (c.number == v) ≡ false = ne_eqb c.number v (λ e. both_ways (has_cell t.cells v) lacks (ap (has_cell t.cells) (sym e) ∙ there)) in
      count-unnoted t (notes ++ c ∷ []) v lacks ∙ sym (count-unnoted t notes v lacks) ∙ rw other (omega arith)
]

pub total-note : (t : Tally) (notes : List Cell) (c : Cell) → (with_notes t (notes ++ c ∷ [])).total ≡ (with_notes t notes).total + c.files
total-note t notes c = let pushed = sum_by_push (λ (x : Cell). x.files) notes c in omega (arith, pushed)

-- the next of the notes
pub count-next : (t : Tally) (notes : List Cell) (k : ℕ) (d : Cell) (v : ℕ) → k < length notes → has_cell t.cells (get_or notes k d).number ≡ true
    → count_in (with_notes t (take (k + 1) notes)).cells v ≡ count_in (with_notes t (take k notes)).cells v + cond ((get_or notes k d).number == v) (get_or notes k d).files 0
count-next t notes k d v h there = ap (λ ns. count_in (with_notes t ns).cells v) (take_more notes k d h) ∙ count-note t (take k notes) (get_or notes k d) v there

pub total-next : (t : Tally) (notes : List Cell) (k : ℕ) (d : Cell) → k < length notes
    → (with_notes t (take (k + 1) notes)).total ≡ (with_notes t (take k notes)).total + (get_or notes k d).files
total-next t notes k d h = ap (λ ns. (with_notes t ns).total) (take_more notes k d h) ∙ total-note t (take k notes) (get_or notes k d)

-- the first notes are within all
pub count-first : (t : Tally) (notes : List Cell) (k v : ℕ) → count_in (with_notes t (take k notes)).cells v ≤ count_in (with_notes t notes).cells v
count-first t notes k v = elim (cases_Bool (has_cell t.cells v)) [
  | inl has ↦
      let least = sum_by-take-le (λ (x : Cell). cond {A = ℕ} (x.number == v) x.files 0) notes k in
      omega (arith, count-noted t (take k notes) v has, count-noted t notes v has, least)
  | inr lacks ↦ omega (arith, count-unnoted t (take k notes) v lacks)
]

pub total-first : (t : Tally) (notes : List Cell) (k : ℕ) → (with_notes t (take k notes)).total ≤ (with_notes t notes).total
total-first t notes k = let least = sum_by-take-le (λ (x : Cell). x.files) notes k in omega (arith, least)

-- ---- of all names

pub length-noted : (ts : List Tally) (ns : List (List Cell)) → length (with_all_notes ts ns) ≡ length ts
unfolding with_all_notes
length-noted [] ns = refl
length-noted (t ∷ ts) [] = ap suc (length-noted ts [])
length-noted (t ∷ ts) (n ∷ ns) = ap suc (length-noted ts ns)

pub tally_at-noted : (ts : List Tally) (ns : List (List Cell)) (i : ℕ) → length ns ≤ length ts → tally_at (with_all_notes ts ns) i ≡ with_notes (tally_at ts i) (notes_at ns i)
unfolding with_all_notes
tally_at-noted [] [] i few = refl
tally_at-noted [] (n ∷ ns) i few = absurd (omega arith)
tally_at-noted (t ∷ ts) [] zero few = refl
tally_at-noted (t ∷ ts) [] (suc i) few = tally_at-noted ts [] i (omega arith)
tally_at-noted (t ∷ ts) (n ∷ ns) zero few = refl
tally_at-noted (t ∷ ts) (n ∷ ns) (suc i) few = tally_at-noted ts ns i (omega arith)

-- what has a counter with notes has one without
pub noted_has : (ts : List Tally) (ns : List (List Cell)) (k v : ℕ) → length ns ≡ length ts → has_cell (tally_at (with_all_notes ts ns) k).cells v ≡ true → has_cell (tally_at ts k).cells v ≡ true
noted_has ts ns k v len has =
    sym (has_cell-more_each (noted_in (notes_at ns k)) (tally_at ts k).cells v) ∙ ap (λ (t : Tally). has_cell t.cells v) (sym (tally_at-noted ts ns k (omega (arith, len)))) ∙ has

-- one note more of one name
pub noted_more : (ts : List Tally) (ns : List (List Cell)) (k : ℕ) (c : Cell) → length ns ≡ length ts → k < length ns → has_cell (tally_at ts k).cells c.number ≡ true
    → CountsMore (with_all_notes ts ns) (with_all_notes ts (set ns k (notes_at ns k ++ c ∷ []))) k c.number c.files
noted_more ts ns k c len h there =
    let new = set ns k (notes_at ns k ++ c ∷ []) in
    let len' : length new ≤ length ts = omega (arith, len, length-set ns k (notes_at ns k ++ c ∷ [])) in
    let was : (i : ℕ) → tally_at (with_all_notes ts ns) i ≡ with_notes (tally_at ts i) (notes_at ns i) = λ i. tally_at-noted ts ns i (omega (arith, len)) in
    let is : (i : ℕ) → tally_at (with_all_notes ts new) i ≡ with_notes (tally_at ts i) (notes_at new i) = λ i. tally_at-noted ts new i len' in
    let here : notes_at new k ≡ notes_at ns k ++ c ∷ [] = get_or-set_same ns k (notes_at ns k ++ c ∷ []) [] h in
    let there_at : (i : ℕ) → i ≢ k → notes_at new i ≡ notes_at ns i = λ i ne. get_or-set_other ns k i (notes_at ns k ++ c ∷ []) [] ne in
    record {
      len = length-noted ts new ∙ sym (length-noted ts ns);
      cells = λ i v.
          ap (λ (t : Tally). has_cell t.cells v) (is i) ∙ has_cell-more_each (noted_in (notes_at new i)) (tally_at ts i).cells v
          ∙ sym (has_cell-more_each (noted_in (notes_at ns i)) (tally_at ts i).cells v) ∙ ap (λ (t : Tally). has_cell t.cells v) (sym (was i));
      kept = λ i v. ap (λ (t : Tally). count_in t.cells v) (is i) ∙ elim (cases_eq i k) [
        | inl e ↦
            let s = eq-eqb i k e in
            rw (s, e, here) (count-note (tally_at ts k) (notes_at ns k) c v there ∙ ap (λ (t : Tally). count_in t.cells v + cond (c.number == v) c.files 0) (sym (was k)))
        | inr ne ↦
            let s = ne_eqb i k ne in
            rw (s, there_at i ne) (ap (λ (t : Tally). count_in t.cells v) (sym (was i)) ∙ omega arith)
      ];
      total = λ i. ap (λ (t : Tally). t.total) (is i) ∙ elim (cases_eq i k) [
        | inl e ↦
            let s = eq-eqb i k e in
            rw (s, e, here) (total-note (tally_at ts k) (notes_at ns k) c ∙ ap (λ (t : Tally). t.total + c.files) (sym (was k)))
        | inr ne ↦
            let s = ne_eqb i k ne in
            rw (s, there_at i ne) (ap (λ (t : Tally). t.total) (sym (was i)) ∙ omega arith)
      ];
    }

-- ---- no notes

pub count-no_notes : (t : Tally) (v : ℕ) → count_in (with_notes t []).cells v ≡ count_in t.cells v
count-no_notes t v = elim (cases_Bool (has_cell t.cells v)) [
  | inl has ↦ omega (arith, count-noted t [] v has)
  | inr lacks ↦ count-unnoted t [] v lacks ∙ sym (count-none t.cells v lacks)
]

pub notes_at-none : {X : Type 0} (f : X → List Cell) (ns : List X) (i : ℕ) → All (λ n. f n ≡ []) ns → notes_at (map f ns) i ≡ []
notes_at-none f [] i none = refl
notes_at-none f (n ∷ ns) zero none = All-head (λ m. f m ≡ []) n ns none
notes_at-none f (n ∷ ns) (suc i) none = notes_at-none f ns i (All-tail (λ m. f m ≡ []) n ns none)

pub notes_at-beyond : (ns : List (List Cell)) (i : ℕ) → length ns ≤ i → notes_at ns i ≡ []
notes_at-beyond [] i beyond = refl
notes_at-beyond (n ∷ ns) zero beyond = absurd (omega arith)
notes_at-beyond (n ∷ ns) (suc i) beyond = notes_at-beyond ns i (omega arith)

-- the notes of one name with one more
pub notes_pushed : {X : Type 0} (f : X → List Cell) (ns : List X) (k : ℕ) (x d : X) (c : Cell) → k < length ns → f x ≡ f (get_or ns k d) ++ c ∷ [] → map f (set ns k x) ≡ set (map f ns) k (notes_at (map f ns) k ++ c ∷ [])
notes_pushed f ns k x d c h is = map-set f ns k x ∙ ap (set (map f ns) k) (is ∙ ap (λ m. m ++ c ∷ []) (sym (get_or-map f ns k d [] h)))

-- ---- notes that were put into the counters

pub record IsSettled (t : Tally) (notes : List Cell) (new : Tally) : Type 0 where
  pub total : new.total ≡ (with_notes t notes).total
  pub cells : (v : ℕ) → has_cell new.cells v ≡ has_cell t.cells v
  pub counts : (v : ℕ) → count_in new.cells v ≡ count_in (with_notes t notes).cells v

-- where they were so for each name, the counters tell the same
pub settled_same : (ts : List Tally) (ns : List (List Cell)) (new : List Tally) → length ns ≡ length ts → length new ≡ length ts
    → ((i : ℕ) → IsSettled (tally_at ts i) (notes_at ns i) (tally_at new i)) → TellTheSame (with_all_notes ts ns) new
settled_same ts ns new len len' each =
    let was : (i : ℕ) → tally_at (with_all_notes ts ns) i ≡ with_notes (tally_at ts i) (notes_at ns i) = λ i. tally_at-noted ts ns i (omega (arith, len)) in
    record {
      len = len' ∙ sym (length-noted ts ns);
      cells = λ i v.
          (each i).cells v ∙ sym (has_cell-more_each (noted_in (notes_at ns i)) (tally_at ts i).cells v) ∙ ap (λ (t : Tally). has_cell t.cells v) (sym (was i));
      kept = λ i v. (each i).counts v ∙ ap (λ (t : Tally). count_in t.cells v) (sym (was i));
      total = λ i. (each i).total ∙ ap (λ (t : Tally). t.total) (sym (was i));
    }

-- nothing noted, nothing to settle
pub settled_none : (t : Tally) (notes : List Cell) → notes ≡ [] → IsSettled t notes t
settled_none t notes none = rw none (record {
  total = omega arith;
  cells = λ v. refl;
  counts = λ v. sym (count-no_notes t v);
})

-- ---- counters at zero

tally_at-beyond : (ts : List Tally) (i : ℕ) → length ts ≤ i → tally_at ts i ≡ no_tally
tally_at-beyond [] i beyond = refl
tally_at-beyond (t ∷ ts) zero beyond = absurd (omega arith)
tally_at-beyond (t ∷ ts) (suc i) beyond = tally_at-beyond ts i (omega arith)

-- counters at zero without notes
pub none_within : (ts : List Tally) (ns : List (List Cell)) (bound : ℕ) → length ns ≡ length ts → ((i : ℕ) → notes_at ns i ≡ []) → ((i v : ℕ) → i < length ts → told_kept ts i v ≡ 0) → ((i : ℕ) → i < length ts → told_total ts i ≡ 0)
    → AreWithin (with_all_notes ts ns) bound
none_within ts ns bound len none kept total =
    let same = settled_same ts ns ts len refl (λ i. settled_none (tally_at ts i) (notes_at ns i) (none i)) in
    record {
      kept_le = λ i v. elim (cases_lt i (length ts)) [
        | inl h ↦ omega (arith, same.kept i v, kept i v h)
        | inr beyond ↦ omega (arith, same.kept i v, ap (λ (t : Tally). count_in t.cells v) (tally_at-beyond ts i beyond))
      ];
      total_le = λ i. elim (cases_lt i (length ts)) [
        | inl h ↦ omega (arith, same.total i, total i h)
        | inr beyond ↦ omega (arith, same.total i, ap (λ (t : Tally). t.total) (tally_at-beyond ts i beyond))
      ];
    }

pub none_there : (t : Tally) (notes : List Cell) → notes ≡ [] → All (λ x. has_cell t.cells x.number ≡ true) notes
none_there t notes none = rw none (All-nil (λ (x : Cell). has_cell t.cells x.number ≡ true))

-- what holds of each of the first counters, and of one more
pub tally_at-pushed : (P : ℕ → Tally → Type 0) (ts : List Tally) (t : Tally) (n : ℕ) → length ts ≡ n → ((i : ℕ) → i < n → P i (tally_at ts i)) → P n t → (i : ℕ) → i < n + 1 → P i (tally_at (ts ++ t ∷ []) i)
tally_at-pushed P ts t n len each last i h = elim (cases_lt i n) [
  | inl first ↦ subst (P i) (sym (get_or_append_left ts (t ∷ []) no_tally i (omega (arith, first, len)))) (each i first)
  | inr beyond ↦
      let same : i ≡ n = omega (arith, h, beyond) in
      rw same (subst (P n) (sym (get_or_push ts t no_tally n len)) last)
]

-- counters tell the same as themselves
pub same_again : (ts : List Tally) → TellTheSame ts ts
same_again ts = record { len = refl; cells = λ i v. refl; kept = λ i v. refl; total = λ i. refl }

pub on_err : {T E P : Type 0} (r : Result T E) → P → OnErr r P
on_err (Ok t) p = tt
on_err (Err e) p = p

-- ---- bounds

pub within_more : (old new : List Tally) (k number files bound : ℕ) → CountsMore old new k number files → AreWithin old bound → told_kept old k number + files ≤ bound → told_total old k + files ≤ bound → AreWithin new bound
within_more old new k number files bound more was kept total = record {
  kept_le = λ i v. elim (cases_eq i k) [
    | inl e ↦ elim (cases_eq number v) [
      | inl here ↦
          let its : told_kept old i v ≡ told_kept old k number = (λ j. told_kept old (e j) (sym here j)) in
          let most : cond {A = ℕ} ((i == k) && (number == v)) files 0 ≤ files = some ((i == k) && (number == v)) files in
          omega (arith, more.kept i v, its, most, kept)
      | inr other ↦
          let s : ((i == k) && (number == v)) ≡ false = rw (ne_eqb number v other) (and-false (i == k)) in
          omega (arith, more.kept i v, was.kept_le i v, ap (λ b. cond {A = ℕ} b files 0) s)
    ]
    | inr ne ↦
        let s : ((i == k) && (number == v)) ≡ false = rw (ne_eqb i k ne) refl in
        omega (arith, more.kept i v, was.kept_le i v, ap (λ b. cond {A = ℕ} b files 0) s)
  ];
  total_le = λ i. elim (cases_eq i k) [
    | inl e ↦
        let most : cond {A = ℕ} (i == k) files 0 ≤ files = some (i == k) files in
        omega (arith, more.total i, ap (told_total old) e, most, total)
    | inr ne ↦ omega (arith, more.total i, was.total_le i, ap (λ b. cond {A = ℕ} b files 0) (ne_eqb i k ne))
  ];
}
  where
    some : (b : Bool) (n : ℕ) → cond {A = ℕ} b n 0 ≤ n
    some true n = omega arith
    some false n = omega arith

-- a note more has a counter
pub there_more : (ts : List Tally) (ns : List (List Cell)) (k : ℕ) (c : Cell) → k < length ns → has_cell (tally_at ts k).cells c.number ≡ true
    → ((i : ℕ) → All (λ x. has_cell (tally_at ts i).cells x.number ≡ true) (notes_at ns i))
    → (i : ℕ) → All (λ x. has_cell (tally_at ts i).cells x.number ≡ true) (notes_at (set ns k (notes_at ns k ++ c ∷ [])) i)
there_more ts ns k c h there all i = elim (cases_eq i k) [
  | inl e ↦
      let here : notes_at (set ns k (notes_at ns k ++ c ∷ [])) k ≡ notes_at ns k ++ c ∷ [] = get_or-set_same ns k (notes_at ns k ++ c ∷ []) [] h in
      rw (e, here) (All-push (λ (x : Cell). has_cell (tally_at ts k).cells x.number ≡ true) (notes_at ns k) c (all k) there)
  | inr ne ↦ rw (get_or-set_other ns k i (notes_at ns k ++ c ∷ []) [] ne) (all i)
]

-- what counts the same as counters that count rows counts these rows
pub rows_same : (names : List Account) (index : ℕ) (pairs : List (List ℕ × ℕ)) (files : List ℕ) (rows : ℕ) (old now new : List Tally)
    → CountsRows names index pairs files rows old now → TellTheSame now new → CountsRows names index pairs files rows old new
rows_same names index pairs files rows old now new was same = record {
  len = same.len ∙ was.len;
  cells = λ i v. same.cells i v ∙ was.cells i v;
  kept = λ i v. same.kept i v ∙ was.kept i v;
  total = λ i. same.total i ∙ was.total i;
}
