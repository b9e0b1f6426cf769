-- What is held of files and the mark, and what calls have made of them.
use Rattle.std.proofs.Common.{◌≡◌, ◌≢◌, inl, inr, ◌<◌, ◌≤◌, ◌+◌, ℕ, suc, Bool, true, false, cond, not, ◌||◌, nat_lt, List, [], ◌∷◌, ◌++◌, Option, None, Some, IsSome, Result, Ok, Err, OnOk, map, take, get_or, length, slice_get, refl, sym, ◌∙◌, ap, subst, arith, rules}
use Rattle.std.specs.List.{position_or_len, position, list_any}
use Rattle.std.specs.Option.{option_map, option_and_then}
use Rattle.std.specs.Str.{bytes_eq}
use Rattle.std.specs.Cmp.Lexicographic.{bytes_decides}
use Rattle.std.proofs.lemmas.Bool.Decides.{nat_tests}
use Rattle.std.proofs.lemmas.List.{length-map, length-take-le, get_or-map, get_or-take, take_more}
use Rattle.reown_plan.specs.declared.mark.PlanMark.{PlanMark}
use Rattle.reown_plan.specs.declared.plan.Owner.{Owner}
use Rattle.reown_plan.specs.PlanData.{PlanRecord, HaveDistinctPaths}
use Rattle.reown_runner.specs.declared.memory.FileCell.{FileCell}
use Rattle.reown_runner.specs.Tree.{Cells, SameMark, Writes, MayDo, Write, IsCounted, cells_of}
use Rattle.reown_runner.specs.Memory.{Mem, known_mem, settled_cell, marked}
use Rattle.reown_runner.specs.Halfway.{mem_of_records}
use Rattle.reown_runner.proofs.Cellwise.{either}
use Rattle.reown_runner.proofs.Lists.{position_or_len-map, slice_get-map, slice_get-past}
use Rattle.reown_files.specs.Calls.{Called, PutMark}
use Rattle.reown_files.specs.Real.{IsReplay}
use Rattle.reown_files.specs.Replay.{Held, with_owner, replay, found_of}
use Rattle.reown_files.proofs.Laws.{nothing}

-- ---- tests of lists

any-map : {K Y : Type 0} (q : Y → Bool) (f : K → Y) (ks : List K) → list_any (λ k. q (f k)) ks ≡ list_any q (map f ks)
any-map q f [] = refl
any-map q f (k ∷ ks) = ap (λ b. q (f k) || b) (any-map q f ks)

any-none : {Y : Type 0} (q : Y → Bool) (ys : List Y) → ((k : ℕ) (d : Y) → k < length ys → q (get_or ys k d) ≡ false) → list_any q ys ≡ false
any-none q [] h = refl
any-none q (y ∷ ys) h = ap (λ b. b || list_any q ys) (h 0 y (omega arith)) ∙ any-none q ys (λ k d below. h (suc k) d (omega arith))

-- ---- files that were met

first_found : (here there : Bool) (p o : Owner) (old new : Option Owner) → (there ≡ true → cond here (Some p) old ≡ None) → ((there ≡ true → old ≡ None) → new ≡ cond there (Some o) old) → cond here (Some p) new ≡ cond there (Some o) (cond here (Some p) old)
first_found true true p o old new none more = absurd (let h : Some p ≡ None = none refl in cc)
first_found true false p o old new none more = refl
first_found false there p o old new none more = more none

found_more : (rs : List PlanRecord) (os : List Owner) (r : PlanRecord) (o : Owner) (path : List ℕ) → length os ≡ length rs → (bytes_eq path r.path ≡ true → found_of rs os path ≡ None)
    → found_of (rs ++ r ∷ []) (os ++ o ∷ []) path ≡ cond (bytes_eq path r.path) (Some o) (found_of rs os path)
found_more [] [] r o path e none = refl
found_more [] (x ∷ os) r o path e none = absurd (omega arith)
found_more (x ∷ rs) [] r o path e none = absurd (omega arith)
found_more (x ∷ rs) (p ∷ os) r o path e none =
    first_found (bytes_eq path x.path) (bytes_eq path r.path) p o (found_of rs os path) (found_of (rs ++ r ∷ []) (os ++ o ∷ []) path) none
    (λ h. found_more rs os r o path (omega arith) h)

neither : (a b : Bool) → (a || b) ≡ false → (a ≡ false) × (b ≡ false)
neither true b e = absurd (let h : true ≡ false = e in cc)
neither false b e = (refl, e)

none_found : (rs : List PlanRecord) (os : List Owner) (path : List ℕ) → list_any (λ r. bytes_eq path r.path) rs ≡ false → found_of rs os path ≡ None
none_found [] [] path h = refl
none_found [] (o ∷ os) path h = refl
none_found (r ∷ rs) [] path h = refl
none_found (r ∷ rs) (o ∷ os) path h =
    let hs = neither (bytes_eq path r.path) (list_any (λ r. bytes_eq path r.path) rs) h in
    ap (λ b. cond b (Some o) (found_of rs os path)) hs.0 ∙ none_found rs os path hs.1

abbrev path_in : PlanRecord → List ℕ
path_in r = r.path

pub differ : (a b : List ℕ) → a ≢ b → bytes_eq a b ≡ false
differ a b ne = elim (either (bytes_eq a b)) [ inl same ↦ absurd (ne ((bytes_decides a b).0 same)) | inr other ↦ other ]

module _ (rs : List PlanRecord) (distinct : HaveDistinctPaths rs) (i : ℕ) (below : i < length rs) where
  abbrev record_here : PlanRecord
  record_here = get_or rs i nothing

  not_before : list_any (λ x. bytes_eq record_here.path x.path) (take i rs) ≡ false
  not_before =
      any-map (bytes_eq record_here.path) path_in (take i rs)
      ∙ any-none (bytes_eq record_here.path) (map path_in (take i rs)) (λ k p within.
      let less : k < i = omega (arith, length-map (take i rs) path_in, length-take-le i rs (omega arith)) in
      let there : get_or (map path_in (take i rs)) k p ≡ (get_or rs k nothing).path =
      get_or-map path_in (take i rs) k nothing p (omega (arith, length-take-le i rs (omega arith))) ∙ ap path_in (get_or-take i rs k nothing less) in
      differ record_here.path (get_or (map path_in (take i rs)) k p) (λ e. distinct k i nothing less below (sym there ∙ sym e)))

  -- one more file is met
  pub met_more : (os : List Owner) (o : Owner) (old : Held) → length os ≡ i → ((path : List ℕ) → old.owner path ≡ found_of (take i rs) os path)
      → (path : List ℕ) → (with_owner record_here.path (Some o) old).owner path ≡ found_of (take (i + 1) rs) (os ++ o ∷ []) path
  met_more os o old as_many met path =
      let none : bytes_eq path record_here.path ≡ true → found_of (take i rs) os path ≡ None = λ e.
      subst (λ p. found_of (take i rs) os p ≡ None) (sym ((bytes_decides path record_here.path).0 e)) (none_found (take i rs) os record_here.path not_before) in
      ap (λ x. cond (bytes_eq path record_here.path) (Some o) x) (met path)
      ∙ sym (found_more (take i rs) os record_here o path (omega (arith, as_many, length-take-le i rs (omega arith))) none)
      ∙ ap (λ xs. found_of xs (os ++ o ∷ []) path) (sym (take_more rs i nothing below))

-- ---- a tree that holds what was found

abbrev now_of : Option FileCell → Option Owner
now_of c = option_map (λ c. c.now) c

at_position : {X Y : Type 0} (p : X → Bool) (xs : List X) (ys : List Y) → length ys ≡ length xs → option_and_then (slice_get ys) (position p xs) ≡ slice_get ys (position_or_len p xs)
at_position p xs ys as_many =
    let n = position_or_len p xs in
    let at = λ (b : Bool). option_and_then (slice_get ys) (cond b (Some n) None) in
    elim (either (nat_lt n (length xs))) [
      | inl less ↦ ap at less
      | inr past ↦ let beyond : length ys ≤ n = grind (arith, nat_tests) in ap at past ∙ sym (slice_get-past ys n beyond)
    ]

settled_now : (o : Option Owner) → now_of (option_map settled_cell o) ≡ o
settled_now None = refl
settled_now (Some o) = refl

one_further : (b : Bool) (n : ℕ) (o : Owner) (os : List Owner) (rest : Option Owner) → slice_get os n ≡ rest → slice_get (o ∷ os) (cond (not b) (1 + n) 0) ≡ cond b (Some o) rest
one_further true n o os rest e = refl
one_further false n o os rest e = let one : 1 + n ≡ suc n = omega arith in ap (slice_get (o ∷ os)) one ∙ e

found_at : (rs : List PlanRecord) (os : List Owner) (path : List ℕ) → length os ≡ length rs → slice_get os (position_or_len (λ r. bytes_eq path r.path) rs) ≡ found_of rs os path
found_at [] [] path e = refl
found_at [] (o ∷ os) path e = absurd (omega arith)
found_at (r ∷ rs) [] path e = absurd (omega arith)
found_at (r ∷ rs) (o ∷ os) path e =
    one_further (bytes_eq path r.path) (position_or_len (λ r. bytes_eq path r.path) rs) o os (found_of rs os path) (found_at rs os path (omega arith))

pub found_held : (rs : List PlanRecord) (os : List Owner) (mark : Option PlanMark) (path : List ℕ) → length os ≡ length rs → (known_mem (mem_of_records rs os mark)).owner path ≡ found_of rs os path
found_held rs os mark path as_many =
    let n = position_or_len (bytes_eq path) (map path_in rs) in
    ap now_of (at_position (bytes_eq path) (map path_in rs) (map settled_cell os) (length-map os settled_cell ∙ as_many ∙ sym (length-map rs path_in)))
    ∙ ap now_of (slice_get-map settled_cell os n) ∙ settled_now (slice_get os n)
    ∙ ap (slice_get os) (position_or_len-map (bytes_eq path) path_in rs) ∙ found_at rs os path as_many

-- ---- what changes

pub same_replay : (old new : List Called) (m : Mem) → replay new ≡ replay old → IsReplay old m → IsReplay new m
same_replay old new m e r =
    record { owner = λ path. r.owner path ∙ sym (ap (λ (h : Held). h.owner path) e); mark = r.mark ∙ sym (ap (λ (h : Held). h.mark) e) }

-- a change that was made and is held
module _ (old new : List Called) (m n : Mem) (path : List ℕ) (to : Owner) (plan : PlanMark) (writes : Writes path to (cells_of plan (known_mem m)) (cells_of plan (known_mem n))) (mark : n.mark_now ≡ m.mark_now) where
  written : (held : Held) → ((q : List ℕ) → (known_mem m).owner q ≡ held.owner q) → (q : List ℕ) → (known_mem n).owner q ≡ (with_owner path (Some to) held).owner q
  written held is q =
      let at = λ (b : Bool). cond b (Some to) (held.owner q) in
      elim (either (bytes_eq q path)) [
        | inl same ↦ ap (known_mem n).owner ((bytes_decides q path).0 same) ∙ writes.owner ∙ sym (ap at same)
        | inr apart ↦ writes.other q (λ e. let same : bytes_eq q path ≡ true = (bytes_decides q path).1 e in absurd cc) ∙ is q ∙ sym (ap at apart)
      ]

  pub written_replay : replay new ≡ with_owner path (Some to) (replay old) → IsReplay old m → IsReplay new n
  written_replay e r =
      record { owner = λ q. written (replay old) r.owner q ∙ sym (ap (λ (h : Held). h.owner q) e); mark = mark ∙ r.mark ∙ sym (ap (λ (h : Held). h.mark) e) }

-- ---- a tree in memory

-- its calls never fail
pub done_of : {X E P : Type 0} (r : Result X E) → IsCounted 0 0 r → OnOk r P → P
done_of (Ok x) counted p = p
done_of (Err e) counted p = absurd (omega (arith, counted.0))

-- the mark, put and held
pub marked_replay : (old new : List Called) (m n : Mem) (plan : PlanMark) → new ≡ PutMark plan true ∷ old → n ≡ marked plan m → IsReplay old m → IsReplay new n
marked_replay old new m n plan e is r =
    record {
      owner = λ path. ap (λ (k : Mem). (known_mem k).owner path) is ∙ r.owner path ∙ sym (ap (λ (cs : List Called). (replay cs).owner path) e);
      mark = ap (λ (k : Mem). k.mark_now) is ∙ sym (ap (λ (cs : List Called). (replay cs).mark) e);
    }

-- ---- a write that has happened or not, and then happens

both_marks : (a b c : Cells) → SameMark a b → SameMark b c → SameMark a c
both_marks a b c v w =
    record {
      mark = w.mark ∙ v.mark;
      mark_left = λ m. (λ h. (v.mark_left m).0 ((w.mark_left m).0 h), λ h. (w.mark_left m).1 ((v.mark_left m).1 h));
    }

pub writes_after : (path : List ℕ) (to : Owner) (a b c : Cells) → MayDo (Write path to) a b → Writes path to b c → Writes path to a c
writes_after path to a b c (inl same) w =
    let o = same.owners in
    record {
      owner = w.owner;
      owner_left = λ x h. elim (w.owner_left x h) [ inl l ↦ inl ((o.owner_left path x).0 l) | inr e ↦ inr e ];
      other = λ q ne. w.other q ne ∙ o.owner q;
      other_left = λ q ne x. (λ h. (o.owner_left q x).0 ((w.other_left q ne x).0 h), λ h. (w.other_left q ne x).1 ((o.owner_left q x).1 h));
      mark = both_marks a b c same.mark w.mark;
    }
writes_after path to a b c (inr v) w =
    record {
      owner = w.owner;
      owner_left = λ x h. elim (w.owner_left x h) [ inl l ↦ v.owner_left x l | inr e ↦ inr e ];
      other = λ q ne. w.other q ne ∙ v.other q ne;
      other_left = λ q ne x. (λ h. (v.other_left q ne x).0 ((w.other_left q ne x).0 h), λ h. (w.other_left q ne x).1 ((v.other_left q ne x).1 h));
      mark = both_marks a b c v.mark w.mark;
    }

there : (to : Owner) → IsSome (Some to)
there to = search rules

pub still_there : (m n : Mem) (path : List ℕ) (to : Owner) (plan : PlanMark) → MayDo (Write path to) (cells_of plan (known_mem m)) (cells_of plan (known_mem n)) → IsSome ((known_mem m).owner path) → IsSome ((known_mem n).owner path)
still_there m n path to plan (inl same) h = subst (λ (o : Option Owner). IsSome o) (sym (same.owners.owner path)) h
still_there m n path to plan (inr w) h = subst (λ (o : Option Owner). IsSome o) (sym w.owner) (there to)
