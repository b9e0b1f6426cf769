-- What is done to a tree in memory.
use Rattle.std.proofs.Common.{◌≡◌, ◌≢◌, ◌⊎◌, inl, inr, ◌<◌, ◌≤◌, ℕ, zero, suc, Bool, true, false, cond, nat_lt, List, [], ◌∷◌, Option, None, Some, Contains, map, take, set, get_or, length, slice_get, refl, sym, ◌∙◌, ap, subst, arith}
use Rattle.std.specs.List.{position_or_len, position}
use Rattle.std.specs.Option.{option_map, option_and_then}
use Rattle.std.specs.Str.{bytes_eq}
use Rattle.std.specs.Cmp.Lexicographic.{bytes_decides}
use Rattle.std.proofs.lemmas.Bool.Decides.{nat_tests}
use Rattle.std.proofs.lemmas.List.{length-map}
use Rattle.std.proofs.lemmas.List.Folds.{find_at}
use Rattle.std.proofs.lemmas.List.Quantifiers.{position-Some}
use Rattle.mtree_inv.specs.declared.entry.Entry.{Entry}
use Rattle.reown_plan.specs.declared.mark.PlanMark.{PlanMark}
use Rattle.reown_plan.specs.declared.plan.Owner.{Owner}
use Rattle.reown_plan.specs.Mark.{is_marked_for}
use Rattle.reown_plan.proofs.Marks.{marks_compare}
use Rattle.reown_runner.specs.declared.memory.FileCell.{FileCell}
use Rattle.reown_runner.specs.Tree.{Writes, SetsMark, MarksNoOther, IsSettled, Syncs, Stops, cells_of, ForEachPlan}
use Rattle.reown_plan.specs.Owners.{owner_of}
use Rattle.reown_runner.specs.Memory.{Mem, known_mem, cell_of, values_of, keeps_file, keeps_mark, settled_cell, left_cell, owner_in, new_mem, marked, IsReopened}
use Rattle.reown_runner.specs.Finished.{IsFresh}
use Rattle.reown_runner.specs.MemoryReads.{last_of_two, now_left}
use Rattle.reown_runner.proofs.Cellwise.{either}
use Rattle.reown_runner.proofs.Lists.{position_or_len-map, slice_get-map, slice_get-read, slice_get-past, slice_get-set, slice_get-set_other}

first_of_two : {X : Type 0} (a b : X) → Contains (a ∷ b ∷ []) a
first_of_two a b = (0, omega arith, refl)

pub one_of_two : {X : Type 0} (a b x : X) → Contains (a ∷ b ∷ []) x → (x ≡ a) ⊎ (x ≡ b)
one_of_two a b x (zero, h, e) = inl (sym e)
one_of_two a b x (suc zero, h, e) = inr (sym e)
one_of_two a b x (suc (suc k), h, e) = absurd (omega arith)

pub one_of_one : {X : Type 0} (a x : X) → Contains (a ∷ []) x → x ≡ a
one_of_one a x (zero, h, e) = sym e
one_of_one a x (suc k, h, e) = absurd (omega arith)

abbrev now_of : Option FileCell → Option Owner
now_of c = option_map (λ c. c.now) c

-- a cell whose two values are one
settled_values : (c : Option FileCell) (owner : FileCell → Owner) (x : Option Owner) → Contains (values_of (option_map (λ c. settled_cell (owner c)) c)) x → x ≡ now_of (option_map (λ c. settled_cell (owner c)) c)
settled_values None owner x h = one_of_one None x h
settled_values (Some c) owner x h = elim (one_of_two (Some (owner c)) (Some (owner c)) x h) [ inl e ↦ e | inr e ↦ e ]

-- a sync
abbrev pub synced : FileCell → FileCell
synced c = settled_cell c.now

synced_now : (c : Option FileCell) → now_of (option_map synced c) ≡ now_of c
synced_now None = refl
synced_now (Some c) = refl

module _ (m n : Mem) (paths : n.paths ≡ m.paths) (cells : n.cells ≡ map synced m.cells) where
  at_place : (o : Option ℕ) → option_and_then (slice_get n.cells) o ≡ option_map synced (option_and_then (slice_get m.cells) o)
  at_place None = refl
  at_place (Some i) = ap (λ cs. slice_get cs i) cells ∙ slice_get-map synced m.cells i

  synced_cell : (path : List ℕ) → cell_of n path ≡ option_map synced (cell_of m path)
  synced_cell path = ap (λ ps. option_and_then (slice_get n.cells) (position (bytes_eq path) ps)) paths ∙ at_place (position (bytes_eq path) m.paths)

  pub sync_done : n.mark_now ≡ m.mark_now → n.mark_synced ≡ n.mark_now → ForEachPlan Syncs (known_mem m) (known_mem n)
  sync_done now same plan =
      record {
        owner = λ path. ap now_of (synced_cell path) ∙ synced_now (cell_of m path);
        mark = ap (is_marked_for plan) now;
        settled = record {
          owner = λ path x h. settled_values (cell_of m path) (λ c. c.now) x (subst (λ c. Contains (values_of c) x) (synced_cell path) h) ∙ sym (ap now_of (synced_cell path));
          mark = λ b h. elim (one_of_two (is_marked_for plan n.mark_synced) (is_marked_for plan n.mark_now) b h) [ inl e ↦ e ∙ ap (is_marked_for plan) same | inr e ↦ e ];
        };
      }

-- a write
module _ (m n : Mem) (path : List ℕ) (to : Owner) (i : ℕ) (c : FileCell) (paths : n.paths ≡ m.paths) (here : position (bytes_eq path) m.paths ≡ Some i) (was : slice_get m.cells i ≡ Some c) (below : i < length m.cells)
    (cells : n.cells ≡ set m.cells i (record { synced = c.synced; now = to })) (now : n.mark_now ≡ m.mark_now) (before : n.mark_synced ≡ m.mark_synced) where
  old_here : cell_of m path ≡ Some c
  old_here = ap (option_and_then (slice_get m.cells)) here ∙ was

  new_here : cell_of n path ≡ Some (record { synced = c.synced; now = to })
  new_here =
      ap (λ ps. option_and_then (slice_get n.cells) (position (bytes_eq path) ps)) paths ∙ ap (option_and_then (slice_get n.cells)) here
      ∙ ap (λ cs. slice_get cs i) cells ∙ slice_get-set m.cells i (record { synced = c.synced; now = to }) below

  apart : (q : List ℕ) → q ≢ path → (o : Option ℕ) → position (bytes_eq q) m.paths ≡ o → option_and_then (slice_get n.cells) o ≡ option_and_then (slice_get m.cells) o
  apart q ne None e = refl
  apart q ne (Some j) e =
      let at_q = (bytes_decides q (get_or m.paths j [])).0 (position-Some (bytes_eq q) m.paths j [] e).1 in
      let at_path = (bytes_decides path (get_or m.paths i [])).0 (position-Some (bytes_eq path) m.paths i [] here).1 in
      let differ : j ≡ i → ⊥ = λ same. ne (at_q ∙ ap (λ k. get_or m.paths k []) same ∙ sym at_path) in
      ap (λ cs. slice_get cs j) cells ∙ slice_get-set_other m.cells i j (record { synced = c.synced; now = to }) differ

  other : (q : List ℕ) → q ≢ path → cell_of n q ≡ cell_of m q
  other q ne = ap (λ ps. option_and_then (slice_get n.cells) (position (bytes_eq q) ps)) paths ∙ apart q ne (position (bytes_eq q) m.paths) refl

  pub write_done : ForEachPlan (Writes path to) (known_mem m) (known_mem n)
  write_done plan =
      record {
        owner = ap now_of new_here;
        owner_left = λ x h.
            elim (one_of_two (Some c.synced) (Some to) x (subst (λ o. Contains (values_of o) x) new_here h)) [
              | inl e ↦ inl (subst (λ o. Contains (values_of o) x) (sym old_here) (subst (Contains (Some c.synced ∷ Some c.now ∷ [])) (sym e) (first_of_two (Some c.synced) (Some c.now))))
              | inr e ↦ inr e
            ];
        other = λ q ne. ap now_of (other q ne);
        other_left = λ q ne x. (λ h. subst (λ o. Contains (values_of o) x) (other q ne) h, λ h. subst (λ o. Contains (values_of o) x) (sym (other q ne)) h);
        mark = record {
          mark = ap (is_marked_for plan) now;
          mark_left = λ b.
              let marks : map (is_marked_for plan) (n.mark_synced ∷ n.mark_now ∷ []) ≡ map (is_marked_for plan) (m.mark_synced ∷ m.mark_now ∷ []) = λ k. is_marked_for plan (before k) ∷ is_marked_for plan (now k) ∷ [] in
              (λ h. subst (λ bs. Contains bs b) marks h, λ h. subst (λ bs. Contains bs b) (sym marks) h);
        };
      }

-- a mark
pub marks_no_other : (plan : PlanMark) (m n : Mem) → n ≡ marked plan m → MarksNoOther plan (known_mem m) (known_mem n)
marks_no_other plan m n is =
    subst (λ (x : Mem). MarksNoOther plan (known_mem m) (known_mem x)) (sym is) (
      inr refl,
      λ x h. elim (one_of_two m.mark_synced (Some plan) x h) [
        | inl e ↦ inl (subst (Contains (m.mark_synced ∷ m.mark_now ∷ [])) (sym e) (first_of_two m.mark_synced m.mark_now))
        | inr e ↦ inr e
      ],
    )

pub sets_mark : (plan : PlanMark) (m n : Mem) → n ≡ marked plan m → SetsMark (cells_of plan (known_mem m)) (cells_of plan (known_mem n))
sets_mark plan m n is =
    let own : is_marked_for plan (Some plan) ≡ true = (marks_compare plan plan).1 refl in
    subst (λ (x : Mem). SetsMark (cells_of plan (known_mem m)) (cells_of plan (known_mem x))) (sym is)
    (record {
      mark = own;
      mark_left = λ b h. elim (one_of_two (is_marked_for plan m.mark_synced) (is_marked_for plan (Some plan)) b h) [
        | inl e ↦ inl (subst (Contains (map (is_marked_for plan) (m.mark_synced ∷ m.mark_now ∷ []))) (sym e) (first_of_two (is_marked_for plan m.mark_synced) (is_marked_for plan m.mark_now)))
        | inr e ↦ inr (e ∙ own)
      ];
      owners = record { owner = λ path. refl; owner_left = λ path x. (λ h. h, λ h. h) };
    })

pub marks_none : (plan : PlanMark) (m n : Mem) → n ≡ m → MarksNoOther plan (known_mem m) (known_mem n)
marks_none plan m n is = subst (λ (x : Mem). MarksNoOther plan (known_mem m) (known_mem x)) (sym is) (inl refl, λ x h. inl h)

-- a stop
left_now : (b : Bool) (c : FileCell) → Contains (Some c.synced ∷ Some c.now ∷ []) (Some (left_cell b c).now)
left_now true c = last_of_two (Some c.synced) (Some c.now)
left_now false c = first_of_two (Some c.synced) (Some c.now)

-- what a stop makes of a cell
data Leaves : Option FileCell → Option FileCell → Type 0 where
  nothing : Leaves None None
  leaves : (b : Bool) (c : FileCell) → Leaves (Some c) (Some (left_cell b c))

leaves_one : {a b : Option FileCell} → Leaves a b → Contains (values_of a) (now_of b)
leaves_one nothing = now_left None
leaves_one (leaves b c) = left_now b c

leaves_settled : {a b : Option FileCell} → Leaves a b → (x : Option Owner) → Contains (values_of b) x → x ≡ now_of b
leaves_settled nothing x h = one_of_one None x h
leaves_settled (leaves b c) x h = elim (one_of_two (Some (left_cell b c).synced) (Some (left_cell b c).now) x h) [ inl e ↦ e | inr e ↦ e ]

module _ (m n : Mem) (reopened : IsReopened m n) where
  abbrev nobody : FileCell
  nobody = record { synced = record { uid = 0; gid = 0 }; now = record { uid = 0; gid = 0 } }

  leaves_at : (o : Option ℕ) → Leaves (option_and_then (slice_get m.cells) o) (option_and_then (slice_get n.cells) o)
  leaves_at None = nothing
  leaves_at (Some i) =
      elim (either (nat_lt i (length m.cells))) [
        | inl less ↦
            let below : i < length m.cells = grind (arith, nat_tests) in
            let below_new : i < length n.cells = omega (arith, reopened.as_many) in
            let b = keeps_file m.keep (take i m.cells) in
            let c = get_or m.cells i nobody in
            let new = slice_get-read n.cells i nobody below_new ∙ ap (λ d. Some d) (reopened.cells i nobody below) in
            subst (λ o. Leaves (slice_get m.cells i) o) (sym new) (subst (λ o. Leaves o (Some (left_cell b c))) (sym (slice_get-read m.cells i nobody below)) (leaves b c))
        | inr more ↦
            let past : length m.cells ≤ i = grind (arith, nat_tests) in
            let past_new : length n.cells ≤ i = omega (arith, reopened.as_many) in
            subst (λ o. Leaves (slice_get m.cells i) o) (sym (slice_get-past n.cells i past_new)) (subst (λ o. Leaves o None) (sym (slice_get-past m.cells i past)) nothing)
      ]

  leaves_path : (path : List ℕ) → Leaves (cell_of m path) (cell_of n path)
  leaves_path path = subst (λ ps. Leaves (cell_of m path) (option_and_then (slice_get n.cells) (position (bytes_eq path) ps))) (sym reopened.paths) (leaves_at (position (bytes_eq path) m.paths))

  left_mark : (b : Bool) → Contains (m.mark_synced ∷ m.mark_now ∷ []) (cond b m.mark_now m.mark_synced)
  left_mark true = last_of_two m.mark_synced m.mark_now
  left_mark false = first_of_two m.mark_synced m.mark_now

  pub reopen_mark : Contains (known_mem m).marks_left (known_mem n).mark
  reopen_mark = subst (Contains (m.mark_synced ∷ m.mark_now ∷ [])) (sym reopened.mark) (left_mark (keeps_mark m.keep m.cells))

  kept_mark : (plan : PlanMark) (b : Bool) → Contains (map (is_marked_for plan) (m.mark_synced ∷ m.mark_now ∷ [])) (is_marked_for plan (cond b m.mark_now m.mark_synced))
  kept_mark plan true = last_of_two (is_marked_for plan m.mark_synced) (is_marked_for plan m.mark_now)
  kept_mark plan false = first_of_two (is_marked_for plan m.mark_synced) (is_marked_for plan m.mark_now)

  pub reopen_stops : ForEachPlan Stops (known_mem m) (known_mem n)
  reopen_stops plan =
      record {
        owner = λ path. leaves_one (leaves_path path);
        mark = subst (λ o. Contains (map (is_marked_for plan) (m.mark_synced ∷ m.mark_now ∷ [])) (is_marked_for plan o)) (sym reopened.mark) (kept_mark plan (keeps_mark m.keep m.cells));
        settled = record {
          owner = λ path x h. leaves_settled (leaves_path path) x h;
          mark = λ b h. elim (one_of_two (is_marked_for plan n.mark_synced) (is_marked_for plan n.mark_now) b h) [ inl e ↦ e ∙ ap (is_marked_for plan) reopened.mark_synced | inr e ↦ e ];
        };
      }

-- a new tree
abbrev owner_by : Entry → FileCell
owner_by e = settled_cell (owner_of e)

both_maps : (o : Option Entry) → now_of (option_map owner_by o) ≡ option_map owner_of o
both_maps None = refl
both_maps (Some e) = refl

found_by : (files : List Entry) (p : Entry → Bool) (b : Bool) → nat_lt (position_or_len p files) (length files) ≡ b
    → now_of (option_and_then (slice_get (map owner_by files)) (cond b (Some (position_or_len p files)) None)) ≡ option_map owner_of (slice_get files (position_or_len p files))
found_by files p true e = ap now_of (slice_get-map owner_by files (position_or_len p files)) ∙ both_maps (slice_get files (position_or_len p files))
found_by files p false e =
    let past : length files ≤ position_or_len p files = grind (arith, nat_tests) in
    sym (ap (option_map owner_of) (slice_get-past files (position_or_len p files) past))

pub new_owner : (files : List Entry) (path : List ℕ) → (known_mem (new_mem files)).owner path ≡ owner_in files path
new_owner files path =
    let p : Entry → Bool = λ e. bytes_eq path e.path in
    ap (λ o. now_of (option_and_then (slice_get (map owner_by files)) o)) (λ i. cond (nat_lt (position_or_len-map (bytes_eq path) (λ (e : Entry). e.path) files i) (length-map files (λ (e : Entry). e.path) i)) (Some (position_or_len-map (bytes_eq path) (λ (e : Entry). e.path) files i)) None)
    ∙ found_by files p (nat_lt (position_or_len p files) (length files)) refl
    ∙ ap (option_map owner_of) (sym (find_at p files))

entry_values : (o : Option Entry) (x : Option Owner) → Contains (values_of (option_map owner_by o)) x → x ≡ now_of (option_map owner_by o)
entry_values None x h = one_of_one None x h
entry_values (Some e) x h = elim (one_of_two (Some (owner_of e)) (Some (owner_of e)) x h) [ inl e ↦ e | inr e ↦ e ]

new_settled_at : (files : List Entry) (o : Option ℕ) (x : Option Owner) → Contains (values_of (option_and_then (slice_get (map owner_by files)) o)) x → x ≡ now_of (option_and_then (slice_get (map owner_by files)) o)
new_settled_at files None x h = one_of_one None x h
new_settled_at files (Some i) x h =
    let same = slice_get-map owner_by files i in
    entry_values (slice_get files i) x (subst (λ o. Contains (values_of o) x) same h) ∙ sym (ap now_of same)

pub new_settled : (files : List Entry) (plan : PlanMark) → IsSettled (cells_of plan (known_mem (new_mem files)))
new_settled files plan =
    record {
      owner = λ path x h. new_settled_at files (position (bytes_eq path) (map (λ e. e.path) files)) x h;
      mark = λ b h. elim (one_of_two false false b h) [ inl e ↦ e | inr e ↦ e ];
    }

pub new_fresh : (files : List Entry) (plan : PlanMark) → IsFresh (owner_in files) (cells_of plan (known_mem (new_mem files)))
new_fresh files plan = record { owner = new_owner files; mark = refl; settled = new_settled files plan }
