-- An advance keeps a host sound.
use Rattle.std.proofs.Common.{◌≡◌, ◌≢◌, ◌⊎◌, ◌<◌, ◌≤◌, ◌+◌, inl, inr, ℕ, zero, suc, Bool, true, false, cond, ◌==◌, nat_lt, List, [], ◌∷◌, Option, None, Some, Result, Ok, Err, length, take, get_or, slice_get, refl, sym, ◌∙◌, ap, subst, arith}
use Rattle.std.proofs.lemmas.Bool.Decides.{nat_tests}
use Rattle.std.proofs.lemmas.List.{take_all, get_or-take, length-take-le}
use Rattle.std.proofs.lemmas.List.Elements.{All-more, All-head, All-tail}
use Rattle.reown_plan.specs.declared.plan.Owner.{Owner}
use Rattle.reown_plan.specs.PlanData.{PlanRecord, HaveDistinctPaths}
use Rattle.reown_runner.specs.declared.runner.Place.{Place}
use Rattle.reown_runner.specs.declared.runner.Place.TheVariants.{Start, Record, SyncOwners, Mark, SyncMark, Done}
use Rattle.reown_runner.specs.declared.runner.RunFault.{RunFault}
use Rattle.reown_runner.specs.declared.runner.RunFault.TheVariants.{Device, Missing, Unfinished, Foreign}
use Rattle.reown_runner.specs.Tree.{Cells, IsReadable, Same, Syncs, Writes, SetsMark, Does, Write, SetMark, Sync}
use Rattle.reown_runner.specs.State.{Keeps}
use Rattle.reown_runner.specs.Safe.{ReadNew, IsSafeInStep}
use Rattle.reown_plan.specs.Owners.{owner_eq}
use Rattle.reown_runner.specs.Step.{Turn, is_new, marked_turn, turn, turn_at, record_turn, record_place, IsAdvance, place_after}
use Rattle.reown_runner.proofs.Turns.{marked-passed, same_keeps, synced_keeps, turn-at_old, turn-at_new}
use Rattle.reown_runner.proofs.Cellwise.{either, LeftNew, CellSafe, CellStep, CellSound, sound_cells, sound_images}

found : {X : Type 0} (xs : List X) (i : ℕ) (x : X) → slice_get xs i ≡ Some x → (d : X) → get_or xs i d ≡ x
found [] i x h d = cc
found (y ∷ ys) zero x h d = cc
found (y ∷ ys) (suc i) x h d = found ys i x h d

there : {X : Type 0} (xs : List X) (i : ℕ) → i < length xs → (x : X) × (slice_get xs i ≡ Some x)
there [] i h = absurd (omega arith)
there (y ∷ ys) zero h = (y, refl)
there (y ∷ ys) (suc i) h = there ys i (omega arith)

abbrev taken : Turn → Result Turn RunFault
taken t = Ok t

abbrev refused : RunFault → Result Turn RunFault
refused fault = Err fault

same_turn : (t u : Turn) → taken t ≡ taken u → t ≡ u
same_turn t u h = cc

not_both : (t : Turn) (fault : RunFault) → taken t ≡ refused fault → ⊥
not_both t fault h = cc

module _ (inventory : List ℕ → Option Owner) (records : List PlanRecord) (old new : Cells) where
  kept_safe : Keeps old new → CellSafe inventory records old → CellSafe inventory records new
  kept_safe k s =
      record {
        planned = λ n d h x left. s.planned n d h x (k.owners.owner_left (get_or records n d).path x left);
        others = λ path h x left. s.others path h x (k.owners.owner_left path x left);
        finished = λ set n d h x left. s.finished (k.mark.mark_left true set) n d h x (k.owners.owner_left (get_or records n d).path x left);
      }

  kept_read : (read : List PlanRecord) → Keeps old new → ReadNew read old → ReadNew read new
  kept_read read k r n d h = k.owners.owner (get_or read n d).path ∙ r n d h

  kept_left : Keeps old new → LeftNew records old → LeftNew records new
  kept_left k l n d h x left = l n d h x (k.owners.owner_left (get_or records n d).path x left)

  kept_step : (place : Place) → Keeps old new → CellStep records place old → CellStep records place new
  kept_step Start k s =
      record { owner = λ path x left. s.owner path x (k.owners.owner_left path x left) ∙ sym (k.owners.owner path); mark = λ m left. s.mark m (k.mark.mark_left m left) ∙ sym k.mark.mark }
  kept_step (Record i) k s = (s.0, kept_read (take i records) k s.1)
  kept_step SyncOwners k s = kept_read records k s
  kept_step Mark k s = kept_left k s
  kept_step SyncMark k s = (kept_left k s.0, k.mark.mark ∙ s.1)
  kept_step Done k s = (kept_left k s.0, λ m left. s.1 m (k.mark.mark_left m left))

  pub kept_sound : (place : Place) → Keeps old new → CellSound inventory records place old → CellSound inventory records place new
  kept_sound place k s = record { safe = kept_safe k s.safe; step = kept_step place k s.step }

  -- a sync
  settled_left : Syncs old new → ReadNew records old → LeftNew records new
  settled_left s read n d h x left = s.settled.owner (get_or records n d).path x left ∙ s.owner (get_or records n d).path ∙ read n d h

  -- the mark is set
  marked_left : SetsMark old new → LeftNew records old → LeftNew records new
  marked_left w l n d h x left = l n d h x ((w.owners.owner_left (get_or records n d).path x).0 left)

  marked_safe : SetsMark old new → LeftNew records old → CellSafe inventory records old → CellSafe inventory records new
  marked_safe w l s =
      record {
        planned = λ n d h x left. s.planned n d h x ((w.owners.owner_left (get_or records n d).path x).0 left);
        others = λ path h x left. s.others path h x ((w.owners.owner_left path x).0 left);
        finished = λ set. marked_left w l;
      }

module _ (inventory : List ℕ → Option Owner) (records : List PlanRecord) (distinct : HaveDistinctPaths records) (i : ℕ) (planned : PlanRecord) (at : slice_get records i ≡ Some planned) (below : i < length records) (old new : Cells) (w : Writes planned.path planned.after old new) where
  is_at : (k : ℕ) (d : PlanRecord) → k ≡ i → get_or records k d ≡ planned
  is_at k d e = ap (λ n. get_or records n d) e ∙ found records i planned at d

  other_path : (k : ℕ) (d : PlanRecord) → k < length records → k ≢ i → (get_or records k d).path ≢ planned.path
  other_path k d h ne same =
      elim (either (nat_lt k i)) [
        | inl less ↦
            let below_i : k < i = grind (arith, nat_tests) in
            distinct k i d below_i below (same ∙ ap (λ c. c.path) (sym (found records i planned at d)))
        | inr more ↦
            let above : i < k = grind (arith, nat_tests) in
            distinct i k d above h (ap (λ c. c.path) (found records i planned at d) ∙ sym same)
      ]

  equal_or_not : (k : ℕ) → (k ≡ i) ⊎ (k ≢ i)
  equal_or_not k = elim (either (k == i)) [ inl e ↦ inl (grind (arith, nat_tests)) | inr e ↦ inr (λ h. grind (arith, nat_tests)) ]

  pub written_safe : CellSafe inventory records old → CellSafe inventory records new
  written_safe s =
      record {
        planned = λ k d h x left.
            elim (equal_or_not k) [
              | inl e ↦
                  let here = is_at k d e in
                  elim (w.owner_left x (subst (λ c. new.owner_left c.path x) here left)) [
                    | inl was ↦ s.planned k d h x (subst (λ c. old.owner_left c.path x) (sym here) was)
                    | inr is ↦ inr (is ∙ ap (λ c. Some c.after) (sym here))
                  ]
              | inr ne ↦ s.planned k d h x ((w.other_left (get_or records k d).path (other_path k d h ne) x).0 left)
            ];
        others = λ path h x left.
            let ne : path ≢ planned.path = λ same. h i planned below (ap (λ c. c.path) (found records i planned at planned) ∙ sym same) in
            s.others path h x ((w.other_left path ne x).0 left);
        finished = λ set k d h x left.
            let all = s.finished ((w.mark.mark_left true).0 set) k d h in
            elim (equal_or_not k) [
              | inl e ↦
                  let here = is_at k d e in
                  elim (w.owner_left x (subst (λ c. new.owner_left c.path x) here left)) [
                    | inl was ↦ all x (subst (λ c. old.owner_left c.path x) (sym here) was)
                    | inr is ↦ is ∙ ap (λ c. Some c.after) (sym here)
                  ]
              | inr ne ↦ all x ((w.other_left (get_or records k d).path (other_path k d h ne) x).0 left)
            ];
      }

  front : (n k : ℕ) (d : PlanRecord) → k < n → get_or (take n records) k d ≡ get_or records k d
  front n k d h = get_or-take n records k d h

  short : (n k : ℕ) → k < length (take n records) → n ≤ length records → k < n
  short n k h le = let e = length-take-le n records le in omega arith

  written_before : ReadNew (take i records) old → ReadNew (take i records) new
  written_before read k d h =
      let less : k < i = short i k h (omega arith) in
      let same = front i k d less in
      let ne : get_or (take i records) k d ≡ get_or records k d = same in
      let other : (get_or (take i records) k d).path ≢ planned.path = λ e. other_path k d (omega arith) (λ q. omega arith) (ap (λ c. c.path) (sym same) ∙ e) in
      w.other (get_or (take i records) k d).path other ∙ read k d h

  written_read : ReadNew (take i records) old → ReadNew (take (i + 1) records) new
  written_read read k d h =
      let less : k < i + 1 = short (i + 1) k h (omega arith) in
      let same = front (i + 1) k d less in
      elim (equal_or_not k) [
        | inl e ↦ subst (λ c. new.owner c.path ≡ Some c.after) (sym (same ∙ is_at k d e)) w.owner
        | inr ne ↦
            let less_i : k < i = omega arith in
            let within : k < length (take i records) = (let e = length-take-le i records (omega arith) in omega arith) in
            let r = written_before read k d within in
            subst (λ c. new.owner c.path ≡ Some c.after) (front i k d less_i ∙ sym same) r
      ]

-- after these records stands the next of them, or the sync
behind : (records : List PlanRecord) (c : Cells) (i : ℕ) → ReadNew (take i records) c → CellStep records (record_place records i) c
behind records c i read =
    elim (either (nat_lt i (length records))) [
      | inl more ↦
          let below : i < length records = grind (arith, nat_tests) in
          let is : record_place records i ≡ Record i = ap (λ b. cond b (Record i) SyncOwners) more in
          subst (λ p. CellStep records p c) (sym is) (below, read)
      | inr all ↦
          let past : length records ≤ i = grind (arith, nat_tests) in
          let is : record_place records i ≡ SyncOwners = ap (λ b. cond b (Record i) SyncOwners) all in
          subst (λ p. CellStep records p c) (sym is) (subst (λ cs. ReadNew cs c) (take_all i records past) read)
    ]

-- at a record of a sound host: it is written, or it was
pub data AtRecord (i : ℕ) (planned : PlanRecord) (next : Place) (owner : Option Owner) : Type 0 where
  writes : record_turn i planned next owner ≡ Ok (record { operation = Some (Write planned.path planned.after); next = next }) → AtRecord i planned next owner
  passes : record_turn i planned next owner ≡ Ok (record { operation = None; next = next }) → owner ≡ Some planned.after → AtRecord i planned next owner

equal_owner : (a : Owner) → owner_eq a a ≡ true
equal_owner a = grind (arith, nat_tests)

at_record : (i : ℕ) (planned : PlanRecord) (next : Place) (owner : Option Owner) → (owner ≡ Some planned.before) ⊎ (owner ≡ Some planned.after) → AtRecord i planned next owner
at_record i planned next owner (inl old) = writes (ap (record_turn i planned next) old ∙ turn-at_old i planned next planned.before (equal_owner planned.before))
at_record i planned next owner (inr new) =
    elim (either (owner_eq planned.after planned.before)) [
      | inl same ↦ writes (ap (record_turn i planned next) new ∙ turn-at_old i planned next planned.after same)
      | inr other ↦ passes (ap (record_turn i planned next) new ∙ turn-at_new i planned next planned.after other (equal_owner planned.after)) new
    ]

-- a file that has its new owner is passed
read_more : (records : List PlanRecord) (i : ℕ) (planned : PlanRecord) → slice_get records i ≡ Some planned → i < length records → (c : Cells) → c.owner planned.path ≡ Some planned.after → ReadNew (take i records) c → ReadNew (take (i + 1) records) c
read_more records i planned at below c here read = All-more (λ r. c.owner r.path ≡ Some r.after) records i planned below read (subst (λ r. c.owner r.path ≡ Some r.after) (sym (found records i planned at planned)) here)

module _ (inventory : List ℕ → Option Owner) (records : List PlanRecord) (distinct : HaveDistinctPaths records) (old new : Cells) (readable : IsReadable old) where
  -- a turn that was taken, at a place
  abbrev Sound : Place → Cells → Type 0
  Sound place c = CellSound inventory records place c

  record_reads : (i : ℕ) (planned : PlanRecord) → slice_get records i ≡ Some planned → i < length records → CellSafe inventory records old → (old.owner planned.path ≡ Some planned.before) ⊎ (old.owner planned.path ≡ Some planned.after)
  record_reads i planned at below safe =
      let here = found records i planned at planned in
      elim (safe.planned i planned below (old.owner (get_or records i planned).path) (readable.owner (get_or records i planned).path)) [
        | inl is ↦ inl (subst (λ c. old.owner c.path ≡ Some c.before) here is)
        | inr is ↦ inr (subst (λ c. old.owner c.path ≡ Some c.after) here is)
      ]

  same_sound : (place : Place) → Same old new → Sound place old → Sound place new
  same_sound place k s = kept_sound inventory records old new place (same_keeps k) s

  -- what was taken is the turn
  did_turn : (t u : Turn) → taken t ≡ taken u → Does u.operation old new → Does t.operation old new
  did_turn t u same did = subst (λ v. Does v.operation old new) (sym (same_turn t u same)) did

  -- where the mark is set each file is at its new owner
  marked_reads : old.mark ≡ true → CellSafe inventory records old → ReadNew records old
  marked_reads set safe n d h = safe.finished (subst old.mark_left set readable.mark) n d h (old.owner (get_or records n d).path) (readable.owner (get_or records n d).path)

  all_passed : (i : ℕ) (some : List PlanRecord) → ReadNew some old → marked_turn i some old.owner ≡ Ok (record { operation = None; next = Done })
  all_passed i [] new = refl
  all_passed i (r ∷ rs) new =
      let here : old.owner r.path ≡ Some r.after = All-head (λ (x : PlanRecord). old.owner x.path ≡ Some x.after) r rs new in
      marked-passed i r rs old.owner (ap (is_new r) here ∙ equal_owner r.after) ∙ all_passed (i + 1) rs (All-tail (λ (x : PlanRecord). old.owner x.path ≡ Some x.after) r rs new)

  abbrev start_turn : Bool → Turn
  start_turn mark = record { operation = None; next = cond mark Done (record_place records 0) }

  start_takes : (mark : Bool) → old.mark ≡ mark → CellSafe inventory records old → turn records Start old.owner mark ≡ Ok (start_turn mark)
  start_takes true set safe = all_passed 0 records (marked_reads set safe)
  start_takes false set safe = refl

  start_sound : (mark : Bool) → old.mark ≡ mark → Sound Start old → Same old new → Sound (cond mark Done (record_place records 0)) new
  start_sound true set s k =
      same_sound Done k (record {
        safe = s.safe;
        step = (s.safe.finished (subst old.mark_left set readable.mark), λ m left. s.step.mark m left ∙ set);
      })
  start_sound false set s k =
      same_sound (record_place records 0) k (record { safe = s.safe; step = behind records old 0 (λ n d h. absurd (omega arith)) })

  record_sound : (i : ℕ) (planned : PlanRecord) → slice_get records i ≡ Some planned → Sound (Record i) old → AtRecord i planned (record_place records (i + 1)) (old.owner planned.path)
      → (answer : Result Place RunFault) → IsAdvance (record_turn i planned (record_place records (i + 1)) (old.owner planned.path)) (λ operation. Does operation old new) answer → Sound (place_after (Record i) answer) new
  record_sound i planned at s (writes is) (Ok next) a =
      let w = did_turn (record { operation = Some (Write planned.path planned.after); next = record_place records (i + 1) }) a.0 (sym is ∙ a.1) a.3 in
      let to : record_place records (i + 1) ≡ next = ap (λ t. t.next) (same_turn (record { operation = Some (Write planned.path planned.after); next = record_place records (i + 1) }) a.0 (sym is ∙ a.1)) ∙ sym a.2 in
      subst (λ p. Sound p new) to (record {
        safe = written_safe inventory records distinct i planned at s.step.0 old new w s.safe;
        step = behind records new (i + 1) (written_read inventory records distinct i planned at s.step.0 old new w s.step.1);
      })
  record_sound i planned at s (passes is read) (Ok next) a =
      let k = did_turn (record { operation = None; next = record_place records (i + 1) }) a.0 (sym is ∙ a.1) a.3 in
      let to : record_place records (i + 1) ≡ next = ap (λ t. t.next) (same_turn (record { operation = None; next = record_place records (i + 1) }) a.0 (sym is ∙ a.1)) ∙ sym a.2 in
      subst (λ p. Sound p new) to (same_sound (record_place records (i + 1)) k (record { safe = s.safe; step = behind records old (i + 1) (read_more records i planned at s.step.0 old read s.step.1) }))
  record_sound i planned at s h (Err Device) (inl k) = same_sound (Record i) k s
  record_sound i planned at s (writes is) (Err Device) (inr a) =
      let w = did_turn (record { operation = Some (Write planned.path planned.after); next = record_place records (i + 1) }) a.0 (sym is ∙ a.1) a.2 in
      record {
        safe = written_safe inventory records distinct i planned at s.step.0 old new w s.safe;
        step = (s.step.0, written_before inventory records distinct i planned at s.step.0 old new w s.step.1);
      }
  record_sound i planned at s (passes is read) (Err Device) (inr a) =
      same_sound (Record i) (did_turn (record { operation = None; next = record_place records (i + 1) }) a.0 (sym is ∙ a.1) a.2) s
  record_sound i planned at s h (Err (Missing j)) a = same_sound (Record i) a.1 s
  record_sound i planned at s h (Err (Unfinished j)) a = same_sound (Record i) a.1 s
  record_sound i planned at s h (Err (Foreign j)) a = same_sound (Record i) a.1 s

  pub advance_sound : (place : Place) (answer : Result Place RunFault) → Sound place old → IsAdvance (turn records place old.owner old.mark) (λ operation. Does operation old new) answer → Sound (place_after place answer) new
  advance_sound Start (Ok next) s a =
      let t = start_turn old.mark in
      let is = sym (start_takes old.mark refl s.safe) ∙ a.1 in
      subst (λ p. Sound p new) (ap (λ u. u.next) (same_turn t a.0 is) ∙ sym a.2) (start_sound old.mark refl s (did_turn t a.0 is a.3))
  advance_sound Start (Err Device) s (inl k) = same_sound Start k s
  advance_sound Start (Err Device) s (inr a) =
      same_sound Start (did_turn (start_turn old.mark) a.0 (sym (start_takes old.mark refl s.safe) ∙ a.1) a.2) s
  advance_sound Start (Err (Missing j)) s a = same_sound Start a.1 s
  advance_sound Start (Err (Unfinished j)) s a = same_sound Start a.1 s
  advance_sound Start (Err (Foreign j)) s a = same_sound Start a.1 s
  advance_sound (Record i) answer s a =
      let planned = (there records i s.step.0).0 in
      let at = (there records i s.step.0).1 in
      record_sound i planned at s (at_record i planned (record_place records (i + 1)) (old.owner planned.path) (record_reads i planned at s.step.0 s.safe)) answer
      (subst (λ o. IsAdvance (turn_at records i o old.owner) (λ operation. Does operation old new) answer) at a)
  advance_sound SyncOwners (Ok next) s a =
      let t : Turn = record { operation = Some Sync; next = Mark } in
      let did = did_turn t a.0 a.1 a.3 in
      subst (λ p. Sound p new) (ap (λ u. u.next) (same_turn t a.0 a.1) ∙ sym a.2) (record { safe = kept_safe inventory records old new (synced_keeps readable did) s.safe; step = settled_left inventory records old new did s.step })
  advance_sound SyncOwners (Err Device) s (inl k) = same_sound SyncOwners k s
  advance_sound SyncOwners (Err Device) s (inr a) = kept_sound inventory records old new SyncOwners (synced_keeps readable (did_turn (record { operation = Some Sync; next = Mark }) a.0 a.1 a.2)) s
  advance_sound SyncOwners (Err (Missing j)) s a = same_sound SyncOwners a.1 s
  advance_sound SyncOwners (Err (Unfinished j)) s a = same_sound SyncOwners a.1 s
  advance_sound SyncOwners (Err (Foreign j)) s a = same_sound SyncOwners a.1 s
  advance_sound Mark (Ok next) s a =
      let t : Turn = record { operation = Some SetMark; next = SyncMark } in
      let w = did_turn t a.0 a.1 a.3 in
      subst (λ p. Sound p new) (ap (λ u. u.next) (same_turn t a.0 a.1) ∙ sym a.2) (record { safe = marked_safe inventory records old new w s.step s.safe; step = (marked_left inventory records old new w s.step, w.mark) })
  advance_sound Mark (Err Device) s (inl k) = same_sound Mark k s
  advance_sound Mark (Err Device) s (inr a) =
      let w = did_turn (record { operation = Some SetMark; next = SyncMark }) a.0 a.1 a.2 in
      record { safe = marked_safe inventory records old new w s.step s.safe; step = marked_left inventory records old new w s.step }
  advance_sound Mark (Err (Missing j)) s a = same_sound Mark a.1 s
  advance_sound Mark (Err (Unfinished j)) s a = same_sound Mark a.1 s
  advance_sound Mark (Err (Foreign j)) s a = same_sound Mark a.1 s
  advance_sound SyncMark (Ok next) s a =
      let t : Turn = record { operation = Some Sync; next = Done } in
      let did = did_turn t a.0 a.1 a.3 in
      subst (λ p. Sound p new) (ap (λ u. u.next) (same_turn t a.0 a.1) ∙ sym a.2) (record {
        safe = kept_safe inventory records old new (synced_keeps readable did) s.safe;
        step = (kept_left inventory records old new (synced_keeps readable did) s.step.0, λ m left. did.settled.mark m left ∙ did.mark ∙ s.step.1);
      })
  advance_sound SyncMark (Err Device) s (inl k) = same_sound SyncMark k s
  advance_sound SyncMark (Err Device) s (inr a) = kept_sound inventory records old new SyncMark (synced_keeps readable (did_turn (record { operation = Some Sync; next = Done }) a.0 a.1 a.2)) s
  advance_sound SyncMark (Err (Missing j)) s a = same_sound SyncMark a.1 s
  advance_sound SyncMark (Err (Unfinished j)) s a = same_sound SyncMark a.1 s
  advance_sound SyncMark (Err (Foreign j)) s a = same_sound SyncMark a.1 s
  advance_sound Done (Ok next) s a =
      let t : Turn = record { operation = None; next = Done } in
      subst (λ p. Sound p new) (ap (λ u. u.next) (same_turn t a.0 a.1) ∙ sym a.2) (same_sound Done (did_turn t a.0 a.1 a.3) s)
  advance_sound Done (Err Device) s (inl k) = same_sound Done k s
  advance_sound Done (Err Device) s (inr a) = same_sound Done (did_turn (record { operation = None; next = Done }) a.0 a.1 a.2) s
  advance_sound Done (Err (Missing j)) s a = same_sound Done a.1 s
  advance_sound Done (Err (Unfinished j)) s a = same_sound Done a.1 s
  advance_sound Done (Err (Foreign j)) s a = same_sound Done a.1 s

  -- a sound host is refused by its device alone
  pub has_turn : (place : Place) → Sound place old → (t : Turn) × (turn records place old.owner old.mark ≡ Ok t)
  has_turn Start s = (start_turn old.mark, start_takes old.mark refl s.safe)
  has_turn (Record i) s =
      let planned = (there records i s.step.0).0 in
      let at = (there records i s.step.0).1 in
      let next = record_place records (i + 1) in
      let same : turn records (Record i) old.owner old.mark ≡ record_turn i planned next (old.owner planned.path) = ap (λ o. turn_at records i o old.owner) at in
      elim (at_record i planned next (old.owner planned.path) (record_reads i planned at s.step.0 s.safe)) [
        | writes is ↦ (record { operation = Some (Write planned.path planned.after); next = next }, same ∙ is)
        | passes is read ↦ (record { operation = None; next = next }, same ∙ is)
      ]
  has_turn SyncOwners s = (record { operation = Some Sync; next = Mark }, refl)
  has_turn Mark s = (record { operation = Some SetMark; next = SyncMark }, refl)
  has_turn SyncMark s = (record { operation = Some Sync; next = Done }, refl)
  has_turn Done s = (record { operation = None; next = Done }, refl)

module _ (inventory : List ℕ → Option Owner) (records : List PlanRecord) (distinct : HaveDistinctPaths records) (old new : Cells) (readable : IsReadable old) where
  pub sound_after : (place : Place) (answer : Result Place RunFault) → IsSafeInStep inventory records place old → IsAdvance (turn records place old.owner old.mark) (λ operation. Does operation old new) answer → IsSafeInStep inventory records (place_after place answer) new
  sound_after place answer s a =
      sound_images inventory records new (place_after place answer) (advance_sound inventory records distinct old new readable place answer (sound_cells inventory records old place readable s) a)

  pub only_device : (place : Place) (fault : RunFault) → IsSafeInStep inventory records place old → IsAdvance (turn records place old.owner old.mark) (λ operation. Does operation old new) (Err fault) → fault ≡ Device
  only_device place Device s a = refl
  only_device place (Missing i) s a = (let t = has_turn inventory records distinct old new readable place (sound_cells inventory records old place readable s) in absurd (not_both t.0 (Missing i) (sym t.1 ∙ a.0)))
  only_device place (Unfinished i) s a = (let t = has_turn inventory records distinct old new readable place (sound_cells inventory records old place readable s) in absurd (not_both t.0 (Unfinished i) (sym t.1 ∙ a.0)))
  only_device place (Foreign i) s a = (let t = has_turn inventory records distinct old new readable place (sound_cells inventory records old place readable s) in absurd (not_both t.0 (Foreign i) (sym t.1 ∙ a.0)))
