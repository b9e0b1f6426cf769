-- At which record a run on a fresh tree stops.
use Rattle.std.proofs.Common.{◌≡◌, ◌≢◌, ◌⊎◌, inl, inr, ℕ, zero, suc, ◌+◌, ◌<◌, Bool, true, false, cond, ◌||◌, List, [], ◌∷◌, ◌++◌, Option, None, Some, Result, Ok, Err, MatchResult, OnOk, All, AllPairs, length, get_or, drop, slice_get, replicate, option_map, refl, sym, ◌∙◌, ap, subst, arith, le-ltb, lt-ltb, ◌≤◌}
use Rattle.idtext.specs.First.{first_fault, or_else}
use Rattle.idtext.proofs.OkLemmas.{ok_same}
use Rattle.mtree_inv.specs.declared.entry.Entry.{Entry}
use Rattle.reown_plan.specs.declared.plan.Owner.{Owner}
use Rattle.reown_plan.specs.Owners.{owner_eq}
use Rattle.reown_plan.specs.PlanData.{PlanRecord, HaveDistinctPaths}
use Rattle.reown_runner.specs.declared.runner.Place.{Place}
use Rattle.reown_runner.specs.declared.runner.Place.TheVariants.{Start, Record, SyncOwners, Mark, SyncMark, Done}
use Rattle.reown_runner.specs.declared.runner.RunFault.{RunFault}
use Rattle.reown_runner.specs.declared.runner.RunFault.TheVariants.{Device, Missing, Unfinished, Foreign}
use Rattle.reown_runner.specs.Finished.{IsFresh}
use Rattle.reown_runner.specs.Memory.{owner_in}
use Rattle.reown_runner.specs.RunnerData.{RunnerData}
use Rattle.reown_runner.specs.Run.{Host, Advances, IsRun, refusal}
use Rattle.reown_runner.specs.State.{State, Keeps, fresh, did, cells_at}
use Rattle.reown_runner.specs.Step.{Turn, turn, turn_at, record_turn, record_place, place_after, IsAdvance, IsTold}
use Rattle.reown_runner.specs.Tree.{Cells, Image, Operation, Write, SetMark, Sync}
use Rattle.reown_runner.proofs.Cellwise.{either}
use Rattle.reown_runner.proofs.Finishing as stands
use Rattle.reown_runner.proofs.Histories.{did_does}
use Rattle.reown_runner.proofs.Turns.{turn-at_old, turn-at_new}
use Rattle.unify_texts.specs.declared.fault.Fault.{Fault}
use Rattle.unify_texts.specs.declared.fault.Fault.TheVariants as fault
use Rattle.rehearsal.specs.Rehearsing.{found_fault, record_fault}
use Rattle.rehearsal.specs.RunFaults.{run_told}

-- ---- one advance after another

module _ (records : List PlanRecord) where
  -- so many advances from a place, whatever was asked for before
  abbrev pub Goes : ℕ → Place → State → Option RunFault → Host → Type 0
  Goes n place s refused end = (asked : ℕ) × IsRun records (record { place = place; state = s; asked = asked }) (replicate n Advances) refused end

  module _ (place : Place) (s : State) (next : Host) (n : ℕ) (refused : Option RunFault) (end : Host) (planned : Result Turn RunFault) (unfailing : refused ≢ Some Device) where
    abbrev GoesOn : Result Place RunFault → Type 0
    GoesOn answer = MatchResult answer (λ _. IsRun records next (replicate n Advances) refused end) (λ stop. (replicate n Advances ≡ []) × (refused ≡ Some stop) × (end ≡ next))

    after_ok : (t : Turn) (answer : Result Place RunFault) → planned ≡ Ok t → next.place ≡ place_after place answer → IsAdvance planned (λ operation. next.state ≡ did operation s) answer → GoesOn answer → Goes n t.next (did t.operation s) refused end
    after_ok t (Ok to) is at a rest =
        let same : a.0 ≡ t = ok_same a.0 t (sym a.1 ∙ is) in
        let goes : next.place ≡ t.next = at ∙ a.2 ∙ ap (λ (u : Turn). u.next) same in
        let after : next.state ≡ did t.operation s = a.3 ∙ ap (λ (u : Turn). did u.operation s) same in
        subst (λ p. Goes n p (did t.operation s) refused end) goes (subst (λ u. Goes n next.place u refused end) after (next.asked, rest))
    after_ok t (Err Device) is at a rest = absurd (unfailing rest.1)
    after_ok t (Err (Missing i)) is at a rest = absurd (let h : ◌≡◌ {A = Result Turn RunFault} (Ok t) (Err (Missing i)) = sym is ∙ a.0 in cc)
    after_ok t (Err (Unfinished i)) is at a rest = absurd (let h : ◌≡◌ {A = Result Turn RunFault} (Ok t) (Err (Unfinished i)) = sym is ∙ a.0 in cc)
    after_ok t (Err (Foreign i)) is at a rest = absurd (let h : ◌≡◌ {A = Result Turn RunFault} (Ok t) (Err (Foreign i)) = sym is ∙ a.0 in cc)

    after_err : (f : RunFault) (answer : Result Place RunFault) → planned ≡ Err f → IsAdvance planned (λ operation. next.state ≡ did operation s) answer → GoesOn answer → refused ≡ Some f
    after_err f (Ok to) is a rest = absurd (let h : ◌≡◌ {A = Result Turn RunFault} (Err f) (Ok a.0) = sym is ∙ a.1 in cc)
    after_err f (Err Device) is a rest = absurd (unfailing rest.1)
    after_err f (Err (Missing i)) is a rest =
        let h : ◌≡◌ {A = Result Turn RunFault} (Err (Missing i)) (Err f) = sym a.0 ∙ is in
        let same : Missing i ≡ f = cc in
        rest.1 ∙ ap (λ x. Some x) same
    after_err f (Err (Unfinished i)) is a rest =
        let h : ◌≡◌ {A = Result Turn RunFault} (Err (Unfinished i)) (Err f) = sym a.0 ∙ is in
        let same : Unfinished i ≡ f = cc in
        rest.1 ∙ ap (λ x. Some x) same
    after_err f (Err (Foreign i)) is a rest =
        let h : ◌≡◌ {A = Result Turn RunFault} (Err (Foreign i)) (Err f) = sym a.0 ∙ is in
        let same : Foreign i ≡ f = cc in
        rest.1 ∙ ap (λ x. Some x) same

  module _ (n : ℕ) (place : Place) (s : State) (refused : Option RunFault) (end : Host) (unfailing : refused ≢ Some Device) (run : Goes (suc n) place s refused end) where
    turn_ok : (t : Turn) → turn records place (cells_at s).owner (cells_at s).mark ≡ Ok t → Goes n t.next (did t.operation s) refused end
    turn_ok t is = after_ok place s run.1.1 n refused end (turn records place (cells_at s).owner (cells_at s).mark) unfailing t run.1.0 is run.1.2.place run.1.2.step run.1.3

    turn_err : (f : RunFault) → turn records place (cells_at s).owner (cells_at s).mark ≡ Err f → refused ≡ Some f
    turn_err f is = after_err place s run.1.1 n refused end (turn records place (cells_at s).owner (cells_at s).mark) unfailing f run.1.0 is run.1.2.step run.1.3

  -- after the records nothing is refused
  abbrev IsBehind : Place → Type 0
  IsBehind Start = ⊥
  IsBehind (Record i) = ⊥
  IsBehind SyncOwners = Unit {0}
  IsBehind Mark = Unit {0}
  IsBehind SyncMark = Unit {0}
  IsBehind Done = Unit {0}

  behind : (n : ℕ) (place : Place) (s : State) (refused : Option RunFault) (end : Host) → IsBehind place → refused ≢ Some Device → Goes n place s refused end → refused ≡ None
  behind zero place s refused end is unfailing run = run.1.0
  behind (suc n) Start s refused end is unfailing run = absurd is
  behind (suc n) (Record i) s refused end is unfailing run = absurd is
  behind (suc n) SyncOwners s refused end is unfailing run = behind n Mark (did (Some Sync) s) refused end tt unfailing (turn_ok n SyncOwners s refused end unfailing run (record { operation = Some Sync; next = Mark }) refl)
  behind (suc n) Mark s refused end is unfailing run = behind n SyncMark (did (Some SetMark) s) refused end tt unfailing (turn_ok n Mark s refused end unfailing run (record { operation = Some SetMark; next = SyncMark }) refl)
  behind (suc n) SyncMark s refused end is unfailing run = behind n Done (did (Some Sync) s) refused end tt unfailing (turn_ok n SyncMark s refused end unfailing run (record { operation = Some Sync; next = Done }) refl)
  behind (suc n) Done s refused end is unfailing run = behind n Done s refused end tt unfailing (turn_ok n Done s refused end unfailing run (record { operation = None; next = Done }) refl)

-- ---- the turn at a record

-- it goes on to the next record, and the file is there at one of its owners
pub record IsPassed (i : ℕ) (r : PlanRecord) (next : Place) (has : Option Owner) : Type 0 where
  pub done : Turn
  pub turns : record_turn i r next has ≡ Ok done
  pub goes : done.next ≡ next
  pub does : (done.operation ≡ None) ⊎ (done.operation ≡ Some (Write r.path r.after))
  pub found : found_fault r has ≡ None

-- it is refused, with the fault that the record has
pub record IsRefused (i : ℕ) (r : PlanRecord) (next : Place) (has : Option Owner) : Type 0 where
  pub stop : RunFault
  pub why : Fault
  pub turns : record_turn i r next has ≡ Err stop
  pub found : found_fault r has ≡ Some why
  pub tells : (records : List PlanRecord) → slice_get records i ≡ Some r → run_told records stop ≡ Some why

module _ (i : ℕ) (r : PlanRecord) (next : Place) where
  module _ (has : Owner) where
    abbrev judged : Bool → Bool → Option Fault
    judged old new = cond (old || new) None (Some (fault.Foreign r.path))

    found_at : (old new : Bool) → owner_eq has r.before ≡ old → owner_eq has r.after ≡ new → found_fault r (Some has) ≡ judged old new
    found_at old new is_old is_new = ap (λ b. judged b (owner_eq has r.after)) is_old ∙ ap (judged old) is_new

    foreign_turn : owner_eq has r.before ≡ false → owner_eq has r.after ≡ false → record_turn i r next (Some has) ≡ Err (Foreign i)
    foreign_turn old new =
        ap (λ b. cond b (Ok (record { operation = Some (Write r.path r.after); next = next })) (cond (owner_eq has r.after) (Ok (record { operation = None; next = next })) (Err (Foreign i)))) old
        ∙ ap (λ b. cond b (Ok (record { operation = None; next = next })) (Err (Foreign i))) new

  record_turns : (has : Option Owner) → IsPassed i r next has ⊎ IsRefused i r next has
  record_turns None = inr (record { stop = Missing i; why = fault.Missing r.path; turns = refl; found = refl; tells = λ records at. ap (option_map (λ x. fault.Missing x.path)) at })
  record_turns (Some has) =
      elim (either (owner_eq has r.before)) [
        | inl old ↦ inl (record {
          done = record { operation = Some (Write r.path r.after); next = next };
          turns = turn-at_old i r next has old;
          goes = refl;
          does = inr refl;
          found = found_at has true (owner_eq has r.after) old refl;
        })
        | inr other ↦ elim (either (owner_eq has r.after)) [
          | inl new ↦ inl (record {
            done = record { operation = None; next = next };
            turns = turn-at_new i r next has other new;
            goes = refl;
            does = inl refl;
            found = found_at has false true other new;
          })
          | inr none ↦ inr (record {
            stop = Foreign i;
            why = fault.Foreign r.path;
            turns = foreign_turn has other none;
            found = found_at has false false other none;
            tells = λ records at. ap (option_map (λ x. fault.Foreign x.path)) at;
          })
        ]
      ]

-- ---- the records one after another

at_drop : {X : Type 0} (xs : List X) (i : ℕ) (x : X) (rest : List X) → drop i xs ≡ x ∷ rest → (slice_get xs i ≡ Some x) × (i < length xs) × (drop (suc i) xs ≡ rest)
at_drop [] zero x rest h = absurd cc
at_drop [] (suc i) x rest h = absurd cc
at_drop (y ∷ ys) zero x rest h = (let first : y ≡ x = cc in ap (λ z. Some z) first, omega arith, let more : ys ≡ rest = cc in more)
at_drop (y ∷ ys) (suc i) x rest h = (let more = at_drop ys i x rest h in (more.0, omega (arith, more.1), more.2))

past_drop : {X : Type 0} (xs : List X) (i : ℕ) → drop i xs ≡ [] → length xs ≤ i
past_drop [] i h = omega arith
past_drop (y ∷ ys) zero h = absurd cc
past_drop (y ∷ ys) (suc i) h = (let more = past_drop ys i h in omega (arith, more))

-- what is told of the first fault of records, and why a run was refused
abbrev pub Ends : List PlanRecord → Option Fault → Option RunFault → Type 0
Ends records first None = first ≡ None
Ends records first (Some stop) = (why : Fault) × (run_told records stop ≡ Some why) × (first ≡ Some why)

-- a file reads as in the inventory
abbrev ReadsAsIn : List Entry → State → PlanRecord → Type 0
ReadsAsIn files s r = (cells_at s).owner r.path ≡ owner_in files r.path

module _ (files : List Entry) where
  still_read : (s : State) (operation : Option Operation) (r : PlanRecord) (rest : List PlanRecord) → (operation ≡ None) ⊎ (operation ≡ Some (Write r.path r.after)) → All (λ q. r.path ≢ q.path) rest
      → All (ReadsAsIn files s) rest → All (ReadsAsIn files (did operation s)) rest
  still_read s operation r rest (inl none) apart as_before = subst (λ o. All (ReadsAsIn files (did o s)) rest) (sym none) as_before
  still_read s operation r rest (inr wrote) apart as_before =
      subst (λ o. All (ReadsAsIn files (did o s)) rest) (sym wrote)
      (λ k d l. (did_does s (Some (Write r.path r.after))).other (get_or rest k d).path (λ e. apart k d l (sym e)) ∙ as_before k d l)

module _ (files : List Entry) (records : List PlanRecord) where
  from_record : (rest seen : List PlanRecord) (i n : ℕ) (s : State) (refused : Option RunFault) (end : Host) → drop i records ≡ rest → AllPairs (λ a b. a.path ≢ b.path) rest → All (ReadsAsIn files s) rest
      → refused ≢ Some Device → (refused ≡ None → end.place ≡ Done) → Goes records n (record_place records i) s refused end → Ends records (first_fault (record_fault files) seen rest) refused
  unfolding first_fault
  from_record [] seen i n s refused end from apart reads unfailing finished run =
      let is : record_place records i ≡ SyncOwners = ap (λ b. cond b (Record i) SyncOwners) (le-ltb i (length records) (past_drop records i from)) in
      subst (Ends records None) (sym (behind records n SyncOwners s refused end tt unfailing (subst (λ p. Goes records n p s refused end) is run))) refl
  from_record (r ∷ rest) seen i zero s refused end from apart reads unfailing finished run =
      let at = at_drop records i r rest from in
      let is : record_place records i ≡ Record i = ap (λ b. cond b (Record i) SyncOwners) (lt-ltb i (length records) at.1) in
      let stays : Done ≡ Record i = sym (finished run.1.0) ∙ ap (λ (h : Host). h.place) run.1.1 ∙ is in
      absurd cc
  from_record (r ∷ rest) seen i (suc n) s refused end from apart reads unfailing finished run =
      let at = at_drop records i r rest from in
      let is : record_place records i ≡ Record i = ap (λ b. cond b (Record i) SyncOwners) (lt-ltb i (length records) at.1) in
      let here : Goes records (suc n) (Record i) s refused end = subst (λ p. Goes records (suc n) p s refused end) is run in
      let next = record_place records (i + 1) in
      let turns : turn records (Record i) (cells_at s).owner (cells_at s).mark ≡ record_turn i r next (owner_in files r.path) =
      ap (λ o. turn_at records i o (cells_at s).owner) at.0 ∙ ap (record_turn i r next) (reads 0 r (omega arith)) in
      let after = first_fault (record_fault files) (seen ++ r ∷ []) rest in
      elim (record_turns i r next (owner_in files r.path)) [
        | inl passed ↦
            let onward = turn_ok records n (Record i) s refused end unfailing here passed.done (turns ∙ passed.turns) in
            let there : Goes records n next (did passed.done.operation s) refused end = subst (λ p. Goes records n p (did passed.done.operation s) refused end) passed.goes onward in
            let more : suc i ≡ i + 1 = omega arith in
            let dropped : drop (i + 1) records ≡ rest = subst (λ k. drop k records ≡ rest) more at.2 in
            let tail : AllPairs (λ (a b : PlanRecord). a.path ≢ b.path) rest = λ j k d l w. apart (suc j) (suc k) d (omega (arith, l)) (omega (arith, w)) in
            let head : All (λ (q : PlanRecord). r.path ≢ q.path) rest = λ k d l. apart 0 (suc k) d (omega arith) (omega (arith, l)) in
            let others : All (ReadsAsIn files s) rest = λ k d l. reads (suc k) d (omega (arith, l)) in
            subst (λ f. Ends records (or_else f after) refused) (sym passed.found)
            (from_record rest (seen ++ r ∷ []) (i + 1) n (did passed.done.operation s) refused end dropped tail (still_read files s passed.done.operation r rest passed.does head others) unfailing finished there)
        | inr stopped ↦
            subst (Ends records (or_else (found_fault r (owner_in files r.path)) after)) (sym (turn_err records n (Record i) s refused end unfailing here stopped.stop (turns ∙ stopped.turns)))
            (stopped.why, stopped.tells records at.0, ap (λ f. or_else f after) stopped.found)
      ]

  -- ---- from the start

  abbrev pub image_of : Image
  image_of = record { owner = owner_in files; mark = false }

  from_start : (n : ℕ) (refused : Option RunFault) (end : Host) → HaveDistinctPaths records → refused ≢ Some Device → (refused ≡ None → end.place ≡ Done) → Goes records n Start (fresh image_of) refused end
      → Ends records (first_fault (record_fault files) [] records) refused
  from_start zero refused end apart unfailing finished run =
      let stays : Done ≡ Start = sym (finished run.1.0) ∙ ap (λ (h : Host). h.place) run.1.1 in
      absurd cc
  from_start (suc n) refused end apart unfailing finished run =
      from_record records [] 0 n (fresh image_of) refused end refl apart (λ k d l. refl) unfailing finished
      (turn_ok records n Start (fresh image_of) refused end unfailing run (record { operation = None; next = record_place records 0 }) refl)

  unfailed : (result : Result (Unit {0}) RunFault) → IsTold 0 0 result → refusal result ≢ Some Device
  unfailed (Ok x) told e = absurd cc
  unfailed (Err Device) told e = absurd (omega (arith, told.0))
  unfailed (Err (Missing i)) told e = absurd cc
  unfailed (Err (Unfinished i)) told e = absurd cc
  unfailed (Err (Foreign i)) told e = absurd cc

  ended : (result : Result (Unit {0}) RunFault) (end : Host) → OnOk result (end.place ≡ Done) → refusal result ≡ None → end.place ≡ Done
  ended (Ok x) end done none = done
  ended (Err f) end done none = absurd cc

  -- a run on a tree in memory ends with the first fault of the records
  pub run_ends : (first last : ℕ) (before : RunnerData) (n : ℕ) (result : Result (Unit {0}) RunFault) (after : Place) (state : State) → HaveDistinctPaths records → before.records ≡ records → before.place ≡ Start
      → IsTold 0 0 result → OnOk result (after ≡ Done)
      → IsRun before.records (record { place = before.place; state = fresh image_of; asked = first }) (replicate n Advances) (refusal result) (record { place = after; state = state; asked = last })
      → Ends records (first_fault (record_fault files) [] records) (refusal result)
  run_ends first last before n result after state apart same starts told done run =
      let end : Host = record { place = after; state = state; asked = last } in
      let here = subst (λ rs. Goes rs n before.place (fresh image_of) (refusal result) end) same (first, run) in
      from_start n (refusal result) end apart (unfailed result told) (ended result end done) (subst (λ p. Goes records n p (fresh image_of) (refusal result) end) starts here)

  -- a fresh tree stands for its history
  pub fresh_stands : (cells : Cells) → IsFresh (owner_in files) cells → Keeps (cells_at (fresh image_of)) cells
  fresh_stands = stands.fresh_stands (owner_in files)
