-- What lawful calls have before them: changes, marks, and modes that are asked for or written down.
use Rattle.std.proofs.Common.{◌≡◌, ◌≢◌, ◌⊎◌, inl, inr, ◌==◌, ℕ, Bool, true, false, cond, ◌&&◌, ◌||◌, not, List, [], ◌∷◌, ◌++◌, Option, None, Some, is_some, refl, sym, ◌∙◌, ap, arith}
use Rattle.std.specs.Bool.{beq}
use Rattle.std.specs.List.{list_any, list_all, All, Contains}
use Rattle.std.specs.Str.{bytes_eq}
use Rattle.std.specs.Cmp.Lexicographic.{bytes_decides}
use Rattle.std.proofs.lemmas.Bool.Decides.{nat_tests}
use Rattle.std.proofs.lemmas.List.Elements.{All-nil, All-cons, Contains-append_right}
use Rattle.reown_plan.specs.declared.mark.PlanMark.{PlanMark}
use Rattle.reown_plan.specs.declared.plan.Owner.{Owner}
use Rattle.reown_plan.specs.Mark.{mark_eq, is_marked_for}
use Rattle.reown_plan.specs.Owners.{owner_eq}
use Rattle.reown_plan.specs.PlanData.{PlanRecord}
use Rattle.reown_plan.proofs.Marks.{marks_compare}
use Rattle.reown_files.specs.Calls.{Called, Looked, Met, MetMark, Saw, SawMark, NotSeen, MarkNotSeen, CheckedLinks, Gave, SetMode, Kept, Settled, PutMark, KeptMark, ReadModes, LostMode, PutModes}
use Rattle.reown_files.specs.InOrder.{WasMade, WereLookedAt, ChangesAreForeseen, LeavesFile, LeavesSynced, SetsItsMode, MarksComeLast, LeavesMark, KeptMarksAreSynced, WereRead, GivesNone, IsOfThePlan, IsSyncedSince, NotesAreOfThePlan}
use Rattle.reown_files.specs.Lawful.{is_of, is_planned, gives_by_plan, modes_stay, no_mode_failed, was_kept, all_kept, is_settled, is_synced, marks_last, is_mark_kept, is_given, is_met, all_met, was_checked, all_checked, is_mode_kept, were_read, is_unchanged, was_asked, all_asked, all_modes_kept, is_begun, begins_first, is_lawful}
use Rattle.reown_files.specs.Replay.{replay}

-- ---- tests
-- no lemma of another file of this crate is used here, so that the laws, those of SetAtOnce too, stand
-- on the definition alone

pub both : (a b : Bool) → (a && b) ≡ true → (a ≡ true) × (b ≡ true)
both true b h = (refl, h)
both false b h = absurd (let e : false ≡ true = h in cc)

pub lawful_parts : (mark : PlanMark) (records : List PlanRecord) (calls : List Called) → is_lawful mark records calls ≡ true → (gives_by_plan records calls ≡ true) × (modes_stay calls ≡ true) × (marks_last mark records calls ≡ true) × (begins_first mark records calls ≡ true)
lawful_parts mark records calls h =
    let first = both (gives_by_plan records calls) (modes_stay calls && (marks_last mark records calls && begins_first mark records calls)) h in
    let rest = both (modes_stay calls) (marks_last mark records calls && begins_first mark records calls) first.1 in
    let last = both (marks_last mark records calls) (begins_first mark records calls) rest.1 in (first.0, rest.0, last.0, last.1)

pub equal : (n m : ℕ) → (n == m) ≡ true → n ≡ m
equal n m e = grind (arith, nat_tests)

pub equal_owners : (a b : Owner) → owner_eq a b ≡ true → a ≡ b
equal_owners a b e =
    let each = both (a.uid == b.uid) (a.gid == b.gid) e in
    let uid_is = equal a.uid b.uid each.0 in
    let gid_is = equal a.gid b.gid each.1 in λ i. record { uid = uid_is i; gid = gid_is i }

one_of : (a b : Bool) → (a || b) ≡ true → (a ≡ true) ⊎ (b ≡ true)
one_of true b h = inl refl
one_of false b h = inr h

unless : (a b : Bool) → cond a false b ≡ true → (a ≡ false) × (b ≡ true)
unless true b h = absurd (let e : false ≡ true = h in cc)
unless false b h = (refl, h)

pub never : {P : Type 0} (a : Bool) → a ≡ false → a ≡ true → P
never a is_false is_true = absurd (let e : false ≡ true = sym is_false ∙ is_true in cc)

pub same_path : (p q : List ℕ) → bytes_eq p q ≡ true → p ≡ q
same_path p q h = (bytes_decides p q).0 h

other_path : (p q : List ℕ) → bytes_eq p q ≡ false → p ≢ q
other_path p q h e = let yes : bytes_eq p q ≡ true = (bytes_decides p q).1 e in absurd cc

equal_bools : (a b : Bool) → beq a b ≡ true → a ≡ b
equal_bools true true h = refl
equal_bools true false h = absurd (let e : false ≡ true = h in cc)
equal_bools false true h = absurd (let e : false ≡ true = h in cc)
equal_bools false false h = refl

given_is : (path : List ℕ) (owner : Owner) (r : PlanRecord) → is_given path owner r ≡ true → (path ≡ r.path) × (owner ≡ r.after)
given_is path owner r h =
    let hs = both (bytes_eq path r.path) (owner_eq owner r.after) h in (same_path path r.path hs.0, equal_owners owner r.after hs.1)

-- ---- lists

here : (c d : Called) (calls : List Called) → c ≡ d → Contains (c ∷ calls) d
here c d calls e = (0, omega arith, e)

behind_one : (c d : Called) (calls : List Called) → Contains calls d → Contains (c ∷ calls) d
behind_one c d calls h = Contains-append_right (c ∷ []) calls d h

module _ (p : PlanRecord → Bool) (P : PlanRecord → Type 0) (each : (r : PlanRecord) → p r ≡ true → P r) where
  for_all : (rs : List PlanRecord) → list_all p rs ≡ true → All P rs
  for_all [] h = All-nil P
  for_all (r ∷ rs) h = let hs = both (p r) (list_all p rs) h in All-cons P r rs (each r hs.0) (for_all rs hs.1)

-- a call that was made, with only such calls after it, and before it
module _ (call : Called) (Leaves : Called → Type 0) where
  now_made : (c : Called) (calls : List Called) → c ≡ call → WasMade call Leaves (c ∷ calls)
  now_made c calls e = ([], calls, ap (λ x. x ∷ calls) e, All-nil Leaves)

  made_before : (c : Called) (calls : List Called) → Leaves c → WasMade call Leaves calls → WasMade call Leaves (c ∷ calls)
  made_before c calls leaves h = (c ∷ h.0, h.1, ap (λ xs. c ∷ xs) h.2, All-cons Leaves c h.0 leaves h.3)

-- what holds of calls holds of those before the last
before_all : (f : List Called → Bool) → ((c : Called) (calls : List Called) → f (c ∷ calls) ≡ true → f calls ≡ true) → (later calls : List Called) → f (later ++ calls) ≡ true → f calls ≡ true
before_all f each [] calls h = h
before_all f each (c ∷ later) calls h = before_all f each later calls (each c (later ++ calls) h)

-- ---- calls before changes

module _ (mark : PlanMark) (records : List PlanRecord) where
  asks : (plan : PlanMark) (path : List ℕ) (owner : Owner) (mode : Option ℕ) (calls : List Called) → begins_first mark records (LostMode plan path owner mode ∷ calls) ≡ true
      → (mark_eq plan mark ≡ true) × (were_read mark calls ≡ true) × (is_unchanged calls ≡ true) × (begins_first mark records calls ≡ true)
  asks plan path owner mode calls h =
      let last = is_unchanged calls && begins_first mark records calls in
      let own = both (mark_eq plan mark) (list_any (is_given path owner) records && (were_read mark calls && last)) h in
      let read = both (were_read mark calls) last (both (list_any (is_given path owner) records) (were_read mark calls && last) own.1).1 in
      let rest = both (is_unchanged calls) (begins_first mark records calls) read.1 in
      (own.0, read.0, rest.0, rest.1)

  puts : (plan : PlanMark) (done : Bool) (calls : List Called) → begins_first mark records (PutModes plan done ∷ calls) ≡ true
      → (mark_eq plan mark ≡ true) × (all_checked records calls ≡ true) × (were_read mark calls ≡ true) × (is_unchanged calls ≡ true) × (all_modes_kept records calls ≡ true) × (is_settled calls ≡ true) × (begins_first mark records calls ≡ true)
  puts plan done calls h =
      let settled = is_settled calls && begins_first mark records calls in
      let last = all_modes_kept records calls && settled in
      let own = both (mark_eq plan mark) (all_checked records calls && (were_read mark calls && (is_unchanged calls && last))) h in
      let checked = both (all_checked records calls) (were_read mark calls && (is_unchanged calls && last)) own.1 in
      let read = both (were_read mark calls) (is_unchanged calls && last) checked.1 in
      let unchanged = both (is_unchanged calls) last read.1 in
      let synced = both (all_modes_kept records calls) settled unchanged.1 in
      let rest = both (is_settled calls) (begins_first mark records calls) synced.1 in
      (own.0, checked.0, read.0, unchanged.0, synced.0, rest.0, rest.1)

  begins_before : (c : Called) (calls : List Called) → begins_first mark records (c ∷ calls) ≡ true → begins_first mark records calls ≡ true
  begins_before (Looked path seen) calls h = h
  begins_before (Met path after found) calls h = (both (not (is_met path calls)) (begins_first mark records calls) (both (list_any (is_given path after) records) (not (is_met path calls) && begins_first mark records calls) h).1).1
  begins_before (MetMark plan set) calls h = h
  begins_before (Saw path found) calls h = h
  begins_before (SawMark plan set) calls h = h
  begins_before (NotSeen path trouble) calls h = h
  begins_before (MarkNotSeen plan trouble) calls h = h
  begins_before (CheckedLinks path done) calls h = (both (all_met records calls) (begins_first mark records calls) h).1
  begins_before (Gave path before after modes) calls h = (both (is_begun records calls) (begins_first mark records calls) h).1
  begins_before (SetMode path owner mode done) calls h = h
  begins_before (Kept path owner done) calls h = h
  begins_before (Settled done) calls h = h
  begins_before (PutMark plan done) calls h = h
  begins_before (KeptMark done) calls h = h
  begins_before (ReadModes plan set begun) calls h = h
  begins_before (LostMode plan path owner mode) calls h = (asks plan path owner mode calls h).3
  begins_before (PutModes plan done) calls h = (puts plan done calls h).6

  gives_before : (c : Called) (calls : List Called) → gives_by_plan records (c ∷ calls) ≡ true → gives_by_plan records calls ≡ true
  gives_before (Looked path seen) calls h = h
  gives_before (Met path after found) calls h = h
  gives_before (MetMark plan set) calls h = h
  gives_before (Saw path found) calls h = h
  gives_before (SawMark plan set) calls h = h
  gives_before (NotSeen path trouble) calls h = h
  gives_before (MarkNotSeen plan trouble) calls h = h
  gives_before (CheckedLinks path done) calls h = h
  gives_before (Gave path before after modes) calls h = (both (is_planned records path before after) (gives_by_plan records calls) h).1
  gives_before (SetMode path owner mode done) calls h = h
  gives_before (Kept path owner done) calls h = h
  gives_before (Settled done) calls h = h
  gives_before (PutMark plan done) calls h = h
  gives_before (KeptMark done) calls h = h
  gives_before (ReadModes plan set begun) calls h = h
  gives_before (LostMode plan path owner mode) calls h = h
  gives_before (PutModes plan done) calls h = h

  marks : (plan : PlanMark) (done : Bool) (calls : List Called) → marks_last mark records (PutMark plan done ∷ calls) ≡ true
      → (mark_eq plan mark ≡ true) × (all_kept records calls ≡ true) × (is_settled calls ≡ true) × (no_mode_failed calls ≡ true) × (marks_last mark records calls ≡ true)
  marks plan done calls h =
      let own = both (mark_eq plan mark) (is_synced records calls && (no_mode_failed calls && marks_last mark records calls)) h in
      let synced = both (is_synced records calls) (no_mode_failed calls && marks_last mark records calls) own.1 in
      let kept = both (all_kept records calls) (is_settled calls) synced.0 in
      let rest = both (no_mode_failed calls) (marks_last mark records calls) synced.1 in
      (own.0, kept.0, kept.1, rest.0, rest.1)

  marks_before : (c : Called) (calls : List Called) → marks_last mark records (c ∷ calls) ≡ true → marks_last mark records calls ≡ true
  marks_before (Looked path seen) calls h = h
  marks_before (Met path after found) calls h = h
  marks_before (MetMark plan set) calls h = h
  marks_before (Saw path found) calls h = h
  marks_before (SawMark plan set) calls h = h
  marks_before (NotSeen path trouble) calls h = h
  marks_before (MarkNotSeen plan trouble) calls h = h
  marks_before (CheckedLinks path done) calls h = h
  marks_before (Gave path before after modes) calls h = h
  marks_before (SetMode path owner mode done) calls h = h
  marks_before (Kept path owner done) calls h = h
  marks_before (Settled done) calls h = h
  marks_before (PutMark plan done) calls h = (marks plan done calls h).4
  marks_before (KeptMark done) calls h = h
  marks_before (ReadModes plan set begun) calls h = h
  marks_before (LostMode plan path owner mode) calls h = h
  marks_before (PutModes plan done) calls h = h

-- ---- calls that were made

-- the names of a record's file were looked at
checked : (r : PlanRecord) (calls : List Called) → was_checked calls r ≡ true → Contains calls (CheckedLinks r.path true)
checked r [] h = absurd (let e : false ≡ true = h in cc)
checked r (Looked path seen ∷ calls) h = behind_one (Looked path seen) (CheckedLinks r.path true) calls (checked r calls h)
checked r (Met path after found ∷ calls) h = behind_one (Met path after found) (CheckedLinks r.path true) calls (checked r calls h)
checked r (MetMark plan set ∷ calls) h = behind_one (MetMark plan set) (CheckedLinks r.path true) calls (checked r calls h)
checked r (Saw path found ∷ calls) h = behind_one (Saw path found) (CheckedLinks r.path true) calls (checked r calls h)
checked r (SawMark plan set ∷ calls) h = behind_one (SawMark plan set) (CheckedLinks r.path true) calls (checked r calls h)
checked r (NotSeen path trouble ∷ calls) h = behind_one (NotSeen path trouble) (CheckedLinks r.path true) calls (checked r calls h)
checked r (MarkNotSeen plan trouble ∷ calls) h = behind_one (MarkNotSeen plan trouble) (CheckedLinks r.path true) calls (checked r calls h)
checked r (CheckedLinks path done ∷ calls) h =
    elim (one_of (done && bytes_eq path r.path) (was_checked calls r) h) [
      | inl now ↦ let hs = both done (bytes_eq path r.path) now in let path_is = same_path path r.path hs.1 in let done_is = hs.0 in here (CheckedLinks path done) (CheckedLinks r.path true) calls (λ i. CheckedLinks (path_is i) (done_is i))
      | inr before ↦ behind_one (CheckedLinks path done) (CheckedLinks r.path true) calls (checked r calls before)
    ]
checked r (Gave path before after modes ∷ calls) h = behind_one (Gave path before after modes) (CheckedLinks r.path true) calls (checked r calls h)
checked r (SetMode path owner mode done ∷ calls) h = behind_one (SetMode path owner mode done) (CheckedLinks r.path true) calls (checked r calls h)
checked r (Kept path owner done ∷ calls) h = behind_one (Kept path owner done) (CheckedLinks r.path true) calls (checked r calls h)
checked r (Settled done ∷ calls) h = behind_one (Settled done) (CheckedLinks r.path true) calls (checked r calls h)
checked r (PutMark plan done ∷ calls) h = behind_one (PutMark plan done) (CheckedLinks r.path true) calls (checked r calls h)
checked r (KeptMark done ∷ calls) h = behind_one (KeptMark done) (CheckedLinks r.path true) calls (checked r calls h)
checked r (ReadModes plan set begun ∷ calls) h = behind_one (ReadModes plan set begun) (CheckedLinks r.path true) calls (checked r calls h)
checked r (LostMode plan path owner mode ∷ calls) h = behind_one (LostMode plan path owner mode) (CheckedLinks r.path true) calls (checked r calls h)
checked r (PutModes plan done ∷ calls) h = behind_one (PutModes plan done) (CheckedLinks r.path true) calls (checked r calls h)

all_were_checked : (records : List PlanRecord) (calls : List Called) → all_checked records calls ≡ true → All (λ r. Contains calls (CheckedLinks r.path true)) records
all_were_checked records calls h = for_all (was_checked calls) (λ r. Contains calls (CheckedLinks r.path true)) (λ r e. checked r calls e) records h

-- a record's file was kept
kept : (r : PlanRecord) (calls : List Called) → was_kept calls r ≡ true → WasMade (Kept r.path r.after true) (LeavesFile r.path) calls
kept r [] h = absurd (let e : false ≡ true = h in cc)
kept r (Looked path seen ∷ calls) h = made_before (Kept r.path r.after true) (LeavesFile r.path) (Looked path seen) calls tt (kept r calls h)
kept r (Met path after found ∷ calls) h = made_before (Kept r.path r.after true) (LeavesFile r.path) (Met path after found) calls tt (kept r calls h)
kept r (MetMark plan set ∷ calls) h = made_before (Kept r.path r.after true) (LeavesFile r.path) (MetMark plan set) calls tt (kept r calls h)
kept r (Saw path found ∷ calls) h = made_before (Kept r.path r.after true) (LeavesFile r.path) (Saw path found) calls tt (kept r calls h)
kept r (SawMark plan set ∷ calls) h = made_before (Kept r.path r.after true) (LeavesFile r.path) (SawMark plan set) calls tt (kept r calls h)
kept r (NotSeen path trouble ∷ calls) h = made_before (Kept r.path r.after true) (LeavesFile r.path) (NotSeen path trouble) calls tt (kept r calls h)
kept r (MarkNotSeen plan trouble ∷ calls) h = made_before (Kept r.path r.after true) (LeavesFile r.path) (MarkNotSeen plan trouble) calls tt (kept r calls h)
kept r (CheckedLinks path done ∷ calls) h = made_before (Kept r.path r.after true) (LeavesFile r.path) (CheckedLinks path done) calls tt (kept r calls h)
kept r (Gave path before after modes ∷ calls) h =
    let hs = unless (bytes_eq path r.path) (was_kept calls r) h in made_before (Kept r.path r.after true) (LeavesFile r.path) (Gave path before after modes) calls (other_path path r.path hs.0) (kept r calls hs.1)
kept r (SetMode path owner mode done ∷ calls) h =
    let hs = unless (bytes_eq path r.path) (was_kept calls r) h in made_before (Kept r.path r.after true) (LeavesFile r.path) (SetMode path owner mode done) calls (other_path path r.path hs.0) (kept r calls hs.1)
kept r (Kept path owner done ∷ calls) h =
    elim (one_of (done && (bytes_eq path r.path && owner_eq owner r.after)) (was_kept calls r) h) [
      | inl now ↦ let hs = both done (is_given path owner r) now in let is = given_is path owner r hs.1 in let path_is = is.0 in let owner_is = is.1 in let done_is = hs.0 in now_made (Kept r.path r.after true) (LeavesFile r.path) (Kept path owner done) calls (λ i. Kept (path_is i) (owner_is i) (done_is i))
      | inr before ↦ made_before (Kept r.path r.after true) (LeavesFile r.path) (Kept path owner done) calls tt (kept r calls before)
    ]
kept r (Settled done ∷ calls) h = made_before (Kept r.path r.after true) (LeavesFile r.path) (Settled done) calls tt (kept r calls h)
kept r (PutMark plan done ∷ calls) h = made_before (Kept r.path r.after true) (LeavesFile r.path) (PutMark plan done) calls tt (kept r calls h)
kept r (KeptMark done ∷ calls) h = made_before (Kept r.path r.after true) (LeavesFile r.path) (KeptMark done) calls tt (kept r calls h)
kept r (ReadModes plan set begun ∷ calls) h = made_before (Kept r.path r.after true) (LeavesFile r.path) (ReadModes plan set begun) calls tt (kept r calls h)
kept r (LostMode plan path owner mode ∷ calls) h = made_before (Kept r.path r.after true) (LeavesFile r.path) (LostMode plan path owner mode) calls tt (kept r calls h)
kept r (PutModes plan done ∷ calls) h = made_before (Kept r.path r.after true) (LeavesFile r.path) (PutModes plan done) calls tt (kept r calls h)

-- all was synced
settled : (calls : List Called) → is_settled calls ≡ true → WasMade (Settled true) LeavesSynced calls
settled [] h = absurd (let e : false ≡ true = h in cc)
settled (Looked path seen ∷ calls) h = made_before (Settled true) LeavesSynced (Looked path seen) calls tt (settled calls h)
settled (Met path after found ∷ calls) h = made_before (Settled true) LeavesSynced (Met path after found) calls tt (settled calls h)
settled (MetMark plan set ∷ calls) h = made_before (Settled true) LeavesSynced (MetMark plan set) calls tt (settled calls h)
settled (Saw path found ∷ calls) h = made_before (Settled true) LeavesSynced (Saw path found) calls tt (settled calls h)
settled (SawMark plan set ∷ calls) h = made_before (Settled true) LeavesSynced (SawMark plan set) calls tt (settled calls h)
settled (NotSeen path trouble ∷ calls) h = made_before (Settled true) LeavesSynced (NotSeen path trouble) calls tt (settled calls h)
settled (MarkNotSeen plan trouble ∷ calls) h = made_before (Settled true) LeavesSynced (MarkNotSeen plan trouble) calls tt (settled calls h)
settled (CheckedLinks path done ∷ calls) h = made_before (Settled true) LeavesSynced (CheckedLinks path done) calls tt (settled calls h)
settled (Gave path before after modes ∷ calls) h = absurd (let e : false ≡ true = h in cc)
settled (SetMode path owner mode done ∷ calls) h = absurd (let e : false ≡ true = h in cc)
settled (Kept path owner done ∷ calls) h = absurd (let e : false ≡ true = h in cc)
settled (Settled done ∷ calls) h =
    elim (one_of done (is_settled calls) h) [
      | inl now ↦ now_made (Settled true) LeavesSynced (Settled done) calls (ap (λ b. Settled b) now)
      | inr before ↦ made_before (Settled true) LeavesSynced (Settled done) calls tt (settled calls before)
    ]
settled (PutMark plan done ∷ calls) h = made_before (Settled true) LeavesSynced (PutMark plan done) calls tt (settled calls h)
settled (KeptMark done ∷ calls) h = made_before (Settled true) LeavesSynced (KeptMark done) calls tt (settled calls h)
settled (ReadModes plan set begun ∷ calls) h = made_before (Settled true) LeavesSynced (ReadModes plan set begun) calls tt (settled calls h)
settled (LostMode plan path owner mode ∷ calls) h = made_before (Settled true) LeavesSynced (LostMode plan path owner mode) calls tt (settled calls h)
settled (PutModes plan done ∷ calls) h = made_before (Settled true) LeavesSynced (PutModes plan done) calls tt (settled calls h)

-- a file whose mode was set was synced since
module _ (r : PlanRecord) (first : List Called) (owner : Owner) (mode : ℕ) (done : Bool) where
  abbrev IsSynced : List Called → Type 0
  IsSynced since = (at : Owner) × Contains since (Kept r.path at true)

  synced_behind : (c : Called) (since : List Called) → IsSynced since → IsSynced (c ∷ since)
  synced_behind c since h = (h.0, behind_one c (Kept r.path h.0 true) since h.1)

  synced_by : (since : List Called) → is_mode_kept (since ++ SetMode r.path owner mode done ∷ first) r ≡ true → IsSynced since
  synced_by [] h = let no = unless (bytes_eq r.path r.path) (is_mode_kept first r) h in absurd (other_path r.path r.path no.0 refl)
  synced_by (Looked q seen ∷ since) h = synced_behind (Looked q seen) since (synced_by since h)
  synced_by (Met q after found ∷ since) h = synced_behind (Met q after found) since (synced_by since h)
  synced_by (MetMark plan set ∷ since) h = synced_behind (MetMark plan set) since (synced_by since h)
  synced_by (Saw q found ∷ since) h = synced_behind (Saw q found) since (synced_by since h)
  synced_by (SawMark plan set ∷ since) h = synced_behind (SawMark plan set) since (synced_by since h)
  synced_by (NotSeen q trouble ∷ since) h = synced_behind (NotSeen q trouble) since (synced_by since h)
  synced_by (MarkNotSeen plan trouble ∷ since) h = synced_behind (MarkNotSeen plan trouble) since (synced_by since h)
  synced_by (CheckedLinks q d ∷ since) h = synced_behind (CheckedLinks q d) since (synced_by since h)
  synced_by (Gave q before after modes ∷ since) h = synced_behind (Gave q before after modes) since (synced_by since h)
  synced_by (SetMode q o n d ∷ since) h = synced_behind (SetMode q o n d) since (synced_by since (unless (bytes_eq q r.path) (is_mode_kept (since ++ SetMode r.path owner mode done ∷ first) r) h).1)
  synced_by (Kept q o d ∷ since) h =
      elim (one_of (d && bytes_eq q r.path) (is_mode_kept (since ++ SetMode r.path owner mode done ∷ first) r) h) [
        | inl now ↦ let hs = both d (bytes_eq q r.path) now in let path_is = same_path q r.path hs.1 in let done_is = hs.0 in (o, here (Kept q o d) (Kept r.path o true) since (λ i. Kept (path_is i) o (done_is i)))
        | inr before ↦ synced_behind (Kept q o d) since (synced_by since before)
      ]
  synced_by (Settled d ∷ since) h = synced_behind (Settled d) since (synced_by since h)
  synced_by (PutMark plan d ∷ since) h = synced_behind (PutMark plan d) since (synced_by since h)
  synced_by (KeptMark d ∷ since) h = synced_behind (KeptMark d) since (synced_by since h)
  synced_by (ReadModes plan set begun ∷ since) h = synced_behind (ReadModes plan set begun) since (synced_by since h)
  synced_by (LostMode plan q o n ∷ since) h = synced_behind (LostMode plan q o n) since (synced_by since h)
  synced_by (PutModes plan d ∷ since) h = synced_behind (PutModes plan d) since (synced_by since h)

synced_since : (r : PlanRecord) (calls : List Called) → is_mode_kept calls r ≡ true → IsSyncedSince r calls
synced_since r calls h since first owner mode done is = synced_by r first owner mode done since (ap (λ cs. is_mode_kept cs r) (sym is) ∙ h)

-- no mode failed to be set
none_failed : (calls : List Called) → no_mode_failed calls ≡ true → All SetsItsMode calls
none_failed [] h = All-nil SetsItsMode
none_failed (Looked path seen ∷ calls) h = All-cons SetsItsMode (Looked path seen) calls tt (none_failed calls h)
none_failed (Met path after found ∷ calls) h = All-cons SetsItsMode (Met path after found) calls tt (none_failed calls h)
none_failed (MetMark plan set ∷ calls) h = All-cons SetsItsMode (MetMark plan set) calls tt (none_failed calls h)
none_failed (Saw path found ∷ calls) h = All-cons SetsItsMode (Saw path found) calls tt (none_failed calls h)
none_failed (SawMark plan set ∷ calls) h = All-cons SetsItsMode (SawMark plan set) calls tt (none_failed calls h)
none_failed (NotSeen path trouble ∷ calls) h = All-cons SetsItsMode (NotSeen path trouble) calls tt (none_failed calls h)
none_failed (MarkNotSeen plan trouble ∷ calls) h = All-cons SetsItsMode (MarkNotSeen plan trouble) calls tt (none_failed calls h)
none_failed (CheckedLinks path done ∷ calls) h = All-cons SetsItsMode (CheckedLinks path done) calls tt (none_failed calls h)
none_failed (Gave path before after modes ∷ calls) h = All-cons SetsItsMode (Gave path before after modes) calls tt (none_failed calls h)
none_failed (SetMode path owner mode done ∷ calls) h = let hs = both done (no_mode_failed calls) h in All-cons SetsItsMode (SetMode path owner mode done) calls hs.0 (none_failed calls hs.1)
none_failed (Kept path owner done ∷ calls) h = All-cons SetsItsMode (Kept path owner done) calls tt (none_failed calls h)
none_failed (Settled done ∷ calls) h = All-cons SetsItsMode (Settled done) calls tt (none_failed calls h)
none_failed (PutMark plan done ∷ calls) h = All-cons SetsItsMode (PutMark plan done) calls tt (none_failed calls h)
none_failed (KeptMark done ∷ calls) h = All-cons SetsItsMode (KeptMark done) calls tt (none_failed calls h)
none_failed (ReadModes plan set begun ∷ calls) h = All-cons SetsItsMode (ReadModes plan set begun) calls tt (none_failed calls h)
none_failed (LostMode plan path owner mode ∷ calls) h = All-cons SetsItsMode (LostMode plan path owner mode) calls tt (none_failed calls h)
none_failed (PutModes plan done ∷ calls) h = All-cons SetsItsMode (PutModes plan done) calls tt (none_failed calls h)

-- no file was given an owner
none_given : (calls : List Called) → is_unchanged calls ≡ true → All GivesNone calls
none_given [] h = All-nil GivesNone
none_given (Looked path seen ∷ calls) h = All-cons GivesNone (Looked path seen) calls tt (none_given calls h)
none_given (Met path after found ∷ calls) h = All-cons GivesNone (Met path after found) calls tt (none_given calls h)
none_given (MetMark plan set ∷ calls) h = All-cons GivesNone (MetMark plan set) calls tt (none_given calls h)
none_given (Saw path found ∷ calls) h = All-cons GivesNone (Saw path found) calls tt (none_given calls h)
none_given (SawMark plan set ∷ calls) h = All-cons GivesNone (SawMark plan set) calls tt (none_given calls h)
none_given (NotSeen path trouble ∷ calls) h = All-cons GivesNone (NotSeen path trouble) calls tt (none_given calls h)
none_given (MarkNotSeen plan trouble ∷ calls) h = All-cons GivesNone (MarkNotSeen plan trouble) calls tt (none_given calls h)
none_given (CheckedLinks path done ∷ calls) h = All-cons GivesNone (CheckedLinks path done) calls tt (none_given calls h)
none_given (Gave path before after modes ∷ calls) h = absurd (let e : false ≡ true = h in cc)
none_given (SetMode path owner mode done ∷ calls) h = All-cons GivesNone (SetMode path owner mode done) calls tt (none_given calls h)
none_given (Kept path owner done ∷ calls) h = All-cons GivesNone (Kept path owner done) calls tt (none_given calls h)
none_given (Settled done ∷ calls) h = All-cons GivesNone (Settled done) calls tt (none_given calls h)
none_given (PutMark plan done ∷ calls) h = All-cons GivesNone (PutMark plan done) calls tt (none_given calls h)
none_given (KeptMark done ∷ calls) h = All-cons GivesNone (KeptMark done) calls tt (none_given calls h)
none_given (ReadModes plan set begun ∷ calls) h = All-cons GivesNone (ReadModes plan set begun) calls tt (none_given calls h)
none_given (LostMode plan path owner mode ∷ calls) h = All-cons GivesNone (LostMode plan path owner mode) calls tt (none_given calls h)
none_given (PutModes plan done ∷ calls) h = All-cons GivesNone (PutModes plan done) calls tt (none_given calls h)

-- modes were read
module _ (mark : PlanMark) where
  read_here : (plan : PlanMark) (set : Bool) (begun : Option Bool) (calls : List Called) → (is_some begun && (mark_eq plan mark && beq set (is_marked_for mark (replay calls).mark))) ≡ true → WereRead mark (ReadModes plan set begun ∷ calls)
  read_here plan set None calls h = absurd (let e : false ≡ true = h in cc)
  read_here plan set (Some begun) calls h =
      let there = is_marked_for mark (replay calls).mark in
      let hs = both (mark_eq plan mark) (beq set there) h in
      let own = (marks_compare plan mark).0 hs.0 in ([], calls, set, begun, (λ i. ReadModes (own i) set (Some begun) ∷ calls), equal_bools set there hs.1)

  read_behind : (c : Called) (calls : List Called) → WereRead mark calls → WereRead mark (c ∷ calls)
  read_behind c calls h = (c ∷ h.0, h.1, h.2, h.3, ap (λ xs. c ∷ xs) h.4, h.5)

  read : (calls : List Called) → were_read mark calls ≡ true → WereRead mark calls
  read [] h = absurd (let e : false ≡ true = h in cc)
  read (Looked path seen ∷ calls) h = read_behind (Looked path seen) calls (read calls h)
  read (Met path after found ∷ calls) h = read_behind (Met path after found) calls (read calls h)
  read (MetMark plan set ∷ calls) h = read_behind (MetMark plan set) calls (read calls h)
  read (Saw path found ∷ calls) h = read_behind (Saw path found) calls (read calls h)
  read (SawMark plan set ∷ calls) h = read_behind (SawMark plan set) calls (read calls h)
  read (NotSeen path trouble ∷ calls) h = read_behind (NotSeen path trouble) calls (read calls h)
  read (MarkNotSeen plan trouble ∷ calls) h = read_behind (MarkNotSeen plan trouble) calls (read calls h)
  read (CheckedLinks path done ∷ calls) h = read_behind (CheckedLinks path done) calls (read calls h)
  read (Gave path before after modes ∷ calls) h = read_behind (Gave path before after modes) calls (read calls h)
  read (SetMode path owner mode done ∷ calls) h = read_behind (SetMode path owner mode done) calls (read calls h)
  read (Kept path owner done ∷ calls) h = read_behind (Kept path owner done) calls (read calls h)
  read (Settled done ∷ calls) h = read_behind (Settled done) calls (read calls h)
  read (PutMark plan done ∷ calls) h = read_behind (PutMark plan done) calls (read calls h)
  read (KeptMark done ∷ calls) h = read_behind (KeptMark done) calls (read calls h)
  read (ReadModes plan set begun ∷ calls) h =
      elim (one_of (is_some begun && (mark_eq plan mark && beq set (is_marked_for mark (replay calls).mark))) (were_read mark calls) h) [
        | inl now ↦ read_here plan set begun calls now
        | inr before ↦ read_behind (ReadModes plan set begun) calls (read calls before)
      ]
  read (LostMode plan path owner mode ∷ calls) h = read_behind (LostMode plan path owner mode) calls (read calls h)
  read (PutModes plan done ∷ calls) h = read_behind (PutModes plan done) calls (read calls h)

-- the mark was met or synced
abbrev IsKept : List Called → Type 0
IsKept calls = WasMade (KeptMark true) LeavesMark calls ⊎ ((plan : PlanMark) × WasMade (MetMark plan true) LeavesMark calls)

mark_behind : (c : Called) (calls : List Called) → LeavesMark c → IsKept calls → IsKept (c ∷ calls)
mark_behind c calls leaves h =
    elim h [
      | inl synced ↦ inl (made_before (KeptMark true) LeavesMark c calls leaves synced)
      | inr met ↦ inr (met.0, made_before (MetMark met.0 true) LeavesMark c calls leaves met.1)
    ]

mark_kept : (calls : List Called) → is_mark_kept calls ≡ true → IsKept calls
mark_kept [] h = absurd (let e : false ≡ true = h in cc)
mark_kept (Looked path seen ∷ calls) h = mark_behind (Looked path seen) calls tt (mark_kept calls h)
mark_kept (Met path after found ∷ calls) h = mark_behind (Met path after found) calls tt (mark_kept calls h)
mark_kept (MetMark plan set ∷ calls) h = inr (plan, now_made (MetMark plan true) LeavesMark (MetMark plan set) calls (ap (λ b. MetMark plan b) h))
mark_kept (Saw path found ∷ calls) h = mark_behind (Saw path found) calls tt (mark_kept calls h)
mark_kept (SawMark plan set ∷ calls) h = mark_behind (SawMark plan set) calls tt (mark_kept calls h)
mark_kept (NotSeen path trouble ∷ calls) h = mark_behind (NotSeen path trouble) calls tt (mark_kept calls h)
mark_kept (MarkNotSeen plan trouble ∷ calls) h = mark_behind (MarkNotSeen plan trouble) calls tt (mark_kept calls h)
mark_kept (CheckedLinks path done ∷ calls) h = mark_behind (CheckedLinks path done) calls tt (mark_kept calls h)
mark_kept (Gave path before after modes ∷ calls) h = mark_behind (Gave path before after modes) calls tt (mark_kept calls h)
mark_kept (SetMode path owner mode done ∷ calls) h = mark_behind (SetMode path owner mode done) calls tt (mark_kept calls h)
mark_kept (Kept path owner done ∷ calls) h = mark_behind (Kept path owner done) calls tt (mark_kept calls h)
mark_kept (Settled done ∷ calls) h = mark_behind (Settled done) calls tt (mark_kept calls h)
mark_kept (PutMark plan done ∷ calls) h = absurd (let e : false ≡ true = h in cc)
mark_kept (KeptMark done ∷ calls) h =
    elim (one_of done (is_mark_kept calls) h) [
      | inl now ↦ inl (now_made (KeptMark true) LeavesMark (KeptMark done) calls (ap (λ b. KeptMark b) now))
      | inr before ↦ mark_behind (KeptMark done) calls tt (mark_kept calls before)
    ]
mark_kept (ReadModes plan set begun ∷ calls) h = mark_behind (ReadModes plan set begun) calls tt (mark_kept calls h)
mark_kept (LostMode plan path owner mode ∷ calls) h = mark_behind (LostMode plan path owner mode) calls tt (mark_kept calls h)
mark_kept (PutModes plan done ∷ calls) h = mark_behind (PutModes plan done) calls tt (mark_kept calls h)

pub kept_marks_are_synced : KeptMarksAreSynced
kept_marks_are_synced = mark_kept

-- ---- questions, and modes that are written down

module _ (mark : PlanMark) (records : List PlanRecord) where
  abbrev IsAsked : PlanRecord → List Called → Type 0
  IsAsked r calls = (mode : Option ℕ) × Contains calls (LostMode mark r.path r.after mode)

  asked_behind : (c : Called) (r : PlanRecord) (calls : List Called) → IsAsked r calls → IsAsked r (c ∷ calls)
  asked_behind c r calls h = (h.0, behind_one c (LostMode mark r.path r.after h.0) calls h.1)

  -- the mode of a record's file was asked for
  asked : (r : PlanRecord) (calls : List Called) → begins_first mark records calls ≡ true → was_asked calls r ≡ true → IsAsked r calls
  asked r [] b h = absurd (let e : false ≡ true = h in cc)
  asked r (Looked path seen ∷ calls) b h = asked_behind (Looked path seen) r calls (asked r calls (begins_before mark records (Looked path seen) calls b) h)
  asked r (Met path after found ∷ calls) b h = asked_behind (Met path after found) r calls (asked r calls (begins_before mark records (Met path after found) calls b) h)
  asked r (MetMark plan set ∷ calls) b h = asked_behind (MetMark plan set) r calls (asked r calls (begins_before mark records (MetMark plan set) calls b) h)
  asked r (Saw path found ∷ calls) b h = asked_behind (Saw path found) r calls (asked r calls (begins_before mark records (Saw path found) calls b) h)
  asked r (SawMark plan set ∷ calls) b h = asked_behind (SawMark plan set) r calls (asked r calls (begins_before mark records (SawMark plan set) calls b) h)
  asked r (NotSeen path trouble ∷ calls) b h = asked_behind (NotSeen path trouble) r calls (asked r calls (begins_before mark records (NotSeen path trouble) calls b) h)
  asked r (MarkNotSeen plan trouble ∷ calls) b h = asked_behind (MarkNotSeen plan trouble) r calls (asked r calls (begins_before mark records (MarkNotSeen plan trouble) calls b) h)
  asked r (CheckedLinks path done ∷ calls) b h = asked_behind (CheckedLinks path done) r calls (asked r calls (begins_before mark records (CheckedLinks path done) calls b) h)
  asked r (Gave path before after modes ∷ calls) b h = asked_behind (Gave path before after modes) r calls (asked r calls (begins_before mark records (Gave path before after modes) calls b) h)
  asked r (SetMode path owner mode done ∷ calls) b h = asked_behind (SetMode path owner mode done) r calls (asked r calls (begins_before mark records (SetMode path owner mode done) calls b) h)
  asked r (Kept path owner done ∷ calls) b h = asked_behind (Kept path owner done) r calls (asked r calls (begins_before mark records (Kept path owner done) calls b) h)
  asked r (Settled done ∷ calls) b h = asked_behind (Settled done) r calls (asked r calls (begins_before mark records (Settled done) calls b) h)
  asked r (PutMark plan done ∷ calls) b h = asked_behind (PutMark plan done) r calls (asked r calls (begins_before mark records (PutMark plan done) calls b) h)
  asked r (KeptMark done ∷ calls) b h = asked_behind (KeptMark done) r calls (asked r calls (begins_before mark records (KeptMark done) calls b) h)
  asked r (ReadModes plan set begun ∷ calls) b h = asked_behind (ReadModes plan set begun) r calls (asked r calls (begins_before mark records (ReadModes plan set begun) calls b) h)
  asked r (LostMode plan path owner mode ∷ calls) b h =
      elim (one_of (is_given path owner r) (was_asked calls r) h) [
        | inl now ↦ let own = (marks_compare plan mark).0 (asks mark records plan path owner mode calls b).0 in let is = given_is path owner r now in let path_is = is.0 in let owner_is = is.1 in
            (mode, here (LostMode plan path owner mode) (LostMode mark r.path r.after mode) calls (λ i. LostMode (own i) (path_is i) (owner_is i) mode))
        | inr before ↦ asked_behind (LostMode plan path owner mode) r calls (asked r calls (begins_before mark records (LostMode plan path owner mode) calls b) before)
      ]
  asked r (PutModes plan done ∷ calls) b h = asked_behind (PutModes plan done) r calls (asked r calls (begins_before mark records (PutModes plan done) calls b) h)

  abbrev IsWritten : List Called → Type 0
  IsWritten calls = (since first : List Called) × (calls ≡ since ++ PutModes mark true ∷ first) × WereLookedAt mark records first

  written_now : (plan : PlanMark) (done : Bool) (calls : List Called) → begins_first mark records (PutModes plan done ∷ calls) ≡ true → (done && all_asked records calls) ≡ true → IsWritten (PutModes plan done ∷ calls)
  written_now plan done calls b now =
      let parts = puts mark records plan done calls b in
      let own = (marks_compare plan mark).0 parts.0 in
      let hs = both done (all_asked records calls) now in
      let done_is = hs.0 in
      let each = for_all (was_asked calls) (λ r. IsAsked r calls) (λ r e. asked r calls parts.6 e) records hs.1 in ([], calls, (λ i. PutModes (own i) (done_is i) ∷ calls), record { checked = all_were_checked records calls parts.1; asked = each })

  written_behind : (c : Called) (calls : List Called) → IsWritten calls → IsWritten (c ∷ calls)
  written_behind c calls h = (c ∷ h.0, h.1, ap (λ xs. c ∷ xs) h.2, h.3)

  -- modes were written down, after such questions and looks
  written : (calls : List Called) → begins_first mark records calls ≡ true → is_begun records calls ≡ true → IsWritten calls
  written [] b h = absurd (let e : false ≡ true = h in cc)
  written (Looked path seen ∷ calls) b h = written_behind (Looked path seen) calls (written calls (begins_before mark records (Looked path seen) calls b) h)
  written (Met path after found ∷ calls) b h = written_behind (Met path after found) calls (written calls (begins_before mark records (Met path after found) calls b) h)
  written (MetMark plan set ∷ calls) b h = written_behind (MetMark plan set) calls (written calls (begins_before mark records (MetMark plan set) calls b) h)
  written (Saw path found ∷ calls) b h = written_behind (Saw path found) calls (written calls (begins_before mark records (Saw path found) calls b) h)
  written (SawMark plan set ∷ calls) b h = written_behind (SawMark plan set) calls (written calls (begins_before mark records (SawMark plan set) calls b) h)
  written (NotSeen path trouble ∷ calls) b h = written_behind (NotSeen path trouble) calls (written calls (begins_before mark records (NotSeen path trouble) calls b) h)
  written (MarkNotSeen plan trouble ∷ calls) b h = written_behind (MarkNotSeen plan trouble) calls (written calls (begins_before mark records (MarkNotSeen plan trouble) calls b) h)
  written (CheckedLinks path done ∷ calls) b h = written_behind (CheckedLinks path done) calls (written calls (begins_before mark records (CheckedLinks path done) calls b) h)
  written (Gave path before after modes ∷ calls) b h = written_behind (Gave path before after modes) calls (written calls (begins_before mark records (Gave path before after modes) calls b) h)
  written (SetMode path owner mode done ∷ calls) b h = written_behind (SetMode path owner mode done) calls (written calls (begins_before mark records (SetMode path owner mode done) calls b) h)
  written (Kept path owner done ∷ calls) b h = written_behind (Kept path owner done) calls (written calls (begins_before mark records (Kept path owner done) calls b) h)
  written (Settled done ∷ calls) b h = written_behind (Settled done) calls (written calls (begins_before mark records (Settled done) calls b) h)
  written (PutMark plan done ∷ calls) b h = written_behind (PutMark plan done) calls (written calls (begins_before mark records (PutMark plan done) calls b) h)
  written (KeptMark done ∷ calls) b h = written_behind (KeptMark done) calls (written calls (begins_before mark records (KeptMark done) calls b) h)
  written (ReadModes plan set begun ∷ calls) b h = written_behind (ReadModes plan set begun) calls (written calls (begins_before mark records (ReadModes plan set begun) calls b) h)
  written (LostMode plan path owner mode ∷ calls) b h = written_behind (LostMode plan path owner mode) calls (written calls (begins_before mark records (LostMode plan path owner mode) calls b) h)
  written (PutModes plan done ∷ calls) b h =
      elim (one_of (done && all_asked records calls) (is_begun records calls) h) [
        | inl now ↦ written_now plan done calls b now
        | inr before ↦ written_behind (PutModes plan done) calls (written calls (begins_before mark records (PutModes plan done) calls b) before)
      ]

-- a change that is planned is that of a record
planned : (r : PlanRecord) (records : List PlanRecord) → is_planned records r.path r.before r.after ≡ true → Contains records r
planned r [] h = absurd (let e : false ≡ true = h in cc)
planned r (x ∷ rs) h =
    elim (one_of (is_of r.path r.before r.after x) (is_planned rs r.path r.before r.after) h) [
      | inl now ↦ let hs = both (bytes_eq r.path x.path) (owner_eq r.before x.before && owner_eq r.after x.after) now in
          let owners = both (owner_eq r.before x.before) (owner_eq r.after x.after) hs.1 in
          let path_is = sym (same_path r.path x.path hs.0) in
          let before_is = sym (equal_owners r.before x.before owners.0) in
          let after_is = sym (equal_owners r.after x.after owners.1) in
          let is : x ≡ r = λ i. record { before = before_is i; after = after_is i; path = path_is i } in (0, omega arith, is)
      | inr behind ↦ Contains-append_right (x ∷ []) rs r (planned r rs behind)
    ]

pub changes_are_foreseen : ChangesAreForeseen
changes_are_foreseen mark records later earlier r modes h =
    let change = Gave r.path r.before r.after modes in
    let parts = lawful_parts mark records (later ++ change ∷ earlier) h in
    let gives = before_all (gives_by_plan records) (gives_before mark records) later (change ∷ earlier) parts.0 in
    let begins = before_all (begins_first mark records) (begins_before mark records) later (change ∷ earlier) parts.3 in
    let first = both (is_begun records earlier) (begins_first mark records earlier) begins in
    record {
      planned = planned r records (both (is_planned records r.path r.before r.after) (gives_by_plan records earlier) gives).0;
      written = written mark records earlier first.1 first.0;
    }

pub marks_come_last : MarksComeLast
marks_come_last mark plan records later earlier done h =
    let last = PutMark plan done in
    let parts = lawful_parts mark records (later ++ last ∷ earlier) h in
    let is = marks mark records plan done earlier (before_all (marks_last mark records) (marks_before mark records) later (last ∷ earlier) parts.2) in
    record {
      own = (marks_compare plan mark).0 is.0;
      kept = for_all (was_kept earlier) (λ r. WasMade (Kept r.path r.after true) (LeavesFile r.path) earlier) (λ r e. kept r earlier e) records is.1;
      settled = settled earlier is.2;
      modes = none_failed earlier is.3;
    }

module _ (mark plan : PlanMark) (records : List PlanRecord) (later earlier : List Called) where
  first_of : (c : Called) → is_lawful mark records (later ++ c ∷ earlier) ≡ true → begins_first mark records (c ∷ earlier) ≡ true
  first_of c h = before_all (begins_first mark records) (begins_before mark records) later (c ∷ earlier) (lawful_parts mark records (later ++ c ∷ earlier) h).3

  of_the_plan : mark_eq plan mark ≡ true → were_read mark earlier ≡ true → is_unchanged earlier ≡ true → IsOfThePlan mark plan earlier
  of_the_plan own told unchanged = record { own = (marks_compare plan mark).0 own; read = read mark earlier told; unchanged = none_given earlier unchanged }

  pub notes_are_of_the_plan : NotesAreOfThePlan mark plan records later earlier
  notes_are_of_the_plan =
      record {
        asked = λ path owner mode h. let is = asks mark records plan path owner mode earlier (first_of (LostMode plan path owner mode) h) in of_the_plan is.0 is.1 is.2;
        written = λ done h. let is = puts mark records plan done earlier (first_of (PutModes plan done) h) in
            (of_the_plan is.0 is.2 is.3, record { checked = all_were_checked records earlier is.1; synced = for_all (is_mode_kept earlier) (λ r. IsSyncedSince r earlier) (λ r e. synced_since r earlier e) records is.4; settled = settled earlier is.5 });
      }
