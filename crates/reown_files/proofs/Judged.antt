-- Which owners go with which stage of a plan, and that a plan counts as begun once a file was changed.
use Rattle.std.proofs.Common.{◌≡◌, ◌≢◌, ◌⊎◌, inl, inr, ℕ, ◌==◌, true, false, ◌&&◌, not, List, [], ◌∷◌, Option, None, Some, refl, sym, ◌∙◌, ap, arith}
use Rattle.std.specs.List.{list_any}
use Rattle.std.proofs.lemmas.Bool.Decides.{nat_tests}
use Rattle.reown_plan.specs.declared.mark.PlanMark.{PlanMark}
use Rattle.reown_plan.specs.declared.plan.Owner.{Owner}
use Rattle.reown_plan.specs.Mark.{mark_eq}
use Rattle.reown_plan.specs.Owners.{owner_eq}
use Rattle.reown_plan.specs.PlanData.{PlanRecord}
use Rattle.reown_runner.proofs.Cellwise.{either}
use Rattle.reown_files.specs.Calls.{Called, Looked, Met, MetMark, Saw, SawMark, NotSeen, MarkNotSeen, CheckedLinks, Gave, SetMode, Kept, Settled, PutMark, KeptMark, ReadModes, LostMode, PutModes}
use Rattle.reown_files.specs.Lawful.{is_begun, is_unchanged, begins_first, all_asked, is_met, all_met, all_checked, all_modes_kept, were_read, is_settled, is_given}
use Rattle.reown_files.specs.Laws.{OwnersGoByStage, IsFit, HasOneFault, FilesAreJudged, FaultsAreNamed, ChangedPlansAreBegun}
use Rattle.reown_files.specs.Opening.{IsUnfit}
use Rattle.reown_files.specs.declared.answers.OpenFault.{OpenFault}
use Rattle.reown_files.specs.declared.answers.OpenFault.TheVariants.{Missing, Foreign, Unfinished, AlreadyChanged, File, Disk, Modes, Memory}
use Rattle.reown_files.specs.declared.stage.Stage.{Stage}
use Rattle.reown_files.specs.declared.stage.Stage.TheVariants.{NotBegun, Begun, Done}
use Rattle.reown_files.proofs.Laws.{both, or_true, owner_same, lawful_parts}

pub goes_by_stage : OwnersGoByStage
goes_by_stage =
    record {
      first = λ r owner. (λ h. h, λ h. h);
      between = λ r owner. (λ h. h, λ h. h);
      back = λ r owner. (λ h. h, λ h. h);
    }

-- ---- owners that are compared

equal : (n m : ℕ) → (n == m) ≡ true → n ≡ m
equal n m e = grind (arith, nat_tests)

equal_owners : (a b : Owner) → owner_eq a b ≡ true → a ≡ b
equal_owners a b e =
    let each = both (a.uid == b.uid) (a.gid == b.gid) e in
    let with_uid : a ≡ record { uid = b.uid; gid = a.gid } = ap (λ n. record { uid = n; gid = a.gid }) (equal a.uid b.uid each.0) in
    with_uid ∙ ap (λ n. record { uid = b.uid; gid = n }) (equal a.gid b.gid each.1)

-- ---- one fault with a file

module _ (i : ℕ) (r : PlanRecord) where
  only_missing : (stage : Stage) (other : OpenFault) → IsUnfit stage i r None other → other ≡ Missing i
  only_missing stage (Missing at) h = ap (λ n. Missing n) h.0
  only_missing stage (Foreign at o) h = absurd (let e : None ≡ Some o = h.1 in cc)
  only_missing stage (Unfinished at) h = absurd (let e : None ≡ Some r.before = h.1 in cc)
  only_missing stage (AlreadyChanged at) h = absurd (let e : None ≡ Some r.after = h.1 in cc)
  only_missing stage (File at trouble) h = absurd h
  only_missing stage (Disk trouble) h = absurd h
  only_missing stage (Modes trouble) h = absurd h
  only_missing stage Memory h = absurd h

  module _ (owner : Owner) where
    same : (o : Owner) → Some owner ≡ Some o → owner ≡ o
    same o e = cc

    only_foreign : (stage : Stage) → owner ≢ r.before → owner ≢ r.after → (other : OpenFault) → IsUnfit stage i r (Some owner) other → other ≡ Foreign i owner
    only_foreign stage old new (Missing at) h = absurd (let e : Some owner ≡ None = h.1 in cc)
    only_foreign stage old new (Foreign at o) h = ap (λ n. Foreign n o) h.0 ∙ ap (Foreign i) (sym (same o h.1))
    only_foreign stage old new (Unfinished at) h = absurd (old (same r.before h.1))
    only_foreign stage old new (AlreadyChanged at) h = absurd (new (same r.after h.1))
    only_foreign stage old new (File at trouble) h = absurd h
    only_foreign stage old new (Disk trouble) h = absurd h
    only_foreign stage old new (Modes trouble) h = absurd h
    only_foreign stage old new Memory h = absurd h

    only_unfinished : owner ≡ r.before → (other : OpenFault) → IsUnfit Done i r (Some owner) other → other ≡ Unfinished i
    only_unfinished old (Missing at) h = absurd (let e : Some owner ≡ None = h.1 in cc)
    only_unfinished old (Foreign at o) h = absurd (h.2 (sym (same o h.1) ∙ old))
    only_unfinished old (Unfinished at) h = ap (λ n. Unfinished n) h.0
    only_unfinished old (AlreadyChanged at) h = absurd (let e : Done ≡ NotBegun = h.3 in cc)
    only_unfinished old (File at trouble) h = absurd h
    only_unfinished old (Disk trouble) h = absurd h
    only_unfinished old (Modes trouble) h = absurd h
    only_unfinished old Memory h = absurd h

    only_changed : owner ≡ r.after → (other : OpenFault) → IsUnfit NotBegun i r (Some owner) other → other ≡ AlreadyChanged i
    only_changed new (Missing at) h = absurd (let e : Some owner ≡ None = h.1 in cc)
    only_changed new (Foreign at o) h = absurd (h.3 (sym (same o h.1) ∙ new))
    only_changed new (Unfinished at) h = absurd (let e : NotBegun ≡ Done = h.3 in cc)
    only_changed new (AlreadyChanged at) h = ap (λ n. AlreadyChanged n) h.0
    only_changed new (File at trouble) h = absurd h
    only_changed new (Disk trouble) h = absurd h
    only_changed new (Modes trouble) h = absurd h
    only_changed new Memory h = absurd h

    foreign : (stage : Stage) → owner ≢ r.before → owner ≢ r.after → HasOneFault stage i r (Some owner)
    foreign stage old new = record { fault = Foreign i owner; unfit = (refl, refl, old, new); no_other = only_foreign stage old new }

    -- at its old owner, and not at its new one
    at_old : (stage : Stage) → owner ≡ r.before → owner ≢ r.after → IsFit stage r (Some owner) ⊎ HasOneFault stage i r (Some owner)
    at_old NotBegun old new = inl (owner, refl, old)
    at_old Begun old new = inl (owner, refl, inl old)
    at_old Done old new =
        inr (record { fault = Unfinished i; unfit = (refl, ap (λ o. Some o) old, (λ e. new (old ∙ e)), refl); no_other = only_unfinished old })

    -- at its new owner, and not at its old one
    at_new : (stage : Stage) → owner ≢ r.before → owner ≡ r.after → IsFit stage r (Some owner) ⊎ HasOneFault stage i r (Some owner)
    at_new NotBegun old new =
        inr (record { fault = AlreadyChanged i; unfit = (refl, ap (λ o. Some o) new, (λ e. old (new ∙ e)), refl); no_other = only_changed new })
    at_new Begun old new = inl (owner, refl, inr new)
    at_new Done old new = inl (owner, refl, new)

    at_both : (stage : Stage) → owner ≡ r.before → owner ≡ r.after → IsFit stage r (Some owner)
    at_both NotBegun old new = (owner, refl, old)
    at_both Begun old new = (owner, refl, inl old)
    at_both Done old new = (owner, refl, new)

    decided : (a : Owner) → (owner ≡ a) ⊎ (owner ≢ a)
    decided a =
        elim (either (owner_eq owner a)) [
          | inl is ↦ inl (equal_owners owner a is)
          | inr other ↦ inr (λ e. let is : owner_eq owner a ≡ true = ap (owner_eq owner) (sym e) ∙ owner_same owner in absurd cc)
        ]

    there : (stage : Stage) → IsFit stage r (Some owner) ⊎ HasOneFault stage i r (Some owner)
    there stage =
        elim (decided r.before) [
          | inl old ↦ elim (decided r.after) [ inl new ↦ inl (at_both stage old new) | inr other ↦ at_old stage old other ]
          | inr other ↦ elim (decided r.after) [ inl new ↦ at_new stage other new | inr neither ↦ inr (foreign stage other neither) ]
        ]

  judged : (stage : Stage) (found : Option Owner) → IsFit stage r found ⊎ HasOneFault stage i r found
  judged stage None = inr (record { fault = Missing i; unfit = (refl, refl); no_other = only_missing stage })
  judged stage (Some owner) = there owner stage

  never : (stage : Stage) (found : Option Owner) → IsFit stage r found → (fault : OpenFault) → ¬ IsUnfit stage i r found fault
  never stage found fit (Missing at) h = let e : Some fit.0 ≡ None = sym fit.1 ∙ h.1 in absurd cc
  never NotBegun found fit (Foreign at o) h = h.2 (sym (same fit.0 o (sym fit.1 ∙ h.1)) ∙ fit.2)
  never Begun found fit (Foreign at o) h =
      let is = sym (same fit.0 o (sym fit.1 ∙ h.1)) in elim fit.2 [ inl old ↦ h.2 (is ∙ old) | inr new ↦ h.3 (is ∙ new) ]
  never Done found fit (Foreign at o) h = h.3 (sym (same fit.0 o (sym fit.1 ∙ h.1)) ∙ fit.2)
  never NotBegun found fit (Unfinished at) h = let e : NotBegun ≡ Done = h.3 in absurd cc
  never Begun found fit (Unfinished at) h = let e : Begun ≡ Done = h.3 in absurd cc
  never Done found fit (Unfinished at) h = h.2 (sym (same fit.0 r.before (sym fit.1 ∙ h.1)) ∙ fit.2)
  never NotBegun found fit (AlreadyChanged at) h = h.2 (sym (same fit.0 r.after (sym fit.1 ∙ h.1)) ∙ fit.2)
  never Begun found fit (AlreadyChanged at) h = let e : Begun ≡ NotBegun = h.3 in absurd cc
  never Done found fit (AlreadyChanged at) h = let e : Done ≡ NotBegun = h.3 in absurd cc
  never stage found fit (File at trouble) h = h
  never stage found fit (Disk trouble) h = h
  never stage found fit (Modes trouble) h = h
  never stage found fit Memory h = h

pub are_judged : FilesAreJudged
are_judged = record { either = λ stage i r found. judged i r stage found; never_both = λ stage i r found fit fault. never i r stage found fit fault }

pub are_named : (i : ℕ) (r : PlanRecord) → FaultsAreNamed i r
are_named i r =
    record {
      missing = λ stage. (refl, refl);
      foreign = λ stage owner old new. (refl, refl, old, new);
      unfinished = λ apart. (refl, refl, apart, refl);
      changed = λ apart. (refl, refl, apart, refl);
    }

-- ---- a plan of which a file was changed

module _ (mark : PlanMark) (records : List PlanRecord) where
  begun_first : (calls : List Called) → begins_first mark records calls ≡ true → is_unchanged calls ≡ false → is_begun records calls ≡ true
  begun_first [] h e = absurd (let x : true ≡ false = e in cc)
  begun_first (Gave path before after modes ∷ calls) h e = (both (is_begun records calls) (begins_first mark records calls) h).0
  begun_first (LostMode plan path owner mode ∷ calls) h e =
      let last = is_unchanged calls && begins_first mark records calls in
      let read = both (mark_eq plan mark) (list_any (is_given path owner) records && (were_read mark calls && last)) h in
      let given = both (list_any (is_given path owner) records) (were_read mark calls && last) read.1 in
      begun_first calls (both (is_unchanged calls) (begins_first mark records calls) (both (were_read mark calls) last given.1).1).1 e
  begun_first (PutModes plan done ∷ calls) h e =
      let settled = is_settled calls && begins_first mark records calls in
      let last = all_modes_kept records calls && settled in
      let own = both (mark_eq plan mark) (all_checked records calls && (were_read mark calls && (is_unchanged calls && last))) h in
      let checked = both (all_checked records calls) (were_read mark calls && (is_unchanged calls && last)) own.1 in
      let read = both (were_read mark calls) (is_unchanged calls && last) checked.1 in
      let unchanged = both (is_unchanged calls) last read.1 in
      or_true (done && all_asked records calls) (is_begun records calls)
      (begun_first calls (both (is_settled calls) (begins_first mark records calls) (both (all_modes_kept records calls) settled unchanged.1).1).1 e)
  begun_first (Looked path seen ∷ calls) h e = begun_first calls h e
  begun_first (Met path after found ∷ calls) h e =
      let once = not (is_met path calls) && begins_first mark records calls in
      begun_first calls (both (not (is_met path calls)) (begins_first mark records calls) (both (list_any (is_given path after) records) once h).1).1 e
  begun_first (MetMark plan set ∷ calls) h e = begun_first calls h e
  begun_first (Saw path found ∷ calls) h e = begun_first calls h e
  begun_first (SawMark plan set ∷ calls) h e = begun_first calls h e
  begun_first (NotSeen path trouble ∷ calls) h e = begun_first calls h e
  begun_first (MarkNotSeen plan trouble ∷ calls) h e = begun_first calls h e
  begun_first (CheckedLinks path done ∷ calls) h e = begun_first calls (both (all_met records calls) (begins_first mark records calls) h).1 e
  begun_first (SetMode path owner mode done ∷ calls) h e = begun_first calls h e
  begun_first (Kept path owner done ∷ calls) h e = begun_first calls h e
  begun_first (Settled done ∷ calls) h e = begun_first calls h e
  begun_first (PutMark plan done ∷ calls) h e = begun_first calls h e
  begun_first (KeptMark done ∷ calls) h e = begun_first calls h e
  begun_first (ReadModes plan set begun ∷ calls) h e = begun_first calls h e

pub changed_is_begun : ChangedPlansAreBegun
changed_is_begun mark records calls h e = begun_first mark records calls (lawful_parts mark records calls h).3 e
