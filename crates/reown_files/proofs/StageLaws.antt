-- What tells the stage of a plan.
use Rattle.std.proofs.Common.{◌≡◌, ◌≢◌, ◌⊎◌, ◌↔◌, ◌||◌, inl, inr, Bool, true, false, cond, List, [], ◌∷◌, Option, None, Some, All, get_or, refl, sym, ◌∙◌, ap, subst}
use Rattle.std.proofs.lemmas.Bool.{cases_Bool, true≢false}
use Rattle.std.proofs.lemmas.List.Elements.{All-head, All-tail}
use Rattle.reown_plan.specs.declared.mark.PlanMark.{PlanMark}
use Rattle.reown_plan.specs.Mark.{is_marked_for}
use Rattle.reown_plan.proofs.Marks.{marks_compare}
use Rattle.reown_files.specs.Calls.{Called, Looked, Met, MetMark, Saw, SawMark, NotSeen, MarkNotSeen, CheckedLinks, Gave, SetMode, Kept, Settled, PutMark, KeptMark, ReadModes, LostMode, PutModes}
use Rattle.reown_files.specs.Laws.{StagesAreTold, TellsOfRun, FirstRunsBeginAtOldOwners}
use Rattle.reown_files.specs.Replay.{Held, replay}
use Rattle.reown_files.specs.Stages.{MayHave, stage_of, stage_in}
use Rattle.reown_files.specs.declared.stage.Stage.{Stage}
use Rattle.reown_files.specs.declared.stage.Stage.TheVariants.{NotBegun, Begun, Done}

marked : (plan : PlanMark) (m : Option PlanMark) → (is_marked_for plan m ≡ true) ↔ (m ≡ Some plan)
marked plan None = (λ e. absurd (let h : false ≡ true = e in cc), λ e. absurd (let h : None ≡ Some plan = e in cc))
marked plan (Some m) =
    let same : Some m ≡ Some plan → m ≡ plan = λ e. cc in
    (λ e. ap (λ (x : PlanMark). Some x) ((marks_compare m plan).0 e), λ e. (marks_compare m plan).1 (same e))

unmarked : (plan : PlanMark) (m : Option PlanMark) → m ≢ Some plan → is_marked_for plan m ≡ false
unmarked plan m other = elim (cases_Bool (is_marked_for plan m)) [ inl is ↦ absurd (other ((marked plan m).0 is)) | inr apart ↦ apart ]

known_marked : (plan : PlanMark) (m : Option PlanMark) → is_marked_for plan m ≡ false → m ≢ Some plan
known_marked plan m apart e = true≢false (sym ((marked plan m).1 e) ∙ apart)

-- ---- each stage

done_so : (set by : Bool) → stage_of set by ≡ Done → set ≡ true
done_so true by e = refl
done_so false true e = absurd (let h : Begun ≡ Done = e in cc)
done_so false false e = absurd (let h : NotBegun ≡ Done = e in cc)

begun_so : (has known : Bool) → stage_of false (has || known) ≡ Begun → (has ≡ true) ⊎ (known ≡ true)
begun_so true known e = inl refl
begun_so false true e = inr refl
begun_so false false e = absurd (let h : NotBegun ≡ Begun = e in cc)

begun_by : (has known : Bool) → (has ≡ true) ⊎ (known ≡ true) → stage_of false (has || known) ≡ Begun
begun_by true known h = refl
begun_by false true h = refl
begun_by false false h = elim h [ inl e ↦ absurd (true≢false (sym e)) | inr e ↦ absurd (true≢false (sym e)) ]

not_begun_so : (has known : Bool) → stage_of false (has || known) ≡ NotBegun → (has ≡ false) × (known ≡ false)
not_begun_so true known e = absurd (let h : Begun ≡ NotBegun = e in cc)
not_begun_so false true e = absurd (let h : Begun ≡ NotBegun = e in cc)
not_begun_so false false e = (refl, refl)

not_begun_by : (has known : Bool) → has ≡ false → known ≡ false → stage_of false (has || known) ≡ NotBegun
not_begun_by has known h k = ap (λ b. stage_of false (b || known)) h ∙ ap (stage_of false) k

module _ (known : Bool) (plan : PlanMark) (held : Held) where
  abbrev has : Bool
  has = is_marked_for plan held.begun

  is_done : (stage_in known plan held ≡ Done) ↔ (held.mark ≡ Some plan)
  is_done =
      (λ e. (marked plan held.mark).0 (done_so (is_marked_for plan held.mark) (has || known) e), λ e. ap (λ b. stage_of b (has || known)) ((marked plan held.mark).1 e))

  module _ (other : held.mark ≢ Some plan) where
    at : stage_in known plan held ≡ stage_of false (has || known)
    at = ap (λ b. stage_of b (has || known)) (unmarked plan held.mark other)

    begun : (stage_in known plan held ≡ Begun) ↔ ((held.begun ≡ Some plan) ⊎ (known ≡ true))
    begun = (
      λ e. elim (begun_so has known (sym at ∙ e)) [ inl h ↦ inl ((marked plan held.begun).0 h) | inr h ↦ inr h ],
      λ h. at ∙ begun_by has known (elim h [ inl e ↦ inl ((marked plan held.begun).1 e) | inr e ↦ inr e ]),
    )

    not_begun : (stage_in known plan held ≡ NotBegun) ↔ ((held.begun ≢ Some plan) × (known ≡ false))
    not_begun = (
      λ e. let parts = not_begun_so has known (sym at ∙ e) in (known_marked plan held.begun parts.0, parts.1),
      λ h. at ∙ not_begun_by has known (unmarked plan held.begun h.0) h.1,
    )

pub stages_told : StagesAreTold
stages_told = record { done = is_done; begun = begun; not_begun = not_begun }

-- ---- a first run

module _ (plan : PlanMark) where
  abbrev Untold : List Called → Type 0
  Untold calls = (is_marked_for plan (replay calls).mark ≡ false) × (is_marked_for plan (replay calls).begun ≡ false)

  other_mark : (other : PlanMark) → other ≢ plan → is_marked_for plan (Some other) ≡ false
  other_mark other apart = unmarked plan (Some other) (λ e. apart cc)

  of_other : (other : PlanMark) (set : Bool) → ¬ ((other ≡ plan) × (set ≡ true)) → is_marked_for plan (cond set (Some other) None) ≡ false
  of_other other true apart = other_mark other (λ e. apart (e, refl))
  of_other other false apart = refl

  one_call : (call : Called) (calls : List Called) → ¬ TellsOfRun plan call → Untold calls → Untold (call ∷ calls)
  one_call (MetMark other set) calls apart h = (of_other other set apart, h.1)
  one_call (PutMark other true) calls apart h = (other_mark other (λ e. apart (e, refl)), h.1)
  one_call (PutMark other false) calls apart h = h
  one_call (ReadModes other set None) calls apart h = h
  one_call (ReadModes other set (Some begun)) calls apart h = (h.0, of_other other begun (λ e. apart (e.0, ap (λ (b : Bool). Some b) e.1)))
  one_call (Gave path before after None) calls apart h = h
  one_call (Gave path before after (Some modes)) calls apart h = h
  one_call (Looked path seen) calls apart h = h
  one_call (Met path after found) calls apart h = h
  one_call (Saw path found) calls apart h = h
  one_call (SawMark other set) calls apart h = h
  one_call (NotSeen path trouble) calls apart h = h
  one_call (MarkNotSeen other trouble) calls apart h = h
  one_call (CheckedLinks path done) calls apart h = h
  one_call (SetMode path owner mode done) calls apart h = h
  one_call (Kept path owner done) calls apart h = h
  one_call (Settled done) calls apart h = h
  one_call (KeptMark done) calls apart h = h
  one_call (LostMode other path owner mode) calls apart h = h
  one_call (PutModes other done) calls apart h = h

  untold : (calls : List Called) → All (λ call. ¬ TellsOfRun plan call) calls → Untold calls
  untold [] all = (refl, refl)
  untold (call ∷ calls) all =
      one_call call calls (All-head (λ c. ¬ TellsOfRun plan c) call calls all) (untold calls (All-tail (λ c. ¬ TellsOfRun plan c) call calls all))

pub first_at_old : FirstRunsBeginAtOldOwners
first_at_old plan records calls all fit k d o below =
    let none = untold plan calls all in
    let has = is_marked_for plan (replay calls).begun in
    let at : stage_in false plan (replay calls) ≡ NotBegun = ap (λ b. stage_of b (has || false)) none.0 ∙ not_begun_by has false none.1 refl in
    subst (λ (s : Stage). MayHave s (get_or records k d) (get_or fit.owners k o)) at (fit.allowed k d o below)
