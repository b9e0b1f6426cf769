-- Modes of which nothing is taken, and the plan that those which were taken are told of.
use Rattle.std.proofs.Common.{◌≡◌, ◌≢◌, ◌∙◌, ◌∷◌, [], ℕ, Bool, true, false, cond, List, Option, None, Some, Vec, Result, Ok, Err, refl, sym, ap, subst, arith, length}
use Rattle.std.specs.Prelude.{is_some}
use Rattle.std.specs.declared.alloc.Global.{Global}
use Rattle.reown_plan.specs.Mark.{mark_of}
use Rattle.reown_plan.specs.PlanData.{PlanData}
use Rattle.reown_plan.specs.declared.mark.PlanMark.{PlanMark}
use Rattle.reown_files.specs.Actions.{Action, FileRead, modes_read, modes_put}
use Rattle.reown_files.specs.Laws.{IsMarkable, AreReadOf, text_put, ModesOfNoneAreLeft, ModesAreToldOfTheirPlan, ModesGoByTheMark}
use Rattle.reown_files.specs.MarkText.{Entry, has_ended, head_text, lines_judged, lines_text, lines_told, mark_text, modes_judged, modes_text, text_or_empty}
use Rattle.reown_files.specs.RootData.{RootData}
use Rattle.reown_files.specs.Trees.{HasRead, IsTold, mode_at, mode_noted_for}
use Rattle.reown_files.specs.declared.answers.Trouble.{Trouble}
use Rattle.reown_files.specs.declared.answers.Trouble.TheVariants.{OtherPlan}
use Rattle.reown_files.proofs.PutFiles.{same_lines}
use Rattle.reown_files.proofs.WholeModes.{judged, other_judged, same_marks, other_marks}

-- ---- which texts were read

module _ (mark modes : List ℕ) (actions : List Action) where
  same_modes : (beside text other there : Option (List ℕ)) → modes_read mark modes beside text actions ≡ modes_read mark modes other there actions → there ≡ text
  same_modes beside None other None e = refl
  same_modes beside None other (Some there) e = absurd (omega (arith, ap length e))
  same_modes beside (Some text) other None e = absurd (omega (arith, ap length e))
  same_modes beside (Some text) other (Some there) e =
      let e' : FileRead mark beside ∷ FileRead modes (Some text) ∷ actions ≡ FileRead mark other ∷ FileRead modes (Some there) ∷ actions = e in
      let same : there ≡ text = cc in ap Some same

  same_beside : (beside other : Option (List ℕ)) (text : List ℕ) (there : Option (List ℕ)) → modes_read mark modes beside (Some text) actions ≡ modes_read mark modes other there actions → other ≡ beside
  same_beside beside other text None e = absurd (omega (arith, ap length e))
  same_beside beside other text (Some there) e =
      let e' : FileRead mark beside ∷ FileRead modes (Some text) ∷ actions ≡ FileRead mark other ∷ FileRead modes (Some there) ∷ actions = e in cc

-- ---- what they tell

module _ (set begun : Bool) (old new : Option PlanMark) (tree noted : List (Vec ℕ Global × ℕ)) where
  abbrev Tells : PlanMark → Result (Option (List ℕ)) Trouble → Type 0
  Tells plan told = IsTold plan told set begun old tree new noted

  told_so : (plan : PlanMark) (beside text : Option (List ℕ)) → AreReadOf plan beside text set begun old tree new noted → Tells plan (lines_told plan beside text)
  told_so plan beside None (mark, modes, actions, h) =
      subst (λ (t : Option (List ℕ)). Tells plan (lines_told plan h.1 t)) (same_modes mark modes actions beside None h.1 h.0 h.2) h.3
  told_so plan beside (Some text) (mark, modes, actions, h) =
      let of_text : Tells plan (lines_told plan h.1 (Some text)) = subst (λ (t : Option (List ℕ)). Tells plan (lines_told plan h.1 t)) (same_modes mark modes actions beside (Some text) h.1 h.0 h.2) h.3 in
      subst (λ (b : Option (List ℕ)). Tells plan (lines_told plan b (Some text))) (same_beside mark modes actions beside h.1 text h.0 h.2) of_text

  none_either_way : (by : Bool) (lines : Option (List ℕ)) → lines ≡ None → cond by None lines ≡ None
  none_either_way true lines e = refl
  none_either_way false lines e = e

  nothing_told : (plan : PlanMark) (told : Result (Option (List ℕ)) Trouble) → told ≡ Ok None → Tells plan told → (begun ≡ false) × (new ≡ old) × (noted ≡ tree)
  nothing_told plan told is h =
      let none : h.0 ≡ None = same_lines h.0 None told h.1 is in
      let left : HasRead plan None old tree new noted = subst (λ (o : Option (List ℕ)). HasRead plan o old tree new noted) (none_either_way set h.0 none) h.3 in
      (h.2 ∙ ap (λ (o : Option (List ℕ)). is_some o) none, left.0, left.1)

  never_told : (plan : PlanMark) (told : Result (Option (List ℕ)) Trouble) → told ≡ Err OtherPlan → ¬ Tells plan told
  never_told plan told is h = let e : Err OtherPlan ≡ Ok h.0 = sym is ∙ h.1 in absurd cc

  passed_over : (ended : Bool) (told : Result (Option (List ℕ)) Trouble) (lines : Option (List ℕ)) → told ≡ lines_judged ended (Some None) → told ≡ Ok lines → told ≡ Ok None
  passed_over true told lines is e = is
  passed_over false told lines is e = absurd (let x : Err OtherPlan ≡ Ok lines = sym is ∙ e in cc)

  of_others : (plan other : PlanData) (entries : List Entry) (beside : Option (List ℕ)) → IsMarkable plan → IsMarkable other → mark_of other ≢ mark_of plan
      → AreReadOf (mark_of plan) beside (text_put other entries) set begun old tree new noted → (begun ≡ false) × (new ≡ old) × (noted ≡ tree)
  of_others plan other entries beside is is' apart h =
      let text = modes_text (mark_of other) (lines_text entries) in
      let told = modes_judged (head_text (mark_of plan)) (text_or_empty beside) text in
      let tells : Tells (mark_of plan) told = told_so (mark_of plan) beside (Some text) h in
      let ended = has_ended (text_or_empty beside) text in
      nothing_told (mark_of plan) told (passed_over ended told tells.0 (other_judged plan other entries (text_or_empty beside) ended is is' apart refl) tells.1) tells

pub modes_left : ModesOfNoneAreLeft
modes_left begun old new tree noted =
    record {
      none = λ plan beside set h. nothing_told set begun old new tree noted plan (Ok None) refl (told_so set begun old new tree noted plan beside None h);
      others = λ plan other entries beside set is is' apart h. of_others set begun old new tree noted plan other entries beside is is' apart h;
      ended = λ plan other entries is is' apart.
          ([], [], [], (text_put other entries, Some (mark_text (mark_of other)), refl, (None, judged.ended plan other entries is is' apart, refl, (refl, refl))));
      unended = λ plan other third entries set is is' is'' apart apart' h.
          let text = text_put other entries in
          let beside = Some (mark_text (mark_of third)) in
          never_told set begun old new tree noted (mark_of plan) (lines_told (mark_of plan) beside text) (judged.begun plan other third entries is is' is'' apart apart') (told_so set begun old new tree noted (mark_of plan) beside text h);
      unmarked = λ plan other entries set is is' apart h.
          let text = text_put other entries in
          never_told set begun old new tree noted (mark_of plan) (lines_told (mark_of plan) None text) (judged.no_mark plan other entries is is' apart) (told_so set begun old new tree noted (mark_of plan) None text h);
      done = λ plan beside text h. h.3.3.3;
    }

-- ---- what was taken

of_no_plan : (read : Option PlanMark) (tree : List (Vec ℕ Global × ℕ)) (plan : PlanMark) (path : List ℕ) → read ≢ Some plan → mode_noted_for read tree plan path ≡ None
of_no_plan None tree plan path apart = refl
of_no_plan (Some read) tree plan path apart = ap (λ (b : Bool). cond b (mode_at tree path) None) (other_marks read plan (λ e. apart (ap Some e)))

pub modes_told : (plan : PlanMark) (path : List ℕ) (root : RootData) → ModesAreToldOfTheirPlan plan path root
modes_told plan path root =
    record {
      own = λ is.
          ap (λ (read : Option PlanMark). mode_noted_for read root.modes plan path) is
          ∙ ap (λ (b : Bool). cond b (mode_at root.modes path) None) (same_marks plan);
      other = λ apart. of_no_plan root.read root.modes plan path apart;
    }

pub modes_by_mark : ModesGoByTheMark
modes_by_mark set text actions old read h = ap (λ (r : RootData). modes_put r.modes_path r.was_done text actions) h
