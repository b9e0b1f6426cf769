use Rattle.std.proofs.Common.{◌≡◌, ◌∙◌, List, ℕ, Bool, true, false, Option, Some, None, Result, Ok, cond, refl, sym, ap, subst}
use Rattle.std.specs.Prelude.{Vec, option_copied}
use Rattle.std.specs.declared.alloc.Global.{Global}
use Rattle.reown_plan.specs.declared.mark.PlanMark.{PlanMark}
use Rattle.reown_files.specs.MarkText.{head_text, modes_judged}
use Rattle.reown_files.specs.declared.answers.Trouble.{Trouble}
use Rattle.reown_files.specs.Trees.{HasRead, HasModesOf}
use Rattle.reown_files.proofs.modes_file.ModesFile.read_text.Goals as goal

abbrev as_told : Option (List ℕ) → Result (Option (List ℕ)) Trouble
as_told lines = Ok lines

-- what is judged with this first line is judged with that of the plan
judged : (plan : PlanMark) (head mark text : List ℕ) → head ≡ head_text plan → {told : Result (Option (List ℕ)) Trouble} → modes_judged head mark text ≡ told
    → modes_judged (head_text plan) mark text ≡ told
judged plan head mark text is e = sym (ap (λ (h : List ℕ). modes_judged h mark text) is) ∙ e

-- where the mark was there nothing is noted
stays : (plan : PlanMark) (done : Bool) (lines : Option (List ℕ)) (old : Option PlanMark) (tree : List (Vec ℕ Global × ℕ)) → done ≡ true
    → HasRead plan (cond done None lines) old tree old tree
stays plan done lines old tree e = subst (λ (d : Bool). HasRead plan (cond d None lines) old tree old tree) (sym e) (refl, refl)

-- and else these lines are
noted : (plan : PlanMark) (done : Bool) (lines : List ℕ) (old : Option PlanMark) (tree now : List (Vec ℕ Global × ℕ)) → done ≡ false → HasModesOf lines now
    → HasRead plan (cond done None (Some lines)) old tree (Some plan) now
noted plan done lines old tree now e has = subst (λ (d : Bool). HasRead plan (cond d None (Some lines)) old tree (Some plan) now) (sym e) (refl, has)

pub returns-then-self-clause-read : goal.returns-then-self-clause-read
returns-then-self-clause-read c =
    let lines = c.in-Some.lines.now in (
      Some lines,
      judged c.args.plan.now c.deref.result.now c.args.beside.now c.args.text.now (c.deref.ensures.value ∙ c.in_ok-head.ensures) c.in_ok-lines.ensures.lines ∙ ap (λ found. as_told (option_copied found)) c.in-Some.is,
      refl,
      stays c.args.plan.now c.args.self.now.was_done (Some lines) c.args.self.now.plan c.args.self.now.noted.entries c.if-self.true,
    )

pub returns-clause-read : goal.returns-clause-read
returns-clause-read c =
    let lines = c.in-Some.lines.now in (
      Some lines,
      judged c.args.plan.now c.deref.result.now c.args.beside.now c.args.text.now (c.deref.ensures.value ∙ c.in_ok-head.ensures) c.in_ok-lines.ensures.lines ∙ ap (λ found. as_told (option_copied found)) c.in-Some.is,
      refl,
      noted c.args.plan.now c.args.self.now.was_done lines c.args.self.now.plan c.args.self.now.noted.entries c.in_ok-self.field-0.entries c.if-self.false c.in_ok-self.ensures,
    )
