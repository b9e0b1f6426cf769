-- What a disk on which a run is tried asks of the disk below, in other words (this project's own).
use Rattle.std.specs.Prelude.{◌≡◌, ℕ, Bool, true, List, Option, Some, None}
use Rattle.reown_plan.specs.declared.mark.PlanMark.{PlanMark}
use Rattle.reown_plan.specs.declared.plan.Owner.{Owner}
use Rattle.reown_files.specs.declared.answers.Modes.{Modes}
use Rattle.reown_files.specs.Calls.{Called, MetMark, Gave, SetMode, Kept, Settled, PutMark}
use Rattle.reown_files.specs.Calls.{KeptMark, PutModes, SawMark}
use Rattle.unify_apply.specs.Previews.{asked_below, only_looks}

-- What is asked only looks. A call that does is asked as it is, with what was told; the mark is
-- looked at where it is met; and for a call that changes something, writes it down or syncs it,
-- nothing is asked.
pub record PreviewsOnlyLook : Type 0 where
  pub only : (call asked : Called) → asked_below call ≡ Some asked → only_looks asked ≡ true
  pub looks : (call : Called) → only_looks call ≡ true → asked_below call ≡ Some call
  pub mark : (plan : PlanMark) (set : Bool)
      → asked_below (MetMark plan set) ≡ Some (SawMark plan set)
  pub gave : (path : List ℕ) (before after : Owner) (modes : Option Modes)
      → asked_below (Gave path before after modes) ≡ None
  pub set_mode : (path : List ℕ) (owner : Owner) (mode : ℕ) (done : Bool)
      → asked_below (SetMode path owner mode done) ≡ None
  pub kept : (path : List ℕ) (owner : Owner) (done : Bool)
      → asked_below (Kept path owner done) ≡ None
  pub settled : (done : Bool) → asked_below (Settled done) ≡ None
  pub put_modes : (plan : PlanMark) (done : Bool) → asked_below (PutModes plan done) ≡ None
  pub put_mark : (plan : PlanMark) (done : Bool) → asked_below (PutMark plan done) ≡ None
  pub kept_mark : (done : Bool) → asked_below (KeptMark done) ≡ None
