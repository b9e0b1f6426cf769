-- What a rehearsal stands for whose inventory comes in pieces.
-- Source: this project's own rule.
use Rattle.std.specs.Prelude.{◌≡◌, ℕ, false, List, [], ◌++◌, None, Ok, Err}
use Rattle.mtree_inv.specs.Standing as reader
use Rattle.reown_plan.specs.PlanData.{PlanData}
use Rattle.reown_plan.specs.Places.{paths_in}
use Rattle.reown_runner.specs.PlanTree.{found_among}
use Rattle.unify_texts.specs.declared.fault.Fault.{Fault}
use Rattle.unify_texts.specs.Limits.{most_files}
use Rattle.rehearsal.specs.Rehearsing.{rehearsed}
use Rattle.rehearsal.specs.declared.plan_rehearsal.Rehearsal.{Rehearsal}

-- of the inventory this text has come, in which there is no fault so far
pub record StandsFor (rehearsal : Rehearsal) (plan : PlanData) (text : List ℕ) : Type 0 where
  pub lent : rehearsal.plan.now ≡ plan
  pub reading : reader.StandsFor rehearsal.reader text
  pub takes : rehearsal.reader.most ≡ most_files
  pub going : rehearsal.reader.is_finished ≡ false
  pub sound : rehearsal.reader.fault ≡ None
  pub waiting : rehearsal.reader.waiting ≡ []
  pub found : rehearsal.tree ≡ found_among rehearsal.reader.files (paths_in plan.records)

-- this fault is the answer, whatever comes after the text
abbrev pub IsRefusedBy : PlanData → List ℕ → Fault → Type 0
IsRefusedBy plan text f = (more : List ℕ) → rehearsed (Ok plan) (text ++ more) ≡ Err f
