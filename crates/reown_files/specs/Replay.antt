-- What calls on a disk have made of its files and its mark, and have read there. The calls stand
-- with the newest first.
-- Source: this project's own rule.
use Rattle.std.specs.Prelude.{ℕ, Bool, true, false, List, [], ◌∷◌, Option, None, Some}
use Rattle.std.specs.Prelude.{if◌then◌else◌}
use Rattle.std.specs.Str.{bytes_eq}
use Rattle.reown_plan.specs.declared.mark.PlanMark.{PlanMark}
use Rattle.reown_plan.specs.declared.plan.Owner.{Owner}
use Rattle.reown_plan.specs.PlanData.{PlanRecord}
use Rattle.reown_files.specs.declared.answers.Modes.{Modes}
use Rattle.reown_files.specs.Calls.{Called, Met, MetMark, Gave, PutMark, ReadModes}

-- the owner of each file that is there, the mark, and the plan of which an earlier run has written
-- down modes
pub record Held : Type 0 where
  pub owner : List ℕ → Option Owner
  pub mark : Option PlanMark
  pub begun : Option PlanMark

-- the file at the path has this owner, or is not there; all else stays
abbrev pub with_owner : List ℕ → Option Owner → Held → Held
with_owner path owner held =
    record held { owner = λ q. if bytes_eq q path then owner else held.owner q }

abbrev pub with_mark : Option PlanMark → Held → Held
with_mark mark held = record held { mark = mark }

-- the modes that were read are of this plan, or of none
abbrev pub with_begun : Option PlanMark → Held → Held
with_begun begun held = record held { begun = begun }

-- a change that was made; one that failed, of which no answer says whether it was made, counts as
-- none until the file is seen
abbrev pub with_change : List ℕ → Owner → Option Modes → Held → Held
with_change path after None held = held
with_change path after (Some modes) held = with_owner path (Some after) held

-- a mark that was put; one that was not counts as none
abbrev pub with_put : PlanMark → Bool → Held → Held
with_put plan true held = with_mark (Some plan) held
with_put plan false held = held

-- each file has the owner that it was met with, or that of the last change that was made of it; the
-- mark is the one that was met, or the last that was put; and the modes are of the plan that the
-- last reading told
abbrev pub replay : List Called → Held
replay [] = record { owner = λ path. None; mark = None; begun = None }
replay (Met path after found ∷ calls) = with_owner path found (replay calls)
replay (MetMark plan set ∷ calls) = with_mark (if set then Some plan else None) (replay calls)
replay (Gave path before after modes ∷ calls) = with_change path after modes (replay calls)
replay (PutMark plan done ∷ calls) = with_put plan done (replay calls)
replay (ReadModes plan set (Some begun) ∷ calls) =
    with_begun (if begun then Some plan else None) (replay calls)
replay (_ ∷ calls) = replay calls

-- the owner with which the file of a record was met
abbrev pub found_of : List PlanRecord → List Owner → List ℕ → Option Owner
found_of (r ∷ records) (owner ∷ owners) path =
    if bytes_eq path r.path then Some owner else found_of records owners path
found_of _ _ path = None
