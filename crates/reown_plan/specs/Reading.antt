-- What a text is read as.
-- Source: this project's own format.
use Rattle.std.specs.Prelude.{◌≡◌, ℕ, List, Result, Ok, Err}
use Rattle.reown_plan.specs.PlanData.{PlanData}
use Rattle.reown_plan.specs.Spelling.{spelling, IsLawful, IsFaultAt}

-- the plan that the text spells, or the offset of its fault
abbrev pub ReadsAs : List ℕ → Result PlanData ℕ → Type 0
ReadsAs text (Ok plan) = IsLawful plan × (text ≡ spelling plan)
ReadsAs text (Err offset) = IsFaultAt text offset
