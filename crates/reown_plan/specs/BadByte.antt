-- At which byte a text stops to be a plan, in other words than those of its fault.
-- Source: this project's own format.
use Rattle.std.specs.Prelude.{◌≡◌, ◌⊎◌, ◌≤◌, ℕ, List, ◌++◌, Ok, Err, length, take}
use Rattle.reown_plan.specs.PlanData.{PlanData}
use Rattle.reown_plan.specs.Reading.{ReadsAs}
use Rattle.reown_plan.specs.Spelling.{end}

abbrev pub IsPlan : List ℕ → Type 0
IsPlan text = (plan : PlanData) × ReadsAs text (Ok plan)

-- the first bytes of the text, so many, are a plan, or a plan that lacks its end alone
abbrev pub IsGoodTo : List ℕ → ℕ → Type 0
IsGoodTo text count =
    (count ≤ length text) × (IsPlan (take count text) ⊎ IsPlan (take count text ++ end))

-- The byte of a fault is that after the greatest number of good bytes; the first, where none are.
abbrev pub BadByteIsTold : Type 0
BadByteIsTold =
    (text : List ℕ) (offset : ℕ) → ReadsAs text (Err offset)
    → ((offset ≡ 0) ⊎ IsGoodTo text offset)
    × ((count : ℕ) → IsGoodTo text count → count ≤ offset)
