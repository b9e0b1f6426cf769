-- Where the mark of a plan is, and what is told of its files (this project's own).
use Rattle.std.specs.Prelude.{◌≡◌, ◌⊎◌, ℕ, Bool, ◌&&◌, ◌||◌, List, [], ◌∷◌, ◌++◌}
use Rattle.std.specs.Prelude.{Option, None, Some, codes, slice_get, drop, length, false, not}
use Rattle.std.specs.List.{list_any}
use Rattle.std.specs.Str.{bytes_eq}
use Rattle.idtext.specs.Pieces.{begins_with}
use Rattle.std.specs.Option.{option_map_or}
use Rattle.reown_files.specs.declared.answers.Trouble.{Trouble}
use Rattle.reown_files.specs.declared.answers.Trouble.TheVariants as trouble
use Rattle.reown_files.specs.Actions.{Action, FileRead}
use Rattle.reown_files.specs.MarkText.{mark_read}
use Rattle.reown_plan.specs.Mark.{mark_of}
use Rattle.reown_plan.specs.PlanData.{PlanData}
use Rattle.reown_plan.specs.declared.mark.PlanMark.{PlanMark}
use Rattle.reown_plan.specs.declared.plan.Record.{Record}
use Rattle.reown_reverse.specs.Reverse.{reversed}

-- the path of the mark: the one that is named, or that of the plan with `.done` after it
abbrev pub mark_at : Option (List ℕ) → List ℕ → List ℕ
mark_at None plan = plan ++ codes ".done"
mark_at (Some path) plan = path

-- what the paths have after the mark's where a run writes and removes files beside it
abbrev pub behind_mark : List (List ℕ)
behind_mark = codes ".new" ∷ codes ".modes" ∷ codes ".modes.new" ∷ []

-- a plan's path is that of the mark, or one of these
abbrev pub is_of_mark : List ℕ → List ℕ → Bool
is_of_mark mark plan =
    bytes_eq plan mark
    || (begins_with mark plan && list_any (bytes_eq (drop (length mark) plan)) behind_mark)

-- a text is the mark of another plan than the one with this mark
abbrev pub is_of_other : PlanMark → List ℕ → Bool
is_of_other plan text = option_map_or not (mark_read plan text) false

-- a text is the mark of a plan that is neither this one nor the one that takes it back
abbrev pub is_of_third : PlanData → List ℕ → Bool
is_of_third plan text =
    is_of_other (mark_of plan) text && is_of_other (mark_of (reversed plan)) text

-- the same of the text of a file that may not be there
abbrev pub is_third_in : PlanData → Option (List ℕ) → Bool
is_third_in plan None = false
is_third_in plan (Some text) = is_of_third plan text

-- the file of the mark was read, and its text tells whether it is such a mark; or it could not be
-- read, and counts as none
abbrev pub IsThirdSeen : PlanData → Bool → List ℕ → List Action → List Action → Type 0
IsThirdSeen plan is_third mark old new =
    ((is_third ≡ false) × (new ≡ old))
    ⊎ ((text : Option (List ℕ)) × (is_third ≡ is_third_in plan text)
    × (new ≡ FileRead mark text ∷ old))

-- The exit status where there is trouble before anything was changed: 1 where what was found may
-- not be changed, and 3 where a call failed, or found another file than before.
abbrev pub status_of : Trouble → ℕ
status_of trouble.BadPath = 1
status_of trouble.NotText = 1
status_of trouble.OtherMount = 1
status_of trouble.LinkedElsewhere = 1
status_of trouble.LinkedOtherwise = 1
status_of trouble.NotMark = 1
status_of trouble.NotModes = 1
status_of trouble.OtherPlan = 1
status_of _ = 3

-- ---- paths of records

-- Words of the code and not of the subject: only private contracts and invariants cite them.

-- the path of the record at a place; none has one after the last
abbrev pub path_of_record : List Record → ℕ → List ℕ
path_of_record records i = option_map_or (λ (r : Record). r.path.now) (slice_get records i) []
