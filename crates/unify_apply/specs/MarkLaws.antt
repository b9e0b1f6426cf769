-- Which marks are a plan's own, another plan's and a third's.
-- Source: this project's own format of a mark.
use Rattle.std.specs.Prelude.{◌≡◌, ◌≢◌, ◌↔◌, Bool, true, false, ℕ, List, ◌++◌, None, codes}
use Rattle.reown_plan.specs.Mark.{mark_of}
use Rattle.reown_plan.specs.PlanData.{PlanData}
use Rattle.reown_plan.specs.declared.mark.PlanMark.{PlanMark}
use Rattle.reown_reverse.specs.Reverse.{reversed}
use Rattle.reown_files.specs.Examples.{plan as example, digest_said}
use Rattle.reown_files.specs.Laws.{IsMarkable}
use Rattle.reown_files.specs.MarkText.{mark_text}
use Rattle.unify_apply.specs.Told.{is_of_other, is_of_third, is_third_in}

-- a text begins as the mark of each plan does
abbrev pub BeginsAsMark : List ℕ → Type 0
BeginsAsMark text = (rest : List ℕ) × (text ≡ codes "unify applied 1 " ++ rest)

-- a text is the mark of another plan than this one exactly where it begins as marks do and is not
-- this one's, byte for byte; and of a third exactly where it is not that of the plan either which
-- takes this one back. By plans: the mark of one is a third's exactly where it is neither of these
-- two. A file that is not there is no mark
pub record MarksAreTold : Type 0 where
  pub other : (plan : PlanMark) (text : List ℕ)
      → (is_of_other plan text ≡ true) ↔ (BeginsAsMark text × (text ≢ mark_text plan))
  pub third : (plan : PlanData) (text : List ℕ)
      → (is_of_third plan text ≡ true)
      ↔ (BeginsAsMark text × (text ≢ mark_text (mark_of plan))
      × (text ≢ mark_text (mark_of (reversed plan))))
  pub of_plan : (plan third : PlanData)
      → IsMarkable plan → IsMarkable (reversed plan) → IsMarkable third
      → (is_of_third plan (mark_text (mark_of third)) ≡ true)
      ↔ ((mark_of third ≢ mark_of plan) × (mark_of third ≢ mark_of (reversed plan)))
  pub none : (plan : PlanData) → is_third_in plan None ≡ false

-- of the plan of a host `ann`, of 47 bytes: its own mark is not another's, one with another length
-- or without its last byte is, and the first line of a file of modes is no mark
pub record ExampleOfOthers : Type 0 where
  pub own : is_of_other example (codes "unify applied 1 ann 47 " ++ digest_said ++ codes "\n")
      ≡ false
  pub longer : is_of_other example (codes "unify applied 1 ann 48 " ++ digest_said ++ codes "\n")
      ≡ true
  pub cut : is_of_other example (codes "unify applied 1 ann 47 " ++ digest_said) ≡ true
  pub modes : is_of_other example (codes "unify modes 1 ann 48 " ++ digest_said ++ codes "\n")
      ≡ false
