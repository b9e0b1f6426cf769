-- The mark of the plan that is read of the text of a reverse.
use Rattle.std.proofs.Common.{◌≡◌, ℕ, List, [], ap, sym, ◌∙◌}
use Rattle.std.proofs.lemmas.List.{append-nil}
use Rattle.reown_plan.proofs.Unique.{spelling_unique}
use Rattle.reown_plan.specs.Mark.{mark_of}
use Rattle.reown_plan.specs.PlanData.{PlanData}
use Rattle.reown_plan.specs.Spelling.{spelling, IsLawful}
use Rattle.reown_reverse.proofs.Reversing.{reversed-lawful}
use Rattle.reown_reverse.specs.Reverse.{reversed}

read-back : (plan back : PlanData) → IsLawful plan → IsLawful back → spelling back ≡ spelling (reversed plan) → back ≡ reversed plan
read-back plan back lawful own same =
    sym (spelling_unique (reversed plan) back [] (reversed-lawful plan lawful) own (same ∙ sym (append-nil (spelling (reversed plan))))).0

pub mark_back : (plan back : PlanData) (text : List ℕ) → IsLawful plan → IsLawful back → text ≡ spelling (reversed plan) → text ≡ spelling back → mark_of back ≡ mark_of (reversed plan)
mark_back plan back text lawful own written read = ap mark_of (read-back plan back lawful own (sym read ∙ written))
