-- The columns of a plan, in other words than those of its spelling.
-- Source: this project's own format; the text of the example is this project's own.
use Rattle.std.specs.Prelude.{◌≡◌, [], ◌∷◌, ◌++◌, codes, map, take, length, Some}
use Rattle.idtext.specs.Numbers.{id_of}
use Rattle.idtext.specs.Pieces.{pieces}
use Rattle.reown_plan.specs.PlanData.{PlanRecord, PlanData}
use Rattle.reown_plan.specs.Spelling.{line, spelling, IsLawfulRecord}

-- between the spaces of a record's line stand its numbers: the old uid and gid, the new uid and
-- gid, and the length of the path
abbrev pub NumbersStandInOrder : Type 0
NumbersStandInOrder = (c : PlanRecord) → IsLawfulRecord c
    → map id_of (take 5 (pieces 32 (line c)))
    ≡ Some c.before.uid ∷ Some c.before.gid ∷ Some c.after.uid ∷ Some c.after.gid
    ∷ Some (length c.path) ∷ []

-- the plan of a host `ann`: `etc/hosts` goes from 1:2 to 3:4, and `a b`, whose name has a space,
-- from 1000:50 to 600:7
abbrev pub example : PlanData
example = record {
  host = codes "ann";
  records = record {
    before = record { uid = 1; gid = 2 };
    after = record { uid = 3; gid = 4 };
    path = codes "etc/hosts";
  } ∷ record {
    before = record { uid = 1000; gid = 50 };
    after = record { uid = 600; gid = 7 };
    path = codes "a b";
  } ∷ [];
}

abbrev pub ExampleOfPlan : Type 0
ExampleOfPlan =
    spelling example
    ≡ codes "unify plan 1 ann\n" ++ codes "1 2 3 4 9 etc/hosts\n" ++ codes "1000 50 600 7 3 a b\n"
    ++ codes "end\n"
