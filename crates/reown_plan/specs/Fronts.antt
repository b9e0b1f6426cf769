-- Words of private contracts: how far a text is read as a plan.
-- Source: this project's own format.
use Rattle.std.specs.Prelude.{◌≡◌, ◌≢◌, ℕ, List, ◌++◌, All}
use Rattle.reown_plan.specs.declared.plan.PlanFault.{PlanFault}
use Rattle.reown_plan.specs.declared.plan.PlanFault.TheVariants.{BadPlan}
use Rattle.reown_plan.specs.PlanData.{PlanRecord}
use Rattle.reown_plan.specs.Spelling.{head, line, lines, IsHostName, IsLawfulRecord, IsFaultAt}

-- a lawful header and lawful records stand before the rest
pub record IsFront (text host : List ℕ) (records : List PlanRecord) (rest : List ℕ) : Type 0 where
  pub name : IsHostName host
  pub lawful : All IsLawfulRecord records
  pub read : text ≡ head host ++ lines records ++ rest

-- no lawful record begins here
abbrev pub BeginsNoRecord : List ℕ → Type 0
BeginsNoRecord rest = (c : PlanRecord) (after : List ℕ) → IsLawfulRecord c → rest ≢ line c ++ after

-- the fault tells where the text is no plan, unless memory was wanting
abbrev pub IsFaultOf : List ℕ → PlanFault → Type 0
IsFaultOf text fault = (offset : ℕ) → fault ≡ BadPlan offset → IsFaultAt text offset
