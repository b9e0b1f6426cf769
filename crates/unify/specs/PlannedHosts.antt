-- The host whose plan is appended, by what a call is lent.
-- Values that are lent, without the borrow: words of the code and not of the subject.
use Rattle.std.specs.Prelude.{ℕ, List, Option, Some, None, Result}
use Rattle.mtree_inv.specs.declared.entry.Entry.{Entry}
use Rattle.hosts_join.specs.Laws.{KnowsHost}
use Rattle.ownership.specs.Mappings.{AreForSite}
use Rattle.reown_plan.specs.OwnerChange.{IsChange, OwnerChange}
use Rattle.reown_plan.specs.Owners.{owner_of}
use Rattle.reown_plan.specs.PlanData.{PlanRecord}
use Rattle.reown_plan.specs.Target.{plan_of}
use Rattle.unify.specs.declared.known_owners.KnownOwner.{KnownOwner}
use Rattle.unify.specs.declared.plan_turn.PlannedHost.{PlannedHost}
use Rattle.unify.specs.declared.plan_turn.PlanTurn.{PlanTurn}
use Rattle.unify.specs.declared.plan_turn.Stop.{Stop}
use Rattle.unify.specs.KnownOwners.{AreKnown, IsKnown}
use Rattle.unify.specs.PlanTurns.{Ends, GoesOn, TurnsFor}

-- the site knows the host by the index, and each of its names has a number
pub record IsOfSite (whose : PlannedHost) : Type 0 where
  pub known : KnowsHost whose.site.now whose.index whose.host.now
  pub for_site : AreForSite whose.site.now whose.merged.now.mappings

-- the records of these files of the host
abbrev pub plan_for : PlannedHost → List Entry → List PlanRecord
plan_for whose files = plan_of whose.site.now whose.merged.now.mappings whose.index files

-- what was found of an owner is so on the host, and so it is of all
abbrev pub IsKnownOf : PlannedHost → KnownOwner → Type 0
IsKnownOf whose owner = IsKnown whose.host.now whose.site.now whose.merged.now whose.index owner

-- so this is what the owner of the file gets
abbrev pub GivesOf : PlannedHost → Entry → Option OwnerChange → Type 0
GivesOf whose file None = ⊥
GivesOf whose file (Some change) =
    IsChange whose.site.now whose.merged.now.mappings whose.index (owner_of file) change

abbrev pub AreKnownOf : PlannedHost → List KnownOwner → Type 0
AreKnownOf whose owners = AreKnown whose.host.now whose.site.now whose.merged.now whose.index owners

-- the turn is that of the host, where this text has come and this much of a plan was appended
abbrev pub TurnsOf : PlannedHost → PlanTurn → List ℕ → List ℕ → Type 0
TurnsOf whose turn text planned =
    TurnsFor whose.host.now whose.site.now whose.merged.now whose.index turn text planned

-- what a call answers for the next piece, and for the end
abbrev pub GoesOnOf : PlannedHost → PlanTurn → List ℕ → Result (Unit {0}) Stop → List ℕ → Type 0
GoesOnOf whose turn text result planned =
    GoesOn whose.host.now whose.site.now whose.merged.now whose.index turn text result planned

abbrev pub EndsOf : PlannedHost → List ℕ → Result (Unit {0}) Stop → List ℕ → Type 0
EndsOf whose text result planned =
    Ends whose.host.now whose.site.now whose.merged.now whose.index text result planned
