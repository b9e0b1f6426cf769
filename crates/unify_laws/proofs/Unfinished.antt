-- A plan that was not finished is no plan.
use Rattle.std.proofs.Common.{◌≡◌, ℕ, zero, suc, List, [], ◌++◌, replicate, refl, sym, ap, subst, ◌∙◌, inl, inr}
use Rattle.mtree_inv.specs.Files.{AreFiles}
use Rattle.mtree_inv.specs.declared.entry.Entry.{Entry}
use Rattle.hosts_join.specs.Site.{Joined}
use Rattle.hosts_join.specs.declared.host.Host.{Host}
use Rattle.ownership.specs.Mappings.{IsMapping}
use Rattle.ownership.specs.declared.mapping.Mappings.{Mappings}
use Rattle.reown_plan.specs.BadByte.{IsPlan}
use Rattle.reown_plan.specs.PlanData.{PlanData}
use Rattle.reown_plan.specs.Spelling.{end, head, lines, spelling, IsHostName, IsLawful}
use Rattle.reown_plan.specs.Target.{name_at, plan_of}
use Rattle.reown_plan.proofs.Lawful.{plan-lawful}
use Rattle.reown_plan.proofs.Unique.{spelling_unique}
use Rattle.unify_laws.specs.TwoPasses.{UnfinishedPlansAreNone}

nothing_is_none : IsPlan [] → ⊥
nothing_is_none (plan, reads) = let none : [] ≡ spelling plan = reads.1 in cc

-- a plan without its `end` line is none: with it, it would be the beginning of one and a whole one
without_end : (whole : PlanData) (planned : List ℕ) → IsLawful whole → planned ≡ head whole.host ++ lines whole.records → IsPlan planned → ⊥
without_end whole planned lawful is (plan, reads) =
    let more : spelling whole ≡ spelling plan ++ end = ap (λ t. t ++ end) (sym is ∙ reads.1) in
    let none : end ≡ [] = (spelling_unique plan whole end reads.0 lawful more).1 in
    cc

-- among hosts of one name each has it
named_there : (host : Host) (index : ℕ) → name_at (replicate (suc index) host) index ≡ host.name
named_there host zero = refl
named_there host (suc k) = named_there host k

lawful_for : (host : Host) (joined : Joined) (m : Mappings) (index : ℕ) (files : List Entry) → IsHostName host.name → IsMapping m.users → IsMapping m.groups → AreFiles files → IsLawful (record { host = host.name; records = plan_of joined m index files })
lawful_for host joined m index files named users groups are =
    let lawful = plan-lawful (replicate (suc index) host) joined m index files (subst IsHostName (sym (named_there host index)) named) users groups are in
    record { host = named; records = lawful.records; distinct = lawful.distinct }

pub unfinished_plans_are_none : UnfinishedPlansAreNone
unfinished_plans_are_none host joined merged index text planned named users groups (inl none) whole = nothing_is_none (subst IsPlan none whole)
unfinished_plans_are_none host joined merged index text planned named users groups (inr (files, rest, before, are, is)) whole =
    let plan : PlanData = record { host = host.name; records = plan_of joined merged.mappings index files } in
    without_end plan planned (lawful_for host joined merged.mappings index files named users groups are) is whole
