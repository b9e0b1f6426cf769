-- What two passes over inventories in pieces guarantee.
-- Source: this project's own rule.
use Rattle.std.specs.Prelude.{◌≡◌, ℕ, List, length, Some, Ok, slice_get}
use Rattle.mtree_inv.specs.declared.entry.Entry.{Entry}
use Rattle.hosts_join.specs.Site.{Joined}
use Rattle.hosts_join.specs.declared.host.Host.{Host}
use Rattle.ownership.specs.Mappings.{IsMapping}
use Rattle.reown_plan.specs.BadByte.{IsPlan}
use Rattle.reown_plan.specs.Spelling.{IsHostName}
use Rattle.unify.specs.declared.merging.Merged.{Merged}
use Rattle.unify.specs.Whole.{IsWhole}
use Rattle.unify.specs.Merging.{IsMerged}
use Rattle.unify.specs.Outcomes.{IsOutcome}
use Rattle.unify.specs.Reading.{WholeSite}
use Rattle.unify.specs.SecondPass.{HaveSameCounts, IsUnfinished, second_files, whole_plan}
use Rattle.unify_laws.specs.Headline.{Headline}

-- the plans of a site's hosts, one of each in the order of the hosts: each is whole, and for the
-- files of its host
pub record AreWholePlans (site : WholeSite) (merged : Merged) (plans : List (List ℕ)) : Type 0 where
  pub one_each : length plans ≡ length site.hosts
  pub each_plan : (index : ℕ) (host : Host) (files : List Entry)
      → slice_get site.hosts index ≡ Some (host, files)
      → slice_get plans index ≡ Some (whole_plan host site.joined merged index files)

-- what was merged after a first pass, with the plans that a second pass appends, is as correct as
-- what one merge answers
abbrev pub TwoPassesAreCorrect : Type 0
TwoPassesAreCorrect =
    (site : WholeSite) (merged : Merged) (plans : List (List ℕ)) → IsWhole site
    → IsMerged site merged → AreWholePlans site merged plans
    → Headline site (record merged.outcome { plans = plans })

-- The inventory of each host was read again: its second text is accepted, and each user and each
-- group of the host owns as many files as before, whichever they are.
pub record AreReadAgain (first : WholeSite) (hosts : List (Host × List Entry)) : Type 0 where
  pub one_each : length hosts ≡ length first.hosts
  pub each_host : (index : ℕ) (host : Host) (were : List Entry)
      → slice_get first.hosts index ≡ Some (host, were)
      → (text : List ℕ) × (files : List Entry) × (second_files host text ≡ Ok files)
      × HaveSameCounts host were files × (slice_get hosts index ≡ Some (host, files))

-- the site as it was read last
abbrev pub read_last : WholeSite → List (Host × List Entry) → WholeSite
read_last first hosts = record { hosts = hosts; joined = first.joined }

-- What was merged after a first pass, with the plans that a second pass appends, is what a merge
-- may answer for the files that came the second time, whether or not they are those of the first.
abbrev pub SecondReadingIsRight : Type 0
SecondReadingIsRight =
    (first : WholeSite) (merged : Merged) (hosts : List (Host × List Entry)) (plans : List (List ℕ))
    → IsWhole first → IsMerged first merged → AreReadAgain first hosts
    → AreWholePlans (read_last first hosts) merged plans
    → IsOutcome (read_last first hosts) (record merged.outcome { plans = plans })

-- So it is correct for these.
abbrev pub SecondReadingIsCorrect : Type 0
SecondReadingIsCorrect =
    (first : WholeSite) (merged : Merged) (hosts : List (Host × List Entry)) (plans : List (List ℕ))
    → IsWhole first → IsMerged first merged → AreReadAgain first hosts
    → AreWholePlans (read_last first hosts) merged plans
    → Headline (read_last first hosts) (record merged.outcome { plans = plans })

-- What a plan has when the second reading of its host's inventory is refused is no plan.
abbrev pub UnfinishedPlansAreNone : Type 0
UnfinishedPlansAreNone =
    (host : Host) (joined : Joined) (merged : Merged) (index : ℕ) (text planned : List ℕ)
    → IsHostName host.name → IsMapping merged.mappings.users → IsMapping merged.mappings.groups
    → IsUnfinished host joined merged index text planned → IsPlan planned → ⊥
