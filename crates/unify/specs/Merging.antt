-- What a merge goes by, and what it gives before its plans are written.
-- Source: this project's own rule.
use Rattle.std.specs.Prelude.{◌≡◌, ◌≤◌, List, [], map, length}
use Rattle.std.specs.List.{All}
use Rattle.hosts_join.specs.Hosts.{IsLawfulHost}
use Rattle.hosts_join.specs.declared.host.Host.{Host}
use Rattle.hosts_join.specs.Site.{Joined}
use Rattle.mergedfiles.specs.Together.{AreJoined}
use Rattle.ownership.specs.Counts.{Counted, IsMadeFor, StandsFor}
use Rattle.ownership.specs.declared.mapping.Mappings.{Mappings}
use Rattle.certcheck.specs.declared.certificate.Certificate.{Certificate}
use Rattle.unify.specs.declared.merging.Merged.{Merged}
use Rattle.unify.specs.declared.outcome.Outcome.{Outcome}
use Rattle.unify.specs.Outcomes.{AreAnswered, IsPrinted, plan_texts}
use Rattle.unify.specs.Reading.{WholeSite, files_of_site}

-- what is kept of a site whose files were counted: the hosts, the accounts, and the counts
pub record HoldsCounted (site : WholeSite) (hosts : List Host) (joined : Joined) (counted : Counted)
    : Type 0 where
  pub hosts_are : hosts ≡ map (λ h. h.0) site.hosts
  pub joined_is : joined ≡ site.joined
  pub together : AreJoined hosts joined
  pub made : IsMadeFor site.joined counted
  pub counted_are : StandsFor site.joined counted (files_of_site site)
  pub few : length hosts ≤ 64
  pub lawful : All IsLawfulHost hosts

-- the texts tell the mappings and the certificate as soon as the plans are there, of which there is
-- none as yet
pub record IsPrintedButPlans (site : WholeSite) (m : Mappings) (c : Certificate) (outcome : Outcome)
    : Type 0 where
  pub no_plans : outcome.plans ≡ []
  pub printed : IsPrinted site m c (record outcome { plans = plan_texts site m })

-- what a merge may give for a site before its plans are written
pub record IsMerged (site : WholeSite) (merged : Merged) : Type 0 where
  pub certificate : Certificate
  pub answered : AreAnswered site merged.mappings certificate
  pub printed : IsPrintedButPlans site merged.mappings certificate merged.outcome
