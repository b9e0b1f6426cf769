-- Whether a name is kept, in words of the texts: no one passwd and group has the numbers of all
-- hosts then.
-- Source: passwd(5) and group(5) (rows with names); what stays is this project's own rule.
use Rattle.std.specs.Prelude.{◌≡◌, ◌⊎◌, ◌↔◌, true, List, Ok}
use Rattle.hosts_join.specs.declared.texts.HostText.{HostText}
use Rattle.unify.specs.Outcomes.{IsOutcome}
use Rattle.site_tables.specs.Begun.{BegunSite, site_begun}
use Rattle.unify.specs.Reading.{WholeSite}
use Rattle.site_tables.specs.TextLaws.{AreOfTexts, SomeUserStays, SomeGroupStays}
use Rattle.unify.specs.declared.outcome.Outcome.{Outcome}
use Rattle.site_tables.specs.declared.rules.SiteRules.{SiteRules}

-- the outcome says so exactly where it is so of the hosts with these texts
pub record TellsKeptNames (texts : List HostText) (rules : SiteRules) (begun : BegunSite)
    (outcome : Outcome) : Type 0 where
  pub hosts : AreOfTexts texts rules.keep begun.hosts
  pub told : (outcome.keeps_names ≡ true)
      ↔ (SomeUserStays hosts.keep hosts.full ⊎ SomeGroupStays hosts.keep hosts.full)

abbrev pub OutcomesTellKeptNames : Type 0
OutcomesTellKeptNames =
    (texts : List HostText) (rules : SiteRules) (begun : BegunSite) (site : WholeSite)
    (outcome : Outcome) → site_begun texts rules ≡ Ok begun → site.joined ≡ begun.joined
    → IsOutcome site outcome → TellsKeptNames texts rules begun outcome
