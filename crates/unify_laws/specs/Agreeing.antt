-- What one command prints, and what another answers to it.
-- Source: this project's own rule.
use Rattle.std.specs.Prelude.{◌≡◌, ◌≤◌, ℕ, List, length, Some, Ok, slice_get}
use Rattle.mtree_inv.specs.declared.entry.Entry.{Entry}
use Rattle.hosts_join.specs.declared.host.Host.{Host}
use Rattle.hosts_join.specs.declared.texts.HostText.{HostText}
use Rattle.ownership.specs.declared.mapping.Mappings.{Mappings}
use Rattle.reown_plan.specs.PlanData.{PlanData, PlanRecord}
use Rattle.reown_plan.specs.Reading.{ReadsAs}
use Rattle.unify_texts.specs.declared.map_text.MapText.{MapText}
use Rattle.unify.specs.declared.outcome.Outcome.{Outcome}
use Rattle.site_tables.specs.declared.rules.SiteRules.{SiteRules}
use Rattle.unify.specs.Checking.{IsChecked, check_of}
use Rattle.unify.specs.Cost.{cost_of}
use Rattle.unify.specs.Count.{count_of}
use Rattle.unify.specs.Outcomes.{IsOutcome}
use Rattle.unify.specs.Reading.{WholeSite, site_read}
use Rattle.unify.specs.Rewritten.{rewritten_by}
use Rattle.unify.specs.Whole.{IsWhole}
use Rattle.rehearsal.specs.Rehearsing.{IsRehearsed}
use Rattle.unify_laws.specs.Headline.{HaveOneNumberEach, fields}

-- a check of the same texts accepts the certificate that a merge prints, with the cost that the
-- merge tells
abbrev pub PrintedCertificatesAreAccepted : Type 0
PrintedCertificatesAreAccepted =
    (texts : List HostText) (rules : SiteRules) (site : WholeSite) (outcome : Outcome)
    → site_read texts rules ≡ Ok site → IsOutcome site outcome
    → check_of texts rules outcome.certificate ≡ Ok (fields outcome.cost)

-- a count of the map that a merge prints answers the cost that the merge tells
abbrev pub PrintedMapsAreCounted : Type 0
PrintedMapsAreCounted =
    (texts : List HostText) (rules : SiteRules) (site : WholeSite) (outcome : Outcome)
    → site_read texts rules ≡ Ok site → IsOutcome site outcome
    → count_of texts rules.keep outcome.map ≡ Ok outcome.cost

-- no map of the hosts' names to distinct numbers, in their pools or at their pins, rewrites fewer
-- fields than a check accepts
abbrev pub NoMapRewritesFewer : Type 0
NoMapRewritesFewer =
    (texts : List HostText) (rules : SiteRules) (text : List ℕ) (cost : ℕ)
    → (is : IsChecked texts rules text cost) → (other : MapText) (m : Mappings)
    → HaveOneNumberEach is.site.joined.users m.users other.users
    → HaveOneNumberEach is.site.joined.groups m.groups other.groups
    → cost ≤ fields (cost_of other is.site.hosts)

-- a rehearsal of the plan that a merge prints for a host, over the host's inventory, answers how
-- many records it has
abbrev pub PrintedPlansAreRehearsed : Type 0
PrintedPlansAreRehearsed =
    (texts : List HostText) (rules : SiteRules) (site : WholeSite) (outcome : Outcome)
    → site_read texts rules ≡ Ok site → IsOutcome site outcome
    → (h : ℕ) (text : HostText) (plan : List ℕ) → slice_get texts h ≡ Some text
    → slice_get outcome.plans h ≡ Some plan
    → (told : PlanData) × ReadsAs plan (Ok told)
    × IsRehearsed plan text.mtree (Ok (length told.records))

-- The plans that are printed are read as some records for each host; and what these rewrite over
-- all hosts is the cost that is told.
pub record PlansRewriteWhatIsTold (site : WholeSite) (outcome : Outcome) : Type 0 where
  pub records : ℕ → List PlanRecord
  pub read : (h : ℕ) (host : Host) (files : List Entry)
      → slice_get site.hosts h ≡ Some (host, files)
      → (plan : List ℕ) × (slice_get outcome.plans h ≡ Some plan)
      × ReadsAs plan (Ok (record { host = host.name; records = records h }))
  pub cost : outcome.cost ≡ rewritten_by records (length site.hosts)

abbrev pub PrintedPlansRewriteTheCost : Type 0
PrintedPlansRewriteTheCost = (site : WholeSite) (outcome : Outcome) → IsWhole site
    → IsOutcome site outcome → PlansRewriteWhatIsTold site outcome
