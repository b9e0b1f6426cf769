-- What the report of a merge tells, read word by word.
-- Source: this project's own formats.
use Rattle.std.specs.Prelude.{◌≡◌}
use Rattle.ownership.specs.declared.mapping.Mappings.{Mappings}
use Rattle.unify_texts.specs.ReportBack.{TellsFigures}
use Rattle.unify_texts.specs.WholeReport.{AreTellable, TellsAll}
use Rattle.unify.specs.Outcomes.{IsOutcome, cost_in, hosts_in}
use Rattle.unify.specs.Reading.{WholeSite, files_of_site}
use Rattle.unify.specs.Whole.{IsWhole}
use Rattle.unify.specs.declared.outcome.Outcome.{Outcome}

-- The report is read as the figures of mappings that have the cost which is told, and as all that
-- differs between the hosts and all that is reserved.
pub record IsReported (site : WholeSite) (outcome : Outcome) (m : Mappings) : Type 0 where
  pub cost : outcome.cost ≡ cost_in site m
  pub figures : TellsFigures outcome.report (hosts_in site) site.joined (files_of_site site) m
  pub all : TellsAll outcome.report (hosts_in site) site.joined

-- so it is of the mappings of an outcome, where lines can tell the names and what is reserved
abbrev pub OutcomesAreReported : Type 0
OutcomesAreReported = (site : WholeSite) (outcome : Outcome) → IsWhole site
    → AreTellable (hosts_in site) site.joined → (is : IsOutcome site outcome)
    → IsReported site outcome is.mappings
