-- What a rehearsal of a whole site answers.
-- Source: this project's own rule.
use Rattle.std.specs.Prelude.{◌≡◌, List, map, length, None}
use Rattle.reown_runner.specs.declared.campaign.Event.{Event}
use Rattle.reown_runner.specs.declared.memory.Keep.{Keep}
use Rattle.reown_runner.specs.Campaign.{EachGoes, is_done}
use Rattle.reown_runner.specs.Memory.{known_mem}
use Rattle.reown_runner.specs.RunnerData.{RunnerData}
use Rattle.unify.specs.Outcomes.{IsOutcome}
use Rattle.unify.specs.Reading.{WholeSite}
use Rattle.unify_laws.specs.Headline.{Headline}
use Rattle.unify_laws.specs.SiteRuns.{DoneKeepsNames, EachIsOldOrNamed, new_world}
use Rattle.unify_bundle.specs.declared.rehearsing_site.SiteRun.{SiteRun}

-- A site that was merged, and whose plans went on as far as these events lead, each host by its
-- own, none of them refused.
pub record IsSiteRun (keep : Keep) (events : List Event) (site : WholeSite) (run : SiteRun) : Type 0
  where
    pub merged : IsOutcome site run.outcome
    pub correct : Headline site run.outcome
    pub runners : List RunnerData
    pub a_runner_each : length runners ≡ length site.hosts
    pub a_tree_each : length run.trees.items ≡ length site.hosts
    pub went : EachGoes known_mem (new_world keep site merged.mappings) events (λ host. None)
        (record { runners = runners; trees = run.trees.items })
    pub done : run.done.items ≡ map (λ runner. is_done runner.place) runners
    pub at_this_moment : EachIsOldOrNamed site correct.map correct.installed.passwd.rows
        correct.installed.group.rows run.trees.items
    pub names_kept : DoneKeepsNames site correct.map correct.installed.passwd.rows
        correct.installed.group.rows run.done.items run.trees.items
