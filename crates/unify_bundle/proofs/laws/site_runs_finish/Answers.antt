use Rattle.unify_bundle.proofs.SiteRunLaws as runs
use Rattle.unify_bundle.proofs.laws.site_runs_finish.Goals as goal

pub returns : goal.returns
returns c = record {
  begin = runs.begin_as_inventories;
  alone = runs.site_runs_finish;
  last = runs.last_advances_finish;
  stopped = runs.last_stops_undo;
}
