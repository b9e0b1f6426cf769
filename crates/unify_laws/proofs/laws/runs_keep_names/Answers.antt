use Rattle.unify_laws.proofs.SiteRuns.{done_keeps_printed_names, runs_keep_names}
use Rattle.unify_laws.proofs.laws.runs_keep_names.Goals as goal

pub returns : goal.returns
returns c = record { runs = runs_keep_names; trees = done_keeps_printed_names }
