use Rattle.unify_merge.proofs.InTurn.{merges-leave-reports, report-is-last, reports-stand-with-all}
use Rattle.unify_merge.proofs.laws.the_report_is_last.Goals as goal

pub returns : goal.returns
returns c = record { order = report-is-last; merged = merges-leave-reports; broken = reports-stand-with-all }
