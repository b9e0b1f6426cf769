use Rattle.reown_files.proofs.Judged.{goes_by_stage, are_judged, are_named, changed_is_begun}
use Rattle.reown_files.proofs.StageLaws.{stages_told, first_at_old}
use Rattle.reown_files.proofs.stage.owners_go_by_stage.Goals as goal

pub returns : goal.returns
returns c = record { owners = goes_by_stage; judged = are_judged; named = are_named; begun = changed_is_begun; told = stages_told; first = first_at_old }
