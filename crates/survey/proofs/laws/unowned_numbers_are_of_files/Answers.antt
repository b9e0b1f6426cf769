use Rattle.survey.specs.Unowned.{is_unowned_uid, is_unowned_gid}
use Rattle.survey.proofs.OnceLemmas.{among-once}
use Rattle.survey.proofs.laws.unowned_numbers_are_of_files.Goals as goal

pub returns : goal.returns
returns c = record {
  users = λ host files. among-once (is_unowned_uid host) (λ file. file.uid) files;
  groups = λ host files. among-once (is_unowned_gid host) (λ file. file.gid) files;
}
