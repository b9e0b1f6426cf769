use Rattle.std.proofs.Common.{map}
use Rattle.std.specs.Prelude.{filter}
use Rattle.survey.specs.Unowned.{is_unowned_uid, is_unowned_gid}
use Rattle.survey.proofs.OnceLemmas.{once-distinct}
use Rattle.survey.proofs.laws.no_number_stands_twice.Goals as goal

pub returns : goal.returns
returns c = record {
  users = λ host files. once-distinct (filter (is_unowned_uid host) (map (λ file. file.uid) files));
  groups = λ host files. once-distinct (filter (is_unowned_gid host) (map (λ file. file.gid) files));
}
