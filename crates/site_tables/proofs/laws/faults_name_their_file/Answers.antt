use Rattle.site_tables.proofs.FaultLaws.{gids_are, lines_are, uids_are}
use Rattle.site_tables.proofs.PrimaryFaults.{users_without_groups_are_told}
use Rattle.site_tables.proofs.laws.faults_name_their_file.Goals as goal

pub returns : goal.returns
returns c = record { line = lines_are; user = users_without_groups_are_told; uid = uids_are; gid = gids_are }
