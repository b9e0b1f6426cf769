use Rattle.mergedfiles.proofs.Having.{users-had, groups-had}
use Rattle.mergedfiles.proofs.laws.names_have_rows.Goals as goal

pub returns : goal.returns
returns c = record { users = λ hosts site i j h e. users-had hosts site i j h e; groups = λ hosts site i j h e. groups-had hosts site i j h e }
