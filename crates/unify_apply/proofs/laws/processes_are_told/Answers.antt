use Rattle.unify_apply.proofs.AskedBack.{ended-told, groups-move, maps-told, processes-found, users-move}
use Rattle.unify_apply.proofs.laws.processes_are_told.Goals as goal

pub returns : goal.returns
returns c = record { users = users-move; groups = groups-move; found = processes-found; maps = maps-told; ended = ended-told }
