use Rattle.std.proofs.Common.{◌≡◌, drop, map}
use Rattle.unify_apply.specs.Mounts.{second_way, point_seen}
use Rattle.unify_apply.proofs.mountinfo.first_way.Given as goal

abbrev pub invariant-loop-point : goal.invariant-loop-point
invariant-loop-point l =
    second_way l.device (map point_seen (drop l.point-index l.points))
    ≡ second_way l.device (map point_seen l.points)
