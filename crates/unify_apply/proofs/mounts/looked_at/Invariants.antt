use Rattle.std.proofs.Common.{◌≡◌, ◌++◌, drop, map}
use Rattle.unify_apply.specs.Mounts.{path_items}
use Rattle.unify_apply.specs.declared.mountinfo.Point.{Point}
use Rattle.unify_apply.proofs.mounts.looked_at.Given as goal

abbrev pub invariant-loop-path : goal.invariant-loop-path
invariant-loop-path l =
    map (λ (point : Point). point.path.items) l.points.items
    ++ path_items (drop l.path-index l.paths)
    ≡ path_items l.paths
