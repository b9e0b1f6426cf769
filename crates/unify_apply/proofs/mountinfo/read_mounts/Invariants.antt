use Rattle.std.proofs.Common.{◌≡◌, ◌++◌}
use Rattle.std.specs.List.{filter_map}
use Rattle.unify_apply.specs.Mounts.{mount_texts, mount_told, mounts_in}
use Rattle.unify_apply.proofs.mountinfo.read_mounts.Given as goal

abbrev pub invariant-loop-line : goal.invariant-loop-line
invariant-loop-line l =
    mounts_in l.text ≡ mount_texts l.mounts.items ++ filter_map mount_told l.line-iterator
