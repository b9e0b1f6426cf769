use Rattle.std.proofs.Common.{◌≡◌, drop}
use Rattle.unify_apply.specs.Mounts.{mount_texts, first_below}
use Rattle.unify_apply.proofs.mountinfo.first_below.Given as goal

abbrev pub invariant-loop-mount : goal.invariant-loop-mount
invariant-loop-mount l =
    first_below (mount_texts (drop l.mount-index l.mounts)) l.directory
    ≡ first_below (mount_texts l.mounts) l.directory
