use Rattle.std.proofs.Common.{◌≡◌, ◌++◌, drop}
use Rattle.std.specs.Option.{option_copied}
use Rattle.unify_apply.specs.Mounts.{mount_texts, same_below, path_items}
use Rattle.unify_apply.proofs.mountinfo.same_below.Given as goal

abbrev pub invariant-loop-mount : goal.invariant-loop-mount
invariant-loop-mount l =
    path_items l.paths.items
    ++ same_below (mount_texts (drop l.mount-index l.mounts)) l.directory (option_copied l.device)
    ≡ same_below (mount_texts l.mounts) l.directory (option_copied l.device)
