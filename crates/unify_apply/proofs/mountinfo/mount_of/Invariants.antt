use Rattle.std.proofs.Common.{◌≡◌, drop}
use Rattle.std.specs.Option.{option_map, option_copied}
use Rattle.unify_apply.specs.Mounts.{mount_text, mount_texts, mount_of}
use Rattle.unify_apply.proofs.Nearest.{nearer_of, depth_of}
use Rattle.unify_apply.proofs.mountinfo.mount_of.Given as goal

abbrev pub invariant-loop-mount : goal.invariant-loop-mount
invariant-loop-mount l = record {
  found : nearer_of (option_map mount_text (option_copied l.found))
      (mount_of (mount_texts (drop l.mount-index l.mounts)) l.directory)
      ≡ mount_of (mount_texts l.mounts) l.directory;
  depth : l.nearest ≡ depth_of (option_map mount_text (option_copied l.found));
}
