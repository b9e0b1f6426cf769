-- The nearest mount, where the first of the mounts were looked at.
use Rattle.std.proofs.Common.{ℕ, length, Option, None, Some}
use Rattle.unify_apply.specs.Mounts.{MountText, or_nearer}

-- of the mounts looked at, and of the others
abbrev pub nearer_of : Option MountText → Option MountText → Option MountText
nearer_of None later = later
nearer_of (Some mount) later = or_nearer mount later

abbrev pub depth_of : Option MountText → ℕ
depth_of None = 0
depth_of (Some mount) = length mount.point
