-- A run that is tried, where nothing is changed (this project's own).
use Rattle.std.specs.Prelude.{◌≡◌, Bool, true, false, List, ◌++◌, filter_map, Option, Some, None}
use Rattle.std.specs.Prelude.{if◌then◌else◌}
use Rattle.reown_files.specs.Calls.{Called, Looked, Met, CheckedLinks, Saw, NotSeen, MarkNotSeen}
use Rattle.reown_files.specs.Calls.{MetMark, SawMark, LostMode, ReadModes}

-- A call of a disk that only looks. A mark that is met is synced, and one that is seen is not; so
-- is a file that is met at its new owner, but where one sync of the root keeps all.
abbrev pub only_looks : Called → Bool
only_looks (Looked path seen) = true
only_looks (Met path after found) = true
only_looks (CheckedLinks path done) = true
only_looks (Saw path found) = true
only_looks (NotSeen path trouble) = true
only_looks (SawMark plan set) = true
only_looks (MarkNotSeen plan trouble) = true
only_looks (ReadModes plan set begun) = true
only_looks (LostMode plan path owner mode) = true
only_looks _ = false

-- What is asked of the disk below for a call, and what it told: the same where the call only looks,
-- a look at the mark where the mark is met, and nothing for the others.
abbrev pub asked_below : Called → Option Called
asked_below (MetMark plan set) = Some (SawMark plan set)
asked_below call = if only_looks call then Some call else None

-- The disk below was asked that for these calls, with what it told, and nothing else since. What
-- was asked of it before stands behind.
pub record IsAsked (calls below : List Called) : Type 0 where
  pub older : List Called
  pub since : below ≡ filter_map asked_below calls ++ older
