use Rattle.std.proofs.Common.{◌≡◌, ◌++◌, take}
use Rattle.hosts_join.specs.Index.{accounts_in}
use Rattle.hosts_join.specs.Rules.{absent_pins, pinned_names}
use Rattle.hosts_join.specs.Views.{pairs_of}
use Rattle.hosts_join.proofs.members.claims.Given as goal

abbrev pub invariant-loop-place : goal.invariant-loop-place
invariant-loop-place l = pairs_of l.claims.items ≡ pinned_names l.pins (accounts_in l.index) ++ absent_pins (accounts_in l.index) (take l.place l.pins)
