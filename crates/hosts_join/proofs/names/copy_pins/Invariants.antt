use Rattle.std.proofs.Common.{◌≡◌, take}
use Rattle.hosts_join.specs.Views.{pairs_of}
use Rattle.hosts_join.proofs.names.copy_pins.Given as goal

abbrev pub invariant-loop-place : goal.invariant-loop-place
invariant-loop-place l = pairs_of l.copy.items ≡ take l.place l.pins
