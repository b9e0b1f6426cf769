use Rattle.std.proofs.Common.{◌≡◌, map}
use Rattle.site_tables.specs.Survey.{sparing_ranges}
use Rattle.site_tables.proofs.unowned.all_sparing.Given as goal

abbrev pub invariant-loop-host : goal.invariant-loop-host
invariant-loop-host l = l.sparing.items ≡ map (sparing_ranges l.keep) l.yielded
