use Rattle.std.proofs.Common.{◌≡◌, true, take}
use Rattle.std.specs.List.{list_all, list_any}
use Rattle.site_tables.specs.Mapped.{has_group}
use Rattle.site_tables.proofs.mapped.pairs_are_groups.Given as goal

abbrev pub invariant-loop-index : goal.invariant-loop-index
invariant-loop-index l = list_all (λ p. list_any (has_group p.name) l.hosts) (take l.index l.names) ≡ true
