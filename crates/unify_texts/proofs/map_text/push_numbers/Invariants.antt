use Rattle.std.proofs.Common.{◌≡◌, ◌++◌, map, take, flat_map}
use Rattle.hosts_join.specs.Order.{name_at}
use Rattle.unify_texts.specs.WrittenMap.{map_line, pair_for}
use Rattle.unify_texts.proofs.map_text.push_numbers.Given as goal

abbrev pub invariant-loop-index : goal.invariant-loop-index
invariant-loop-index l = l.out.items ≡ l.fn.out.items ++ flat_map (map_line l.kind) (map (pair_for l.names l.mapping) (map (name_at l.names.names) (take l.index-index l.index-items)))
