use Rattle.std.proofs.Common.{◌≡◌, length, take}
use Rattle.std.specs.List.{All}
use Rattle.mergedfiles.specs.Alike.{IsCovered}
use Rattle.mergedfiles.specs.Differences.{group_name}
use Rattle.mergedfiles.proofs.SameRows.{Keeps, row_on}
use Rattle.mergedfiles.proofs.alike.note_host.Given as goal

abbrev pub invariant-loop-at : goal.invariant-loop-at
invariant-loop-at l = record {
  len : length l.seen.items ≡ length l.initial.seen.items;
  covered : All (λ row. IsCovered l.names.names l.seen.items l.index (row_on l.host row)) (take l.at l.row-items);
  primary : l.primary.name.now ≡ group_name l.host l.primary.gid;
  kept : Keeps l.initial.seen.items l.seen.items;
}
