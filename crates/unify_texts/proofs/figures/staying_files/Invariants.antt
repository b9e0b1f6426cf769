use Rattle.std.proofs.Common.{◌≡◌, ◌≤◌, ◌*◌}
use Rattle.unify_texts.specs.Staying.{told_files}
use Rattle.unify_texts.proofs.figures.staying_files.Given as goal

abbrev pub invariant-loop-index : goal.invariant-loop-index
invariant-loop-index l = record {
  sum : l.staying ≡ told_files l.counts l.mapping l.index;
  few : l.staying ≤ 2147483648 * l.index;
}
