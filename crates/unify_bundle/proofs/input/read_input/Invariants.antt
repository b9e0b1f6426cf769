use Rattle.std.proofs.Common.{◌≡◌, ◌≤◌, length}
use Rattle.std.specs.Io.KnownBytes.{Consumes}
use Rattle.unify_bundle.specs.Output.{most_bundle_bytes}
use Rattle.unify_bundle.proofs.input.read_input.Given as goal

-- each turn has taken a byte or more
abbrev pub invariant-loop-turn : goal.invariant-loop-turn
invariant-loop-turn g l = record {
  few : length l.input.items ≤ most_bundle_bytes;
  turns : l._turn ≤ length l.input.items;
  fine : g.R.Source.has_failed l.reader ≡ g.R.Source.has_failed l.fn.reader;
  taken : Consumes (g.R.Source.left l.fn.reader) (g.R.Source.left l.reader) l.input.items;
}
